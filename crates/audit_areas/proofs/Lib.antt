mod EndsOut
mod Grouping
