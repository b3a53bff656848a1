mod Tests
mod Groups
mod Within
mod One
mod Between
mod WholeTables
