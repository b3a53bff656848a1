mod Gathered
mod Edits
