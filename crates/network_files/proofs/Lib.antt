mod Documents
mod Joins
mod Once
mod Pieces
mod Refused
