mod Scopes
mod Names
mod Firsts
