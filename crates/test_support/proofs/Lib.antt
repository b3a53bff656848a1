mod Fields
mod Sums
