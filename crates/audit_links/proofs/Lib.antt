mod Taking
mod Members
mod Viewed
