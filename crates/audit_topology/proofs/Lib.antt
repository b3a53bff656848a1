mod Reaching
mod Parted
mod Searching
mod InUse
mod Classes
mod Viewed
