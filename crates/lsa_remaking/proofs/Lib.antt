mod Bodies
mod Whole
