pub mod Watched
pub mod WholeText
pub mod Taking
