pub mod Links
pub mod Fletcher
pub mod Lsas
pub mod Dumps
pub mod Known
pub mod Doubles
