pub mod CommonFront
pub mod MostLike
pub mod Pieces
pub mod Slash
pub mod Roles
pub mod FirstWords
