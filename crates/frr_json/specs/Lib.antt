pub mod Members
pub mod Options
pub mod Header
pub mod Bodies
pub mod Opaque
pub mod Tables
pub mod ParsedDocuments
pub mod Contents
