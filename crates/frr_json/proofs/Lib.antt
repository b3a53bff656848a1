pub mod Joined
pub mod ParsedDocuments
mod OnlyMember
