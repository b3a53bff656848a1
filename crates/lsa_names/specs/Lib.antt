pub mod LsaNames
