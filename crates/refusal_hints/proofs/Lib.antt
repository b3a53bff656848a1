pub mod PartFound
