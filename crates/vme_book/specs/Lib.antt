pub mod Inserted
pub mod BookState
