pub mod Shown
pub mod Fresh
pub mod Inserted
pub mod Annotated
pub mod Same
