pub mod HeldLinesAgree
pub mod WriteDataAgree
