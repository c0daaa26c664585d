pub mod Asking
pub mod Audited
pub mod Breaks
pub mod Coverage
