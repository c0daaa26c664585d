pub mod Markup
pub mod Pictures
