pub mod Files
pub mod RefusalKinds
pub mod Nearness
pub mod Pages
pub mod Refusals
