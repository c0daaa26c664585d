pub mod Answering
pub mod Works
pub mod Collecting
pub mod Orders
pub mod Claims
pub mod Cuts
pub mod Accounts
