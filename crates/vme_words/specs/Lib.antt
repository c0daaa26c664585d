pub mod Commands
pub mod OrderFaults
pub mod Orders
