pub mod GrantMemory
pub mod GrantLevels
pub mod GrantRules
pub mod GrantMarks
pub mod AcknowledgeRules
