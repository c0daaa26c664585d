pub mod ShownRules
