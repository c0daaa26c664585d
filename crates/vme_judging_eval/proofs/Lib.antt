pub mod DumpsAgree
pub mod LenienciesAgree
pub mod ResetsAgree
pub mod SameInstantAgree
