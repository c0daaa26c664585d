pub mod Everything
pub mod Facts
