mod MarkedNodes
mod CountedNodes
pub mod GrownFile
pub mod SoFar
