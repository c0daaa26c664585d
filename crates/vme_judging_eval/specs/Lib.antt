pub mod WorkedBlocks
