pub mod Drivers
pub mod LevelCharacters
pub mod SaveFile
pub mod Saving
