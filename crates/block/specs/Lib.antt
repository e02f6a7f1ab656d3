pub mod Places
pub mod Parts
pub mod Puts
pub mod Accesses
pub mod Model
pub mod Files
pub mod Kept
pub mod Replays
