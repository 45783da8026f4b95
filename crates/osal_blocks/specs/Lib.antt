pub mod Blocks
pub mod Bytes
pub mod Chains
pub mod Sound
