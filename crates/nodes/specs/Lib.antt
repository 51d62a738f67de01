pub mod Records
pub mod Format
pub mod Memory
pub mod Pools
pub mod Finding
pub mod LentPools
pub mod Places
