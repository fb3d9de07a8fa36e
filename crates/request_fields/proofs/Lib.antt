pub mod Chains
mod Soundness
