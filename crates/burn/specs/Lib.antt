-- The burn file: its blocks, its rules, and what is written and loaded.
pub mod Blocks
pub mod Rules
pub mod Files
pub mod Faults
