pub mod Instruction
pub mod Effect
pub mod Drawing
pub mod Meaning
pub mod MadeGood
pub mod Sizes
