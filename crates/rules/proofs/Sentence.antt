-- What is proved of the definitions in specs/Sentence.
pub mod Denominators
pub mod Derive
pub mod Lines
pub mod Meaning
pub mod Scale
pub mod Senses
pub mod Sound
pub mod Spelled
pub mod Verified
pub mod Worked
