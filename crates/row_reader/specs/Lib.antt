-- Formats as the readers of lists, rows and derivations read them.
pub mod Parts
