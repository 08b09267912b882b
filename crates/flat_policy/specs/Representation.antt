-- What proofs alone need: how a setup lies in its fields.
pub mod SetupInside
pub mod RowParts
