-- What the proofs of this crate share.
pub mod Lines
pub mod Named
pub mod Words
