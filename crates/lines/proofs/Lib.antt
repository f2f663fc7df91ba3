-- What the proofs of this crate share.
pub mod Cuts
pub mod Laws
pub mod Spaces
