-- Lemmas of framing.
pub mod Lines
pub mod Begun
pub mod OneMore
pub mod FramingLaw
