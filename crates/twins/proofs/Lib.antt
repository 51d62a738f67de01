-- Lemmas of this crate.
mod Records
