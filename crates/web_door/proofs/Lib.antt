mod LineLemmas
pub mod SaidMore
