pub mod NodeLemmas
pub mod MapLemmas
pub mod LenLemmas
pub mod SoundLemmas
