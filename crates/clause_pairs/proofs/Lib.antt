mod Common
mod ApartLemmas
mod CubeLemmas
mod UnitLemmas
