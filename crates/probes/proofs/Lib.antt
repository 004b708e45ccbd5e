pub mod BoxLemmas
pub mod HearingLemmas
mod CodeLemmas
mod Common
mod DumpLemmas
mod LineLemmas
mod PassLemmas
mod PieceLemmas
mod RoundLemmas
mod ShowLemmas
mod SignalLemmas
mod SliceLemmas
mod TallyLemmas
mod TextLemmas
mod TimeLemmas
mod ValueLemmas
