-- The names that most proofs of this crate cite, passed on from one place. Declares nothing.
pub use Rattle.care_sets.specs.Care.{CareSet, is_care_vector}
pub use Rattle.cyc_base.specs.Vectors.{vectors}
pub use Rattle.cyc_base.specs.declared.sig.Sig.{Sig}
pub use Rattle.miters.specs.Differences.{pair_of}
pub use Rattle.miters.specs.Joined.{joined}
pub use Rattle.miters.specs.Pairs.{least_apart}
pub use Rattle.netlist.proofs.NameLemmas.{length-signal_names}
pub use Rattle.netlist.specs.Netlists.{columns, count, signal, signal_names}
pub use Rattle.netlist.specs.Pairs.{IsPairOf, some_is_apart}
pub use Rattle.netlist.specs.declared.pair.Pair.{Pair}
pub use Rattle.netlist.specs.declared.parts.Parts.{Parts}
pub use Rattle.refusals.proofs.FirstLemmas.{find-filter}
pub use Rattle.refusals.proofs.ShowingLemmas.{care_vector_decides}
pub use Rattle.refusals.specs.Refusals.{care_vectors}
pub use Rattle.std.proofs.lemmas.List.{get_or-take, length-append, length-take-le, take_more}
pub use Rattle.std.proofs.lemmas.List.Elements.{All-cons, All-nil}
pub use Rattle.std.proofs.lemmas.List.FromFn.{get_or-map-range_with_len, length-map-range_with_len, map-range_with_len_more}
pub use Rattle.std.proofs.lemmas.Option.{slice_get_within}
pub use Rattle.std.proofs.lemmas.Result.{IfOk-weaker}
pub use Rattle.std.specs.List.{range_with_len}
