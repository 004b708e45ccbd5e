-- The names that most proofs of this crate cite, passed on from one place. Declares nothing.
pub use Rattle.cyc_base.proofs.ListLemmas.{all_append, all_weaker}
pub use Rattle.cyc_base.specs.declared.sig.Sig.{Sig}
pub use Rattle.feedback_cuts.specs.Keeping.{AreSourcesBelow, HasParted, HaveGained, HaveGainedPins, IsCutSearch, IsKept, Meeting}
pub use Rattle.feedback_cuts.specs.Landmarks.{AreLandmarks, ReadsBack}
pub use Rattle.feedback_cuts.specs.Searching.{Connects, IsFree, IsMarked, IsReady, Meets, Path, level_at, work_left}
pub use Rattle.feedback_cuts.specs.declared.landmarks.Landmark.{Landmark}
pub use Rattle.feedback_cuts.specs.declared.search.Search.{Search}
pub use Rattle.loops.specs.Blocks.{AreBlocksOf}
pub use Rattle.loops.specs.Cuts.{MayPass, is_cut}
pub use Rattle.loops.specs.Links.{IsLoopPin}
pub use Rattle.loops.specs.Rows.{InRow, row_at}
pub use Rattle.loops.specs.Walks.{AnyGate, Leads, SameLoop}
pub use Rattle.loops.specs.declared.structure.Blocks.{Blocks}
pub use Rattle.loops.specs.declared.structure.Cut.{Cut}
pub use Rattle.netlist.specs.Netlists.{gate_at, gate_sig}
pub use Rattle.netlist.specs.Walks.{Feeds, Walk}
pub use Rattle.netlist.specs.declared.parts.Parts.{Parts}
pub use Rattle.std.proofs.lemmas.Bool.{cases_Bool, cases_eq, cases_lt}
pub use Rattle.std.proofs.lemmas.List.{get_or-set_other, get_or-set_same, get_or_append_left, get_or_default, get_or_past, get_or_read, length-replicate, length-set, with_items_is}
pub use Rattle.std.proofs.lemmas.List.Elements.{Contains-append_left, Contains-get_or, Contains-push, Contains-push_cases}
pub use Rattle.std.specs.List.{AllByRecursion}
