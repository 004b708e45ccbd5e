-- The names that most proofs of this crate cite, passed on from one place. Declares nothing.
pub use Rattle.bdd_ops.specs.Operations.{selection}
pub use Rattle.bdd_store.specs.Arena.{Arena, IsNodeOf, complemented, den, top_of}
pub use Rattle.bdd_store.specs.Growth.{KeepsNodes}
pub use Rattle.bdd_store.specs.Soundness.{IsLawful}
pub use Rattle.bdd_store.specs.Subfunctions.{IsPart}
unfoldable pub use Rattle.bdd_store.specs.Subfunctions.{nodes}
pub use Rattle.bdd_store.specs.declared.node.Node.{Node}
pub use Rattle.cover_logic.specs.Covers.{matches, value}
pub use Rattle.cover_logic.specs.Extensions.{exact}
pub use Rattle.cover_logic.specs.declared.row.Lit.{Lit}
pub use Rattle.cover_logic.specs.declared.row.Lit.TheVariants.{Any, One, Zero}
pub use Rattle.cover_logic.specs.declared.row.Row.{Row}
pub use Rattle.dual_rail.specs.Expansion.{IsExpansion, MatchAlike, lits_of, matches_from, narrowed, remainder}
pub use Rattle.dual_rail.specs.Lifts.{IsFork, IsLift, IsTable}
pub use Rattle.dual_rail.specs.Local.{function}
pub use Rattle.dual_rail.specs.Rails.{AreRailsOf, values_of}
pub use Rattle.dual_rail.specs.WorkingLists.{BoundsEach, IsExtended}
pub use Rattle.dual_rail.specs.declared.rail.Rails.{Rails}
pub use Rattle.std.proofs.Math.Bool.{not-not}
pub use Rattle.std.proofs.lemmas.Bool.{and_from, and_parts, cases_lt}
pub use Rattle.std.proofs.lemmas.List.{get_or_append_left, length-map, length_push}
pub use Rattle.std.proofs.lemmas.List.Elements.{All-get_or}
pub use Rattle.std.specs.List.{All, list_all, list_any, range_with_len, slice_index_or}
