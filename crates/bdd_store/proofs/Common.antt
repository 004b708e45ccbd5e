-- The names that most proofs of this crate cite, passed on from one place. Declares nothing.
pub use Rattle.bdd_store.specs.Arena.{Arena, IsNodeOf, chosen, complemented, complemented_if, den, flipped, index, is_marked, node_value, top_of, value_at}
unfoldable pub use Rattle.bdd_store.specs.Arena.{top_at}
pub use Rattle.bdd_store.specs.Branches.{branch}
pub use Rattle.bdd_store.specs.Growth.{KeepsNodes}
pub use Rattle.bdd_store.specs.Renumbering.{AreMarks, AreMoved, is_marked_at, moved_node, root_in}
pub use Rattle.bdd_store.specs.Soundness.{IsLawful, IsSound}
pub use Rattle.bdd_store.specs.Subfunctions.{IsPart, is_constant}
unfoldable pub use Rattle.bdd_store.specs.Subfunctions.{nodes, table}
pub use Rattle.bdd_store.specs.declared.node.Entry.{Entry}
pub use Rattle.bdd_store.specs.declared.node.Node.{Node}
pub use Rattle.std.proofs.lemmas.Bool.{and_parts, cases_eq, cases_lt, eqb-true}
pub use Rattle.std.proofs.lemmas.List.{length_push}
pub use Rattle.std.proofs.lemmas.Option.{same_Some, slice_get-get_or, slice_get_within}
pub use Rattle.std.specs.List.{AllByRecursion}
