-- What a sweep leaves: the roots' functions, and the entries that are reached.
use Rattle.std.proofs.Common.{◌≡◌, ◌↔◌, ℕ, zero, suc, ◌+◌, ◌<◌, ◌≤◌, Bool, true, List, length, Option, Some, IsSome, refl, ap, subst, ◌∙◌, inl, inr, arith}
use Rattle.std.specs.Option.{option_map}
use Rattle.bdd_store.proofs.Common.{slice_get_within, Node, Entry, Arena, index, IsSound, root_in, is_marked_at, AreMarks, moved_node, AreMoved}
use Rattle.cyc_base.specs.declared.limits.TheConstants.{MAX_NODES}
use Rattle.bdd_store.specs.Arena.{root_at}
use Rattle.bdd_store.specs.Soundness.{AreWithin}
use Rattle.bdd_store.specs.Sweeping.{HasBranch, LeadsTo, IsReached, HasReached, AllReached, KeepsRoots}
use Rattle.bdd_store.specs.Sweeping.LeadsTo.{here, further}
use Rattle.bdd_store.specs.Renumbering.{AreClosed, IsPlaced, place, moved_entry, AreMovedRoots}
use Rattle.bdd_store.proofs.ValueLemmas.{entry_at}
use Rattle.bdd_store.proofs.RenumberLemmas.{kept-few, index-moved, place-within, node_value-moved, top-moved}

-- ---- what is reached

reached-root : (roots : List (Option Node)) (es : List Entry) (key p : ℕ) (n : Node) → root_in roots key ≡ Some n → index n ≡ suc p → IsReached roots es p
reached-root roots es key p n root at = record { key = key; node = n; first = p; root = root; entry = at; way = here }

reached-branch : (roots : List (Option Node)) (es : List Entry) (p q : ℕ) → IsReached roots es p → HasBranch es p q → IsReached roots es q
reached-branch roots es p q was step = record { key = was.key; node = was.node; first = was.first; root = was.root; entry = was.entry; way = further p q was.way step }

reached-way : (roots : List (Option Node)) (es : List Entry) (p q : ℕ) → IsReached roots es p → LeadsTo es p q → IsReached roots es q
reached-way roots es p q was here = was
reached-way roots es p q was (further k r way step) = reached-branch roots es k q (reached-way roots es p k was way) step

pub AreClosed-marks : (roots : List (Option Node)) (es : List Entry) (marks : List Bool) → AreMarks roots es marks → AreClosed es marks
AreClosed-marks roots es marks are = grind (arith, reached-branch)

root-marked : (roots : List (Option Node)) (es : List Entry) (marks : List Bool) → AreMarks roots es marks → (key : ℕ) (n : Node) → root_in roots key ≡ Some n → is_marked_at marks (index n) ≡ true
root-marked roots es marks are key n root = by (index n) refl
  where
    by : (i : ℕ) → index n ≡ i → is_marked_at marks (index n) ≡ true
    by zero at = ap (is_marked_at marks) at ∙ are.constants
    by (suc p) at = ap (is_marked_at marks) at ∙ (are.entries p).1 (reached-root roots es key p n root at)

moved-at : (places : List ℕ) (n : Node) (i j : ℕ) → index n ≡ i → place places i ≡ j → index (moved_node places n) ≡ j
moved-at places n i j at is = index-moved places n ∙ ap (place places) at ∙ is

-- ---- roots by their keys

map_Some : (f : Node → Node) (o : Option Node) (m : Node) → option_map f o ≡ Some m → (n : Node) × (o ≡ Some n) × (m ≡ f n)
map_Some f o m e = grind arith

map-IsSome : (f : Node → Node) (o : Option Node) → IsSome (option_map f o) ↔ IsSome o
map-IsSome f o = grind arith

-- ---- the sweep

module _ (old new : Arena) (marks : List Bool) (places : List ℕ)
    (sound : IsSound old.vars old.entries) (within : AreWithin old.roots (length old.entries))
    (are : AreMarks old.roots old.entries marks) (moved : AreMoved old.entries marks places new.entries (length old.entries))
  where
    closed : AreClosed old.entries marks
    closed = AreClosed-marks old.roots old.entries marks are

    pub swept-few : length new.entries ≤ length old.entries
    swept-few = omega (arith, moved.count, kept-few marks (length old.entries))

    pub swept-count : HasReached old (length new.entries)
    swept-count = record { is_reached = λ p. is_marked_at marks (suc p); each = λ p less. are.entries p; counted = moved.count }

    root-place : (key : ℕ) (n : Node) → root_in old.roots key ≡ Some n → place places (index n) ≤ length new.entries
    root-place key n root = place-within old.entries marks places new.entries (length old.entries) closed old.vars sound moved (index n) (within key n root) (omega arith) (root-marked old.roots old.entries marks are key n root)

    pub root-placed : length old.entries ≤ MAX_NODES → length places ≡ length old.entries + 1 → (key : ℕ) (n : Node) → root_in old.roots key ≡ Some n → IsPlaced places n
    root-placed few long key n root = record { within = omega (arith, within key n root); small = omega (arith, root-place key n root, swept-few) }

    module _ (vars_are : new.vars ≡ old.vars) (limit_is : new.limit ≡ old.limit) (roots_are : AreMovedRoots places old.roots new.roots) where
      pub swept-within : AreWithin new.roots (length new.entries)
      swept-within key m at = grind (arith, map_Some, index-moved, root-place)

      -- the new root under a key is the old one at its place
      root-moved : (key : ℕ) (m n : Node) → root_at old key ≡ Some m → root_at new key ≡ Some n → n ≡ moved_node places m
      root-moved key m n was is = grind arith

      pub swept-roots : KeepsRoots old new
      swept-roots = grind (arith, map-IsSome, root-moved, node_value-moved, closed, root-marked, top-moved)

      -- ways are moved step by step
      way-moved : (first p : ℕ) → LeadsTo old.entries first p → IsReached old.roots old.entries first → (f q : ℕ) → place places (suc first) ≡ suc f → place places (suc p) ≡ suc q → LeadsTo new.entries f q
      way-moved first p here from f q at_f at_q = let same : f ≡ q = omega arith in subst (LeadsTo new.entries f) same here
      way-moved first p (further k r way step) from f q at_f at_q =
          let e = step.0 in
          let marked = (are.entries k).1 (reached-way old.roots old.entries first k from way) in
          let is = moved.each k e (slice_get_within old.entries k e step.1) step.1 marked in
          let before = way-moved first k way from f is.0 at_f is.1 in
          further is.0 q before (
            moved_entry places e,
            is.2,
            elim step.2 [
              | inl lo ↦ inl (moved-at places e.lo (suc p) (suc q) lo at_q)
              | inr hi ↦ inr (moved-at places e.hi (suc p) (suc q) hi at_q)
            ],
          )

      pub swept-reached : AllReached new
      swept-reached q less =
          let from = moved.from q less in
          let was = (are.entries from.0).0 from.2 in
          let first = reached-root old.roots old.entries was.key was.first was.node was.root was.entry in
          let in_first : was.first < length old.entries = omega (arith, was.entry, within was.key was.node was.root) in
          let e = entry_at old.entries was.first in_first in
          let at = moved.each was.first e.0 in_first e.1 ((are.entries was.first).1 first) in
          grind (arith, moved-at places was.node (suc was.first) (suc at.0) was.entry at.1, way-moved was.first from.0 was.way first at.0 q at.1 from.3)
