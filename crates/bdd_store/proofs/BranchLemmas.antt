-- What code reads of a node's entry: its variable, and its branches under the node's mark.
use Rattle.std.proofs.Common.{◌≡◌, ℕ, suc, ◌-◌, ◌<◌, ◌≤◌, Bool, true, false, List, length, get_or, slice_get, Some, sym, ap, ◌∙◌, arith}
use Rattle.bdd_store.proofs.Common.{slice_get-get_or, slice_get_within, Node, Entry, index, is_marked, complemented_if, flipped, value_at, node_value, top_at, IsSound, branch}
pub use Rattle.bdd_store.specs.Branches.{IsBranch}
use Rattle.bdd_store.proofs.NodeLemmas.{index-complemented_if}
use Rattle.bdd_store.proofs.ValueLemmas.{branch_low, value_at-entry, top_at-entry, node_value-complemented_if}
use Rattle.bdd_store.proofs.CanonicalLemmas.{early, branch_below}

module _ {vars : ℕ} {es : List Entry} (sound : IsSound vars es) (n : Node) (e : Entry) (at : slice_get es (index n - 1) ≡ Some e) (branching : 2 ≤ n.number) where
  up : suc (index n - 1) ≡ index n
  up = omega (arith, branching)

  pub entry-top : top_at vars es (index n) ≡ e.var
  entry-top = ap (top_at vars es) (sym up) ∙ top_at-entry vars es (index n - 1) e at

  pub entry-within : e.var < vars
  entry-within = (sound.each (index n - 1) e at).within

  pub entry-branch : (bit : Bool) → IsBranch vars es n bit (complemented_if (is_marked n) (branch e bit))
  entry-branch bit =
      let same = index-complemented_if (is_marked n) (branch e bit) in
      let low = branch_low es (early sound) (index n - 1) e bit at in
      let within = slice_get_within es (index n - 1) e at in
      record {
        node = omega (arith, low, same, within);
        earlier = omega (arith, low, same, up);
        lower = omega (arith, branch_below sound (index n - 1) e bit at, entry-top, ap (top_at vars es) same);
        within = omega (arith, entry-within, entry-top);
        function = λ bits read.
            ap (λ i. flipped (is_marked n) (value_at es i bits)) (sym up)
            ∙ ap (flipped (is_marked n)) (value_at-entry es (early sound) bits (index n - 1) e at)
            ∙ ap (λ b. flipped (is_marked n) (node_value es (branch e b) bits)) (ap (λ v. get_or bits v false) (sym entry-top) ∙ read)
            ∙ sym (node_value-complemented_if (is_marked n) es (branch e bit) bits);
      }

module _ {vars : ℕ} {es : List Entry} (sound : IsSound vars es) (n : Node) (d : Entry) (branching : 2 ≤ n.number) (in_n : index n ≤ length es) where
  abbrev pub entry : Entry
  entry = get_or es (index n - 1) d

  at : slice_get es (index n - 1) ≡ Some entry
  at = slice_get-get_or es (index n - 1) d (omega (arith, branching))

  pub exact_hi : IsBranch vars es n true (complemented_if (is_marked n) entry.hi)
  exact_hi = entry-branch sound n entry at branching true

  pub exact_lo : IsBranch vars es n false (complemented_if (is_marked n) entry.lo)
  exact_lo = entry-branch sound n entry at branching false
