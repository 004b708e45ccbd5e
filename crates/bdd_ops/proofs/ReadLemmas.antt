-- Which columns a node's function reads: those of the entries that the node leads to, which are marked from the last
-- to the first.
use Rattle.std.proofs.Common.{◌≡◌, ◌≢◌, ℕ, ◌+◌, ◌*◌, ◌<◌, ◌≤◌, Bool, true, false, List, [], length, get_or, set, refl, sym, ap, ◌∙◌, inl, inr, arith, length-set, get_or-set_same, get_or-set_other, true≢false}
use Rattle.std.proofs.lemmas.Bool.{cases_eq, cases_lt}
use Rattle.std.proofs.lemmas.List.{get_or_past}
use Rattle.bdd_store.specs.declared.node.Node.{Node}
use Rattle.bdd_store.specs.Arena.{Arena, index, is_marked, flipped, den, top_of}
use Rattle.bdd_store.specs.Soundness.{IsLawful}
use Rattle.bdd_store.proofs.ValueLemmas.{value_at-zero}
use Rattle.bdd_ops.specs.Apply.{IsCofactor}
use Rattle.bdd_ops.specs.Least.{IsLayout, by_variable}
use Rattle.bdd_ops.specs.Possible.{IsUnread, MarksRead, value_by}
use Rattle.bdd_ops.proofs.PossibleLemmas.{same_there}

-- a mark that is set leaves the earlier ones
mark-keeps : (marks : List Bool) (j i : ℕ) → get_or marks i false ≡ true → get_or (set marks j true) i false ≡ true
mark-keeps marks j i h = grind (arith, cases_eq, cases_lt, true≢false, get_or_past, get_or-set_same, get_or-set_other)

-- a column without a mark that no marked index up to the last reads, the node doesn't read
abbrev pub AreMarkedDownTo : Arena → List ℕ → Node → List Bool → List Bool → ℕ → Type 0
AreMarkedDownTo s columns n reached read last = (column : ℕ) → get_or read column false ≡ false
    → ((i : ℕ) → i ≤ last → get_or reached i false ≡ true → IsUnread (value_by s columns i) column)
    → IsUnread (λ v. den s n (by_variable columns v)) column

pub AreMarkedDownTo-start : (s : Arena) (columns : List ℕ) (n : Node) (reached read : List Bool) (i last : ℕ) → i ≡ index n → last ≡ index n → i < length reached → AreMarkedDownTo s columns n (set reached i true) read last
AreMarkedDownTo-start s columns n reached read i last i_is last_is within column unmarked each v bit = grind (arith, get_or-set_same)

pub AreMarkedDownTo-skip : (s : Arena) (columns : List ℕ) (n : Node) (reached read : List Bool) (p last : ℕ) → last ≡ p + 1 → get_or reached (p + 1) false ≡ false → AreMarkedDownTo s columns n reached read last → AreMarkedDownTo s columns n reached read p
AreMarkedDownTo-skip s columns n reached read p last last_is none were column unmarked each = grind arith

module _ (s : Arena) (lawful : IsLawful s) (columns : List ℕ) (are : IsLayout s.vars columns) (e lo hi : Node) (p : ℕ) (number : e.number ≡ 2 * p + 3) (within : top_of s e < s.vars)
    (low : IsCofactor s e (top_of s e) false lo) (high : IsCofactor s e (top_of s e) true hi) where
  abbrev column_of : ℕ
  column_of = get_or columns (top_of s e) 0

  by_node : (w : List Bool) → value_by s columns (p + 1) w ≡ den s e (by_variable columns w)
  by_node w = grind arith

  -- an entry reads its own column and what its branches read
  unread : (column : ℕ) → column ≢ column_of → IsUnread (value_by s columns (index lo)) column → IsUnread (value_by s columns (index hi)) column → IsUnread (value_by s columns (p + 1)) column
  unread column apart of_lo of_hi v bit = by_node (set v column bit) ∙ by (get_or v column_of false) refl ∙ sym (by_node v)
    where
      other : get_or (set v column bit) column_of false ≡ get_or v column_of false
      other = get_or-set_other v column column_of bit false (λ same. apart (sym same))

      by : (b : Bool) → get_or v column_of false ≡ b → den s e (by_variable columns (set v column bit)) ≡ den s e (by_variable columns v)
      by true at = same_there s lawful columns are e lo hi within low high [] (set v column bit) true (other ∙ at) ∙ ap (flipped (is_marked hi)) (of_hi v bit) ∙ sym (same_there s lawful columns are e lo hi within low high [] v true at)
      by false at = same_there s lawful columns are e lo hi within low high [] (set v column bit) false (other ∙ at) ∙ ap (flipped (is_marked lo)) (of_lo v bit) ∙ sym (same_there s lawful columns are e lo hi within low high [] v false at)

  pub AreMarkedDownTo-entry : (n : Node) (reached read : List Bool) (at_lo at_hi placed last : ℕ) → at_lo ≡ index lo → at_hi ≡ index hi → placed ≡ column_of → last ≡ p + 1 → placed < length read → at_lo < length reached → at_hi < length reached → index lo ≤ p → index hi ≤ p → AreMarkedDownTo s columns n reached read last
      → AreMarkedDownTo s columns n (set (set reached at_lo true) at_hi true) (set read placed true) p
  AreMarkedDownTo-entry n reached read at_lo at_hi placed last lo_is hi_is placed_is last_is placed_in lo_in hi_in lo_before hi_before were column unmarked each =
      let marks = set (set reached at_lo true) at_hi true in
      let apart : column ≢ placed = λ same. true≢false (sym (get_or-set_same read placed true false placed_in) ∙ ap (λ k. get_or (set read placed true) k false) (sym same) ∙ unmarked) in
      let lo_marked : get_or marks (index lo) false ≡ true = mark-keeps (set reached at_lo true) at_hi (index lo) (ap (λ k. get_or (set reached at_lo true) k false) (sym lo_is) ∙ get_or-set_same reached at_lo true false lo_in) in
      let hi_marked : get_or marks (index hi) false ≡ true = ap (λ k. get_or marks k false) (sym hi_is) ∙ get_or-set_same (set reached at_lo true) at_hi true false (omega (arith, hi_in, length-set reached at_lo true)) in
      were column (sym (get_or-set_other read placed column true false apart) ∙ unmarked) (λ i le mark. elim (cases_eq i (p + 1)) [
        | inl here ↦ λ v bit. ap (λ k. value_by s columns k (set v column bit)) here ∙ unread column (λ same. apart (same ∙ sym placed_is)) (each (index lo) lo_before lo_marked) (each (index hi) hi_before hi_marked) v bit ∙ ap (λ k. value_by s columns k v) (sym here)
        | inr other ↦ each i (omega (arith, other, last_is)) (mark-keeps (set reached at_lo true) at_hi i (mark-keeps reached at_lo i mark))
      ])

-- at the end only the constant is left, which reads nothing
pub AreMarkedDownTo-all : (s : Arena) (columns : List ℕ) (n : Node) (reached read : List Bool) (last : ℕ) → last ≤ 0 → AreMarkedDownTo s columns n reached read last → MarksRead (λ v. den s n (by_variable columns v)) read
AreMarkedDownTo-all s columns n reached read last none were column unmarked = were column unmarked (λ i le mark v bit.
    let is : i ≡ 0 = omega arith in
    ap (λ k. value_by s columns k (set v column bit)) is ∙ value_at-zero s.entries (by_variable columns (set v column bit)) ∙ sym (value_at-zero s.entries (by_variable columns v)) ∙ ap (λ k. value_by s columns k v) (sym is))
