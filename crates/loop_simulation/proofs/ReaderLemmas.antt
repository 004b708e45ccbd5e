-- The gates of a loop that read each of its gates.
use Rattle.std.proofs.Common.{◌≡◌, inl, inr, ℕ, ◌+◌, ◌-◌, ◌<◌, ◌==◌, Bool, true, leb, if◌then◌else◌, List, [], ◌∷◌, ◌++◌, length, get_or, set, take, Some, None, sym, ap, subst, ◌∙◌, arith, Contains}
use Rattle.loop_simulation.proofs.Common.{eq-eqb, length-set, take_more, Contains-append_left, Contains-push, Contains-push_cases, Sig, gate_at, gate_sig, home_of, first_gate, gate_home, LoopAt, IsLoopAt, gates_in, HasGainedReader, AreReaders}
use Rattle.std.proofs.lemmas.Bool.{and_from, le-leb}
use Rattle.loops.specs.Rows.{InRow}
use Rattle.loops.proofs.RowLemmas.{pushed_keeps, pushed_new, pushed_only}
use Rattle.loop_simulation.specs.Readers.{source_of}

-- the first elements of a list, and one more as it is read of an equal list
pub taken-next : {A : Type 0} (read xs : List A) (i : ℕ) (d : A) → read ≡ xs → i < length read → take i xs ++ get_or read i d ∷ [] ≡ take (i + 1) xs
taken-next {A} read xs i d same low = ap (λ (ys : List A). take i ys ++ get_or read i d ∷ []) (sym same) ∙ sym (take_more read i d low) ∙ ap (λ (ys : List A). take (i + 1) ys) same

two-sources : (n g : ℕ) → Some n ≡ Some g → n ≡ g
two-sources n g e = cc

module _ (l : LoopAt) where
  module _ (is_loop : IsLoopAt l) where
    -- the signal of a gate of the loop is driven by that gate
    source-is : (g : ℕ) → Contains (gates_in l) g → source_of l (gate_sig l.net g) ≡ Some g
    source-is g inside =
        let first : ℕ = first_gate l.net in
        let place : (first + g) - first ≡ g = omega arith in
        let low : leb first (first + g) ≡ true = le-leb first (first + g) (omega arith) in
        let home : (home_of l.blocks ((first + g) - first) == l.number) ≡ true =
        ap (λ (n : ℕ). home_of l.blocks n == l.number) place ∙ eq-eqb (home_of l.blocks g) l.number (gate_home l.net l.blocks is_loop.blocks l.number g is_loop.number inside).1 in
        ap (λ (b : Bool). if b then Some ((first + g) - first) else None) (and_from (leb first (first + g)) _ low home) ∙ ap (λ (n : ℕ). Some n) place

    -- a pin of the gate that a gate of the loop drives
    pub gained-pin : (gate : ℕ) (pins : List Sig) (pin : Sig) (n : ℕ) (old rows : List (List ℕ)) (row : List ℕ) → source_of l pin ≡ Some n → n < length rows → row ≡ get_or rows n [] →
        HasGainedReader l gate pins old rows → HasGainedReader l gate (pins ++ pin ∷ []) old (set rows n (row ++ gate ∷ []))
    gained-pin gate pins pin n old rows row source low row_is h = record {
      size = length-set rows n (row ++ gate ∷ []) ∙ h.size;
      keeps = λ g m there. pushed_keeps rows n gate row low row_is g m (h.keeps g m there);
      each = λ g inside pin_is. elim (Contains-push_cases pins pin (gate_sig l.net g) pin_is) [
        | inl early ↦ pushed_keeps rows n gate row low row_is g gate (h.each g inside early)
        | inr same ↦
            (let one : n ≡ g = two-sources n g (sym source ∙ ap (source_of l) same ∙ source-is g inside) in
            subst (λ (m : ℕ). InRow (set rows n (row ++ gate ∷ [])) m gate) one (pushed_new rows n gate row low row_is))
      ];
      only = λ g m there. elim (pushed_only rows n gate row low row_is g m there) [
        | inl before ↦ h.only g m before
        | inr new ↦ inr new.1
      ];
    }

    -- and one that none drives
    pub gained-nothing : (gate : ℕ) (pins : List Sig) (pin : Sig) (old rows : List (List ℕ)) → source_of l pin ≡ None → HasGainedReader l gate pins old rows → HasGainedReader l gate (pins ++ pin ∷ []) old rows
    gained-nothing gate pins pin old rows source h = record {
      size = h.size;
      keeps = h.keeps;
      each = λ g inside pin_is. elim (Contains-push_cases pins pin (gate_sig l.net g) pin_is) [
        | inl early ↦ h.each g inside early
        | inr same ↦
            (let none : None ≡ Some g = sym source ∙ ap (source_of l) same ∙ source-is g inside in
            absurd cc)
      ];
      only = h.only;
    }

  -- one gate more is entered
  pub readers-more : (gates : List ℕ) (gate : ℕ) (old new : List (List ℕ)) → HasGainedReader l gate (gate_at l.net gate).pins old new → AreReaders l gates old → AreReaders l (gates ++ gate ∷ []) new
  readers-more gates gate old new gained h = record {
    size = gained.size ∙ h.size;
    each = λ g n inside listed pin. elim (Contains-push_cases gates gate n listed) [
      | inl early ↦ gained.keeps g n (h.each g n inside early pin)
      | inr same ↦
          subst (λ (m : ℕ). InRow new g m) same
          (gained.each g inside (subst (λ (m : ℕ). Contains (gate_at l.net m).pins (gate_sig l.net g)) (sym same) pin))
    ];
    only = λ g n row. elim (gained.only g n row) [
      | inl before ↦ Contains-append_left gates (gate ∷ []) n (h.only g n before)
      | inr same ↦ subst (λ (m : ℕ). Contains (gates ++ gate ∷ []) m) (sym same) (Contains-push gates gate)
    ];
  }
