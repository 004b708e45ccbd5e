-- One number of copies after another, by tables.
use Rattle.std.proofs.Common.{◌≡◌, ℕ, zero, suc, ◌+◌, ◌<◌, ◌≤◌, min, ltb, Bool, true, if◌then◌else◌, List, [], ◌∷◌, ◌++◌, length, map, filter, replicate, get_or, set, refl, ap, ap₂, sym, ◌∙◌, subst, arith, Contains, All, true≢false, get_or-set_same, get_or-set_other, length-set}
use Rattle.unroll.proofs.Common.{cases_lt, le-leb, leb-true, length-map, map-append, append_assoc, append-nil, get_or-replicate, get_or_default, length-replicate, Sig, map-map, Gate, Parts, signal, count, Loops, AreLoopsOf, first_gate, gate_of, in_loop_of, in_loop_from, same-sym, same-trans, same_within, mark, copy_of, copies_of, copies_upto, most, copies, constants, shift, moved, copy_signal, copy_gate, IsOfLoops, copied, copy_pin, at_table, copy_gate_by, entered, copy_pin_by, AreMade}
use Rattle.loops.proofs.Reading.{map_agree}
use Rattle.unroll.specs.Tables.{AreLastCopies, AreCopies}
use Rattle.unroll.proofs.TableLemmas.{length_entered}
use Rattle.unroll.proofs.Places.{Increasing, copied_within, copied_has, copied_increasing, Contains-copied, length-round, upto_short, place_in_round, most-above}

-- the entry of another gate
pub entered_other : (table gates : List ℕ) (first n : ℕ) → (Contains gates n → ⊥) → get_or (entered table gates first) n 0 ≡ get_or table n 0
entered_other table [] first n h = refl
entered_other table (g ∷ gates) first n h =
    entered_other (set table g first) gates (suc first) n (λ c. h (suc c.0, (let l = c.1 in omega arith), c.2))
    ∙ get_or-set_other table g n first 0 (λ e. h (zero, omega arith, sym e))

-- the entry of a gate of the list
pub entered_at : (table gates : List ℕ) (first i : ℕ) → Increasing gates → All (λ g. g < length table) gates → i < length gates → get_or (entered table gates first) (get_or gates i 0) 0 ≡ first + i
entered_at table [] first i up within l = absurd (omega arith)
entered_at table (g ∷ gates) first zero up within l =
    entered_other (set table g first) gates (suc first) g (λ c. (let h = up 0 (suc c.0) g (omega arith) (let l = c.1 in omega arith) in let e = c.2 in omega arith))
    ∙ get_or-set_same table g first 0 (within 0 0 (omega arith))
    ∙ (let e : first ≡ first + 0 = omega arith in e)
entered_at table (g ∷ gates) first (suc i) up within l =
    let len = length-set table g first in
    entered_at (set table g first) gates (suc first) i (λ i j d less h. up (suc i) (suc j) d (omega arith) (omega arith))
    (λ j d h. (let w = within (suc j) d (omega arith) in omega arith)) (omega arith)
    ∙ (let e : suc first + i ≡ first + suc i = omega arith in e)

pub map_same : {A B : Type 0} (f g : A → B) (xs : List A) → ((x : A) → f x ≡ g x) → map f xs ≡ map g xs
map_same f g [] h = refl
map_same f g (x ∷ xs) h = ap₂ (λ y ys. y ∷ ys) (h x) (map_same f g xs h)

-- a choice among three signals in two ways
pub choice_same : (b d : Bool) (x y z x' y' z' : Sig) → (b ≡ true → x ≡ x') → (b ≡ true → y ≡ y') → z ≡ z' → (if b then (if d then x else y) else z) ≡ (if b then (if d then x' else y') else z')
choice_same b d x y z x' y' z' h k l = grind arith

filter_twice : (p q : ℕ → Bool) (xs : List ℕ) → ((x : ℕ) → q x ≡ true → p x ≡ true) → filter q (filter p xs) ≡ filter q xs
filter_twice p q [] h = refl
filter_twice p q (x ∷ xs) h = grind (arith, filter_twice p q xs h, true≢false)

module _ (net : Parts) (loops : Loops) (m : ℕ → ℕ) where
  abbrev has : ℕ → ℕ
  has n = copies_of loops.same m n

  -- those with more copies, of those that have some
  pub copied_next : (k : ℕ) → filter (λ n. ltb (suc k) (has n)) (copied net loops m (suc k)) ≡ copied net loops m (suc (suc k))
  copied_next k = grind (arith, filter_twice, le-leb, leb-true)

  -- where the copies up to number k stand
  abbrev pub first_of_round : ℕ → ℕ
  first_of_round k = first_gate net + (length (constants net loops) + length (copies_upto net loops m k))

  signal_in_round : (k i : ℕ) → suc k ≤ most loops.same m (length net.gates) → i < length (copied net loops m (suc k)) → copy_signal net loops m (suc k) (get_or (copied net loops m (suc k)) i 0) ≡ signal (first_of_round k + i)
  signal_in_round k i top l = grind (arith, place_in_round)

  -- the copies of a number that are entered
  pub entered_is : (k : ℕ) (table : List ℕ) → suc k ≤ most loops.same m (length net.gates) → length table ≡ length net.gates → (n : ℕ) → n < length net.gates → suc k ≤ has n → at_table (entered table (copied net loops m (suc k)) (first_of_round k)) n ≡ copy_signal net loops m (suc k) n
  entered_is k table top width n l few =
      grind (arith, Contains-copied net loops m (suc k) n l few, entered_at table (copied net loops m (suc k)) (first_of_round k), copied_increasing net loops m (suc k), copied_within net loops m (suc k), get_or_default (copied net loops m (suc k)), signal_in_round k)

  pub entered_next : (k : ℕ) (table : List ℕ) → suc k ≤ most loops.same m (length net.gates) → AreCopies net loops m k table → AreCopies net loops m (suc k) (entered table (copied net loops m (suc k)) (first_of_round k))
  entered_next k table top are = grind (arith, length_entered, cases_lt, entered_is, entered_other, copied_has)

  -- before the first number each gate has the constant
  pub none_entered : (table : List ℕ) → table ≡ replicate (length net.gates) (first_gate net) → AreCopies net loops m 0 table
  none_entered table e = grind (arith, length-replicate, get_or-replicate)

  pub none_made : (gates : List Gate) → gates ≡ constants net loops → gates ≡ constants net loops ++ map (copy_gate net loops m) (copies_upto net loops m 0)
  none_made gates e = e ∙ sym (append-nil (constants net loops))

  pub all_entered : (k : ℕ) (table : List ℕ) → k ≡ most loops.same m (length net.gates) → AreCopies net loops m k table → AreLastCopies net loops m table
  all_entered k table e are = grind (arith, most-above)

  -- how many gates there are after a number of copies
  pub length_made : (k : ℕ) (gates : List Gate) → gates ≡ constants net loops ++ map (copy_gate net loops m) (copies_upto net loops m k) → length gates ≡ length (constants net loops) + length (copies_upto net loops m k)
  length_made k gates e = grind (arith, length-map)

  pub round_fits : (k by : ℕ) (gates : List Gate) (active : List ℕ) → suc k ≤ most loops.same m (length net.gates) → by ≡ shift net loops m → count net + by ≤ 4294967295 → gates ≡ constants net loops ++ map (copy_gate net loops m) (copies_upto net loops m k) → active ≡ copied net loops m (suc k) → first_gate net + length gates + length active ≤ 4294967295
  round_fits k by gates active top up fits made is = grind (arith, length_made k gates made, length-round net loops m k, upto_short net loops m (suc k) top)

  module _ (are : AreLoopsOf net loops) (of_loops : IsOfLoops loops m) where
    -- the gates of a loop have as many copies as it needs sweeps
    pub many_of : (n : ℕ) → loops.same n n ≡ true → has n ≡ m n
    many_of n e = rw e refl

    pub self_of : (n h : ℕ) → loops.same n h ≡ true → loops.same n n ≡ true
    self_of n h e = same-trans net loops are n h n e (same-sym net loops are n h e)

    pub has_same : (n h : ℕ) → loops.same n h ≡ true → has h ≡ has n
    has_same n h e = grind (arith, many_of, self_of, same-sym)

    module _ (k by : ℕ) (earlier current : List ℕ) (top : suc k ≤ most loops.same m (length net.gates)) (up : by ≡ shift net loops m) (copies_before : AreCopies net loops m k earlier) (width : length current ≡ length net.gates) where
      abbrev beside : List ℕ
      beside = entered current (copied net loops m (suc k)) (first_of_round k)

      pin_same : (n : ℕ) → suc k ≤ has n → (s : Sig) → copy_pin_by net loops by earlier beside n s ≡ copy_pin net loops m k n s
      pin_same n few s =
          let h = gate_of net s in
          choice_same (in_loop_of net loops n s) (loops.cut h)
          (at_table earlier h) (at_table beside h) (moved net by s)
          (copy_signal net loops m k h) (copy_signal net loops m (suc k) h) (moved net (shift net loops m) s)
          (λ e.
          let p = in_loop_from net loops n s e in
          let many = has_same n h p.1 in
          let least : min k (has h) ≡ k = omega arith in
          copies_before.each h (same_within net loops are n h p.1) ∙ ap (λ j. copy_signal net loops m j h) least)
          (λ e.
          let p = in_loop_from net loops n s e in
          let many = has_same n h p.1 in
          entered_is k current top width h (same_within net loops are n h p.1) (omega arith))
          (ap (λ j. moved net j s) up)

      gate_same : (n : ℕ) → suc k ≤ has n → copy_gate_by net loops (mark net) by earlier beside (suc k) n ≡ copy_gate net loops m (copy_of (suc k) n)
      gate_same n few = grind (arith, map_same, pin_same)

      -- one more number of copies
      pub round_made : (gates : List Gate) → gates ≡ constants net loops ++ map (copy_gate net loops m) (copies_upto net loops m k) → gates ++ map (copy_gate_by net loops (mark net) by earlier beside (suc k)) (copied net loops m (suc k)) ≡ constants net loops ++ map (copy_gate net loops m) (copies_upto net loops m (suc k))
      round_made gates e = grind (arith, map_agree, gate_same, copied_has, map-map, append_assoc, map-append)

    -- one more number of copies, as it is made
    pub made_next : (k by : ℕ) (name : List ℕ) (active act rest next : List ℕ) (gates made : List Gate) (earlier later current beside : List ℕ) → suc k ≤ most loops.same m (length net.gates) → name ≡ mark net → by ≡ shift net loops m → AreMade net loops m k active gates earlier current → act ≡ active → rest ≡ active → made ≡ gates ++ map (copy_gate_by net loops name by earlier (entered current act (first_gate net + length gates)) (k + 1)) act → later ≡ entered earlier act (first_gate net + length gates) → length beside ≡ length net.gates → next ≡ filter (λ n. ltb (k + 1) (has n)) rest → AreMade net loops m (k + 1) next made later beside
    made_next k by name active act rest next gates made earlier later current beside top mine up before is is2 makes enters width more =
        let len = length_made k gates before.made in
        let first : first_gate net + length gates ≡ first_of_round k = omega arith in
        let one : k + 1 ≡ suc k = omega arith in
        let now : act ≡ copied net loops m (suc k) = is ∙ before.next in
        subst (λ (j : ℕ). AreMade net loops m j next made later beside) (sym one) (record {
          next = more ∙ ap₂ (λ j ns. filter (λ n. ltb j (has n)) ns) one (is2 ∙ before.next) ∙ copied_next k;
          made = makes
              ∙ ap₂ (λ t j. gates ++ map (copy_gate_by net loops t by earlier (entered current act (first_gate net + length gates)) j) act) mine one
              ∙ ap₂ (λ ns f. gates ++ map (copy_gate_by net loops (mark net) by earlier (entered current ns f) (suc k)) ns) now first
              ∙ round_made k by earlier current top up before.before before.width gates before.made;
          before = subst (λ (t : List ℕ). AreCopies net loops m (suc k) t) (sym (enters ∙ ap₂ (entered earlier) now first))
              (entered_next k earlier top before.before);
          width = width;
        })
