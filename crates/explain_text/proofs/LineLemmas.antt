-- The lines of loops, one after another.
use Rattle.std.proofs.Common.{◌≡◌, ℕ, ◌+◌, Bool, true, false, cond, List, [], ◌∷◌, ◌++◌, length, filter, refl, sym, ap, ap₂, ◌∙◌, arith, append_assoc, true≢false}
use Rattle.explain_text.proofs.Common.{eqb-true, Parts, loops_of, gate_numbers, loop_of, begins_with, first_gate, CareSet, is_marked, loops_left, loop_lines, told_first, sweeps_needed, counts_are_needed, Counted, counted_sweeps, IsCounted, AreSweepsOnCare, columns_read, is_read, marked_columns, AreColumnsRead, sweeps_line, columns_line, told_lines}
use Rattle.std.specs.Iterator.{Yields, YieldsFirstBy}
use Rattle.std.specs.Prelude.{Some}
use Rattle.loops.specs.Left.{loop_seen}
use Rattle.loops.specs.Numbered.{listed_loops}
use Rattle.loops.specs.declared.loop_list.ListedLoop.{ListedLoop}
use Rattle.loops.specs.declared.loop_list.LoopList.{LoopList}
use Rattle.loops.proofs.ListedLemmas.{kept_below}
use Rattle.report.specs.LoopTexts.{each_loop, numbered_loops}
use Rattle.report.proofs.LoopTextLemmas.{one_more, whole_told}
use Rattle.explain_text.specs.Lines.{told_loops}

marked_are_read : (net : Parts) (gate : ℕ) (read : List Bool) → AreColumnsRead net gate read → marked_columns net read ≡ columns_read net gate
marked_are_read net gate read are = kept_below (is_marked read) (is_read net gate) 0 (first_gate net) (first_gate net) (omega arith) are.each

-- the lines of a loop as they are put
pub lines_told : (net : Parts) (sweeps : ℕ → ℕ) (number gate count : ℕ) (read : List Bool) → count ≡ sweeps gate → AreColumnsRead net gate read
    → loop_lines net number gate ++ (sweeps_line number count ++ columns_line net number (marked_columns net read)) ≡ told_lines net sweeps number gate
lines_told net sweeps number gate count read counted are =
    ap₂ (λ (m : ℕ) (columns : List ℕ). loop_lines net number gate ++ (sweeps_line number m ++ columns_line net number columns)) counted (marked_are_read net gate read are)

module _ (text : ℕ → ℕ → List ℕ) (net : Parts) (s t u : LoopList) (came : List ListedLoop) (all : loops_left s ≡ listed_loops net) (yielded : Yields (YieldsFirstBy loop_seen loops_left) s came t) where
  -- the text of one more loop
  pub one_more_told : (x : ListedLoop) (old mid new : List ℕ) → YieldsFirstBy loop_seen loops_left t (Some x) u → mid ≡ old ++ told_first text net (length came)
      → new ≡ mid ++ text x.number x.first → new ≡ old ++ told_first text net (length (came ++ x ∷ []))
  one_more_told x old mid new next before after =
      after
      ∙ ap (λ (told : List ℕ). told ++ text x.number x.first) before
      ∙ append_assoc old (told_first text net (length came)) (text x.number x.first)
      ∙ ap (λ (told : List ℕ). old ++ told) (sym (one_more text net s t u came all yielded x next))

  -- the texts of all
  pub all_told : (old new : List ℕ) → loops_left t ≡ [] → new ≡ old ++ told_first text net (length came) → new ≡ old ++ each_loop text net
  all_told old new none told = told ∙ ap (λ (told : List ℕ). old ++ told) (whole_told text net s t u came all yielded none)

-- ---- the sweeps that are needed

-- what a kept number begins with passes the test
pub begun-passes : (p : ℕ → Bool) (ns : List ℕ) (n : ℕ) → begins_with (filter p ns) n ≡ true → p n ≡ true
begun-passes p [] n begun = absurd (true≢false (sym begun))
begun-passes p (m ∷ ns) n begun = by (p m) refl begun (begun-passes p ns n)
  where
    by : (t : Bool) → p m ≡ t → begins_with (cond t (m ∷ filter p ns) (filter p ns)) n ≡ true → (begins_with (filter p ns) n ≡ true → p n ≡ true) → p n ≡ true
    by true passes begun rest = ap p (sym (eqb-true m n begun)) ∙ passes
    by false fails begun rest = rest begun

-- texts that agree on the loops that are told
pub numbered-alike : (one two : ℕ → ℕ → List ℕ) (test : ℕ → Bool) → ((k n : ℕ) → test n ≡ true → one k n ≡ two k n) → (ns : List ℕ) (k : ℕ)
    → numbered_loops one k (filter test ns) ≡ numbered_loops two k (filter test ns)
numbered-alike one two test agree [] k = refl
numbered-alike one two test agree (n ∷ ns) k = by (test n) refl (numbered-alike one two test agree ns)
  where
    by : (t : Bool) → test n ≡ t → ((j : ℕ) → numbered_loops one j (filter test ns) ≡ numbered_loops two j (filter test ns))
        → numbered_loops one k (cond t (n ∷ filter test ns) (filter test ns)) ≡ numbered_loops two k (cond t (n ∷ filter test ns) (filter test ns))
    by true passes rest = ap₂ (λ (text others : List ℕ). text ++ others) (agree k n passes) (rest (k + 1))
    by false fails rest = rest k

pub told_on_care : (counted : Counted) (care : CareSet) → IsCounted counted → AreSweepsOnCare counted.net counted.blocks counted.cut care counted.sweeps
    → told_loops counted.net (counted_sweeps counted) ≡ told_loops counted.net (sweeps_needed counted.net care)
told_on_care counted care is on_care =
    let net = counted.net in
    numbered-alike (told_lines net (counted_sweeps counted)) (told_lines net (sweeps_needed net care)) (λ n. begins_with (loop_of net n) n)
    (λ k n begun.
    ap (λ (m : ℕ). loop_lines net k n ++ (sweeps_line k m ++ columns_line net k (columns_read net n)))
    (counts_are_needed net counted.blocks counted.cut care counted.sweeps is.blocks is.cut on_care n (begun-passes ((loops_of net).same n) (gate_numbers net) n begun)))
    (gate_numbers net) 1
