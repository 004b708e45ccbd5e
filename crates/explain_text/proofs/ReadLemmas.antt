-- Marks while the columns are found that are read upstream of a gate.
use Rattle.std.proofs.Common.{◌≡◌, inl, inr, ℕ, ◌+◌, ◌<◌, ◌≤◌, Bool, true, false, ◌&&◌, List, [], ◌∷◌, ◌++◌, length, take, get_or, sym, ap, ◌∙◌, subst, arith, Contains, true≢false}
use Rattle.std.proofs.Math.ListN.{set}
use Rattle.explain_text.proofs.Common.{and_parts, and_from, length-range_with_len, range_with_len, Parts, gate_at, first_gate, is_marked, AddMarks, member, among, is_upstream, is_read, AreColumnsRead, IsAmong, IsReadBelow}
use Rattle.std.proofs.lemmas.Bool.{cases_lt}
use Rattle.std.proofs.lemmas.List.{take_more, take_all}
use Rattle.std.proofs.lemmas.List.Elements.{Contains-append_left, Contains-push, Contains-push_cases}
use Rattle.std.proofs.lemmas.List.Folds.{Any-from_list_any}
use Rattle.std.proofs.lemmas.List.FromFn.{get_or-range_with_len}
use Rattle.cyc_base.specs.declared.sig.Sig.{Sig}
use Rattle.cyc_base.proofs.TruthLemmas.{same_truth}
use Rattle.netlist.specs.Netlists.{signal}
use Rattle.loops.specs.Cones.{IsConeOf}
use Rattle.loops.proofs.MarkLemmas.{add-none, add-same, add-both, add-one, cone_of_one}
use Rattle.refusals.specs.Refusals.{is_among}
use Rattle.unroll.proofs.SizeLemmas.{one_in_range}
use Rattle.explain_text.specs.Columns.{AreUpstreamOf, IsColumn, IsReadBy}
use Rattle.explain_text.proofs.ReachLemmas.{upstream-test}

-- ---- what lies upstream of a gate

pub upstream_marked : (net : Parts) (gate : ℕ) (marks : List Bool) → IsConeOf net (gate ∷ []) marks → AreUpstreamOf net gate marks
upstream_marked net gate marks are = record { width = are.width; each = cone_of_one net gate marks are }

-- ---- the pins of a gate

pub column_marked : (s : Sig) (read : List Bool) → s.0 < length read → AddMarks (IsColumn (length read) s) read (set read s.0 true)
column_marked s read less =
    add-same (λ m. m ≡ s.0) (IsColumn (length read) s) read (set read s.0 true)
    (λ m e. record { within = omega (arith, e, less); is = ap signal (sym e) })
    (λ m c. ap (λ (t : Sig). t.0) (sym c.is))
    (add-one read s.0 less)

pub column_left : (s : Sig) (read : List Bool) → length read ≤ s.0 → AddMarks (IsColumn (length read) s) read read
column_left s read past =
    add-none (IsColumn (length read) s) read (λ m c. let e = ap (λ (t : Sig). t.0) c.is in let l = c.within in omega (arith, e, l, past))

pub among_none : (width : ℕ) (read : List Bool) → AddMarks (IsAmong width []) read read
among_none width read = add-none (IsAmong width []) read (λ m a. let l = a.pin.1 in omega (arith, l))

pub among_more : (signals : List Sig) (k : ℕ) (d : Sig) (old mid new : List Bool) → k < length signals → AddMarks (IsAmong (length old) (take k signals)) old mid
    → AddMarks (IsColumn (length mid) (get_or signals k d)) mid new → AddMarks (IsAmong (length old) (take (k + 1) signals)) old new
among_more signals k d old mid new less one two =
    add-both (IsAmong (length old) (take k signals)) (IsColumn (length mid) (get_or signals k d)) (IsAmong (length old) (take (k + 1) signals)) old mid new
    (λ m a. record { within = a.within; pin = subst (Has m) (sym next) (Contains-append_left (take k signals) (get_or signals k d ∷ []) (signal m) a.pin) })
    (λ m c. record {
      within = (let l = c.within in let w = one.width in omega (arith, l, w));
      pin = subst (Has m) (sym next) (subst (λ (s : Sig). Contains (take k signals ++ get_or signals k d ∷ []) s) c.is (Contains-push (take k signals) (get_or signals k d)));
    })
    (λ m a. elim (Contains-push_cases (take k signals) (get_or signals k d) (signal m) (subst (Has m) next a.pin)) [
      | inl early ↦ inl (record { within = a.within; pin = early })
      | inr e ↦ inr (record { within = (let l = a.within in let w = one.width in omega (arith, l, w)); is = e })
    ])
    one two
  where
    next : take (k + 1) signals ≡ take k signals ++ get_or signals k d ∷ []
    next = take_more signals k d less

    Has : ℕ → List Sig → Type 0
    Has m pins = Contains pins (signal m)

pub among_all : (signals : List Sig) (k : ℕ) (old new : List Bool) → length signals ≤ k → AddMarks (IsAmong (length old) (take k signals)) old new
    → AddMarks (IsAmong (length old) signals) old new
among_all signals k old new all are = subst (λ (pins : List Sig). AddMarks (IsAmong (length old) pins) old new) (take_all k signals all) are

-- ---- the pins of gates upstream

module _ (net : Parts) (marks : List Bool) where
  pub pins_read : (gate : ℕ) (pins : List Sig) (old new : List Bool) → is_marked marks gate ≡ true → pins ≡ (gate_at net gate).pins → length old ≡ first_gate net
      → AddMarks (IsAmong (length old) pins) old new → AddMarks (IsReadBy net marks gate) old new
  pins_read gate pins old new marked same width are =
      add-same (IsAmong (length old) pins) (IsReadBy net marks gate) old new
      (λ m a. record { marked = marked; pin = record { within = (let l = a.within in omega (arith, l, width)); pin = subst (λ (ps : List Sig). Contains ps (signal m)) same a.pin } })
      (λ m r. record { within = (let l = r.pin.within in omega (arith, l, width)); pin = subst (λ (ps : List Sig). Contains ps (signal m)) (sym same) r.pin.pin })
      are

  pub pins_unread : (gate : ℕ) (old : List Bool) → is_marked marks gate ≡ false → AddMarks (IsReadBy net marks gate) old old
  pins_unread gate old not = add-none (IsReadBy net marks gate) old (λ m r. true≢false (sym r.marked ∙ not))

  pub below_none : (old : List Bool) → AddMarks (IsReadBelow net marks 0) old old
  below_none old = add-none (IsReadBelow net marks 0) old (λ m r. let l = r.below in omega (arith, l))

  pub below_more : (k : ℕ) (old mid new : List Bool) → AddMarks (IsReadBelow net marks k) old mid → AddMarks (IsReadBy net marks k) mid new
      → AddMarks (IsReadBelow net marks (k + 1)) old new
  below_more k old mid new one two =
      add-both (IsReadBelow net marks k) (IsReadBy net marks k) (IsReadBelow net marks (k + 1)) old mid new
      (λ m r. record { gate = r.gate; below = (let l = r.below in omega (arith, l)); read = r.read })
      (λ m r. record { gate = k; below = omega arith; read = r })
      (λ m r. elim (cases_lt r.gate k) [
        | inl low ↦ inl (record { gate = r.gate; below = low; read = r.read })
        | inr high ↦ inr (let l = r.below in subst (λ (g : ℕ). IsReadBy net marks g m) (omega (arith, l, high)) r.read)
      ])
      one two

-- ---- all that is read

pub columns_marked : (net : Parts) (n : ℕ) (marks old read : List Bool) → length old ≡ first_gate net → ((column : ℕ) → is_marked old column ≡ false)
    → AreUpstreamOf net n marks → AddMarks (IsReadBelow net marks (length net.gates)) old read → AreColumnsRead net n read
columns_marked net n marks old read wide none up are = record {
  width = are.width ∙ wide;
  each = λ column l. same_truth (is_marked read column) (is_read net n column) (to column) (from column l);
}
  where
    reads : ℕ → ℕ → Bool
    reads column m = is_upstream net n m && is_among (gate_at net m).pins (signal column)

    to : (column : ℕ) → is_marked read column ≡ true → is_read net n column ≡ true
    to column is =
        elim (are.only column is) [
          | inl before ↦ absurd (true≢false (sym before ∙ none column))
          | inr r ↦
              let pin = r.read.pin.pin in
              one_in_range (reads column) (length net.gates) r.gate r.below
              (and_from (is_upstream net n r.gate) (is_among (gate_at net r.gate).pins (signal column))
              ((upstream-test net n r.gate).1 ((up.each r.gate r.below).0 r.read.marked))
              (among (signal column) (gate_at net r.gate).pins pin.0 pin.1 pin.2))
        ]

    from : (column : ℕ) → column < first_gate net → is_read net n column ≡ true → is_marked read column ≡ true
    from column l is =
        let (k, m, inside, at, passes) = Any-from_list_any (reads column) (range_with_len 0 (length net.gates)) is in
        let here : k < length net.gates = (let e = length-range_with_len 0 (length net.gates) in omega (arith, inside, e)) in
        let m_is = get_or-range_with_len 0 (length net.gates) k m here in
        let below : m < length net.gates = omega (arith, at, m_is, here) in
        let both = and_parts (is_upstream net n m) (is_among (gate_at net m).pins (signal column)) passes in
        are.adds column (record {
          gate = m;
          below = below;
          read = record {
            marked = (up.each m below).1 ((upstream-test net n m).0 both.0);
            pin = record { within = l; pin = member (signal column) (gate_at net m).pins both.1 };
          };
        })
