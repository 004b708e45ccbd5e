-- Sets that are held open stay unknown, whatever more is known, and each has its place in the greatest.
use Rattle.std.proofs.Common.{◌≡◌, ◌≢◌, ◌⊎◌, inl, inr, ℕ, zero, suc, ◌+◌, ◌<◌, ◌≤◌, Bool, true, false, List, [], ◌∷◌, ◌++◌, length, map, get_or, set, refl, ap, sym, ◌∙◌, subst, arith, true≢false}
use Rattle.std.specs.List.{AllZip, Contains}
use Rattle.std.proofs.lemmas.Bool.{cases_eq, cases_lt}
use Rattle.std.proofs.lemmas.List.{get_or_past, get_or-set_other, length-append, length-set}
use Rattle.std.proofs.lemmas.List.Elements.{All-append, All-head, All-tail, Contains-append_left, Contains-append_right}
use Rattle.cyc_base.specs.declared.sig.Sig.{Sig}
use Rattle.cyc_base.specs.declared.trit.Trit.{Trit}
use Rattle.cyc_base.specs.declared.trit.Trit.TheVariants.{Zero, One, X}
use Rattle.cyc_base.specs.Values.{Below, EachBelow}
use Rattle.cyc_base.proofs.ListLemmas.{Contains-cases, Contains-here, Contains-there}
use Rattle.cyc_base.proofs.OrderLemmas.{EachBelow-at}
use Rattle.netlist.specs.declared.parts.Parts.{Parts}
use Rattle.netlist.specs.Fixpoint.{wire, fix}
use Rattle.netlist.specs.Netlists.{count, gate_at, gate_sig, is_marked}
use Rattle.netlist.proofs.FixpointLemmas.{fix_is_monotone}
use Rattle.ternary_run.specs.declared.fanout.Read.{Read}
use Rattle.ternary_run.specs.Reading.{readers_of, IsFanoutOf}
use Rattle.ternary_run.proofs.ReadingLemmas.{readers_of-contain, readers_of-below, readers_of-length}
use Rattle.ternary_run.proofs.SettlingLemmas.{falls}
use Rattle.explanations.specs.declared.pins.Pin.{Pin}
use Rattle.explanations.specs.Pins.{MayBe, StaysOpen}
use Rattle.explanations.specs.Held.{Within, seen, pin_at, IsHeld, AreUnknownGates, IsHeldOpen, HoldsOpen, mark_count, AreChangedReaders, HasLookedAt, IsShrinking, looks_left}
use Rattle.explanations.proofs.ClearedLemmas.{hidden, cleared_gates_stay_unknown}

-- ---- what a gate may see

pub zip_weaker : (f g : Sig → Pin) → ((s : Sig) (v : Trit) → MayBe (f s) v → MayBe (g s) v) → (signals : List Sig) (values : List Trit) → AllZip MayBe (map f signals) values → AllZip MayBe (map g signals) values
zip_weaker f g w [] values h = h
zip_weaker f g w (s ∷ signals) [] h = absurd h
zip_weaker f g w (s ∷ signals) (v ∷ values) h = (w s v h.0, zip_weaker f g w signals values h.1)

pub zip_map : (f : Sig → Pin) (v : Sig → Trit) → ((s : Sig) → MayBe (f s) (v s)) → (signals : List Sig) → AllZip MayBe (map f signals) (map v signals)
zip_map f v w [] = tt
zip_map f v w (s ∷ signals) = (w s, zip_map f v w signals)

seen_more : (mark other : Bool) (value v : Trit) → (other ≡ true → mark ≡ true) → (mark ≡ true → value ≡ X) → MayBe (seen mark value) v → MayBe (seen other value) v
seen_more mark other value v w u h = grind arith

seen_below : (mark : Bool) (low high v : Trit) → Below low high → MayBe (seen mark high) v → MayBe (seen mark low) v
seen_below mark low high v b h = grind arith

-- a gate that stays open where some gates do stays so where more do
pub held_with_more : (net : Parts) (known : List Trit) (others marks : List Bool) (g : ℕ) → AreUnknownGates net known marks → Within others marks → IsHeld net known others g → IsHeld net known marks g
held_with_more net known others marks g unknown within h = grind (arith, zip_weaker (pin_at known marks) (pin_at known others), seen_more)

-- ---- more known of the columns

-- a gate of a set is no column
marked_behind : (net : Parts) (known : List Trit) (marks : List Bool) → AreUnknownGates net known marks → (n : ℕ) → is_marked marks n ≡ true → length net.inputs + length net.latches ≤ n
marked_behind net known marks unknown n e = (unknown n e).0.behind

module _ (net : Parts) (given more : List Trit) (marks : List Bool) (h : IsHeldOpen net (fix net given) marks)
    (width : length more ≡ length net.inputs + length net.latches) (above : EachBelow given more) where
  sees : (mark : Bool) (known higher : Trit) → Below known higher → MayBe (seen mark known) (hidden mark higher)
  unfolding hidden
  sees true known higher b = refl
  sees false X higher b = tt
  sees false Zero higher b = b
  sees false One higher b = b

  known_below : (n : ℕ) → Below (get_or (fix net given) n X) (get_or (fix net more) n X)
  known_below n = EachBelow-at (fix net given) (fix net more) n (fix_is_monotone net given more above)

  -- the gates of a set that is held open are unknown wherever as much is known, and more
  pub held_stays_unknown : (n : ℕ) → is_marked marks n ≡ true → get_or (fix net more) n X ≡ X
  held_stays_unknown =
      cleared_gates_stay_unknown net more (is_marked marks) width (marked_behind net (fix net given) marks h.unknown)
      (λ g l e values is.
      h.held g l e values
      (subst (λ (vs : List Trit). AllZip MayBe (map (pin_at (fix net given) marks) (gate_at net g).pins) vs) (sym is)
      (zip_map (pin_at (fix net given) marks) (λ s. hidden (is_marked marks s.0) (wire (fix net more) s))
      (λ s. sees (is_marked marks s.0) (wire (fix net given) s) (wire (fix net more) s) (known_below s.0)) (gate_at net g).pins)))

  -- and so it is held open there too
  pub held_with_more_known : IsHeldOpen net (fix net more) marks
  held_with_more_known = record {
    unknown = λ n e. ((h.unknown n e).0, held_stays_unknown n e);
    held = λ g l e values may.
        h.held g l e values
        (zip_weaker (pin_at (fix net more) marks) (pin_at (fix net given) marks)
        (λ s v m. seen_below (is_marked marks s.0) (wire (fix net given) s) (wire (fix net more) s) v (known_below s.0) m)
        (gate_at net g).pins values may);
  }

pub holds_open_with_more : (net : Parts) (given more : List Trit) (gates : List ℕ) → length more ≡ length net.inputs + length net.latches → EachBelow given more → HoldsOpen net given gates → HoldsOpen net more gates
holds_open_with_more net given more gates width above h = grind (arith, held_with_more_known net given more h.marks h.held width above)

-- ---- taking gates out

unmarked-set : (marks : List Bool) (s n : ℕ) → is_marked (set marks s false) n ≡ true → is_marked marks n ≡ true
unmarked-set [] s n e = e
unmarked-set (b ∷ marks) zero zero e = absurd (true≢false (sym e))
unmarked-set (b ∷ marks) zero (suc n) e = e
unmarked-set (b ∷ marks) (suc s) zero e = e
unmarked-set (b ∷ marks) (suc s) (suc n) e = unmarked-set marks s n e

mark_count-set : (marks : List Bool) (s : ℕ) → is_marked marks s ≡ true → suc (mark_count (set marks s false)) ≡ mark_count marks
mark_count-set [] s e = absurd (true≢false (sym e))
mark_count-set (true ∷ marks) zero e = refl
mark_count-set (false ∷ marks) zero e = absurd (true≢false (sym e))
mark_count-set (true ∷ marks) (suc s) e = ap suc (mark_count-set marks s e)
mark_count-set (false ∷ marks) (suc s) e = mark_count-set marks s e

-- a mark that was taken away is gone
unmarked : (marks : List Bool) (s : ℕ) → is_marked (set marks s false) s ≡ false
unmarked [] s = refl
unmarked (b ∷ marks) zero = refl
unmarked (b ∷ marks) (suc s) = unmarked marks s

-- it changes what the pins of a gate see only where one reads the signal
reads_or_sees_same : (known : List Trit) (marks : List Bool) (s : Sig) (pins : List Sig) →
    Contains pins s ⊎ (map (pin_at known (set marks s.0 false)) pins ≡ map (pin_at known marks) pins)
reads_or_sees_same known marks s [] = inr refl
reads_or_sees_same known marks s (p ∷ pins) = grind (arith, cases_eq, Contains-here, reads_or_sees_same known marks s pins, Contains-there, get_or-set_other)

module _ (net : Parts) (before known : List Trit) (n : ℕ) (listed : List ℕ) (h : AreChangedReaders net before known n listed) where
  pub changed_next : (reads : List Read) (s : Sig) → IsFanoutOf net reads → s.0 ≡ n → AreChangedReaders net before known (n + 1) (listed ++ readers_of reads s)
  changed_next reads s readers is = record {
    gates = All-append (λ g. g < length net.gates) listed (readers_of reads s) h.gates (readers_of-below net reads s readers);
    all = λ g r l pin below differs.
        elim (cases_eq r.0 n) [
          | inl same ↦
              let one : r ≡ s = ap (λ (k : ℕ). let t : Sig = record { 0 = k } in t) (same ∙ sym is) in
              Contains-append_right listed (readers_of reads s) g (readers_of-contain net reads g s readers l (subst (λ (t : Sig). Contains (gate_at net g).pins t) one pin))
          | inr apart ↦ Contains-append_left listed (readers_of reads s) g (h.all g r l pin (omega arith) differs)
        ];
  }

  pub changed_not : get_or before n X ≡ get_or known n X → AreChangedReaders net before known (n + 1) listed
  changed_not alike = record {
    gates = h.gates;
    all = λ g r l pin below differs.
        elim (cases_eq r.0 n) [
          | inl same ↦ absurd (differs (subst (λ (k : ℕ). get_or before k X ≡ get_or known k X) (sym same) alike))
          | inr apart ↦ h.all g r l pin (omega arith) differs
        ];
  }

pub changed_none : (net : Parts) (before known : List Trit) → AreChangedReaders net before known 0 []
changed_none net before known = record {
  gates = λ k d l. absurd (omega arith);
  all = λ g s l pin below. absurd (omega arith);
}

same_or_not : (a b : Trit) → (a ≡ b) ⊎ (a ≢ b)
same_or_not a b = grind arith

-- a pin of the gate reads a signal whose value is another one now, or the pins see the same
changed_or_sees_same : (before known : List Trit) (marks : List Bool) (pins : List Sig) →
    ((s : Sig) × Contains pins s × (wire before s ≢ wire known s)) ⊎ (map (pin_at before marks) pins ≡ map (pin_at known marks) pins)
changed_or_sees_same before known marks [] = inr refl
changed_or_sees_same before known marks (p ∷ pins) =
    elim (same_or_not (wire before p) (wire known p)) [
      | inr differs ↦ inl (p, Contains-here p pins, differs)
      | inl alike ↦
          elim (changed_or_sees_same before known marks pins) [
            | inl later ↦ inl (later.0, Contains-there p pins later.0 later.1, later.2)
            | inr same ↦ inr (ap (λ v. seen (is_marked marks p.0) v ∷ map (pin_at before marks) pins) alike ∙ ap (λ ps. pin_at known marks p ∷ ps) same)
          ]
    ]

module _ (net : Parts) (known : List Trit) (reads : List Read) (all : List Bool) (readers : IsFanoutOf net reads) (unknown : AreUnknownGates net known all) where
  pub shrinking_first : (before : List Trit) (queue : List ℕ) → length before ≡ count net → length known ≡ count net → IsHeldOpen net before all → AreChangedReaders net before known (count net) queue → IsShrinking net known all all queue
  shrinking_first before queue size known_size held h = record {
    size = refl;
    fewer = λ n e. e;
    kept = λ others open' w. w;
    gates = h.gates;
    rest = λ g l e.
        elim (changed_or_sees_same before known all (gate_at net g).pins) [
          | inl pin ↦
              inl
              (elim (cases_lt pin.0.0 (count net)) [
                | inl below ↦ h.all g pin.0 l pin.1 below pin.2
                | inr past ↦ absurd (pin.2 (get_or_past before pin.0.0 X (omega arith) ∙ sym (get_or_past known pin.0.0 X (omega arith))))
              ])
          | inr same ↦ inr (subst (λ (pins : List Pin). StaysOpen (gate_at net g).cover pins) same (held.held g l e))
        ];
  }

  module _ (marks : List Bool) (g : ℕ) (queue : List ℕ) (h : IsShrinking net known all marks (g ∷ queue)) where
    inside : g < length net.gates
    inside = All-head (λ k. k < length net.gates) g queue h.gates

    -- the gate stays
    shrinking_held : (is_marked marks (gate_sig net g).0 ≡ true → IsHeld net known marks g) → IsShrinking net known all marks queue
    shrinking_held held = record {
      size = h.size;
      fewer = h.fewer;
      kept = h.kept;
      gates = All-tail (λ k. k < length net.gates) g queue h.gates;
      rest = λ k l e.
          elim (h.rest k l e) [
            | inl c ↦
                elim (Contains-cases g queue k c) [
                  | inl same ↦ inr (subst (λ (m : ℕ). IsHeld net known marks m) same (held (subst (λ (m : ℕ). is_marked marks (gate_sig net m).0 ≡ true) (sym same) e)))
                  | inr later ↦ inl later
                ]
            | inr x ↦ inr x
          ];
    }

    -- the gate is taken out
    shrinking_out : is_marked marks (gate_sig net g).0 ≡ true → (¬ IsHeld net known marks g) → IsShrinking net known all (set marks (gate_sig net g).0 false) (queue ++ readers_of reads (gate_sig net g))
    shrinking_out marked none = record {
      size = length-set marks (gate_sig net g).0 false ∙ h.size;
      fewer = λ n e. h.fewer n (unmarked-set marks (gate_sig net g).0 n e);
      kept = λ others held w n e.
          elim (cases_eq n (gate_sig net g).0) [
            | inl same ↦
                absurd (none
                (held_with_more net known others marks g (λ m f. unknown m (h.fewer m f)) (h.kept others held w)
                (held.held g inside (subst (λ (m : ℕ). is_marked others m ≡ true) same e))))
            | inr apart ↦ get_or-set_other marks (gate_sig net g).0 n false false apart ∙ h.kept others held w n e
          ];
      gates =
          All-append (λ k. k < length net.gates) queue (readers_of reads (gate_sig net g))
          (All-tail (λ k. k < length net.gates) g queue h.gates) (readers_of-below net reads (gate_sig net g) readers);
      rest = λ k l e.
          elim (h.rest k l (unmarked-set marks (gate_sig net g).0 (gate_sig net k).0 e)) [
            | inl c ↦
                elim (Contains-cases g queue k c) [
                  | inl same ↦ absurd (true≢false (sym e ∙ subst (λ (m : ℕ). is_marked (set marks (gate_sig net g).0 false) (gate_sig net m).0 ≡ false) same (unmarked marks (gate_sig net g).0)))
                  | inr later ↦ inl (Contains-append_left queue (readers_of reads (gate_sig net g)) k later)
                ]
            | inr x ↦
                elim (reads_or_sees_same known marks (gate_sig net g) (gate_at net k).pins) [
                  | inl pin ↦ inl (Contains-append_right queue (readers_of reads (gate_sig net g)) k (readers_of-contain net reads k (gate_sig net g) readers l pin))
                  | inr same ↦ inr (subst (λ (pins : List Pin). StaysOpen (gate_at net k).cover pins) (sym same) x)
                ]
          ];
    }

    pub shrinking_next : (new : List Bool) (later : List ℕ) → HasLookedAt net known reads g marks new queue later → IsShrinking net known all new later
    shrinking_next new later looked =
        elim looked [
          | inl out ↦ rw (out.0.0, out.1) (shrinking_out out.0.1 out.0.2)
          | inr stays ↦ rw (stays.0.0, stays.1) (shrinking_held stays.0.1)
        ]

    pub looks_fall : (new : List Bool) (later : List ℕ) → HasLookedAt net known reads g marks new queue later → looks_left reads new later < looks_left reads marks (g ∷ queue)
    looks_fall new later looked =
        elim looked [
          | inl out ↦
              rw (out.0.0, out.1)
              (let less = mark_count-set marks (gate_sig net g).0 out.0.1 in
              falls (mark_count (set marks (gate_sig net g).0 false)) (mark_count marks) (length reads) (length queue) (length (queue ++ readers_of reads (gate_sig net g)))
              (omega arith)
              (omega (arith, length-append queue (readers_of reads (gate_sig net g)), readers_of-length reads (gate_sig net g))))
          | inr stays ↦ rw (stays.0.0, stays.1) (omega arith)
        ]
