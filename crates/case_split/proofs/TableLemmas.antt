-- Tables, while gates are copied.
use Rattle.std.proofs.Common.{◌≡◌, ◌⊎◌, inl, inr, ℕ, ◌+◌, ◌<◌, Bool, List, [], ◌∷◌, ◌++◌, length, map, get_or, set, take, All, Decides, sym, ap, ◌∙◌, subst, arith}
use Rattle.std.proofs.lemmas.Bool.{cases_eq}
use Rattle.std.proofs.lemmas.List.{get_or-append-add, get_or-map, get_or-set_other, get_or-set_same, get_or-take, length-append, length-map, length-set, length-take, take_more}
use Rattle.std.proofs.lemmas.List.Elements.{All-append, All-cons, All-map, All-nil}
use Rattle.cyc_base.specs.declared.sig.Sig.{Sig}
use Rattle.cyc_base.specs.declared.trit.Trit.{Trit}
use Rattle.netlist.specs.declared.parts.Gate.{Gate}
use Rattle.netlist.specs.declared.parts.Parts.{Parts}
use Rattle.netlist.specs.declared.parts.Latch.{Latch}
use Rattle.netlist.specs.Netlists.{count, driven_names, gate_at, gate_sig, no_gate, signal_names, IsNetlist}
use Rattle.cyc_base.specs.Names.{IsBlifName}
use Rattle.case_split.specs.declared.operands.Operand.{Operand}
use Rattle.case_split.specs.declared.operands.Operand.TheVariants.{Constant, Wire}
use Rattle.case_split.specs.contracts.operands.OperandPartialEq.TheImpl.{eq-value}
use Rattle.case_split.specs.Operands.{IsWithin, Tells}
use Rattle.case_split.specs.Added.{AreNew, IsAdded, IsMore}
use Rattle.case_split.specs.Tables.{operand_at, IsKnownBy, IsPlain, IsCopy, IsMade, AreStanding, IsCopyStep, AreCopySteps}
use Rattle.case_split.proofs.AddedLemmas.{all_within_more, more_length, more_none, more_trans, more_weaker, tells_more}

pub operands_decide : (a b : Operand) → Decides (eq-value.it a b) (a ≡ b)
operands_decide a b = grind arith

one_signal : (s t : Sig) → s.0 ≡ t.0 → s ≡ t
one_signal s t e = grind arith

-- ---- with more gates

copy_more : (net : Parts) (first : ℕ) (a b : List Gate) (m : ℕ) (table : List Operand) (n : ℕ) → IsMore a b m → IsCopy net first a table n → IsCopy net first b table n
copy_more net first a b m table n h copy = record {
  operands = copy.operands;
  width = copy.width;
  each = copy.each;
  tells = tells_more first a b m (gate_at net n).cover copy.operands (operand_at table (gate_sig net n)) h copy.tells;
}

pub made_more : (net : Parts) (values : List Trit) (first : ℕ) (a b : List Gate) (m : ℕ) (table : List Operand) (n : ℕ) → IsMore a b m → IsMade net values first a table n → IsMade net values first b table n
made_more net values first a b m table n h (inl known) = inl known
made_more net values first a b m table n h (inr copy) = inr (copy_more net first a b m table n h copy)

pub standing_more : (net : Parts) (values : List Trit) (a b : List Gate) (m : ℕ) (table : List Operand) → IsMore a b m → AreStanding net values a table → AreStanding net values b table
standing_more net values a b m table h stand s l = elim (stand s l) [
  | inl plain ↦ inl plain
  | inr copied ↦ inr (record { gate = copied.gate; within = copied.within; is = copied.is; copy = copy_more net (count net) a b m table copied.gate h copied.copy })
]

-- ---- a gate stands already

made_at : (net : Parts) (values : List Trit) (gates : List Gate) (table : List Operand) (n : ℕ) → n < length net.gates → (operand_at table (gate_sig net n) ≡ Wire (gate_sig net n) → ⊥) → AreStanding net values gates table → IsMade net values (count net) gates table n
made_at net values gates table n l other stand = elim (stand (gate_sig net n) (omega arith)) [
  | inl plain ↦ elim plain [ inl itself ↦ absurd (other itself) | inr known ↦ inl known ]
  | inr copied ↦ inr (subst (IsCopy net (count net) gates table) (let e : copied.gate ≡ n = (let d = ap (λ (s : Sig). s.0) copied.is in omega arith) in e) copied.copy)
]

pub nothing_copied : (net : Parts) (n : ℕ) (gates : List Gate) (table : List Operand) → n < length net.gates → (operand_at table (gate_sig net n) ≡ Wire (gate_sig net n) → ⊥) → AreNew net gates → length table ≡ count net → All (IsWithin (count net + length gates)) table → IsCopyStep net n gates gates table table
nothing_copied net n gates table l other are width within = record {
  more = more_weaker gates gates 0 1 (omega arith) (more_none gates);
  are = are;
  width = width;
  within = within;
  stand = λ values stand. stand;
  made = λ values stand. made_at net values gates table n l other stand;
  stays = λ values m k made. made;
}

-- ---- a gate is copied

module _ (net : Parts) (n : ℕ) (old new : List Gate) (table : List Operand) (operand : Operand) (l : n < length net.gates) (width : length table ≡ count net)
    (itself : operand_at table (gate_sig net n) ≡ Wire (gate_sig net n)) (pins : length (gate_at net n).pins ≡ (gate_at net n).cover.pins)
    (is : IsAdded net (gate_at net n).cover (map (operand_at table) (gate_at net n).pins) old new operand) where
  abbrev now : List Operand
  now = set table (gate_sig net n).0 operand

  now_here : operand_at now (gate_sig net n) ≡ operand
  now_here = get_or-set_same table (gate_sig net n).0 operand (Wire (gate_sig net n)) (omega arith)

  now_there : (s : Sig) → (s.0 ≡ (gate_sig net n).0 → ⊥) → operand_at now s ≡ operand_at table s
  now_there s other = get_or-set_other table (gate_sig net n).0 s.0 operand (Wire s) other

  -- what stood for a pin is the pin itself, or stands for it still
  still : (s : Sig) (o : Operand) → o ≡ operand_at table s → (o ≡ Wire s) ⊎ (o ≡ operand_at now s)
  still s o e = elim (cases_eq s.0 (gate_sig net n).0) [
    | inl same ↦ inl (e ∙ subst (λ (t : Sig). operand_at table t ≡ Wire t) (sym (one_signal s (gate_sig net n) same)) itself)
    | inr other ↦ inr (e ∙ sym (now_there s other))
  ]

  the_copy : IsCopy net (count net) new now n
  the_copy = record {
    operands = map (operand_at table) (gate_at net n).pins;
    width = length-map (gate_at net n).pins (operand_at table);
    each = λ i d k. still (get_or (gate_at net n).pins i d) (get_or (map (operand_at table) (gate_at net n).pins) i (Wire d)) (get_or-map (operand_at table) (gate_at net n).pins i d (Wire d) k);
    tells = subst (λ (o : Operand). Tells (count net) new (gate_at net n).cover (map (operand_at table) (gate_at net n).pins) o) (sym now_here) is.tells;
  }

  kept_copy : (m : ℕ) → (m ≡ n → ⊥) → IsCopy net (count net) old table m → IsCopy net (count net) new now m
  kept_copy m other copy = record {
    operands = copy.operands;
    width = copy.width;
    each = λ i d k. elim (copy.each i d k) [
      | inl e ↦ inl e
      | inr e ↦ still (get_or (gate_at net m).pins i d) (get_or copy.operands i (Wire d)) e
    ];
    tells = subst (λ (o : Operand). Tells (count net) new (gate_at net m).cover copy.operands o) (sym (now_there (gate_sig net m) (λ e. other (omega (arith, e)))))
        (tells_more (count net) old new 1 (gate_at net m).cover copy.operands (operand_at table (gate_sig net m)) is.more copy.tells);
  }

  kept_known : (values : List Trit) (s : Sig) → IsKnownBy values s (operand_at table s) → IsKnownBy values s (operand_at now s)
  kept_known values s known = elim (cases_eq s.0 (gate_sig net n).0) [
    | inl same ↦
        let z : operand_at table s ≡ Wire s = subst (λ (t : Sig). operand_at table t ≡ Wire t) (sym (one_signal s (gate_sig net n) same)) itself in
        absurd (constant_or_wire known.value s (sym known.is ∙ z))
    | inr other ↦ subst (IsKnownBy values s) (sym (now_there s other)) known
  ]
    where
      constant_or_wire : (b : Bool) (t : Sig) → Constant b ≡ Wire t → ⊥
      constant_or_wire b t e = cc

  standing_now : (values : List Trit) → AreStanding net values old table → AreStanding net values new now
  standing_now values stand s k = elim (cases_eq s.0 (gate_sig net n).0) [
    | inl same ↦ inr (record { gate = n; within = l; is = one_signal s (gate_sig net n) same; copy = the_copy })
    | inr other ↦ elim (stand s k) [
      | inl plain ↦ inl (subst (IsPlain values s) (sym (now_there s other)) plain)
      | inr copied ↦ inr (record {
        gate = copied.gate;
        within = copied.within;
        is = copied.is;
        copy = kept_copy copied.gate (λ e. other (let d = ap (λ (t : Sig). t.0) copied.is in omega (arith, e))) copied.copy;
      })
    ]
  ]

  made_now : (values : List Trit) (m : ℕ) → IsMade net values (count net) old table m → IsMade net values (count net) new now m
  made_now values m (inl known) = inl (kept_known values (gate_sig net m) known)
  made_now values m (inr copy) = elim (cases_eq m n) [
    | inl same ↦ inr (subst (IsCopy net (count net) new now) (sym same) the_copy)
    | inr other ↦ inr (kept_copy m other copy)
  ]

  pub gate_copied : All (IsWithin (count net + length old)) table → IsCopyStep net n old new table now
  gate_copied within = record {
    more = is.more;
    are = is.are;
    width = length-set table (gate_sig net n).0 operand ∙ width;
    within = λ i d k.
        let e = length-set table (gate_sig net n).0 operand in
        let longer = more_length old new 1 is.more in
        elim (cases_eq i (gate_sig net n).0) [
          | inl same ↦ subst (IsWithin (count net + length new)) (sym (ap (λ j. get_or now j d) same ∙ get_or-set_same table (gate_sig net n).0 operand d (omega arith))) is.within
          | inr other ↦ subst (IsWithin (count net + length new)) (sym (get_or-set_other table (gate_sig net n).0 i operand d other))
              (all_within_more (count net + length old) (count net + length new) table (let x = longer.0 in omega arith) within i d (omega arith))
        ];
    stand = standing_now;
    made = λ values stand. inr the_copy;
    stays = λ values m k. made_now values m;
  }

-- ---- by what is known of the parts

pub copy_answer : (net : Parts) (n : ℕ) (old new : List Gate) (table : List Operand) (operand : Operand) (signal : Sig) → IsNetlist net → n < length net.gates → length table ≡ count net → signal ≡ gate_sig net n → operand_at table signal ≡ Wire signal →
    IsAdded net (gate_at net n).cover (map (operand_at table) (gate_at net n).pins) old new operand → All (IsWithin (count net + length old)) table → IsCopyStep net n old new table (set table signal.0 operand)
copy_answer net n old new table operand signal valid l width es itself is within =
    subst (λ (s : Sig). IsCopyStep net n old new table (set table s.0 operand)) (sym es)
    (gate_copied net n old new table operand l width (subst (λ (s : Sig). operand_at table s ≡ Wire s) es itself) (valid.pin_counts n no_gate l) is within)

pub operands_within : (bound : ℕ) (table : List Operand) (pins : List Sig) → All (λ s. s.0 < length table) pins → All (IsWithin bound) table → All (IsWithin bound) (map (operand_at table) pins)
operands_within bound table pins inside all = All-map (IsWithin bound) (operand_at table) pins (λ i d k. all (get_or pins i d).0 (Wire (get_or pins i d)) (inside i d k))

pub gate_name_fits : (net : Parts) (n : ℕ) → IsNetlist net → n < length net.gates → IsBlifName (gate_at net n).name
gate_name_fits net n valid l =
    let wide = length-map net.latches (λ (latch : Latch). latch.name) in
    let many = length-map net.gates (λ (gate : Gate). gate.name) in
    let all = length-append net.inputs (driven_names net) in
    let driven = length-append (map (λ (latch : Latch). latch.name) net.latches) (map (λ (gate : Gate). gate.name) net.gates) in
    let at : get_or (signal_names net) (length net.inputs + (length (map (λ (latch : Latch). latch.name) net.latches) + n)) [] ≡ (gate_at net n).name =
    get_or-append-add net.inputs (driven_names net) (length (map (λ (latch : Latch). latch.name) net.latches) + n) []
    ∙ get_or-append-add (map (λ (latch : Latch). latch.name) net.latches) (map (λ (gate : Gate). gate.name) net.gates) n []
    ∙ get_or-map (λ (gate : Gate). gate.name) net.gates n no_gate [] l in
    subst IsBlifName at (valid.names (length net.inputs + (length (map (λ (latch : Latch). latch.name) net.latches) + n)) [] (omega arith))

-- ---- gates one after another

pub next_copied : (net : Parts) (list : List ℕ) (j n : ℕ) (old mid new : List Gate) (before between after : List Operand) → AreCopySteps net (take j list) old mid before between → All (λ m. m < length net.gates) list → j < length list → get_or list j 0 ≡ n →
    IsCopyStep net n mid new between after → AreCopySteps net (take (j + 1) list) old new before after
next_copied net list j n old mid new before between after steps all l at step =
    let more : take (j + 1) list ≡ take j list ++ n ∷ [] = take_more list j 0 l ∙ ap (λ m. take j list ++ m ∷ []) at in
    subst (λ (ms : List ℕ). AreCopySteps net ms old new before after) (sym more)
    (record {
      more = subst (IsMore old new) (sym (length-append (take j list) (n ∷ []))) (more_trans old mid new (length (take j list)) 1 steps.more step.more);
      are = step.are;
      width = step.width;
      within = step.within;
      stand = λ values stand. step.stand values (steps.stand values stand);
      made = λ values stand. All-append (IsMade net values (count net) new after) (take j list) (n ∷ [])
          (λ i d k. step.stays values (get_or (take j list) i d) (within_taken i d k) (steps.made values stand i d k))
          (All-cons (IsMade net values (count net) new after) n [] (step.made values (steps.stand values stand)) (All-nil (IsMade net values (count net) new after)));
    })
  where
    within_taken : (i d : ℕ) → i < length (take j list) → get_or (take j list) i d < length net.gates
    within_taken i d k =
        let e = length-take j list in
        subst (λ (m : ℕ). m < length net.gates) (sym (get_or-take j list i d (omega arith))) (all i d (omega arith))
