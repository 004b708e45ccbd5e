-- The parts of an excerpt make a netlist.
use Rattle.std.proofs.Common.{◌≡◌, ◌≢◌, inl, inr, ◌⊎◌, ℕ, ◌+◌, ◌-◌, ◌<◌, ◌≤◌, true, false, List, [], ◌∷◌, ◌++◌, length, map, get_or, eqb, Some, refl, sym, ap, ap₂, ◌∙◌, subst, arith, Contains, take, slice_get}
use Rattle.isolation.proofs.Common.{cases_lt, eqb-true, ext_get_or, get_or-map, get_or_default, get_or-append_right, length-map, length-append, map-append, All, list_any, Sig, Gate, Parts, IsNetlist, count, gate_at, gate_sig, no_gate, signal, first_gate, origins, origin, gate_in, IsExcerpt, AreClosed, AreCopies, name_at, Contains-get_or}
use Rattle.cyc_base.proofs.ListLemmas.{Contains-map}
use Rattle.std.proofs.lemmas.Bool.{ne_eqb}
use Rattle.std.proofs.lemmas.Cmp.{nat_list_eq_equiv}
use Rattle.std.proofs.lemmas.List.{take_more}
use Rattle.std.proofs.lemmas.Option.{get_or_from_slice_get}
use Rattle.std.proofs.lemmas.Map.Keys.{apart_from_distinct, IsDistinct-from_apart}
use Rattle.std.proofs.lemmas.Map.Steps.{length-le_from_distinct_below}
use Rattle.std.proofs.lemmas.Map.Views.{Contains-from_any}
use Rattle.std.specs.List.{IsDistinct}
use Rattle.std.specs.Str.{bytes_eq}
use Rattle.cyc_base.specs.Names.{IsBlifName}
use Rattle.netlist.specs.declared.parts.Latch.{Latch}
use Rattle.netlist.specs.declared.parts.PartsFault.{PartsFault}
use Rattle.netlist.specs.declared.parts.PartsFault.TheVariants.{Memory}
use Rattle.netlist.specs.Faults.{first_fault}
use Rattle.netlist.proofs.Validity.{no_fault_of_netlist}
use Rattle.netlist.specs.Netlists.{IsSignal, driven_names, sig_eq, signal_names}
use Rattle.loops.specs.Placing.{Rise}
use Rattle.isolation.specs.Excerpts.{AreOnce}
use Rattle.isolation.proofs.OriginLemmas.{origins-size, origin-wire, origin-gate}
use Rattle.isolation.specs.Building.{AreApart, AreNumerable, IsNamedBy}

none-twice : IsDistinct sig_eq []
unfolding IsDistinct
none-twice = tt

-- ---- the signals that an excerpt has

module _ (net : Parts) (gates : List ℕ) (outside : List Sig) (gates_in : All (λ gate. gate < length net.gates) gates) (outside_in : All (λ s. s.0 < count net) outside)
    (apart : AreApart net gates outside) (rise : Rise gates) (once : AreOnce outside) where
  gate-at : (k : ℕ) → length outside ≤ k → k < length (origins net outside gates) → get_or (origins net outside gates) k (signal 0) ≡ gate_sig net (gate_in gates (k - length outside))
  gate-at k high within = origin-gate net outside gates k (k - length outside) (omega (arith, origins-size net outside gates)) (omega (arith, high))

  origin-within : (k : ℕ) → k < length (origins net outside gates) → (get_or (origins net outside gates) k (signal 0)).0 < count net
  origin-within k within = grind (arith, cases_lt k (length outside), origin-wire net outside gates k (signal 0), origins-size net outside gates, gate-at k)

  origin-once : (i j : ℕ) → i < j → j < length (origins net outside gates) → get_or (origins net outside gates) i (signal 0) ≢ get_or (origins net outside gates) j (signal 0)
  origin-once i j less within same = elim (cases_lt j (length outside)) [
    | inl low ↦ once i j less low (sym (origin-wire net outside gates i (signal 0) (omega (arith, less, low))) ∙ same ∙ origin-wire net outside gates j (signal 0) low)
    | inr high ↦
        let inside : j - length outside < length gates = omega (arith, origins-size net outside gates) in
        elim (cases_lt i (length outside)) [
          | inl low ↦
              apart (get_or outside i (signal 0)) (Contains-get_or outside i (signal 0) low)
              (subst (Contains (map (gate_sig net) gates)) (sym (gate-at j high within) ∙ sym same ∙ origin-wire net outside gates i (signal 0) low) (Contains-map (gate_sig net) gates (gate_in gates (j - length outside)) (Contains-get_or gates (j - length outside) 0 inside)))
          | inr later ↦
              let e = ap (λ (r : Sig). r.0) (sym (gate-at i later (omega (arith, less, within))) ∙ same ∙ gate-at j high within) in
              let r = rise (i - length outside) (j - length outside) (omega (arith, less, later, high)) inside in
              omega (arith, e, r)
        ]
  ]

  number-at : (k d : ℕ) → k < length (origins net outside gates) → get_or (map (λ (s : Sig). s.0) (origins net outside gates)) k d ≡ (get_or (origins net outside gates) k (signal 0)).0
  number-at k d within = get_or-map (λ (s : Sig). s.0) (origins net outside gates) k (signal 0) d within

  distinct : IsDistinct eqb (map (λ (s : Sig). s.0) (origins net outside gates))
  distinct =
      let len = length-map (origins net outside gates) (λ (s : Sig). s.0) in
      IsDistinct-from_apart eqb (map (λ (s : Sig). s.0) (origins net outside gates)) (λ i j d less within.
      let inside : j < length (origins net outside gates) = omega (arith, within, len) in
      ne_eqb _ _ (λ same. origin-once i j less inside (ap signal (sym (number-at i d (omega (arith, less, inside))) ∙ same ∙ number-at j d inside))))

  below : (q : ℕ) → list_any (eqb q) (map (λ (s : Sig). s.0) (origins net outside gates)) ≡ true → q < count net
  below q any =
      let c : Contains (map (λ (s : Sig). s.0) (origins net outside gates)) q = Contains-from_any {eq = eqb} eqb-true q (map (λ (s : Sig). s.0) (origins net outside gates)) any in
      let len = length-map (origins net outside gates) (λ (s : Sig). s.0) in
      let inside : c.0 < length (origins net outside gates) = omega (arith, c.1, len) in
      let is : (get_or (origins net outside gates) c.0 (signal 0)).0 ≡ q = sym (number-at c.0 q inside) ∙ c.2 in
      subst (λ (n : ℕ). n < count net) is (origin-within c.0 inside)

  -- there are no more than the netlist has
  pub few : length outside + length gates ≤ count net
  few =
      let most = length-le_from_distinct_below (map (λ (s : Sig). s.0) (origins net outside gates)) (count net) distinct below in
      let len = length-map (origins net outside gates) (λ (s : Sig). s.0) in
      omega (arith, most, len, origins-size net outside gates)

  -- ---- their names

  module _ (valid : IsNetlist net) where
    names-size : length (signal_names net) ≡ count net
    names-size =
        let b = length-append (map (λ (l : Latch). l.name) net.latches) (map (λ (g : Gate). g.name) net.gates) in
        let c = length-map net.latches (λ (l : Latch). l.name) in
        let d = length-map net.gates (λ (g : Gate). g.name) in
        omega (arith, length-append net.inputs (driven_names net), b, c, d)

    names-apart : (a b : ℕ) → a < count net → b < count net → a ≢ b → bytes_eq (get_or (signal_names net) a []) (get_or (signal_names net) b []) ≡ false
    names-apart a b al bl ne = elim (cases_lt a b) [
      | inl low ↦ apart_from_distinct bytes_eq (signal_names net) a b [] valid.names_differ low (let n = names-size in omega (arith, n, bl))
      | inr high ↦
          nat_list_eq_equiv.symm (get_or (signal_names net) a []) (get_or (signal_names net) b [])
          ∙ apart_from_distinct bytes_eq (signal_names net) b a [] valid.names_differ
          (elim (cases_lt b a) [ inl low ↦ low | inr other ↦ absurd (ne (omega (arith, high, other))) ])
          (let n = names-size in omega (arith, n, al))
    ]

    name-of : (k : ℕ) (d : List ℕ) → k < length (origins net outside gates) → get_or (map (name_at net) (origins net outside gates)) k d ≡ get_or (signal_names net) (get_or (origins net outside gates) k (signal 0)).0 []
    name-of k d within = get_or-map (name_at net) (origins net outside gates) k (signal 0) d within

    names-once : IsDistinct bytes_eq (map (name_at net) (origins net outside gates))
    names-once =
        IsDistinct-from_apart bytes_eq (map (name_at net) (origins net outside gates)) (λ i j d less within.
        let inside : j < length (origins net outside gates) = omega (arith, length-map (origins net outside gates) (name_at net)) in
        let early : i < length (origins net outside gates) = omega (arith, less, inside) in
        ap₂ bytes_eq (name-of i d early) (name-of j d inside)
        ∙ names-apart (get_or (origins net outside gates) i (signal 0)).0 (get_or (origins net outside gates) j (signal 0)).0 (origin-within i early) (origin-within j inside)
        (λ same. origin-once i j less inside (ap signal same)))

    names-blif : All IsBlifName (map (name_at net) (origins net outside gates))
    names-blif k d within = grind (arith, length-map (origins net outside gates) (name_at net), name-of k d, names-size, origin-within k)

    gate-name : (g : ℕ) → g < length net.gates → name_at net (gate_sig net g) ≡ (gate_at net g).name
    gate-name g less =
        let c = length-map net.latches (λ (l : Latch). l.name) in
        get_or-append_right net.inputs (driven_names net) (length net.inputs) (first_gate net + g) [] refl (omega arith)
        ∙ ap (λ (n : ℕ). get_or (driven_names net) n []) (let e : (first_gate net + g) - length net.inputs ≡ length net.latches + g = omega arith in e)
        ∙ get_or-append_right (map (λ (l : Latch). l.name) net.latches) (map (λ (g : Gate). g.name) net.gates) (length net.latches) (length net.latches + g) [] c (omega arith)
        ∙ ap (λ (n : ℕ). get_or (map (λ (g : Gate). g.name) net.gates) n []) (let e : (length net.latches + g) - length net.latches ≡ g = omega arith in e)
        ∙ get_or-map (λ (g : Gate). g.name) net.gates g no_gate [] less

    module _ (small : Parts) (is : IsExcerpt net outside gates small) (named : IsNamedBy net outside gates small) where
      gate-names : map (λ (g : Gate). g.name) small.gates ≡ map (name_at net) (map (gate_sig net) gates)
      gate-names =
          let a = length-map small.gates (λ (g : Gate). g.name) in
          let d = length-map gates (gate_sig net) in
          ext_get_or [] (map (λ (g : Gate). g.name) small.gates) (map (name_at net) (map (gate_sig net) gates)) (omega (arith, a, length-map (map (gate_sig net) gates) (name_at net), d, is.size)) (λ k less.
          let inside : k < length gates = omega (arith, a, is.size) in
          get_or-map (λ (g : Gate). g.name) small.gates k no_gate [] (omega (arith, less, a))
          ∙ named.copies k inside
          ∙ sym (gate-name (gate_in gates k) (gates_in k 0 inside))
          ∙ ap (name_at net) (sym (get_or-map (gate_sig net) gates k 0 (signal 0) inside))
          ∙ sym (get_or-map (name_at net) (map (gate_sig net) gates) k (signal 0) [] (omega (arith, inside, d))))

      names-are : signal_names small ≡ map (name_at net) (origins net outside gates)
      names-are = grind (arith, gate-names, map-append (name_at net) outside (map (gate_sig net) gates))

      count-is : count small ≡ length outside + length gates
      count-is = grind arith

      none-in : {T : Type 0} (P : T → Type 0) (xs : List T) → xs ≡ [] → All P xs
      none-in P xs none k d less = let e = ap length none in absurd (omega (arith, e, less))

      pub excerpt-valid : IsNetlist small
      excerpt-valid = record {
        fits = (let f = few in let c = count-is in let n = valid.fits in omega (arith, f, c, n));
        pins = λ k d less i e within.
            let at : get_or small.gates k d ≡ gate_at small k = get_or_default small.gates k d no_gate less in
            let p = named.pins k (omega (arith, is.size)) i e (subst (λ (g : Gate). i < length g.pins) at within) in
            let same : (get_or (get_or small.gates k d).pins i e).0 ≡ (get_or (gate_at small k).pins i e).0 = ap (λ (g : Gate). (get_or g.pins i e).0) at in
            omega (arith, p, count-is, origins-size net outside gates);
        sources = none-in (λ (l : Latch). IsSignal small l.from) small.latches named.latches;
        outputs = none-in (IsSignal small) small.outputs named.outputs;
        pin_counts = λ k d less.
            let inside : k < length gates = omega (arith, is.size) in
            subst (λ (g : Gate). length g.pins ≡ g.cover.pins) (get_or_default small.gates k no_gate d less)
            (sym (length-map (gate_at small k).pins (origin (origins net outside gates)))
            ∙ ap length (is.pins k inside)
            ∙ valid.pin_counts (gate_in gates k) no_gate (gates_in k 0 inside)
            ∙ ap (λ c. c.pins) (sym (is.covers k inside)));
        name = subst IsBlifName (sym named.name) valid.name;
        names = subst (All IsBlifName) (sym names-are) names-blif;
        names_differ = subst (IsDistinct bytes_eq) (sym names-are) names-once;
        outputs_differ = subst (IsDistinct sig_eq) (sym named.outputs) none-twice;
        clocked = rw (named.latches, named.clock) refl;
        clock = rw named.clock tt;
      }

-- the signals of what is closed can be numbered
pub numerable : (net : Parts) (gates : List ℕ) (outside : List Sig) → IsNetlist net → All (λ gate. gate < length net.gates) gates → All (λ s. s.0 < count net) outside → AreApart net gates outside → AreClosed net gates outside → AreNumerable gates outside
numerable net gates outside valid gates_in outside_in apart closed = grind (arith, few net gates outside gates_in outside_in apart closed.rise closed.once)

-- ---- its parts

pub parts_excerpt : (net : Parts) (outside : List Sig) (gates : List ℕ) (small : Parts) (inputs : List (List ℕ)) (copies : List Gate) → AreApart net gates outside →
    small.inputs ≡ inputs → inputs ≡ map (name_at net) outside → small.latches ≡ [] → small.gates ≡ copies → AreCopies net (origins net outside gates) gates copies (length gates) → IsExcerpt net outside gates small
parts_excerpt net outside gates small inputs copies apart i names l g are = grind (arith, length-map outside (name_at net))

-- parts that make a netlist have no fault
pub no_fault : (parts : Parts) (fault : PartsFault) → (fault ≡ Memory) ⊎ (first_fault parts ≡ Some fault) → (fault ≢ Memory) → IsNetlist parts → ⊥
no_fault parts fault h other valid = grind (arith, no_fault_of_netlist)

-- a name more
pub names_more : (net : Parts) (signals : List Sig) (names new : List (List ℕ)) (i : ℕ) (d : Sig) (name read : List ℕ) → i < length signals → names ≡ map (name_at net) (take i signals) → new ≡ names ++ name ∷ [] → name ≡ read →
    slice_get (signal_names net) (get_or signals i d).0 ≡ Some read → new ≡ map (name_at net) (take (i + 1) signals)
names_more net signals names new i d name read less before is same at =
    grind (arith, get_or_from_slice_get (signal_names net) (get_or signals i d).0 read [], take_more signals i d less, map-append (name_at net) (take i signals) (get_or signals i d ∷ []))
