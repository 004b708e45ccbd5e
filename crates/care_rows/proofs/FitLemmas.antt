-- What is kept for rows whose wires no loop takes part in fits.
use Rattle.std.proofs.Common.{◌≡◌, ◌⊎◌, inl, inr, ℕ, zero, suc, ◌+◌, ◌-◌, ◌<◌, Bool, true, List, [], ◌∷◌, ◌++◌, length, map, get_or, All, Contains, Option, Some, None, refl, sym, ap, ◌∙◌, subst, arith}
use Rattle.std.specs.Prelude.{IfSome, option_map}
use Rattle.care_rows.proofs.Common.{AllByRecursion, AreSteadyRows, AreUsed, AnyGate, CareModel, Contains-get_or, CareSet, IsBoundTo, IsCare, IsCareModel, IsCareOf, IsConeOf, IsNetlist, IsSteadySignal, IsUpstream, Leads, Parts, Plan, Row, Sig, WireValue, assumed_columns, cases_lt, columns, gate_at, gate_sig, gates_of_rows, get_or-append_right, get_or-map, get_or_append_left, is_marked, length-append, length-map, no_gate, plan_by, recursion_from_All, signal, option_map_or}
use Rattle.std.proofs.lemmas.List.Elements.{Contains-append_left, Contains-append_right}
use Rattle.care_sets.proofs.BindingLemmas.{columns_within}
use Rattle.loops.proofs.UpstreamLemmas.{upstream-trans}
use Rattle.loops.proofs.Walks.{leads-step}
use Rattle.netlist.proofs.GraphLemmas.{numbers_from-signal, signal-numbers_from}
use Rattle.netlist.specs.Orders.{numbers_from}
use Rattle.care_rows.proofs.SteadyLemmas.{pin_feeds}
use Rattle.care_rows.proofs.PlanLemmas.{Fits, IsKeptSignal, IsOldOf}

contains_cases : {A : Type 0} (xs ys : List A) (x : A) → Contains (xs ++ ys) x → Contains xs x ⊎ Contains ys x
contains_cases xs ys x c =
    let n = length-append xs ys in
    let inside = c.1 in
    elim (cases_lt c.0 (length xs)) [
      | inl low ↦ inl (c.0, low, sym (get_or_append_left xs ys x c.0 low) ∙ c.2)
      | inr high ↦ inr (c.0 - length xs, omega (arith, inside, n, high), sym (get_or-append_right xs ys (length xs) c.0 x refl high) ∙ c.2)
    ]

abbrev wires_of : Row → List Sig
wires_of row = map (λ e. e.wire) row.values

-- no loop takes part in a gate that drives a wire of a row
drivers_steady : (net : Parts) (rows : List Row) → AllByRecursion (λ row. All (λ e. IsSteadySignal net e.wire) row.values) rows → (g : ℕ) → Contains (gates_of_rows net rows) g → IsSteadySignal net (gate_sig net g)
drivers_steady net [] steady g c = absurd (let l = c.1 in omega (arith, l))
drivers_steady net (row ∷ rows) steady g c =
    elim (contains_cases (numbers_from (columns net) (wires_of row)) (gates_of_rows net rows) g c) [
      | inl here ↦
          let s = signal-numbers_from (columns net) g (wires_of row) here in
          let n = length-map row.values (λ e. e.wire) in
          let l = s.1 in
          let inside : s.0 < length row.values = omega (arith, l, n) in
          let d : WireValue = record { wire = signal 0; value = true } in
          let is : (get_or row.values s.0 d).wire ≡ gate_sig net g = sym (get_or-map (λ e. e.wire) row.values s.0 d (signal (columns net + g)) inside) ∙ s.2 in
          subst (IsSteadySignal net) is (steady.0 s.0 d inside)
      | inr later ↦ drivers_steady net rows steady.1 g later
    ]

pub all_drivers_within : (net : Parts) (rows : List Row) (gates : List ℕ) → AreSteadyRows net rows → gates ≡ gates_of_rows net rows → All (λ n. n < length net.gates) gates
all_drivers_within net rows gates steady is k d l =
    let c : Contains (gates_of_rows net rows) (get_or gates k d) = subst (λ (xs : List ℕ). Contains xs (get_or gates k d)) is (Contains-get_or gates k d l) in
    let known = (drivers_steady net rows (recursion_from_All (λ row. All (λ e. IsSteadySignal net e.wire) row.values) rows steady) (get_or gates k d) c).within in
    omega (arith, known)

-- the columns of an assumption are the netlist's
pub assumed_within : (net : Parts) (care : CareSet) → IsCareOf net care → All (λ column. column < columns net) (assumed_columns care)
assumed_within net care bound = by care.assume bound.assume
  where
    by : (a : Option CareModel) → IfSome a (IsBoundTo net 0) → All (λ column. column < columns net) (option_map_or (λ (m : CareModel). m.columns) a [])
    by None b = λ k d l. absurd (omega (arith, l))
    by (Some m) b = λ k d l. columns_within net m.net.inputs m.columns k d b.names l

-- the gate that drives a wire of a row is one of these
drives : (net : Parts) (rows : List Row) (k : ℕ) (d : Row) → k < length rows → (i : ℕ) (e : WireValue) → i < length (get_or rows k d).values → (g : ℕ) → (get_or (get_or rows k d).values i e).wire ≡ gate_sig net g → Contains (gates_of_rows net rows) g
drives net [] k d l i e inside g is = absurd (omega (arith, l))
drives net (row ∷ rows) zero d l i e inside g is =
    let n = length-map row.values (λ f. f.wire) in
    let c : Contains (wires_of row) (signal (columns net + g)) = (i, omega (arith, inside, n), get_or-map (λ f. f.wire) row.values i e (signal (columns net + g)) inside ∙ is) in
    Contains-append_left (numbers_from (columns net) (wires_of row)) (gates_of_rows net rows) g (numbers_from-signal (columns net) g (wires_of row) c)
drives net (row ∷ rows) (suc k) d l i e inside g is =
    Contains-append_right (numbers_from (columns net) (wires_of row)) (gates_of_rows net rows) g (drives net rows k d (omega (arith, l)) i e inside g is)

module _ (net : Parts) (care : CareSet) (rows : List Row) (used cone : List Bool) (valid : IsNetlist net) (bound : IsCareOf net care) (models : IsCare care) (old_valid : IfSome (option_map (λ (m : CareModel). m.net) care.assume) IsNetlist)
    (steady : AreSteadyRows net rows) (cone_is : IsConeOf net (gates_of_rows net rows) cone) (used_are : AreUsed net (assumed_columns care) rows cone used) where
  abbrev p : Plan
  p = plan_by net care rows used cone

  marked_from : (m n : ℕ) → m < length net.gates → n < length net.gates → is_marked cone n ≡ true → IsUpstream net m n → is_marked cone m ≡ true
  marked_from m n ml nl is up =
      let leads = (cone_is.each n nl).0 is in
      (cone_is.each m ml).1 (record { gate = leads.gate; among = leads.among; upstream = upstream-trans net m n leads.gate up leads.upstream })

  closed : (n : ℕ) → n < length net.gates → is_marked cone n ≡ true → All (IsKeptSignal p) (gate_at net n).pins
  closed n l is k d inside =
      let s : Sig = get_or (gate_at net n).pins k d in
      let known = valid.pins n no_gate l k d inside in
      record {
        inside = known;
        column = λ low. used_are.pins n l is k d inside (let w = used_are.width in omega (arith, low, w));
        gate = λ high.
            let m : ℕ = s.0 - columns net in
            let at : s ≡ gate_sig net m = ap signal (let e : s.0 ≡ columns net + m = omega (arith, high) in e) in
            let feeds = pin_feeds net valid n m k d l inside at in
            marked_from m n feeds.source l is (inr (leads-step net m n feeds));
      }

  off_loops : (n : ℕ) → n < length net.gates → is_marked cone n ≡ true → ¬ Leads net AnyGate n n
  off_loops n l is =
      let leads = (cone_is.each n l).0 is in
      (drivers_steady net rows (recursion_from_All (λ row. All (λ e. IsSteadySignal net e.wire) row.values) rows steady) leads.gate leads.among).steady leads.gate n refl leads.upstream

  wires : All (λ row. All (λ e. IsKeptSignal p e.wire) row.values) rows
  wires k d l i e inside =
      let s : Sig = (get_or (get_or rows k d).values i e).wire in
      let known = (steady k d l i e inside).within in
      record {
        inside = known;
        column = λ low. used_are.wires k d l i e inside (let w = used_are.width in omega (arith, low, w));
        gate = λ high.
            let m : ℕ = s.0 - columns net in
            let at : s ≡ gate_sig net m = ap signal (let e : s.0 ≡ columns net + m = omega (arith, high) in e) in
            (cone_is.each m (omega (arith, known, high))).1 (record { gate = m; among = drives net rows k d l i e inside m at; upstream = inl refl });
      }

  old_by : (a : Option CareModel) → IfSome a IsCareModel → IfSome (option_map (λ (m : CareModel). m.net) a) IsNetlist → (old : Parts) → option_map (λ (m : CareModel). m.net) a ≡ Some old → option_map_or (λ (m : CareModel). m.columns) a [] ≡ p.assumed → IsOldOf p old
  old_by None is v old e c = cc
  old_by (Some m) is v old e c =
      let same : m.net ≡ old = cc in
      subst (IsOldOf p) same (record {
        valid = v;
        latches = is.latches;
        outputs = is.outputs;
        loop_free = is.loop_free;
        inputs = ap (λ (xs : List ℕ). length xs) (sym c) ∙ is.width;
      })

  pub fits_of : Fits p
  fits_of = record {
    valid = valid;
    used_width = used_are.width;
    cone_width = cone_is.width;
    closed = closed;
    off_loops = off_loops;
    wires = wires;
    columns_below = assumed_within net care bound;
    columns_used = used_are.assumed_used;
    old = λ old e. old_by care.assume models.assume old_valid old e refl;
  }
