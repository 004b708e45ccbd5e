-- Sweeps of a loop on top of a cone, and how many are needed.
use Rattle.std.proofs.Common.{◌≡◌, inl, inr, ℕ, zero, suc, ◌<◌, ◌≤◌, ◌+◌, ◌-◌, ◌*◌, Bool, true, false, not, List, [], ◌∷◌, length, map, get_or, Contains, refl, sym, ap, subst, ◌∙◌, arith, true≢false}
use Rattle.std.specs.List.{All, list_any}
use Rattle.clause_decision.proofs.Common.{cases_lt, length-map, get_or_default, take_all, All-map, All-get_or, Contains-get_or, Sig, Trit, X, bit, bits, Parts, IsNetlist, count, gate_at, no_gate, signal, fix_gates, block_at, Loops, is_cut, CutsAreFixed, cuts_of, first_gate, gate_of, sweeps, value_in, map_agree, cut_values_agree, fixed_cuts_give_fix, gate_home, CareSet, columns, IsCareVector, Formula, Rails, IsWanted, gate_rails, says, negation, IsModel, HasModelFrom, Grows, Reads, ReadsAll, AreWithin, no_rails, rails_at, is_known, SaysAny, ReadsPlaces, says-negation, All-within-more, problem, HasNoModelUnder, models-same, column_rails, vector_in, ReadsFix, IsCone, first_number, AreTooFewAt, NeedAtLeast, TellsTooFew, AreCutPlaces, LoopAt, IsLoopAt, gates_in, loops_in, is_marked, AreClosed, IsCountAt, IsLeastCount, IsSwept, All-contains, Below-known, IsModelUnder}
use Rattle.std.proofs.lemmas.Bool.{and_from, le-leb}
use Rattle.std.proofs.lemmas.List.{get_or-replicate, get_or_past}
use Rattle.std.proofs.lemmas.List.Folds.{Any-from_list_any, list_any_at}
use Rattle.cyc_base.proofs.ListLemmas.{list_any-map}
use Rattle.cyc_base.proofs.OrderLemmas.{EachBelow-at}
use Rattle.netlist.specs.Walks.{Feeds}
use Rattle.loops.specs.Cuts.{AreLoopsOf}
use Rattle.loops.specs.Sweeps.{in_loop_of}
use Rattle.loops.proofs.LoopCuts.{has-cut}
use Rattle.loops.proofs.Sweeps.{sweeps_stay_below_fix}
use Rattle.refusals.specs.Acceptance.{SomeCareVector}
use Rattle.ternary_clauses.specs.Sweeps.{ReadsOutside, SaysSweep}
use Rattle.clause_queries.specs.declared.query.Reply.{Reply}
use Rattle.clause_queries.specs.declared.query.Reply.TheVariants as replies
use Rattle.clause_queries.specs.Queries.{IsReply}
use Rattle.clause_decision.specs.declared.counting.Sign.{Sign}
use Rattle.clause_decision.specs.declared.counting.Sign.TheVariants as signs
use Rattle.clause_decision.specs.declared.sweeping.Swept.{Swept}
use Rattle.clause_decision.specs.Countings.{Serves}
use Rattle.clause_decision.specs.Scopes.{AreKnownOnCare}
use Rattle.clause_decision.specs.Sweepings.{open_literals, AreKnownAfter, IsOpenAt, SaysOpen, TellsOpen}
use Rattle.clause_decision.proofs.ConeLemmas.{care-read, care-under, cone-grows}
use Rattle.loop_simulation.specs.Known.{IsKnownSomewhere}
use Rattle.loop_simulation.proofs.LoopLemmas.{are-loops, cut-of, cuts-enough, gate-fits, of-loop}
use Rattle.clause_decision.proofs.SignalLemmas.{negation-within, signal-at, gate-read}
use Rattle.clause_decision.proofs.UnknownLemmas.{unknown-value}

-- ---- a literal for the cut wires that are unknown

pub open-within : (k : ℕ) (copies : List Rails) (places : List ℕ) → All (AreWithin k) copies → All (λ i. i < length copies) places → All (λ l. l < 2 * k) (open_literals copies places)
open-within k copies places within low =
    All-map (λ l. l < 2 * k) (λ i. negation (rails_at copies i).known) places
    (λ j d less. negation-within (rails_at copies (get_or places j d)).known k (All-get_or (AreWithin k) copies (get_or places j d) no_rails (low j d less) within).known)

pub says-open : (old new : Formula) (copies : List Rails) (places literals sums : List ℕ) (literal d : ℕ) → SaysAny old new literals sums → literals ≡ open_literals copies places → 0 < length places →
    literal ≡ get_or sums (length places - 1) d → SaysOpen old new copies places literal
says-open old new copies places literals sums literal d said are some there = record {
  grows = said.grows;
  within = subst (λ l. l < 2 * new.variables) (sym is) (All-get_or (λ l. l < 2 * new.variables) sums (length places - 1) 0 (let s = said.size in omega (arith, s, long, some)) said.within);
  says_it = λ m model.
      ap (says m) is
      ∙ said.says_each m model (length places - 1) (omega (arith, long, some))
      ∙ ap (list_any (says m)) (take_all (length places - 1 + 1) literals (omega (arith, long, some)) ∙ are);
  complete = said.complete;
}
  where
    long : length literals ≡ length places
    long = ap length are ∙ length-map places (λ i. negation (rails_at copies i).known)

    is : literal ≡ get_or sums (length places - 1) 0
    is = there ∙ get_or_default sums (length places - 1) d 0 (let s = said.size in omega (arith, s, long, some))

-- one of these passes where one is found to
pub record AnyAt (p : ℕ → Bool) (xs : List ℕ) : Type 0 where
  pub place : ℕ
  pub less : place < length xs
  pub passes : p (get_or xs place 0) ≡ true

pub any-at : (f : ℕ → ℕ) (p : ℕ → Bool) (xs : List ℕ) → list_any p (map f xs) ≡ true → AnyAt (λ x. p (f x)) xs
any-at f p xs e = grind (arith, Any-from_list_any, list_any-map p f xs, get_or_default xs)

pub any-from : (f : ℕ → ℕ) (p : ℕ → Bool) (xs : List ℕ) (k : ℕ) → k < length xs → p (f (get_or xs k 0)) ≡ true → list_any p (map f xs) ≡ true
any-from f p xs k less e = list_any-map p f xs ∙ list_any_at (λ x. p (f x)) xs k 0 less e

-- ---- a swept loop whose clauses grow

pub swept-grows : (net : Parts) (care : CareSet) (marks : List Bool) (loops : Loops) (gates : List ℕ) (s : Swept) (k : ℕ) (g : Formula) → IsSwept net care marks loops gates s k → Grows s.cone.formula g →
    ((m : List Bool) → length m ≡ s.cone.formula.variables → IsModel m s.cone.formula → HasModelFrom g m) → IsSwept net care marks loops gates (record { cone = record { formula = g; rails = s.cone.rails; inside = s.cone.inside; allowed = s.cone.allowed }; copies = s.copies }) k
swept-grows net care marks loops gates s k g swept grows complete = record {
  cone = cone-grows net care marks s.cone.formula g s.cone.rails.items s.cone.inside s.cone.allowed swept.cone grows (λ v wide has. complete has.model has.long has.holds);
  size = swept.size;
  within = All-within-more s.cone.formula.variables g.variables s.copies.items grows.more swept.within;
  reads = λ m v is. swept.reads m v (grows.sound m is);
}

-- ---- what is outside of a loop

module _ (net : Parts) (marks : List Bool) (loops : Loops) (gates : List ℕ) (proper : IsNetlist net) (closed : AreClosed net marks) (width : length marks ≡ length net.gates) (marked : All (λ n. is_marked marks n ≡ true) gates) where
  gate-within : (n : ℕ) → is_marked marks n ≡ true → n < length net.gates
  gate-within n is = grind (arith, cases_lt n (length net.gates), true≢false, get_or_past marks n false)

  -- it stands for the fixpoint where the gates of the scope do that feed the loop
  pub fed-read : (rails : List Rails) (m v : List Bool) → length rails ≡ count net → length v ≡ columns net → ReadsAll m (column_rails net rails) (bits v) →
      ((g n : ℕ) → Contains gates n → Feeds net g n → loops.same n g ≡ false → IsWanted net marks g → Reads m (gate_rails net rails g) (value_in (fix_gates net (bits v)) g)) → ReadsOutside net loops gates rails m (bits v)
  fed-read rails m v size wide columns_read gates_read n inside k d less out =
      let is_in : is_marked marks n ≡ true = All-contains (λ g. is_marked marks g ≡ true) gates n marked inside in
      let reader : n < length net.gates = gate-within n is_in in
      let pin : Sig = get_or (gate_at net n).pins k d in
      let low : pin.0 < count net = proper.pins n no_gate reader k d less in
      signal-at net rails m v size wide columns_read pin (λ high.
      let feeds : Feeds net (gate_of net pin) n = record {
        source = omega (arith, low, high);
        reader = reader;
        pin = subst (Contains (gate_at net n).pins) (let e : pin.0 ≡ first_gate net + gate_of net pin = omega (arith, high) in ap signal e) (Contains-get_or (gate_at net n).pins k d less);
      } in
      gates_read (gate_of net pin) n inside feeds (apart n pin high out (loops.same n (gate_of net pin)) refl) (record { within = feeds.source; marked = closed (gate_of net pin) n feeds is_in }))
    where
      apart : (n : ℕ) (pin : Sig) → first_gate net ≤ pin.0 → in_loop_of net loops n pin ≡ false → (b : Bool) → loops.same n (gate_of net pin) ≡ b → loops.same n (gate_of net pin) ≡ false
      apart n pin high out h e = grind (arith, true≢false, and_from, le-leb)

  -- and so where all gates of the scope do
  pub outside-read : (rails : List Rails) (m v : List Bool) → length rails ≡ count net → length v ≡ columns net → ReadsAll m (column_rails net rails) (bits v) →
      ((n : ℕ) → IsWanted net marks n → Reads m (gate_rails net rails n) (value_in (fix_gates net (bits v)) n)) → ReadsOutside net loops gates rails m (bits v)
  outside-read rails m v size wide columns_read gates_read = fed-read rails m v size wide columns_read (λ g n inside feeds apart wanted. gates_read g wanted)

  -- at care vectors, where no gate is unknown, it does in each model
  pub outside-on-care : (care : CareSet) (f : Formula) (rails : List Rails) (inside allowed : ℕ) → IsCone net care marks f rails inside allowed → AreKnownOnCare net care →
      (m : List Bool) → IsModel m f → IsCareVector net care (vector_in net rails m) → ReadsOutside net loops gates rails m (bits (vector_in net rails m))
  outside-on-care care f rails inside allowed cone known m is counts =
      outside-read rails m (vector_in net rails m) cone.size counts.width (cone.sound m is)
      (λ n wanted. gate-read net marks rails m (vector_in net rails m) (cone.above m is) n wanted (known (vector_in net rails m) counts n wanted.within))

  pub outside-of-fix : (f : Formula) (rails : List Rails) (v : List Bool) → length rails ≡ count net → length v ≡ columns net → (has : ReadsFix net marks f rails v) → ReadsOutside net loops gates rails has.model (bits v)
  outside-of-fix f rails v size wide has = outside-read rails has.model v size wide has.columns has.fixpoint

  -- ---- one sweep more

  pub sweep-cone : (care : CareSet) (f g : Formula) (rails before after : List Rails) (inside allowed k : ℕ) → IsCone net care marks f rails inside allowed →
      ((m : List Bool) (v : List Trit) → IsModel m f → ReadsOutside net loops gates rails m v → ReadsPlaces gates before m (sweeps net loops v k)) → SaysSweep net loops gates rails before f g after →
      IsCone net care marks g rails inside allowed
  sweep-cone care f g rails before after inside allowed k cone reads said =
      cone-grows net care marks f g rails inside allowed cone said.grows
      (λ v wide has.
      let out : ReadsOutside net loops gates rails has.model (bits v) = outside-of-fix f rails v cone.size wide has in
      said.complete has.model (bits v) (sweeps net loops (bits v) k) has.long has.holds out (reads has.model (bits v) has.holds out))

pub sweep-reads : (net : Parts) (loops : Loops) (gates : List ℕ) (f g : Formula) (rails before after : List Rails) (k : ℕ) →
    ((m : List Bool) (v : List Trit) → IsModel m f → ReadsOutside net loops gates rails m v → ReadsPlaces gates before m (sweeps net loops v k)) → SaysSweep net loops gates rails before f g after →
    (m : List Bool) (v : List Trit) → IsModel m g → ReadsOutside net loops gates rails m v → ReadsPlaces gates after m (sweeps net loops v (k + 1))
sweep-reads net loops gates f g rails before after k reads said m v is out =
    let next : suc k ≡ k + 1 = omega arith in
    subst (λ (j : ℕ). ReadsPlaces gates after m (sweeps net loops v j)) next (said.sound m v (sweeps net loops v k) is out (reads m v (said.grows.sound m is) out))

-- ---- what a question about cut wires tells

module _ (net : Parts) (care : CareSet) (marks : List Bool) (loops : Loops) (gates places : List ℕ) (f : Formula) (rails copies : List Rails) (inside allowed literal k : ℕ)
    (proper : IsNetlist net) (closed : AreClosed net marks) (width : length marks ≡ length net.gates) (marked : All (λ n. is_marked marks n ≡ true) gates) (known : AreKnownOnCare net care)
    (cone : IsCone net care marks f rails inside allowed) (wires : AreCutPlaces loops.cut gates places)
    (reads : (m : List Bool) (v : List Trit) → IsModel m f → ReadsOutside net loops gates rails m v → ReadsPlaces gates copies m (sweeps net loops v k))
    (tells : (m : List Bool) → IsModel m f → says m literal ≡ list_any (says m) (open_literals copies places)) where
  open-at : (m : List Bool) → IsModelUnder (problem f) (inside ∷ allowed ∷ literal ∷ []) m → IsOpenAt net loops care gates k (vector_in net rails m)
  open-at m under =
      let is : IsModel m f = sym (models-same f m) ∙ under.model in
      let v : List Bool = vector_in net rails m in
      let counts : IsCareVector net care v = care-read cone m is (under.assumed 0 0 (omega arith)) (under.assumed 1 0 (omega arith)) in
      let any : AnyAt (λ i. says m (negation (rails_at copies i).known)) places =
      any-at (λ i. negation (rails_at copies i).known) (says m) places (sym (tells m is) ∙ under.assumed 2 0 (omega arith)) in
      let i : ℕ = get_or places any.place 0 in
      let low : i < length gates = wires.within any.place 0 any.less in
      let read : Reads m (rails_at copies i) (value_in (sweeps net loops (bits v) k) (get_or gates i 0)) =
      reads m (bits v) is (outside-on-care net marks loops gates proper closed width marked care f rails inside allowed cone known m is counts) i low in
      record {
        counts = counts;
        wire = get_or gates i 0;
        inside = Contains-get_or gates i 0 low;
        is_cut = wires.are any.place 0 any.less;
        unknown = unknown-value (value_in (sweeps net loops (bits v) k) (get_or gates i 0)) (ap not (sym read.known) ∙ sym (says-negation m (rails_at copies i).known) ∙ any.passes);
      }

  known-after : HasNoModelUnder (problem f) (inside ∷ allowed ∷ literal ∷ []) → AreKnownAfter net loops care gates k
  known-after none v counts n in_gates cut unknown =
      let has : ReadsFix net marks f rails v = cone.complete v counts.width in
      let m : List Bool = has.model in
      let i : ℕ = in_gates.0 in
      let at : get_or gates i 0 ≡ n = get_or_default gates i 0 n in_gates.1 ∙ in_gates.2 in
      let placed : Contains places i = wires.each i in_gates.1 (ap loops.cut at ∙ cut) in
      let at_place : get_or places placed.0 0 ≡ i = get_or_default places placed.0 0 i placed.1 ∙ placed.2 in
      let read : Reads m (rails_at copies i) (value_in (sweeps net loops (bits v) k) (get_or gates i 0)) =
      reads m (bits v) has.holds (outside-of-fix net marks loops gates proper closed width marked f rails v cone.size counts.width has) i in_gates.1 in
      let open_here : says m (negation (rails_at copies i).known) ≡ true =
      says-negation m (rails_at copies i).known ∙ ap not (read.known ∙ ap (λ (j : ℕ). is_known (value_in (sweeps net loops (bits v) k) j)) at ∙ ap is_known unknown) in
      let literal_holds : says m literal ≡ true =
      tells m has.holds
      ∙ any-from (λ j. negation (rails_at copies j).known) (says m) places placed.0 placed.1 (ap (λ j. says m (negation (rails_at copies j).known)) at_place ∙ open_here) in
      none m (care-under cone v has counts literal literal_holds)

  pub tells-open : (reply : Reply) → IsReply (problem f) (inside ∷ allowed ∷ literal ∷ []) reply → TellsOpen net loops care gates rails k reply
  tells-open (replies.Model m) h = open-at m.items h.0
  tells-open replies.NoModel h = known-after h
  tells-open replies.Unknown h = tt

-- ---- how many sweeps are needed

-- where a loop is at the fixpoint, it is after more sweeps
fixed-later : (net : Parts) (loops : Loops) → AreLoopsOf net loops → (v : List Trit) → length v ≡ first_gate net → (a m k n : ℕ) → n ≡ k + m → CutsAreFixed net loops v a m → CutsAreFixed net loops v a n
fixed-later net loops are v wide a m zero n e fixed = let same : m ≡ n = omega (arith, e) in subst (λ (j : ℕ). CutsAreFixed net loops v a j) same fixed
fixed-later net loops are v wide a m (suc k) n e fixed =
    let next : suc (k + m) ≡ n = omega (arith, e) in
    subst (λ (j : ℕ). CutsAreFixed net loops v a j) next (fixed_cuts_give_fix net loops are v wide a (k + m) (fixed-later net loops are v wide a m k (k + m) refl fixed)).0

module _ (l : LoopAt) (is_loop : IsLoopAt l) where
  -- cut wires that are known stand at the fixpoint
  fixed-where-known : (care : CareSet) (k : ℕ) → AreKnownAfter l.net (loops_in l) care (gates_in l) k → (a : ℕ) → Contains (gates_in l) a →
      (v : List Bool) → IsCareVector l.net care v → CutsAreFixed l.net (loops_in l) (bits v) a k
  fixed-where-known care k known a inside v counts =
      map_agree (value_in (sweeps l.net (loops_in l) (bits v) k)) (value_in (fix_gates l.net (bits v))) (cuts_of l.net (loops_in l) a)
      (λ j d low.
      let n : ℕ = get_or (cuts_of l.net (loops_in l) a) j d in
      let both = cut-of l.net (loops_in l) a j d low in
      sym (Below-known (value_in (sweeps l.net (loops_in l) (bits v) k) n) (value_in (fix_gates l.net (bits v)) n)
      (EachBelow-at (sweeps l.net (loops_in l) (bits v) k) (fix_gates l.net (bits v)) n (sweeps_stay_below_fix l.net (loops_in l) (bits v) (length-map v bit ∙ counts.width) k))
      (known v counts n ((of-loop l is_loop a inside).0 n both.0) both.1)))

  -- where one is unknown, they don't
  open-unfixed : (care : CareSet) → AreKnownOnCare l.net care → (k : ℕ) (v : List Bool) → IsOpenAt l.net (loops_in l) care (gates_in l) k v → (a : ℕ) → Contains (gates_in l) a →
      ¬ CutsAreFixed l.net (loops_in l) (bits v) a k
  open-unfixed care known k v found a inside fixed =
      grind (arith, gate-fits l is_loop found.wire found.inside, cut_values_agree l.net (loops_in l) (are-loops l is_loop) a (sweeps l.net (loops_in l) (bits v) k) (fix_gates l.net (bits v)) fixed found.wire ((of-loop l is_loop a inside).1 found.wire found.inside) found.is_cut, are-loops l is_loop, of-loop l is_loop a inside)

  -- before the first sweep each cut wire is unknown
  open-first : (care : CareSet) (some : SomeCareVector l.net care) → IsOpenAt l.net (loops_in l) care (gates_in l) 0 some.vector
  open-first care some =
      let a : ℕ = get_or (gates_in l) 0 0 in
      let inside : Contains (gates_in l) a = Contains-get_or (gates_in l) 0 0 (is_loop.blocks.filled l.number is_loop.number) in
      let at = gate_home l.net l.blocks is_loop.blocks l.number a is_loop.number inside in
      let has = has-cut l.net (loops_in l) (are-loops l is_loop) a ((is_loop.blocks.looped a at.0).0 (subst (λ (h : ℕ). (block_at l.blocks h).looped ≡ true) (sym at.1) is_loop.looped)) in
      let wire_inside : Contains (gates_in l) has.wire = (of-loop l is_loop a inside).0 has.wire has.same in
      grind (arith, get_or-replicate (length l.net.gates) has.wire X X (gate-fits l is_loop has.wire wire_inside), gate-fits l is_loop has.wire wire_inside)

  -- so one sweep is needed
  one-needed : (care : CareSet) → SomeCareVector l.net care → AreKnownOnCare l.net care → NeedAtLeast l.net (loops_in l) care (gates_in l) 1
  one-needed care some known a j inside low = grind (arith, open-unfixed care known 0 some.vector (open-first care some) a inside, open-first care some)

  open-too-few : (care : CareSet) → AreKnownOnCare l.net care → (k : ℕ) (v : List Bool) → IsOpenAt l.net (loops_in l) care (gates_in l) k v →
      AreTooFewAt l.net (loops_in l) care (gates_in l) k v
  open-too-few care known k v found = record { counts = found.counts; open_cuts = λ a inside. open-unfixed care known k v found a inside }

  pub open-tells : (care : CareSet) → AreKnownOnCare l.net care → (rails : List Rails) (k : ℕ) (reply : Reply) → TellsOpen l.net (loops_in l) care (gates_in l) rails k reply →
      TellsTooFew l.net (loops_in l) care (gates_in l) rails k reply
  open-tells care known rails k (replies.Model m) h = open-too-few care known k (vector_in l.net rails m.items) h
  open-tells care known rails k replies.NoModel h = λ a inside v counts. fixed-where-known care k h a inside v counts
  open-tells care known rails k replies.Unknown h = tt

  -- where k sweeps are too few at a vector, one more is needed on care
  pub one-more-needed : (care : CareSet) (k : ℕ) (v : List Bool) → AreTooFewAt l.net (loops_in l) care (gates_in l) k v → NeedAtLeast l.net (loops_in l) care (gates_in l) k →
      NeedAtLeast l.net (loops_in l) care (gates_in l) (k + 1)
  one-more-needed care k v few need a j inside low = elim (cases_lt j k) [
    | inl less ↦ need a j inside less
    | inr high ↦
        let same : k ≡ j = omega (arith, low, high) in
        record { vector = v; counts = few.counts; open_cuts = subst (λ (i : ℕ). ¬ CutsAreFixed l.net (loops_in l) (bits v) a i) same (few.open_cuts a inside) }
  ]

  -- a vector at which k sweeps are too few needs more, and care at least as many as it
  pub more-needed : (care : CareSet) (k : ℕ) (v : List Bool) → AreTooFewAt l.net (loops_in l) care (gates_in l) k v → (m : ℕ) →
      IsCountAt l.net (loops_in l) v (gates_in l) m → (k < m) × NeedAtLeast l.net (loops_in l) care (gates_in l) m
  more-needed care k v few m count = (
    elim (cases_lt k m) [
      | inl low ↦ low
      | inr high ↦
          (let a : ℕ = get_or (gates_in l) 0 0 in
          let inside : Contains (gates_in l) a = Contains-get_or (gates_in l) 0 0 (is_loop.blocks.filled l.number is_loop.number) in
          absurd (few.open_cuts a inside
          (fixed-later l.net (loops_in l) (are-loops l is_loop) (bits v) (length-map v bit ∙ few.counts.width) a m (k - m) k (omega (arith, high)) (count.enough a inside))))
    ],
    λ a j inside low. record { vector = v; counts = few.counts; open_cuts = count.least a j inside low },
  )

  -- what a sign gives before the first question: at a care vector, and without one
  pub vector-needed : (care : CareSet) (sign : Sign) → Serves sign l.net care (gates_in l) → (v : List Bool) → IsCareVector l.net care v → (m : ℕ) →
      IsCountAt l.net (loops_in l) v (gates_in l) m → (first_number sign ≤ m) × NeedAtLeast l.net (loops_in l) care (gates_in l) m
  vector-needed care signs.Open serves v counts m count =
      let more = more-needed care 0 v (open-too-few care serves.1 0 v (open-first care (record { vector = v; counts = counts }))) m count in
      (let low = more.0 in omega (arith, low), more.1)
  vector-needed care signs.Changing serves v counts m count = (omega arith, λ a j inside low. record { vector = v; counts = counts; open_cuts = count.least a j inside low })

  pub first-needed : (care : CareSet) (sign : Sign) → Serves sign l.net care (gates_in l) → NeedAtLeast l.net (loops_in l) care (gates_in l) (first_number sign)
  first-needed care sign serves = grind (arith, one-needed)

  -- where a cut wire is known at a care vector, a sweep is needed: before the first it is unknown
  pub known-needs-one : (care : CareSet) (wire : ℕ) → Contains (gates_in l) wire → is_cut l.cut.wires wire ≡ true → IsKnownSomewhere l.net care wire → NeedAtLeast l.net (loops_in l) care (gates_in l) 1
  known-needs-one care wire inside cut known a j there low =
      let none : j ≡ 0 = omega (arith, low) in
      let v : List Trit = bits known.vector in
      let first : value_in (sweeps l.net (loops_in l) v j) wire ≡ X =
      ap (λ (i : ℕ). value_in (sweeps l.net (loops_in l) v i) wire) none ∙ get_or-replicate (length l.net.gates) wire X X (gate-fits l is_loop wire inside) in
      record {
        vector = known.vector;
        counts = known.counts;
        open_cuts = λ fixed.
            known.known (sym (cut_values_agree l.net (loops_in l) (are-loops l is_loop) a (sweeps l.net (loops_in l) v j) (fix_gates l.net v) fixed wire ((of-loop l is_loop a there).1 wire inside) cut) ∙ first);
      }

  pub few-needed : (care : CareSet) (k : ℕ) → k ≡ length l.cuts → NeedAtLeast l.net (loops_in l) care (gates_in l) k → (a : ℕ) → Contains (gates_in l) a → IsLeastCount l.net (loops_in l) care a k
  few-needed care k is more a inside = grind (arith, cuts-enough l is_loop)
