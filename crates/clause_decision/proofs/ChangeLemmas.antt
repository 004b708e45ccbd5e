-- Cut wires that a sweep changes on care: where none does, the sweeps are enough.
use Rattle.std.proofs.Common.{◌≡◌, ◌≢◌, inl, inr, ℕ, suc, ◌<◌, ◌+◌, Bool, true, false, not, List, [], ◌∷◌, length, get_or, Contains, refl, sym, ap, ◌∙◌, arith, true≢false}
use Rattle.std.specs.List.{All}
use Rattle.clause_decision.proofs.Common.{length-map, get_or_default, All-cons, Contains-get_or, Trit, Zero, One, X, bit, bits, Parts, IsNetlist, is_cut, Loops, CutsAreFixed, sweeps, value_in, CareSet, IsCareVector, Formula, Rails, says, negation, IsModel, Reads, rails_at, is_known, ReadsPlaces, says-negation, problem, HasNoModelUnder, models-same, change_literals, AreFedKnown, vector_in, ReadsFix, IsCone, AreCutPlaces, LoopAt, IsLoopAt, gates_in, loops_in, is_marked, AreClosed, AreTooFewAt, TellsTooFew, All-contains, Below-known}
use Rattle.cyc_base.proofs.OrderLemmas.{EachBelow-at, bit-known, unknown_or_bit}
use Rattle.loops.proofs.Sweeps.{sweeps_rise}
use Rattle.ternary_clauses.specs.Sweeps.{ReadsOutside}
use Rattle.clause_queries.specs.declared.query.Reply.{Reply}
use Rattle.clause_queries.specs.declared.query.Reply.TheVariants as replies
use Rattle.clause_decision.specs.Changes.{HasChange, ChangesAfter, StandAfter, TellsChange, TellsChangeAfter}
use Rattle.clause_decision.proofs.ConeLemmas.{care-holds, care-read}
use Rattle.clause_decision.proofs.SignalLemmas.{gate-read, three}
use Rattle.loop_simulation.proofs.LoopLemmas.{moved-unfixed, of-loop, unmoved-fixed}
use Rattle.clause_decision.proofs.SweepingLemmas.{fed-read, outside-of-fix}
use Rattle.clause_decision.proofs.UnknownLemmas.{unknown-value}

-- ---- what a question about a change tells

module _ (net : Parts) (care : CareSet) (marks : List Bool) (loops : Loops) (gates places : List ℕ) (f : Formula) (rails before after : List Rails) (inside allowed k : ℕ)
    (proper : IsNetlist net) (closed : AreClosed net marks) (width : length marks ≡ length net.gates) (marked : All (λ n. is_marked marks n ≡ true) gates)
    (fed : AreFedKnown net care gates) (apart : (n g : ℕ) → Contains gates n → loops.same n g ≡ false → ¬ Contains gates g)
    (cone : IsCone net care marks f rails inside allowed) (wires : AreCutPlaces loops.cut gates places)
    (reads_before : (m : List Bool) (v : List Trit) → IsModel m f → ReadsOutside net loops gates rails m v → ReadsPlaces gates before m (sweeps net loops v k))
    (reads_after : (m : List Bool) (v : List Trit) → IsModel m f → ReadsOutside net loops gates rails m v → ReadsPlaces gates after m (sweeps net loops v (k + 1))) where
  -- at care vectors what is outside of the loop stands for the fixpoint
  outside-fed : (m : List Bool) → IsModel m f → IsCareVector net care (vector_in net rails m) → ReadsOutside net loops gates rails m (bits (vector_in net rails m))
  outside-fed m is counts =
      fed-read net marks loops gates proper closed width marked rails m (vector_in net rails m) cone.size counts.width (cone.sound m is)
      (λ g n inside_gates feeds same wanted. gate-read net marks rails m (vector_in net rails m) (cone.above m is) g wanted (fed (vector_in net rails m) counts g n feeds inside_gates (apart n g inside_gates same)))

  known-said : (t : Trit) → is_known t ≡ true → t ≢ X
  known-said t e x = grind arith

  changes-after : (m : List Bool) → HasChange (problem f) inside allowed before after places m → ChangesAfter net loops care gates k (vector_in net rails m)
  changes-after m has =
      let is : IsModel m f = sym (models-same f m) ∙ has.is.model in
      let v : List Bool = vector_in net rails m in
      let counts : IsCareVector net care v = care-read cone m is (has.is.assumed 0 0 (omega arith)) (has.is.assumed 1 0 (omega arith)) in
      let i : ℕ = has.place in
      let low : i < length gates = All-contains (λ j. j < length gates) places i wires.within has.among in
      let out : ReadsOutside net loops gates rails m (bits v) = outside-fed m is counts in
      let first : Reads m (rails_at before i) (value_in (sweeps net loops (bits v) k) (get_or gates i 0)) = reads_before m (bits v) is out i low in
      let second : Reads m (rails_at after i) (value_in (sweeps net loops (bits v) (k + 1)) (get_or gates i 0)) = reads_after m (bits v) is out i low in
      record {
        counts = counts;
        wire = get_or gates i 0;
        inside = Contains-get_or gates i 0 low;
        is_cut = All-contains (λ j. loops.cut (get_or gates j 0) ≡ true) places i wires.are has.among;
        unknown = unknown-value (value_in (sweeps net loops (bits v) k) (get_or gates i 0)) (ap not (sym first.known) ∙ sym (says-negation m (rails_at before i).known) ∙ has.is.assumed 2 0 (omega arith));
        known = known-said (value_in (sweeps net loops (bits v) (k + 1)) (get_or gates i 0)) (sym second.known ∙ has.is.assumed 3 0 (omega arith));
      }

  stand-after : All (λ i. HasNoModelUnder (problem f) (change_literals inside allowed before after i)) places → StandAfter net loops care gates k
  stand-after none v counts n in_gates cut unknown = by (value_in (sweeps net loops (bits v) (k + 1)) n) refl
    where
      has : ReadsFix net marks f rails v
      has = cone.complete v counts.width

      out : ReadsOutside net loops gates rails has.model (bits v)
      out = outside-of-fix net marks loops gates proper closed width marked f rails v cone.size counts.width has

      at : get_or gates in_gates.0 0 ≡ n
      at = get_or_default gates in_gates.0 0 n in_gates.1 ∙ in_gates.2

      placed : Contains places in_gates.0
      placed = wires.each in_gates.0 in_gates.1 (ap loops.cut at ∙ cut)

      first : Reads has.model (rails_at before in_gates.0) (value_in (sweeps net loops (bits v) k) (get_or gates in_gates.0 0))
      first = reads_before has.model (bits v) has.holds out in_gates.0 in_gates.1

      second : Reads has.model (rails_at after in_gates.0) (value_in (sweeps net loops (bits v) (k + 1)) (get_or gates in_gates.0 0))
      second = reads_after has.model (bits v) has.holds out in_gates.0 in_gates.1

      -- else there would be a model
      refuted : is_known (value_in (sweeps net loops (bits v) (k + 1)) n) ≡ true → ⊥
      refuted known =
          All-contains (λ i. HasNoModelUnder (problem f) (change_literals inside allowed before after i)) places in_gates.0 none placed has.model (record {
            model = models-same f has.model ∙ has.holds;
            assumed = All-cons (λ l. says has.model l ≡ true) inside (allowed ∷ negation (rails_at before in_gates.0).known ∷ (rails_at after in_gates.0).known ∷ []) (care-holds cone v has counts).0
                (three (λ l. says has.model l ≡ true) allowed (negation (rails_at before in_gates.0).known) (rails_at after in_gates.0).known (care-holds cone v has counts).1
                (says-negation has.model (rails_at before in_gates.0).known ∙ ap not (first.known ∙ ap (λ (j : ℕ). is_known (value_in (sweeps net loops (bits v) k) j)) at ∙ ap is_known unknown))
                (second.known ∙ ap (λ (j : ℕ). is_known (value_in (sweeps net loops (bits v) (k + 1)) j)) at ∙ known));
          })

      by : (t : Trit) → value_in (sweeps net loops (bits v) (k + 1)) n ≡ t → value_in (sweeps net loops (bits v) (k + 1)) n ≡ X
      by X e = e
      by Zero e = absurd (refuted (ap is_known e))
      by One e = absurd (refuted (ap is_known e))

  pub tells-change : (reply : Reply) → TellsChange (problem f) inside allowed before after places reply → TellsChangeAfter net loops care gates rails k reply
  tells-change (replies.Model m) h = changes-after m.items h
  tells-change replies.NoModel h = stand-after h
  tells-change replies.Unknown h = tt

-- ---- whether sweeps are enough

module _ (l : LoopAt) (is_loop : IsLoopAt l) where
  -- what is outside of the loop is no gate of the block
  pub outside-apart : (n g : ℕ) → Contains (gates_in l) n → (loops_in l).same n g ≡ false → ¬ Contains (gates_in l) g
  outside-apart n g inside same among = true≢false (sym ((of-loop l is_loop n inside).1 g among) ∙ same)

  -- where a cut wire changes, more sweeps are needed
  change-too-few : (care : CareSet) (k : ℕ) (v : List Bool) → ChangesAfter l.net (loops_in l) care (gates_in l) k v → AreTooFewAt l.net (loops_in l) care (gates_in l) k v
  change-too-few care k v found = grind (arith, moved-unfixed l is_loop (bits v), length-map v bit)

  -- where none does, the loop stands at the fixpoint
  module _ (care : CareSet) (k : ℕ) (stand : StandAfter l.net (loops_in l) care (gates_in l) k) (v : List Bool) (counts : IsCareVector l.net care v) where
    still-at : (n : ℕ) → Contains (gates_in l) n → is_cut l.cut.wires n ≡ true → value_in (sweeps l.net (loops_in l) (bits v) (suc k)) n ≡ value_in (sweeps l.net (loops_in l) (bits v) k) n
    still-at n there is_cut = elim (unknown_or_bit (value_in (sweeps l.net (loops_in l) (bits v) k) n)) [
      | inl unknown ↦
          let next : k + 1 ≡ suc k = omega arith in
          ap (λ (j : ℕ). value_in (sweeps l.net (loops_in l) (bits v) j) n) (sym next) ∙ stand v counts n there is_cut unknown ∙ sym unknown
      | inr known ↦
          Below-known (value_in (sweeps l.net (loops_in l) (bits v) k) n) (value_in (sweeps l.net (loops_in l) (bits v) (suc k)) n)
          (EachBelow-at (sweeps l.net (loops_in l) (bits v) k) (sweeps l.net (loops_in l) (bits v) (suc k)) n (sweeps_rise l.net (loops_in l) (bits v) k))
          (λ unknown. bit-known known.0 (sym known.1 ∙ unknown))
    ]

    stand-fixed : (a : ℕ) → Contains (gates_in l) a → CutsAreFixed l.net (loops_in l) (bits v) a k
    stand-fixed = unmoved-fixed l is_loop (bits v) (length-map v bit ∙ counts.width) k still-at

  pub change-tells : (care : CareSet) (rails : List Rails) (k : ℕ) (reply : Reply) → TellsChangeAfter l.net (loops_in l) care (gates_in l) rails k reply →
      TellsTooFew l.net (loops_in l) care (gates_in l) rails k reply
  change-tells care rails k (replies.Model m) h = change-too-few care k (vector_in l.net rails m.items) h
  change-tells care rails k replies.NoModel h = λ a inside v counts. stand-fixed care k h v counts a inside
  change-tells care rails k replies.Unknown h = tt
