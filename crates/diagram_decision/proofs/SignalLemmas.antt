-- What a signal of the fixpoint is made of, at vectors of the netlist's width.
use Rattle.std.proofs.Common.{◌≡◌, ◌⊎◌, inl, inr, ℕ, ◌<◌, Bool, List, length, sym, ap, ◌∙◌}
use Rattle.diagram_decision.proofs.Common.{Trit, bits, is_bit, Parts, fix, count, value_in, IsWorking, columns}
use Rattle.loops.specs.Found.{loops_of}
use Rattle.loops.proofs.Existence.{loops_exist}
use Rattle.fixpoint.proofs.WorkLemmas.{fix_is_working}
use Rattle.refusals.proofs.RefusalLemmas.{length-bits}
use Rattle.fixpoint.proofs.WorkingLemmas.{IsOfColumn, IsOfGate, working-is}
use Rattle.diagram_decision.specs.Solving.{fit}
use Rattle.diagram_decision.proofs.CountLemmas.{length-fit, fit-whole}

module _ (net : Parts) where
  -- all vectors have the netlist's width
  abbrev fitted : List Bool → List Trit
  fitted v = bits (fit (columns net) v)

  at-width : (v : List Bool) → length v ≡ columns net → bits v ≡ fitted v
  at-width v long = ap bits (sym (fit-whole (columns net) v long))

  pub signal-is : (signal : ℕ) → signal < count net → (b : Bool) →
      IsOfColumn net (λ v. is_bit b (value_in (fix net (bits v)) signal)) ⊎ IsOfGate net (λ v. is_bit b (value_in (fix net (bits v)) signal))
  signal-is signal within b =
      let work : IsWorking net (loops_of net) fitted (λ v. is_bit b (value_in (fix net (fitted v)) signal)) =
      fix_is_working net (loops_of net) (loops_exist net) fitted (λ v. length-bits (fit (columns net) v) ∙ length-fit (columns net) v) signal within b in
      let same : (v : List Bool) → length v ≡ columns net → is_bit b (value_in (fix net (bits v)) signal) ≡ is_bit b (value_in (fix net (fitted v)) signal) =
      λ v long. ap (λ (u : List Trit). is_bit b (value_in (fix net u) signal)) (at-width v long) in
      elim (working-is net fitted (λ v. v) (λ v long. sym (at-width v long)) (λ v. is_bit b (value_in (fix net (fitted v)) signal)) work) [
        | inl c ↦ inl (record { column = c.column; within = c.within; bit = c.bit; same = λ v long. same v long ∙ c.same v long })
        | inr g ↦ inr (record { of = g.of; is = g.is; same = λ v long. same v long ∙ g.same v long })
      ]
