-- Cut wires that a sweep changes on care.
use Rattle.std.specs.Prelude.{◌≡◌, ◌≢◌, ◌+◌, ℕ, Bool, true, List, [], ◌∷◌, All, Contains}
use Rattle.cyc_base.specs.declared.trit.Trit.TheVariants.{X}
use Rattle.cyc_base.specs.Values.{bits}
use Rattle.netlist.specs.declared.parts.Parts.{Parts}
use Rattle.netlist.specs.Fixpoint.{fix_gates}
use Rattle.netlist.specs.Walks.{Feeds}
use Rattle.loops.specs.Cuts.{Loops}
use Rattle.loops.specs.Sweeps.{sweeps, value_in}
use Rattle.care_sets.specs.Care.{CareSet, IsCareVector}
use Rattle.ternary_clauses.specs.declared.rails.Rails.{Rails}
use Rattle.clause_formulas.specs.Formulas.{negation}
use Rattle.ternary_clauses.specs.Rails.{rails_at}
use Rattle.clause_queries.specs.declared.query.Reply.{Reply}
use Rattle.clause_queries.specs.declared.query.Reply.TheVariants as replies
use Rattle.clause_queries.specs.Queries.{Problem, HasNoModelUnder, IsModelUnder}
use Rattle.clause_decision.specs.Cones.{vector_in}

-- at no care vector is a gate unknown that feeds one of these and is none of them
abbrev pub AreFedKnown : Parts → CareSet → List ℕ → Type 0
AreFedKnown net care gates = (v : List Bool) → IsCareVector net care v → (m n : ℕ) → Feeds net m n → Contains gates n → ¬ Contains gates m →
    value_in (fix_gates net (bits v)) m ≢ X

-- on care, the copy at this place is unknown before a sweep and known after it
abbrev pub change_literals : (inside allowed : ℕ) (before after : List Rails) → ℕ → List ℕ
change_literals inside allowed before after i = inside ∷ allowed ∷ negation (rails_at before i).known ∷ (rails_at after i).known ∷ []

-- a place of these where it is in a model
pub record HasChange (p : Problem) (inside allowed : ℕ) (before after : List Rails) (places : List ℕ) (m : List Bool) : Type 0 where
  pub place : ℕ
  pub among : Contains places place
  pub is : IsModelUnder p (change_literals inside allowed before after place) m

abbrev pub TellsChange : Problem → (inside allowed : ℕ) (before after : List Rails) → List ℕ → Reply → Type 0
TellsChange p inside allowed before after places (replies.Model m) = HasChange p inside allowed before after places m.items
TellsChange p inside allowed before after places replies.NoModel = All (λ i. HasNoModelUnder p (change_literals inside allowed before after i)) places
TellsChange p inside allowed before after places replies.Unknown = Unit {0}

-- a cut wire among these gates that is unknown at a care vector after k sweeps, and known after one more
pub record ChangesAfter (net : Parts) (loops : Loops) (care : CareSet) (gates : List ℕ) (k : ℕ) (v : List Bool) : Type 0 where
  pub counts : IsCareVector net care v
  pub wire : ℕ
  pub inside : Contains gates wire
  pub is_cut : loops.cut wire ≡ true
  pub unknown : value_in (sweeps net loops (bits v) k) wire ≡ X
  pub known : value_in (sweeps net loops (bits v) (k + 1)) wire ≢ X

-- on care, each of them that is unknown after k sweeps is unknown after one more
abbrev pub StandAfter : Parts → Loops → CareSet → List ℕ → ℕ → Type 0
StandAfter net loops care gates k = (v : List Bool) → IsCareVector net care v → (n : ℕ) → Contains gates n → loops.cut n ≡ true →
    value_in (sweeps net loops (bits v) k) n ≡ X → value_in (sweeps net loops (bits v) (k + 1)) n ≡ X

-- the vector of a model is one where one changes
abbrev pub TellsChangeAfter : Parts → Loops → CareSet → List ℕ → List Rails → ℕ → Reply → Type 0
TellsChangeAfter net loops care gates rails k (replies.Model m) = ChangesAfter net loops care gates k (vector_in net rails m.items)
TellsChangeAfter net loops care gates rails k replies.NoModel = StandAfter net loops care gates k
TellsChangeAfter net loops care gates rails k replies.Unknown = Unit {0}
