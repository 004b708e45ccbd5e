-- Why a call finds the diagrams full.
use Rattle.std.specs.Prelude.{◌≡◌, ◌⊎◌, ℕ, length, IsSomeAnd}
use Rattle.netlist.specs.Netlists.{columns}
use Rattle.bdd_store.specs.Arena.{Arena}
use Rattle.netlist.specs.declared.parts.Parts.{Parts}
use Rattle.fixpoint.specs.Working.{HasLargeCover}
use Rattle.care_sets.specs.Care.{CareSet}

-- a model of the care set has a cover of more nodes than the limit
abbrev pub HasModelOver : CareSet → ℕ → Type 0
HasModelOver care limit =
    IsSomeAnd care.assume (λ model. HasLargeCover model.net limit) ⊎ IsSomeAnd care.invariant (λ model. HasLargeCover model.net limit)

-- a cover of the netlist or of a care model has more nodes than the limit
abbrev pub HasCoverOver : Parts → CareSet → ℕ → Type 0
HasCoverOver net care limit = HasLargeCover net limit ⊎ HasModelOver care limit

-- the diagrams have a variable for each column of the netlist, and may hold so many nodes
pub record IsStoreFor (a : Arena) (net : Parts) (limit : ℕ) : Type 0 where
  pub variables : a.vars ≡ columns net
  pub most : a.limit ≡ limit

-- What a node limit rests on: these diagrams hold as many nodes as they may, or a cover of the netlist or of a care
-- model has more.
pub record IsOutOfNodes (a : Arena) (net : Parts) (care : CareSet) (limit : ℕ) : Type 0 where
  pub store : IsStoreFor a net limit
  pub cause : (length a.entries ≡ limit) ⊎ HasCoverOver net care limit
