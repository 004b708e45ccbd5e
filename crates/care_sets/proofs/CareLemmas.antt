-- A netlist's vectors have what the models of its care set read.
use Rattle.std.proofs.Common.{◌≡◌, ℕ, ◌+◌, Bool, List, length, Option, arith}
use Rattle.std.specs.Prelude.{IfSome}
use Rattle.netlist.specs.Netlists.{columns}
use Rattle.netlist.specs.declared.parts.Parts.{Parts}
use Rattle.care_sets.specs.declared.model.CareModel.{CareModel}
use Rattle.care_sets.specs.Care.{HasValues}
use Rattle.care_sets.specs.Binding.{IsBoundTo}
use Rattle.care_sets.specs.Laws.{VectorsServeAssume, StatesServeInvariant}
use Rattle.care_sets.proofs.BindingLemmas.{columns_within}

serves : (net : Parts) (first : ℕ) (values : List Bool) (m : Option CareModel) → IfSome m (IsBoundTo net first) → columns net ≡ first + length values → IfSome m (HasValues values)
serves net first values m bound wide = grind (arith, columns_within)

pub vectors_serve_assume : VectorsServeAssume
vectors_serve_assume net care v bound width = serves net 0 v care.assume bound.assume (omega arith)

pub states_serve_invariant : StatesServeInvariant
states_serve_invariant net care q bound width = serves net (length net.inputs) q care.invariant bound.invariant (omega arith)
