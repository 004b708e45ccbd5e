-- A refusal of a netlist is one of its own parts.
use Rattle.std.proofs.Common.{◌≡◌, Some}
use Rattle.netlist.specs.declared.parts.Parts.{Parts}
use Rattle.netlist.specs.Netlists.{IsNetlist}
use Rattle.care_sets.specs.Care.{CareSet}
use Rattle.refusals.specs.Refusals.{IsRefusalOf, refusal}
use Rattle.refusals.specs.declared.observe.Observe.TheVariants as observe
use Rattle.refusals.specs.declared.refusal.Refusal.{Refusal}
use Rattle.refusals.proofs.LawLemmas.{refusal_is_shown}

pub refusal_fits : (net : Parts) (care : CareSet) (refused : Refusal) → IsNetlist net → refusal net care observe.All ≡ Some refused → IsRefusalOf net refused
refusal_fits net care refused valid is = (refusal_is_shown net care observe.All refused valid is).0
