-- What is found within a budget.
use Rattle.std.specs.Prelude.{◌≡◌, Bool, List, option_map}
use Rattle.std.specs.declared.option.Option.{Option}
use Rattle.cyc_base.specs.declared.sig.Sig.{Sig}
use Rattle.netlist.specs.declared.parts.Parts.{Parts}
use Rattle.care_sets.specs.Care.{CareSet}
use Rattle.refusals.specs.declared.observe.Observe.TheVariants as observe
use Rattle.refusals.specs.declared.refusal.Refusal.TheVariants.{Undetermined}
use Rattle.refusals.specs.Refusals.{refusal}
use Rattle.equal.specs.declared.least.Early.{Early}
use Rattle.equal.specs.declared.least.Early.TheVariants.{Found, Nothing}

-- the vector is that which was looked for, if it was found
abbrev pub IsFound : Option (List Bool) → Early → Type 0
IsFound least (Found found) = found ≡ least
IsFound least Nothing = Unit {0}

-- where a netlist is refused for one gate alone, if at all, the vector is that of its refusal
abbrev pub IsKnownEarly : Parts → CareSet → Early → Type 0
IsKnownEarly net care early = (s : Sig) (least : Option (List Bool)) →
    refusal net care observe.All ≡ option_map (λ v. Undetermined v s) least → IsFound least early
