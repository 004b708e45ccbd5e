-- Netlists that are split by cases.
use Rattle.std.proofs.Common.{◌≡◌, Bool, List, length, subst, ◌∙◌}
use Rattle.std.specs.Prelude.{IfOk, IfSome, Ok, Err, Some, None}
use Rattle.std.specs.declared.option.Option.{Option}
use Rattle.std.specs.declared.result.Result.{Result}
use Rattle.cyc_base.specs.declared.trit.Trit.{Trit}
use Rattle.cyc_base.specs.Values.{bits}
use Rattle.netlist.specs.declared.parts.Parts.{Parts}
use Rattle.netlist.specs.Netlists.{IsNetlist, columns}
use Rattle.care_sets.specs.Care.{CareSet, IsCareVector}
use Rattle.refusals.proofs.RefusalLemmas.{length-bits}
use Rattle.unroll.specs.Laws.{KeepsInterface, TellsAsMuchAt}
use Rattle.case_split.specs.declared.cases.Case.{Case}
use Rattle.case_split.specs.Cases.{IsInOneCase}
use Rattle.case_search.specs.Splits.{IsSplitOf}
use Rattle.case_search.proofs.KeptLemmas.{keeps_through, tells_through}

-- what holds of what was made holds of it where it is small
pub of_small : {T E F : Type 0} (P : T → Type 0) (made : Result T E) (small : Result (Option T) F) → IfOk small (λ kept. IfSome kept (λ value. made ≡ Ok value))
    → IfOk made P → IfOk small (λ kept. IfSome kept P)
of_small {T} {E} P made (Ok (Some value)) is holds = let Q : Result T E → Type 0 = λ r. IfOk r P in subst Q is holds
of_small P made (Ok None) is holds = tt
of_small P made (Err fault) is holds = tt

pub small_weaker : {T F : Type 0} (P Q : T → Type 0) → ((x : T) → P x → Q x) → (small : Result (Option T) F) → IfOk small (λ kept. IfSome kept P) → IfOk small (λ kept. IfSome kept Q)
small_weaker P Q follows (Ok (Some value)) holds = follows value holds
small_weaker P Q follows (Ok None) holds = tt
small_weaker P Q follows (Err fault) holds = tt

pub of_some : {T : Type 0} (P : T → Type 0) (o : Option T) (x : T) → o ≡ Some x → IfSome o P → P x
of_some {T} P o x is holds = let Q : Option T → Type 0 = λ p. IfSome p P in subst Q is holds

-- and three facts of it give a fourth
pub of_three : {T E : Type 0} (P Q R S : T → Type 0) → ((x : T) → P x → Q x → R x → S x) → (made : Result T E) → IfOk made P → IfOk made Q → IfOk made R → IfOk made S
of_three P Q R S follows (Ok value) p q r = follows value p q r
of_three P Q R S follows (Err fault) p q r = tt

-- So a netlist that is split by cases on care tells at each care vector at least what the netlist does.
pub is_split : (net split : Parts) (care : CareSet) (cases : List Case) → ((v : List Bool) → IsCareVector net care v → IsInOneCase cases (bits v))
    → IsNetlist split → KeepsInterface net split
    → ((v : List Trit) → length v ≡ columns net → IsInOneCase cases v → TellsAsMuchAt net split v) → IsSplitOf net care split
is_split net split care cases in_one valid interface tells = record {
  valid = valid;
  interface = interface;
  tells = record {
    outputs = λ v counts. let at = tells (bits v) (length-bits v ∙ counts.width) (in_one v counts) in at.outputs;
    loads = λ v counts. let at = tells (bits v) (length-bits v ∙ counts.width) (in_one v counts) in at.loads;
  };
}

-- ---- region by region

pub split_through : (net mid other : Parts) (care : CareSet) → IsSplitOf net care mid → IsSplitOf mid care other → IsSplitOf net care other
split_through net mid other care first last = record {
  valid = last.valid;
  interface = keeps_through net mid other first.interface last.interface;
  tells = tells_through net mid first.interface other care first.tells last.tells;
}
