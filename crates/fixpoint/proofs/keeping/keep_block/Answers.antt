use Rattle.std.proofs.Common.{get_or, Option, Result, Ok, Err, Some, None, IfSome}
use Rattle.std.specs.Prelude.{OnOk}
use Rattle.fixpoint.proofs.Common.{All, AreRailsOf, Arena, GainsRoots, SweptLoop}
use Rattle.fixpoint.proofs.KeptLemmas.{GainsRoots_chain, All-rails-gained}
use Rattle.fixpoint.proofs.KeepingLemmas.{holds-gained}
use Rattle.fixpoint.proofs.keeping.keep_block.Goals as goal

-- what is so in any case
in_any : {T E P : Type 0} (r : Result T E) → P → OnOk r P
in_any (Ok x) is = is
in_any (Err e) is = tt

found-gained : {s t : Arena} → GainsRoots s t → (found : Option SweptLoop) → IfSome found (λ swept. All (All (AreRailsOf s)) swept.steps) → IfSome found (λ swept. All (All (AreRailsOf t)) swept.steps)
found-gained gains (Some swept) all = λ k none less. All-rails-gained gains (get_or swept.steps k none) (all k none less)
found-gained gains None all = tt

pub keep_found-requires : goal.keep_found-requires
keep_found-requires c = found-gained c.keep_solved.ensures.gains c.args.found c.requires.steps

pub returns-clause-kept : goal.returns-clause-kept
returns-clause-kept c = in_any c.keep_found.result (λ n has. holds-gained c.keep_found.ensures.gains (c.in_ok-keep_solved.ensures.kept n has))

pub returns-clause-others : goal.returns-clause-others
returns-clause-others c = in_any c.keep_found.result c.in_ok-keep_solved.ensures.others

pub returns-clause-gains : goal.returns-clause-gains
returns-clause-gains c = GainsRoots_chain c.keep_solved.ensures.gains c.keep_found.ensures.gains
