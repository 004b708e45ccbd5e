-- What a call comes to.
use Rattle.std.proofs.Common.{◌≡◌, ◌⊎◌, ◌≤◌, ℕ, List, Some, None, refl, sym, subst, arith}
use Rattle.cyc_tool.proofs.Common.{Option, Counts, Files, Arena, Command, ShelfCall, ComesTo, Follows, plan_of, Shows, Outcome, no_memory}
use Rattle.commands.specs.Words.{Decide, Assume, Equal, Flat, Loops, Sim, Delays, Demo, Help, HelpOn, Version}
use Rattle.cyc_tool.specs.Calls.{KeepsNodes}
use Rattle.plain_commands.specs.Texts.{usage}

-- a call comes to what its command comes to, and words outside the grammar to the usage
pub comes_to_command : (shows : Shows) (asked : Option Command) (command : Command) (shelf : ShelfCall) (nodes : Arena) (end : Outcome) → asked ≡ Some command
    → Follows (plan_of shows command) shelf nodes end → ComesTo shows asked shelf nodes end
comes_to_command shows asked command shelf nodes end is follows =
    let P : Option Command → Type 0 = λ c. ComesTo shows c shelf nodes end in
    subst P (sym is) follows

pub comes_to_usage : (shows : Shows) (asked : Option Command) (files : Option Files) (counts : Counts) (nodes : Arena) (end : Outcome) → asked ≡ None
    → (end ≡ usage) ⊎ (end ≡ no_memory) → ComesTo shows asked (record { files = files; before = counts; now = counts }) nodes end
comes_to_usage shows asked files counts nodes end is ends =
    let P : Option Command → Type 0 = λ c. ComesTo shows c (record { files = files; before = counts; now = counts }) nodes end in
    subst P (sym is) (record { counts = record { later = λ other. omega arith; others = λ other differs. refl }; ends = ends })

-- diagrams that stay are kept
pub keeps_still : (asked : Option Command) (nodes : Arena) → KeepsNodes asked nodes nodes
keeps_still None nodes = refl
keeps_still (Some (Decide file options purpose)) nodes = tt
keeps_still (Some (Assume file options)) nodes = tt
keeps_still (Some (Equal file second options)) nodes = tt
keeps_still (Some (Flat file)) nodes = refl
keeps_still (Some (Loops file form)) nodes = refl
keeps_still (Some (Sim file vectors)) nodes = refl
keeps_still (Some (Delays file vectors recorded probe)) nodes = refl
keeps_still (Some (Demo cells)) nodes = tt
keeps_still (Some Help) nodes = refl
keeps_still (Some (HelpOn topic)) nodes = refl
keeps_still (Some Version) nodes = refl

-- the counts on both sides of a run
pub counts_later : (shows : Shows) (asked : Option Command) (shelf : ShelfCall) (nodes : Arena) (end : Outcome) → ComesTo shows asked shelf nodes end
    → (name : List ℕ) → shelf.before name ≤ shelf.now name
counts_later shows None shelf nodes end comes = comes.counts.later
counts_later shows (Some command) shelf nodes end comes = comes.counts.later
