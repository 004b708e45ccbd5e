-- A test that changes pass.
use Rattle.std.proofs.Common.{◌≡◌, ◌<◌, ◌+◌, ◌-◌, ◌==◌, ◌&&◌, ◌||◌, ℕ, zero, suc, Bool, true, List, ◌++◌, Some, None, refl, ◌∙◌, arith}
use Rattle.std.specs.Prelude.{if◌then◌else◌}
use Rattle.std.specs.List.{filter_map, cons_option, range_with_len, list_all}
use Rattle.std.proofs.lemmas.Bool.{and_from}
use Rattle.std.proofs.lemmas.List.Folds.{list_all-append}
use Rattle.netlist.specs.Netlists.{count, signal}
use Rattle.schedules.specs.Moments.{bit_at}
use Rattle.delay_core.specs.declared.change.Change.{Change}
use Rattle.delay_core.specs.Changes.{openings}
use Rattle.delay_core.specs.Plays.{PlayState, moment_of_number, differ, is_given, place, opening_change}

-- what an opening tells of a signal
abbrev pub opened_change : PlayState → ℕ → Bool → Change
opened_change play s value = record { at = place play play.opening; tick = play.tick; round = 0; sig = signal s; value = value }

module _ (p : Change → Bool) where
  pub some_pass : (test : Bool) (c : Change) (rest : List Change) → p c ≡ true → list_all p rest ≡ true → list_all p (cons_option (if test then Some c else None) rest) ≡ true
  some_pass test c rest here all = grind arith

  pub both_pass : (first second : List Change) → list_all p first ≡ true → list_all p second ≡ true → list_all p (first ++ second) ≡ true
  both_pass first second here there = list_all-append p first second ∙ and_from (list_all p first) (list_all p second) here there

  picked_pass : (play : PlayState) (a n : ℕ) → ((s : ℕ) (value : Bool) → s < a + n → p (opened_change play s value) ≡ true) →
      list_all p (filter_map (λ m. opening_change play (signal m)) (range_with_len a n)) ≡ true
  picked_pass play a zero each = refl
  picked_pass play a (suc n) each =
      let value : Bool = bit_at (moment_of_number play.history play.opening) (signal a) in
      let before : Bool = bit_at (moment_of_number play.history (play.opening - 1)) (signal a) in
      grind (arith, some_pass (play.tick == 1 || (is_given play.net (signal a) && differ before value)) (opened_change play a value), picked_pass play (a + 1) n)

  pub opening_pass : (play : PlayState) → ((s : ℕ) (value : Bool) → s < count play.net → p (opened_change play s value) ≡ true) → list_all p (openings play) ≡ true
  opening_pass play each = picked_pass play 0 (count play.net) (λ s v l. each s v (omega (arith, l)))
