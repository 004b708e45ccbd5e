-- What is known of an event that isn't refused.
use Rattle.std.proofs.Common.{◌≡◌, ℕ, ◌+◌, ◌≤◌, ◌<◌, ◌==◌, Bool, true, false, not, List, [], ◌∷◌, length, replicate, get_or, All, Some, None, Option, refl, arith, nat_lt, eqb-true, true≢false}
use Rattle.delay_core.proofs.Common.{cases_eq, cases_lt, length-replicate, Parts, History, newest, position, option_map, count, gate_at, Event, IsEventOf, EventFault, PlayState, first_allowed, event_fault, no_events}
use Rattle.std.proofs.lemmas.List.{get_or-replicate, get_or_past}
use Rattle.std.specs.Prelude.{if◌then◌else◌}
use Rattle.std.proofs.lemmas.Bool.{ltb-true, ltb-false, not-false}
use Rattle.cyc_base.proofs.ListLemmas.{option_map-nothing}
use Rattle.netlist.proofs.Decisions.{none_found}
use Rattle.delay_core.specs.declared.fault.EventFault.TheVariants.{NoGate, AgeCount, TooOld}
use Rattle.delay_core.specs.Plays.{is_too_old, IsPlay}

-- an event that isn't refused is one of the netlist, and reads what it may
pub record IsAllowed (play : PlayState) (event : Event) : Type 0 where
  pub of : IsEventOf play.net event
  pub ages : All (λ age. first_allowed play + age ≤ length play.history) event.ages

cases_of : (a b : Bool) (c : Option EventFault) → (if not a then Some NoGate else (if not b then Some AgeCount else c)) ≡ None → (a ≡ true) × (b ≡ true) × (c ≡ None)
cases_of a b c e = grind arith

pub is_allowed : (play : PlayState) (event : Event) → event_fault play event ≡ None → IsAllowed play event
is_allowed play event e =
    let parts = cases_of (nat_lt event.gate (length play.net.gates)) (length event.ages == length (gate_at play.net event.gate).pins) (option_map TooOld (position (is_too_old play) event.ages)) e in
    record {
      of = record { gate = ltb-true _ _ parts.0; ages = eqb-true _ _ parts.1 };
      ages = λ k d l.
          let fine : is_too_old play (get_or event.ages k d) ≡ false = none_found (is_too_old play) event.ages (option_map-nothing TooOld (position (is_too_old play) event.ages) parts.2) k d l in
          ltb-false (length play.history) (first_allowed play + get_or event.ages k d) fine;
    }

-- nothing is true of all false
pub never_true : (n k : ℕ) → get_or (replicate n false) k false ≡ false
never_true n k = grind (arith, cases_lt k n, get_or-replicate n k false false, get_or_past (replicate n false) k false, length-replicate n false)

-- where no gate is left without an event, each had one
pub each_had : (gates : List Bool) → position (λ had. not had) gates ≡ None → (n : ℕ) → n < length gates → get_or gates n false ≡ true
each_had gates none n l = not-false (get_or gates n false) (none_found (λ (b : Bool). not b) gates none n false l)

no_gates : (gates : List Bool) → length gates ≡ 0 → gates ≡ []
no_gates [] e = refl
no_gates (had ∷ gates) e = absurd (omega arith)

module _ (net : Parts) (history : History) (before now opening : ℕ) (marks : List ℕ) (round : ℕ) (gates : List Bool) (is : IsPlay net history before now opening marks round gates) (fair : position (λ had. not had) gates ≡ None) where
  -- as many rounds as there are events, at most, where there is a gate
  pub round_behind : 1 ≤ length net.gates → round ≤ length marks
  round_behind some = is.had 0 (each_had gates fair 0 (omega (arith, is.done)))

  -- so that only a netlist without gates can have more rounds than events
  pub none_had : length marks < round → no_events net ≡ gates
  none_had more = grind (arith, cases_eq (length net.gates) 0, no_gates gates, round_behind)

  -- the next round begins
  pub round_ends : (next : ℕ) → round ≤ next → next ≤ round + 1 → IsPlay net history before now opening marks next (no_events net)
  round_ends next from to = grind (arith, length-replicate (length net.gates) false, round_behind, true≢false, never_true (length net.gates))

-- a tick that has just opened fits
pub opens : (net : Parts) (history : History) (before now opening : ℕ) → length (newest history) ≡ count net → 1 ≤ now → before + now ≤ opening → opening ≡ length history → IsPlay net history before now opening [] 1 (no_events net)
opens net history before now opening wide tick ticks moments = grind (arith, length-replicate (length net.gates) false, true≢false, never_true (length net.gates))
