-- The names that most proofs of this crate cite, passed on from one place. Declares nothing.
pub use Rattle.cyc_base.specs.Values.{bits}
pub use Rattle.cyc_base.specs.declared.sig.Sig.{Sig}
pub use Rattle.delay_core.specs.Entries.{WritesMoment, history_of, value_from}
pub use Rattle.delay_core.specs.Plans.{IsPlayedFairly, PlannedTick, after_plan, after_planned, after_plans, events_fault, first_opened, gate_agrees, given_at, planned_fault, rest_of, round_fault, rounds_fault, schedule_fault, tick_of, ticks_fault}
pub use Rattle.delay_core.specs.Plays.{PlayState, SeenPlay, after_event, event_fault, first_allowed, most_rounds, next_tick, no_events, starts_of}
pub use Rattle.delay_core.specs.Timelines.{Told}
pub use Rattle.delay_core.specs.declared.fault.EventFault.{EventFault}
pub use Rattle.delay_core.specs.declared.fault.PlayFault.{PlayFault}
pub use Rattle.delay_core.specs.declared.plan.PlannedEvent.{PlannedEvent}
pub use Rattle.delay_core.specs.declared.plan.RoundPlan.{RoundPlan}
pub use Rattle.delay_core.specs.declared.plan.Schedule.{Schedule}
pub use Rattle.netlist.specs.Fixpoint.{wires}
pub use Rattle.netlist.specs.Netlists.{count, gate_at, gate_sig}
pub use Rattle.netlist.specs.declared.parts.Parts.{Parts}
pub use Rattle.schedules.specs.Fairness.{IsEventOf}
pub use Rattle.schedules.specs.Moments.{History, Moment, bit_at, moment_at, newest, seen}
pub use Rattle.schedules.specs.Runs.{Played, gates_at, loaded_at, play, played}
pub use Rattle.schedules.specs.declared.event.Event.{Event}
pub use Rattle.std.proofs.lemmas.Bool.{cases_eq, cases_lt}
pub use Rattle.std.proofs.lemmas.List.{ext_get_or, get_or-map, get_or-set_other, get_or_default, get_or_read, length-map, length-replicate, length-set, take_all}
pub use Rattle.std.proofs.lemmas.List.Elements.{All-head, All-tail}
pub use Rattle.std.proofs.lemmas.List.FromFn.{get_or-range_with_len, length-range_with_len}
pub use Rattle.std.specs.List.{range_with_len, zip}
pub use Rattle.std.specs.Option.{option_or}
pub use Rattle.std.specs.Prelude.{option_map, position, vec_capacity, vec_len}
