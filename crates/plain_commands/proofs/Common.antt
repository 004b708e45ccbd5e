-- The names that most proofs of this crate cite, passed on from one place. Declares nothing.
pub use Rattle.blif_write.specs.Written.{written}
pub use Rattle.parsed_files.specs.Faults.{IsErrorOf}
pub use Rattle.parsed_files.specs.NetlistFiles.{netlist_of}
pub use Rattle.parsed_files.specs.Seen.{error_seen}
pub use Rattle.cyc_base.specs.Values.{bits}
pub use Rattle.cyc_base.specs.declared.sig.Sig.{Sig}
pub use Rattle.cyc_base.specs.declared.trit.Trit.{Trit}
pub use Rattle.cyc_io.specs.Faults.{Counts}
pub use Rattle.cyc_io.specs.Files.{Files}
pub use Rattle.delay_core.specs.declared.plan.Schedule.{Schedule}
pub use Rattle.netlist.specs.Fixpoint.{fix}
pub use Rattle.netlist.specs.Netlists.{IsNetlist}
pub use Rattle.netlist.specs.declared.parts.Parts.{Parts}
pub use Rattle.plain_commands.specs.Plans.{Assumes, Compares, Decides, Ending, Ends, Faulty, Plan, Prints, Reads, WantsMemory, with_netlist, with_vectors}
pub use Rattle.plain_commands.specs.Plays.{delays_text, known, played}
pub use Rattle.plain_commands.specs.Reading.{FollowsAlone, GoesOn, StopsIn}
pub use Rattle.plain_commands.specs.Requests.{Shows}
pub use Rattle.plain_commands.specs.Seen.{end_of, outcome_of, stop_outcome}
pub use Rattle.plain_commands.specs.Shelves.{AreGiven, EndsBy, FollowsBy, NothingDecided, ShelfCall, rest_of}
pub use Rattle.plain_commands.specs.Texts.{Outcome, no_memory, told}
pub use Rattle.refusals.specs.Refusals.{IsRefusalOf}
pub use Rattle.refusals.specs.declared.refusal.Refusal.{Refusal}
pub use Rattle.refusals.specs.declared.refusal.Refusal.TheVariants.{Undetermined}
pub use Rattle.std.proofs.lemmas.Result.{err_from_is_err_and}
pub use Rattle.std.specs.Prelude.{IfOk}
pub use Rattle.std.specs.declared.option.Option.{Option}
