-- The names that most proofs of this crate cite, passed on from one place. Declares nothing.
pub use Rattle.bdd_store.specs.Arena.{Arena}
pub use Rattle.blif_write.specs.Written.{written}
pub use Rattle.commands.specs.Seen.{cells_seen, options_seen, purpose_seen}
pub use Rattle.commands.specs.Words.{Command, Demonstrates, Explains, Judges, Purpose, Rewrites, Storms, WritesGraph}
pub use Rattle.commands.specs.declared.form.Form.{Form}
pub use Rattle.parsed_files.specs.NetlistFiles.{netlist_of}
pub use Rattle.cyc_base.specs.Values.{bits}
pub use Rattle.cyc_base.specs.declared.sig.Sig.{Sig}
pub use Rattle.cyc_io.specs.Faults.{Counts}
pub use Rattle.cyc_io.specs.Files.{Files}
pub use Rattle.plain_commands.specs.Texts.{told, Outcome, no_memory}
pub use Rattle.plain_commands.specs.Shelves.{AreGiven, ShelfCall, rest_of}
pub use Rattle.cyc_tool.specs.Calls.{ComesOf, ComesTo, EndsAt, Follows, Found, IsCompared, IsDecided, IsSought, Limit, Runs, Sought, Undecided, Unfinished}
pub use Rattle.plain_commands.specs.Plans.{Assumes, Compares, Decides, Ending, Ends, Faulty, WantsMemory, Outgrows, Plan, Prints, Reads, plan_of, with_netlist}
pub use Rattle.plain_commands.specs.Requests.{Shows}
pub use Rattle.plain_commands.specs.Seen.{end_of, outcome_of, stop_outcome}
pub use Rattle.netlist.specs.Fixpoint.{fix}
pub use Rattle.netlist.specs.Netlists.{IsNetlist}
pub use Rattle.netlist.specs.declared.parts.Parts.{Parts}
pub use Rattle.refusals.specs.Refusals.{IsRefusalOf}
pub use Rattle.refusals.specs.declared.refusal.Refusal.{Refusal}
pub use Rattle.refusals.specs.declared.refusal.Refusal.TheVariants.{Undetermined}
pub use Rattle.loop_simulation.specs.Sweeping.{sweeps_needed}
pub use Rattle.std.proofs.lemmas.Result.{IfOk-weaker, err_from_is_err_and}
pub use Rattle.std.specs.Prelude.{IfOk, if◌then◌else◌, nat_le}
pub use Rattle.std.specs.declared.option.Option.{Option}
