-- The names that most proofs of this crate cite, passed on from one place. Declares nothing.
pub use Rattle.blif_read.specs.Faults.{fault_at, fault_inside, first_fault, is_equals, is_pair, or_else}
pub use Rattle.blif_read.specs.Kinds.{arguments, kind, model_name}
pub use Rattle.blif_read.specs.Models.{members}
pub use Rattle.blif_read.specs.Places.{is_model_name, place_behind}
pub use Rattle.blif_read.specs.Readers.{progress_of}
pub use Rattle.blif_read.specs.Reads.{if_any, reads, reads_lines, unless_fault}
pub use Rattle.blif_read.specs.Running.{OpenGate, OpenModel, Progress, all_ended, fault_next, follow}
pub use Rattle.blif_read.specs.Statements.{pair_of, pins_of, statement, statement_of_kind}
pub use Rattle.blif_read.specs.declared.fault.BlifFault.{BlifFault}
pub use Rattle.blif_read.specs.declared.kind.LineKind.{LineKind}
pub use Rattle.blif_read.specs.declared.kind.LineKind.TheVariants.{Model}
pub use Rattle.blif_read.specs.declared.models.BlifModel.{BlifModel}
pub use Rattle.blif_read.specs.declared.place.LinePlace.{LinePlace}
pub use Rattle.blif_read.specs.declared.statement.Statement.{Statement}
pub use Rattle.blif_read.specs.declared.statement.Statement.TheVariants.{Clocks, End, Inputs, Latch, Outputs, Part}
pub use Rattle.blif_text.specs.Texts.{Line}
pub use Rattle.cyc_base.specs.declared.limits.TheConstants.{MAX_PINS}
pub use Rattle.std.proofs.Math.Seq.{drop-cons}
pub use Rattle.std.proofs.lemmas.List.Elements.{All-head, All-tail}
pub use Rattle.std.specs.List.{list_all}
pub use Rattle.std.specs.Prelude.{Option, Result, bytes_eq, if◌then◌else◌, option_map, slice_range, ◌&&◌}
