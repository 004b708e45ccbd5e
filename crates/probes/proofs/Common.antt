-- The names that most proofs of this crate cite, passed on from one place. Declares nothing.
pub use Rattle.cyc_base.specs.declared.sig.Sig.{Sig}
pub use Rattle.delay_core.specs.declared.change.Change.{Change}
pub use Rattle.netlist.specs.Netlists.{count, signal, signal_name}
pub use Rattle.probes.specs.Values.{value_after}
pub use Rattle.std.proofs.lemmas.Bool.{and_from, and_parts, cases_lt, eq-eqb, le-ltb, lt-ltb, ne_eqb, not-true}
pub use Rattle.std.proofs.lemmas.List.{append-nil, append_assoc}
pub use Rattle.std.proofs.lemmas.List.Folds.{list_all-append}
pub use Rattle.std.proofs.lemmas.Result.{IfOk-equal}
pub use Rattle.std.specs.List.{flat_map, fold, list_all, range_with_len}
pub use Rattle.probes.specs.Codes.{code, code_upto}
pub use Rattle.probes.specs.Dumps.{first_changes, head_text, is_first, later_changes, timed_lines, value_line, variable_line}
pub use Rattle.probes.specs.Reading.{Shown, lines_from, read_line}
