use Rattle.std.proofs.Common.{refl}
use Rattle.cyc_tool.proofs.AnswerLemmas.{gives_answer, is_complete}
use Rattle.cyc_tool.proofs.CauseLemmas.{Eight, One, Zero, done_cause, fault_cause, help_told, limit_cause, read_cause, usage_cause, usage_told, write_cause}
use Rattle.cyc_tool.proofs.RunLemmas.{counts_later}
use Rattle.cyc_tool.proofs.Common.{Runs, end_of}
use Rattle.plain_commands.specs.Shelves.{shelf_call}
use Rattle.plain_commands.specs.Sinks.{sink_call}
use Rattle.plain_commands.specs.Requests.{request}
use Rattle.cyc_tool.proofs.top.run.Given as given
use Rattle.cyc_tool.proofs.top.run.Goals as goal

-- what was found is told
runs : (g : given.Over) (c : goal.After-drop-probes g)
    → Runs (request (λ b. (goal.Probe-dyn g (b.vtable, b.value)).kind b.value) (λ b. (goal.Probe-dyn g (b.vtable, b.value)).text b.value) c.args.words.now c.args.probes.items)
    (shelf_call g.S.Shelf.files g.S.Shelf.faults c.args.shelf.now c.carry_out_words-end.new.shelf) c.carry_out_words-end.new.d
    (sink_call g.O.Sink.put g.O.Sink.faults c.args.out.now c.tell_end.new.out) (sink_call g.E.Sink.put g.E.Sink.faults c.args.err.now c.tell_end.new.err) c.tell_end.result
runs g c = record { end = end_of c.carry_out_words-end.result; comes = rw c.deref_mut.ensures.value at c.carry_out_words-end.ensures.comes; tells = c.tell_end.ensures.told }

pub returns-clause-runs : goal.returns-clause-runs
returns-clause-runs g c = runs g c

pub returns-clause-usage : goal.returns-clause-usage
returns-clause-usage g c = usage_cause c.storms_never_rest.ensures _ _ _ _ _ _ (runs g c)

pub returns-clause-no_command : goal.returns-clause-no_command
returns-clause-no_command g c = usage_told c.storms_never_rest.ensures _ _ _ _ _ _ (runs g c)

pub returns-clause-helped : goal.returns-clause-helped
returns-clause-helped g c = help_told _ _ _ _ _ _ (runs g c)

pub returns-clause-fault : goal.returns-clause-fault
returns-clause-fault g c = fault_cause c.storms_never_rest.ensures _ _ _ _ _ _ (runs g c)

pub returns-clause-read_failed : goal.returns-clause-read_failed
returns-clause-read_failed g c = read_cause c.storms_never_rest.ensures _ _ _ _ _ _ (runs g c)

pub returns-clause-write_failed : goal.returns-clause-write_failed
returns-clause-write_failed g c = write_cause c.storms_never_rest.ensures _ _ _ _ _ _ (runs g c)

pub returns-clause-limited : goal.returns-clause-limited
returns-clause-limited g c = limit_cause c.storms_never_rest.ensures _ _ _ _ _ _ (runs g c)

pub returns-clause-done : goal.returns-clause-done
returns-clause-done g c = done_cause c.storms_never_rest.ensures _ _ _ _ _ _ (runs g c) 0 (Zero refl)

pub returns-clause-refused : goal.returns-clause-refused
returns-clause-refused g c = done_cause c.storms_never_rest.ensures _ _ _ _ _ _ (runs g c) 1 (One refl)

pub returns-clause-outgrown : goal.returns-clause-outgrown
returns-clause-outgrown g c = done_cause c.storms_never_rest.ensures _ _ _ _ _ _ (runs g c) 8 (Eight refl)

pub returns-clause-answer : goal.returns-clause-answer
returns-clause-answer g c = gives_answer _ _ _ _ _ _ (runs g c)

pub returns-clause-complete : goal.returns-clause-complete
returns-clause-complete g c = is_complete _ _ _ _ _ _ (runs g c)

pub returns-clause-counts : goal.returns-clause-counts
returns-clause-counts g c = record {
  reads = counts_later _ _ _ _ _ (runs g c).comes;
  writes_out = c.tell_end.ensures.out_later;
  writes_err = c.tell_end.ensures.err_later;
}
