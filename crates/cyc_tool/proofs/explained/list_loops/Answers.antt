use Rattle.std.proofs.Common.{◌≡◌, ◌++◌, false, true≢false, Result, Ok, Err, is_err, OnOk, sym, ap, ◌∙◌}
use Rattle.report.specs.Verdicts.{accepted_text}
use Rattle.explain_text.specs.Lines.{told_loops}
use Rattle.cyc_tool.proofs.Common.{sweeps_needed}
use Rattle.plain_commands.specs.Texts.{count_of_loops, on_out}
use Rattle.cyc_tool.proofs.explained.list_loops.Goals as goal

-- what is promised of a call that has not failed
unfailed : {T E : Type 0} (r : Result T E) (P : Type 0) → false ≡ is_err r → OnOk r P → P
unfailed (Ok x) P is told = told
unfailed (Err e) P is told = absurd (true≢false (sym is))

pub returns : goal.returns
returns c = λ care on_care.
    let net = c.args.counted.now.net in
    let line = unfailed c.put_accepted_line.result _ c.if-is_err.ensures.value (rw c.looped.ensures.looped at c.put_accepted_line.ensures) in
    c.on_out.ensures
    ∙ ap (λ text. on_out 0 text)
    (c.into_vec.ensures
    ∙ c.in_ok-tell_loops.ensures.on_care care on_care
    ∙ ap (λ text. text ++ told_loops net (sweeps_needed net care)) (line ∙ ap (λ text. text ++ accepted_text net (count_of_loops net) c.args.loose) c.new-sink.ensures.empty))
