use Rattle.std.proofs.Common.{ap, ◌∙◌, arith}
use Rattle.std.proofs.lemmas.Result.{err_from_is_err_and}
use Rattle.parsed_files.specs.NetlistFiles.{models_result, top_of}
use Rattle.parsed_files.proofs.ErrorLemmas.{or_more, text_says, walk_says}
use Rattle.parsed_files.proofs.FlatLemmas.{flat_has_few_columns}
use Rattle.parsed_files.proofs.NetlistLemmas.{first_bad, netlist_of_short}
use Rattle.parsed_files.proofs.netlist_files.netlist_of.Goals as goal

pub returns-in_err-models-clause-bad : goal.returns-in_err-models-clause-bad
returns-in_err-models-clause-bad c =
    let short = rw c.deref.ensures.value at c.in_ok-check_length.ensures.short in
    let q = err_from_is_err_and c.from_residual-in_err-models.result c.from_residual-in_err-models.ensures.1 in
    rw q.1 (text_says _ c.in_err-models.field-0.0 _ q.2
    (λ differs. netlist_of_short c.args.bytes.items short ∙ ap models_result (c.in_err-models.ensures.models differs)))

pub returns-in_err-flatten_owned-clause-bad : goal.returns-in_err-flatten_owned-clause-bad
returns-in_err-flatten_owned-clause-bad c =
    let short = rw c.deref.ensures.value at c.in_ok-check_length.ensures.short in
    let q = err_from_is_err_and c.from_residual-in_err-flatten_owned.result c.from_residual-in_err-flatten_owned.ensures.1 in
    rw q.1 (walk_says _ c.in_err-flatten_owned.field-0.0 _ q.2
    (or_more (first_bad c.args.bytes.items _ c.in_ok-top.top _ short c.in_ok-models.ensures.models (c.in_ok-top.ensures ∙ c.top.ensures ∙ ap top_of c.items.ensures))
    c.in_err-flatten_owned.ensures.fault))

pub returns-clause-inputs : goal.returns-clause-inputs
returns-clause-inputs c = grind (arith, flat_has_few_columns c.args.bytes.items _ _ _ c.in_ok-models.ensures.models c.in_ok-flatten_owned.ensures.netlist)

pub returns-clause-latches : goal.returns-clause-latches
returns-clause-latches c = (flat_has_few_columns c.args.bytes.items _ _ _ c.in_ok-models.ensures.models c.in_ok-flatten_owned.ensures.netlist).latches
