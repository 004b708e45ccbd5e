use Rattle.std.proofs.Common.{sym, ◌∙◌}
use Rattle.cover_logic.proofs.TautologyLemmas.{sure, extension_sure, extension_never, extension_open}
use Rattle.cover_logic.proofs.extend.extension_of_rows.Goals as goal

pub returns-then-any_row_surely_matches : goal.returns-then-any_row_surely_matches
returns-then-any_row_surely_matches c =
    c.of.ensures
    ∙ sym (extension_sure c.args.plane c.args.rows.now c.args.trits.now c.requires
    (sure c.args.rows.now c.args.trits.now (sym c.any_row_surely_matches.ensures ∙ c.if-any_row_surely_matches.true)))

pub returns-then-not-any_row_maybe_matches : goal.returns-then-not-any_row_maybe_matches
returns-then-not-any_row_maybe_matches c =
    c.of-then-not-any_row_maybe_matches.ensures
    ∙ sym (extension_never c.args.plane c.args.rows.now c.args.trits.now c.requires
    (sym c.any_row_maybe_matches.ensures ∙ c.if-not-any_row_maybe_matches.true))

pub returns-then-all : goal.returns-then-all
returns-then-all c =
    c.of-then-all.ensures
    ∙ sym (extension_sure c.args.plane c.args.rows.now c.args.trits.now c.requires (sym c.in_ok-all.ensures ∙ c.if-all.true))

pub returns-else-all : goal.returns-else-all
returns-else-all c =
    sym (extension_open c.args.plane c.args.rows.now c.args.trits.now c.requires
    (sym c.any_row_maybe_matches.ensures ∙ c.if-not-any_row_maybe_matches.false)
    (sym c.in_ok-all.ensures ∙ c.if-all.false))
