use Rattle.std.proofs.Common.{◌≡◌, sym, ap, ◌∙◌}
use Rattle.commands.specs.Words.{command_in}
use Rattle.plain_commands.proofs.PlanLemmas.{ends_or_lacks}
use Rattle.cyc_tool.proofs.RunLemmas.{comes_to_command, comes_to_usage, keeps_still}
use Rattle.plain_commands.specs.Texts.{usage}
use Rattle.cyc_tool.proofs.top.carry_out_words.Goals as goal

pub returns-in-Some-clause-comes : goal.returns-in-Some-clause-comes
returns-in-Some-clause-comes g c = comes_to_command _ _ _ _ _ _ (ap command_in (sym (c.deref.ensures.value ∙ c.in_ok-words.ensures)) ∙ c.in-Some.ensures) c.carry_out.ensures.comes

pub returns-clause-comes : goal.returns-clause-comes
returns-clause-comes g c =
    comes_to_usage _ _ _ _ _ _ (ap command_in (sym (c.deref.ensures.value ∙ c.in_ok-words.ensures)) ∙ c.in-None.ensures) (ends_or_lacks c.tell_usage.result (λ end. end ≡ usage) _ c.or_stop.ensures c.tell_usage.ensures)

pub returns-clause-kept : goal.returns-clause-kept
returns-clause-kept g c = keeps_still _ _
