use Rattle.std.proofs.Common.{◌≡◌, ◌-◌, length, take, drop, Some, None, refl, sym, ap, ap₂, subst, ◌∙◌}
use Rattle.std.specs.Prelude.{MatchOption}
use Rattle.std.specs.declared.option.Option.{Option}
use Rattle.commands.specs.Words as asked
use Rattle.commands.specs.Seen.{command_seen}
use Rattle.commands.proofs.WordLemmas.{command_behind}
use Rattle.commands.proofs.parse.command_of_words.Goals as goal

pub returns-in-len2-up : goal.returns-in-len2-up
returns-in-len2-up c =
    let P : Option asked.Command → Type 0 = λ o. MatchOption c.command_on.result (o ≡ None) (λ command. o ≡ Some (command_seen command)) in
    subst P
    (sym (command_behind c.args.words.now c.command-item.result c.word-item-2.result c.in-len2-up.len_at_least c.command-item.is c.word-item-2.is
    (ap asked.is_file_word (sym c.bytes-2.ensures) ∙ sym c.is_file.ensures ∙ c.if-is_file.true)
    ∙ ap₂ (λ a b. asked.command_on a b (take (length c.args.words.now - 2) (drop 2 c.args.words.now))) (sym c.bytes-in-len2-up.ensures) refl))
    c.command_on.ensures
