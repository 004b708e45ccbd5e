use Rattle.std.proofs.Common.{◌≡◌, Some, None, sym, ap, subst, ◌∙◌, arith}
use Rattle.std.specs.Prelude.{MatchOption}
use Rattle.std.specs.declared.option.Option.{Option}
use Rattle.commands.specs.Words as asked
use Rattle.commands.specs.Seen.{options_seen}
use Rattle.commands.proofs.WordLemmas.{options_behind}
use Rattle.commands.proofs.parse.+options_of.Goals as goal

pub returns-in_ok-more-in-len2-up : goal.returns-in_ok-more-in-len2-up
returns-in_ok-more-in-len2-up t c = grind (arith, options_behind c.args.words.now c.word-item.result c.value-item.result (options_seen c.args.known) (options_seen c.in_ok-more-in-len2-up.more) c.in-len2-up.len_at_least c.word-item.is c.value-item.is)
