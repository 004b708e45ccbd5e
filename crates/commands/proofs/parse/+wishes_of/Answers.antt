use Rattle.std.proofs.Common.{arith}
use Rattle.commands.specs.Seen.{wishes_seen}
use Rattle.commands.proofs.WordLemmas.{flag_behind, wish_behind}
use Rattle.commands.proofs.parse.+wishes_of.Goals as goal

pub returns-in_ok-more-in-len1-up : goal.returns-in_ok-more-in-len1-up
returns-in_ok-more-in-len1-up t c =
    grind (arith, flag_behind c.args.flag.now c.args.words.now c.word-item.result (wishes_seen c.args.known) (wishes_seen c.in_ok-more-in-len1-up.more) c.in-len1-up.len_at_least c.word-item.is)

pub returns-in_ok-more-in-len2-up : goal.returns-in_ok-more-in-len2-up
returns-in_ok-more-in-len2-up t c =
    grind (arith, wish_behind c.args.flag.now c.args.words.now c.word-item-2.result c.word-item.result c.value-item.result (wishes_seen c.args.known) (wishes_seen c.in_ok-more-in-len2-up.more) c.in-len2-up.len_at_least c.word-item-2.is c.word-item.is c.value-item.is)
