use Rattle.std.proofs.Common.{◌≡◌, ◌++◌, length-append, ◌∙◌, arith}
use Rattle.flatten.proofs.Common.{own_clocks}
use Rattle.flatten.proofs.Gathering.{own_clocks_gathered}
use Rattle.flatten.proofs.link.add_clocks.Goals as goal
use Rattle.flatten.proofs.link.add_clocks.Goals.{In_ok-add_all}

gathered : (c : In_ok-add_all) → c.add_all.new.set.keys ≡ c.args.top.now.inputs ++ own_clocks c.args.top.now
gathered c = rw (c.requires, c.items.ensures) at c.in_ok-add_all.ensures ∙ own_clocks_gathered c.args.top.now

pub returns-clause-all : goal.returns-clause-all
returns-clause-all c = gathered (goal.at.returns-clause-all c).In_ok-add_all

pub overflow_sub-result : goal.overflow_sub-result
overflow_sub-result c = grind (arith, gathered (goal.at.overflow_sub-result c).In_ok-add_all, length-append c.args.top.now.inputs (own_clocks c.args.top.now))

pub returns-clause-count : goal.returns-clause-count
returns-clause-count c = grind (arith, gathered (goal.at.returns-clause-count c).In_ok-add_all, length-append c.args.top.now.inputs (own_clocks c.args.top.now))
