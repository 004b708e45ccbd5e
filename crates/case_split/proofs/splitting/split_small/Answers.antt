use Rattle.std.proofs.Common.{sym, subst}
use Rattle.std.proofs.lemmas.Result.{IfOk-weaker}
use Rattle.case_split.specs.Made.{IsSplitNetlist}
use Rattle.case_split.proofs.SplitLemmas.{split_is}
use Rattle.case_split.proofs.splitting.split_small.Goals as goal

pub netlist_by-requires : goal.netlist_by-requires
netlist_by-requires c =
    (split_is c.args.net.now c.laws.ensures.valid c.args.copied.now c.args.cases.now c.in_ok-all.all.items c.in_ok-all.ensures c.requires.cases c.requires.inputs c.requires.small).valid

pub returns : goal.returns
returns c =
    IfOk-weaker c.netlist_by.result _ _
    (λ other is. subst (IsSplitNetlist c.args.net.now c.args.copied.now c.args.cases.now) (sym is)
    (split_is c.args.net.now c.laws.ensures.valid c.args.copied.now c.args.cases.now c.in_ok-all.all.items c.in_ok-all.ensures c.requires.cases c.requires.inputs c.requires.small))
    c.netlist_by.ensures
