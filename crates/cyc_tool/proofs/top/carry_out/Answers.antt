use Rattle.std.proofs.Common.{◌≡◌}
use Rattle.report.specs.Help.{help_text, topic_text, version_text}
use Rattle.cyc_tool.proofs.Common.{ComesOf, Ending, Prints, told}
use Rattle.plain_commands.proofs.PlanLemmas.{ends_or_lacks, follows_whatever, still_ends}
use Rattle.cyc_tool.proofs.top.carry_out.Goals as goal

pub returns-in-Decide-clause-comes : goal.returns-in-Decide-clause-comes
returns-in-Decide-clause-comes g c = rw c.in-Decide.is c.decide_file.ensures.comes

pub returns-in-Assume-clause-comes : goal.returns-in-Assume-clause-comes
returns-in-Assume-clause-comes g c = rw c.in-Assume.is c.assume_file.ensures.comes

pub returns-in-Equal-clause-comes : goal.returns-in-Equal-clause-comes
returns-in-Equal-clause-comes g c = rw c.in-Equal.is c.compare_files.ensures.comes

pub returns-in-Flat-clause-comes : goal.returns-in-Flat-clause-comes
returns-in-Flat-clause-comes g c = rw c.in-Flat.is (follows_whatever (ComesOf c.args.d.now) _ _ _ c.flatten_file.ensures.comes)

pub returns-in-Loops-clause-comes : goal.returns-in-Loops-clause-comes
returns-in-Loops-clause-comes g c = rw c.in-Loops.is (follows_whatever (ComesOf c.args.d.now) _ _ _ c.print_loops.ensures.comes)

pub returns-in-Sim-clause-comes : goal.returns-in-Sim-clause-comes
returns-in-Sim-clause-comes g c = rw c.in-Sim.is (follows_whatever (ComesOf c.args.d.now) _ _ _ c.simulate_file.ensures.comes)

pub returns-in-Delays-clause-comes : goal.returns-in-Delays-clause-comes
returns-in-Delays-clause-comes g c = rw c.in-Delays.is (follows_whatever (ComesOf c.args.d.now) _ _ _ c.replay_files.ensures.comes)

pub returns-in-Demo-clause-comes : goal.returns-in-Demo-clause-comes
returns-in-Demo-clause-comes g c = rw c.in-Demo.is (c.demo.ensures.follows _ _)

pub returns-in-Help-clause-comes : goal.returns-in-Help-clause-comes
returns-in-Help-clause-comes g c =
    let ending : Ending = Prints help_text in
    let ends = still_ends ending _ (ends_or_lacks c.tell_help.result (λ end. end ≡ told ending) _ c.or_stop.ensures c.tell_help.ensures) in
    rw c.in-Help.is (follows_whatever (ComesOf c.args.d.now) _ _ _ (ends.follows _ _))

pub returns-in-HelpOn-clause-comes : goal.returns-in-HelpOn-clause-comes
returns-in-HelpOn-clause-comes g c =
    let ending : Ending = Prints (topic_text c.in-HelpOn.topic) in
    let ends = still_ends ending _ (ends_or_lacks c.tell_topic.result (λ end. end ≡ told ending) _ c.or_stop-in-HelpOn.ensures c.tell_topic.ensures) in
    rw c.in-HelpOn.is (follows_whatever (ComesOf c.args.d.now) _ _ _ (ends.follows _ _))

pub returns-in-Version-clause-comes : goal.returns-in-Version-clause-comes
returns-in-Version-clause-comes g c =
    let ending : Ending = Prints version_text in
    let ends = still_ends ending _ (ends_or_lacks c.tell_version.result (λ end. end ≡ told ending) _ c.or_stop-in-Version.ensures c.tell_version.ensures) in
    rw c.in-Version.is (follows_whatever (ComesOf c.args.d.now) _ _ _ (ends.follows _ _))

pub returns-in-Delays-clause-heard : goal.returns-in-Delays-clause-heard
returns-in-Delays-clause-heard g c = rw c.in-Delays.is c.replay_files.ensures.heard
