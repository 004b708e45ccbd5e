use Rattle.std.proofs.Common.{refl, rules}
use Rattle.commands.specs.declared.kind.Kind.TheVariants.{Trace, Glitches, Last, Vcd}
use Rattle.probes.proofs.BoxLemmas.{in_box}
use Rattle.cyc.proofs.run_words.OwnLists as boxes
use Rattle.cyc.proofs.run_words.Goals as goal

pub one_of_each_kind-requires-clause-trace : goal.one_of_each_kind-requires-clause-trace
one_of_each_kind-requires-clause-trace g c =
    in_box boxes.own-1 boxes.entry-1-1 boxes.at-1-1 boxes.same-1-1 Trace c.into_dyn_box.ensures.1 record { is = refl; shows = refl; silent = search rules }

pub one_of_each_kind-requires-clause-glitches : goal.one_of_each_kind-requires-clause-glitches
one_of_each_kind-requires-clause-glitches g c =
    in_box boxes.own-1 boxes.entry-1-2 boxes.at-1-2 boxes.same-1-2 Glitches c.into_dyn_box-2.ensures.1 record { is = refl; shows = refl; silent = search rules }

pub one_of_each_kind-requires-clause-last : goal.one_of_each_kind-requires-clause-last
one_of_each_kind-requires-clause-last g c =
    in_box boxes.own-1 boxes.entry-1-3 boxes.at-1-3 boxes.same-1-3 Last c.into_dyn_box-3.ensures.1 record { is = refl; shows = refl; silent = search rules }

pub one_of_each_kind-requires-clause-dump : goal.one_of_each_kind-requires-clause-dump
one_of_each_kind-requires-clause-dump g c =
    in_box boxes.own-1 boxes.entry-1-4 boxes.at-1-4 boxes.same-1-4 Vcd c.into_dyn_box-4.ensures.1 record { is = refl; shows = refl; silent = search rules }
