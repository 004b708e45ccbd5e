use Rattle.std.proofs.Common.{◌≡◌, map, take, arith}
use Rattle.std.specs.Borrow.{Bor}
use Rattle.netlist.specs.declared.netlist.Netlist.{Netlist}
use Rattle.std.proofs.lemmas.List.{take_all}
use Rattle.std.proofs.lemmas.List.Elements.{All-map, All-more}
use Rattle.std.proofs.lemmas.List.Folds.{flat_map-map}
use Rattle.blif_write.specs.Laws.{HasCovers}
use Rattle.blif_write.specs.Written.{written}
use Rattle.blif_write.proofs.ReadingBack.{each_reads_back}
use Rattle.blif_write.proofs.Common.{IsNetlist, appended_none, appended_items, appended_equal}
use Rattle.cyc_io.proofs.ItemLemmas.{appended_item, appended_in_item}
use Rattle.blif_write.proofs.text.write_models.Goals as goal

pub loop-net-init : goal.loop-net-init
loop-net-init g c = record { text = appended_none _ _ _; covers = λ k d inside. absurd (omega (arith, inside)); valid = λ k d inside. absurd (omega (arith, inside)) }

pub loop-net-preserved : goal.loop-net-preserved
loop-net-preserved g c = record {
  text = appended_item (λ (net : Bor Netlist). written net.now) c.args.nets.now c.loop-net.net-index c.net-item.result _ _ _ _ _ _ _ _ (omega arith) c.net-item.is c.loop-net.invariant.text c.in_ok-put_netlist.ensures.text;
  covers = All-more (λ (net : Bor Netlist). HasCovers net.now) c.args.nets.now c.loop-net.net-index c.net-item.result (omega arith) c.loop-net.invariant.covers (rw (← c.net-item.is) c.in_ok-put_netlist.ensures.covers);
  valid = All-more (λ (net : Bor Netlist). IsNetlist net.now) c.args.nets.now c.loop-net.net-index c.net-item.result (omega arith) c.loop-net.invariant.valid (rw (← c.net-item.is) c.in_ok-put_netlist.ensures.valid);
}

pub returns-in_err-put_netlist-clause-text : goal.returns-in_err-put_netlist-clause-text
returns-in_err-put_netlist-clause-text g c =
    appended_equal _ _ _ _ (flat_map-map written (λ (net : Bor Netlist). net.now) c.args.nets.now)
    (appended_in_item (λ (net : Bor Netlist). written net.now) c.args.nets.now c.loop-net.net-index c.net-item.result _ _ _ _ _ _ _ _ _ (omega arith) c.net-item.is c.loop-net.invariant.text c.in_err-put_netlist.ensures.text c.from_residual.ensures.0)

pub returns-clause-text : goal.returns-clause-text
returns-clause-text g c =
    appended_equal _ _ _ _ (flat_map-map written (λ (net : Bor Netlist). net.now) c.args.nets.now)
    (appended_items (λ (net : Bor Netlist). written net.now) c.args.nets.now c.loop-net.net-index _ _ (omega arith) c.loop-net.invariant.text)

pub returns-clause-reads_back : goal.returns-clause-reads_back
returns-clause-reads_back g c = λ fit.
    let nets = c.args.nets.now in
    let whole : take c.loop-net.net-index nets ≡ nets = take_all c.loop-net.net-index nets (omega arith) in
    each_reads_back (map (λ (net : Bor Netlist). net.now) nets)
    (All-map IsNetlist (λ (net : Bor Netlist). net.now) nets (rw whole at c.loop-net.invariant.valid))
    (All-map HasCovers (λ (net : Bor Netlist). net.now) nets (rw whole at c.loop-net.invariant.covers))
    fit
