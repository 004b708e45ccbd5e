use Rattle.std.proofs.Common.{ap, subst, sym}
use Rattle.cover_logic.specs.Covers.{Cover}
use Rattle.case_split.specs.Pins.{AreRows}
use Rattle.case_split.proofs.PinLemmas.{rows_fit}
use Rattle.case_split.proofs.choosing.selection_cover.Goals as goal

pub cover_by-requires : goal.cover_by-requires
cover_by-requires c =
    rows_fit c.args.cases.now c.args.firsts.now c.args.pins.now c.in_ok-rows.rows.items c.requires.pins c.requires.narrow c.in_ok-rows.ensures

pub returns : goal.returns
returns c = record {
  plane = ap (λ (cover : Cover). cover.plane) c.cover_by.ensures;
  counted = sym (ap (λ (cover : Cover). cover.pins) c.cover_by.ensures);
  rows = subst (AreRows c.args.cases.now c.args.firsts.now c.args.pins.now) (sym (ap (λ (cover : Cover). cover.rows) c.cover_by.ensures)) c.in_ok-rows.ensures;
}
