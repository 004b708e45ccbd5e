use Rattle.std.proofs.Common.{◌+◌, ◌<◌, [], ◌∷◌, ◌++◌, List, ℕ, length, drop, subst, ap, ◌∙◌, arith}
use Rattle.std.proofs.lemmas.List.{drop_all, take_all}
use Rattle.cyc_base.specs.declared.sig.Sig.{Sig}
use Rattle.flatten.proofs.Common.{drop-item, sig_or}
use Rattle.flatten.proofs.Names.{mapped_next}
use Rattle.flatten.proofs.Reading.{IsLeft, fault_left, fewer_left, none_left}
use Rattle.flatten.proofs.Results.{handed_on}
use Rattle.flatten.proofs.link.read_all.Goals as goal

pub returns-in_err-read-clause-fault : goal.returns-in_err-read-clause-fault
returns-in_err-read-clause-fault c =
    let names = c.args.names.now in
    let i = c.loop-name.name-index in
    let x = c.name-item.result in
    let inside : i < length names = omega arith in
    handed_on _ c.from_residual-in_err-read.result _ c.from_residual-in_err-read.ensures.1 c.in_err-read.ensures.fault
    (λ e. fault_left c.args.drivers.now names (drop i names) (x ∷ []) (drop (i + 1) names)
    c.args.clock.now c.loop-name.clock c.in_err-read.field-0.0 (drop-item names i x inside c.name-item.is) c.loop-name.invariant.left e)

pub loop-name-preserved : goal.loop-name-preserved
loop-name-preserved c =
    let d = c.args.drivers.now in
    let names = c.args.names.now in
    let i = c.loop-name.name-index in
    let x = c.name-item.result in
    let inside : i < length names = omega arith in
    record {
      sigs = mapped_next (sig_or d) names i x c.loop-name.sigs.items c.push_reserved.new.self.items inside c.name-item.is c.loop-name.invariant.sigs
          (c.push_reserved.ensures.items ∙ ap (λ (sig : Sig). c.loop-name.sigs.items ++ sig ∷ []) c.in_ok-read.ensures.sig);
      left = fewer_left d names (drop i names) (x ∷ []) (drop (i + 1) names)
          c.args.clock.now c.loop-name.clock c.read.new.clock (drop-item names i x inside c.name-item.is) c.loop-name.invariant.left c.in_ok-read.ensures.read;
      len = omega (arith, c.push_reserved.ensures.len, c.loop-name.invariant.len);
      room = omega (arith, c.push_reserved.ensures.capacity, c.loop-name.invariant.room);
    }

pub returns-clause-read : goal.returns-clause-read
returns-clause-read c =
    let d = c.args.drivers.now in
    let names = c.args.names.now in
    let past = drop_all c.loop-name.name-index names c.loop-name-test.false in
    none_left d names c.args.clock.now c.loop-name.clock
    (subst (λ (left : List (List ℕ)). IsLeft d names left c.args.clock.now c.loop-name.clock) past c.loop-name.invariant.left)

pub returns-clause-sigs : goal.returns-clause-sigs
returns-clause-sigs c = grind (arith, take_all c.loop-name.name-index c.args.names.now)
