use Rattle.std.proofs.Common.{◌≡◌, Bool, List, length, ap, sym, subst, arith}
use Rattle.std.proofs.lemmas.List.{take_at}
use Rattle.explanations.specs.Held.{IsGreatestWithin}
use Rattle.explanations.proofs.needs.greatest_part.Goals as goal

pub shrink-requires-clause-unknown : goal.shrink-requires-clause-unknown
shrink-requires-clause-unknown c = rw (c.deref_mut.ensures.value, c.in_ok-part.ensures) c.requires.unknown

pub shrink-requires-clause-marks : goal.shrink-requires-clause-marks
shrink-requires-clause-marks c = rw (c.deref_mut.ensures.value, c.in_ok-part.ensures) c.requires.marks

pub returns : goal.returns
returns c =
    let done : IsGreatestWithin c.args.net.now c.args.known.now c.args.marks.now c.shrink.new.marks = rw (c.deref_mut.ensures.value, c.in_ok-part.ensures) at c.in_ok-shrink.ensures in
    let same = ap length c.in_ok-part.ensures in
    let own = c.in_ok-part.part.ok.0 in
    let done_size = done.size in
    let size : length c.shrink.new.marks ≡ c.in_ok-part.part.len = omega arith in
    subst (λ (marks : List Bool). IsGreatestWithin c.args.net.now c.args.known.now c.args.marks.now marks) (sym (take_at c.shrink.new.marks _ c.in_ok-part.part.len size)) done
