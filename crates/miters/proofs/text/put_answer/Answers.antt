use Rattle.std.proofs.Common.{◌≡◌, ◌∙◌, ℕ, List, [], get_or, sym, ap, subst}
use Rattle.miters.proofs.Common.{get_or-map, Sig, Parts, signal_names, signal_name, latch_name, IsAnswerOf}
use Rattle.std.proofs.lemmas.Option.{get_or_from_slice_get}
use Rattle.miters.specs.Texts.{output_at, latch_at}
use Rattle.miters.proofs.text.put_answer.Goals as goal

pub returns-in-Output : goal.returns-in-Output
returns-in-Output g c =
    let net : Parts = c.args.a.now in
    let at : ℕ = c.in-Output.at in
    let none : Sig = record { 0 = 0 } in
    let fits = subst (IsAnswerOf c.args.a.now c.args.b.now) c.in-Output.is c.requires in
    let name = get_or_from_slice_get (signal_names c.args.a.now) (get_or c.outputs.result.now c.in-Output.at none).0 c.name_of.result.now [] c.name_of.ensures.name in
    let told : output_at c.args.a.now c.in-Output.at ≡ c.name_of.result.now =
    get_or-map (signal_name net) net.outputs at none [] fits.within ∙ ap (λ (xs : List Sig). signal_name net (get_or xs at none)) (sym c.outputs.ensures.outputs) ∙ name in
    rw (c.in-Output.is, told, ← c.items.ensures) c.put_differing.ensures

pub returns-in-Latch : goal.returns-in-Latch
returns-in-Latch g c =
    let net : Parts = c.args.a.now in
    let at : ℕ = c.in-Latch.at in
    let fits = subst (IsAnswerOf c.args.a.now c.args.b.now) c.in-Latch.is c.requires in
    let told : latch_at c.args.a.now c.in-Latch.at ≡ c.latch-latch.result.now.name =
    get_or-map latch_name net.latches at c.latch-latch.result.now [] fits.within ∙ ap latch_name (get_or_from_slice_get net.latches at c.latch-latch.result.now c.latch-latch.result.now c.latch-latch.ensures.latch) in
    rw (c.in-Latch.is, told, ← c.items-in-Latch.ensures) c.put_differing-in-Latch.ensures
