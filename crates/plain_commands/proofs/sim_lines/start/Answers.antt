use Rattle.std.proofs.Common.{◌≡◌, ◌++◌, ◌+◌, [], ◌∷◌, drop, map, append_assoc, add-one, sym, ◌∙◌, ap, arith}
use Rattle.std.proofs.lemmas.List.{append-nil, drop_all}
use Rattle.cyc_base.proofs.ListLemmas.{drop-get}
use Rattle.netlist.specs.declared.parts.Latch.{Latch}
use Rattle.plain_commands.specs.Simulation.{start_value}
use Rattle.plain_commands.proofs.sim_lines.start.Goals as goal

-- the value of this latch comes behind those before it
pub loop-number-preserved : goal.loop-number-preserved
loop-number-preserved c =
    let latches = c.args.net.now.latches in
    let n = c.loop-number.number in
    let values = c.loop-number.values.items in
    let latch = c.latch.result.now in
    let value = λ (l : Latch). start_value l.init in
    let rest = map value (drop (n + 1) latches) in
    let pushed : c.push.new.self.items ≡ values ++ value latch ∷ [] = c.in_ok-push.ensures.items ∙ ap (λ x. values ++ x ∷ []) c.start_of.ensures in
    let cut : map value (drop n latches) ≡ value latch ∷ rest = rw add-one (ap (map value) (drop-get latches n latch c.latch.ensures.latch)) in
    ap (λ l. l ++ rest) pushed ∙ append_assoc values (value latch ∷ []) rest ∙ ap (λ l. values ++ l) (sym cut) ∙ c.loop-number.invariant

pub returns : goal.returns
returns c = grind (arith, drop_all c.loop-number.number c.args.net.now.latches, append-nil c.loop-number.values.items)
