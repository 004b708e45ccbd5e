use Rattle.std.proofs.Common.{◌≡◌, ℕ, ◌+◌, ◌/◌, ◌%◌, List, [], ◌∷◌, ◌++◌, refl, ap, sym, ◌∙◌, append_assoc}
use Rattle.aig_core.proofs.Common.{appended_none, appended_then, appended_cut, appended_equal}
use Rattle.aig_core.specs.Text.{groups}
use Rattle.aig_core.proofs.GroupLemmas.{groups_step, groups_end}
use Rattle.aig_core.proofs.binary.put_groups.Goals as goal

pub loop-rest-init : goal.loop-rest-init
loop-rest-init g c = ([], refl, appended_none _ _ _)

pub loop-rest-preserved : goal.loop-rest-preserved
loop-rest-preserved g c =
    let n : ℕ = c.loop-rest.rest in
    let group : List ℕ = (128 + n % 128) ∷ [] in
    let before = c.loop-rest.invariant in
    let same : (before.0 ++ group) ++ groups (n / 128) ≡ groups c.args.number =
    append_assoc before.0 group (groups (n / 128)) ∙ ap (λ (t : List ℕ). before.0 ++ t) (sym (groups_step n c.loop-rest-test.true)) ∙ before.1 in
    (before.0 ++ group, same, appended_then _ _ _ _ _ _ _ _ _ _ before.2 c.in_ok-write_whole.ensures)

pub returns-in_err-write_whole : goal.returns-in_err-write_whole
returns-in_err-write_whole g c =
    let n : ℕ = c.loop-rest.rest in
    let before = c.loop-rest.invariant in
    let same : groups c.args.number ≡ before.0 ++ ((128 + n % 128) ∷ groups (n / 128)) =
    sym before.1 ∙ ap (λ (t : List ℕ). before.0 ++ t) (groups_step n c.loop-rest-test.true) in
    appended_equal _ _ _ _ same (appended_then _ _ _ _ _ _ _ _ _ _ before.2 (appended_cut _ _ _ _ _ c.in_err-write_whole.ensures c.from_residual.ensures.0))

pub returns : goal.returns
returns g c =
    let n : ℕ = c.loop-rest.rest in
    let before = c.loop-rest.invariant in
    let same : groups c.args.number ≡ before.0 ++ (n ∷ []) =
    sym before.1 ∙ ap (λ (t : List ℕ). before.0 ++ t) (groups_end n c.loop-rest-test.false) in
    appended_equal _ _ _ _ same (appended_then _ _ _ _ _ _ _ _ _ _ before.2 c.write_whole-2.ensures)
