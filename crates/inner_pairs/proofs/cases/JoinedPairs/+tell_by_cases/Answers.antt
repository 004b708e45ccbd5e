use Rattle.std.proofs.Common.{◌≡◌, ◌<◌, ◌++◌, ◌∷◌, [], ℕ, suc, false, length, All, ap, subst, arith}
use Rattle.inner_pairs.proofs.Common.{IfOk-weaker, columns}
use Rattle.std.proofs.lemmas.List.Elements.{All-head, All-tail}
use Rattle.inner_pairs.specs.declared.cases.PairsTold.{PairsTold}
use Rattle.inner_pairs.specs.Cases.{TellsIn}
use Rattle.inner_pairs.proofs.CaseLemmas.{fixed_at, both_told}
use Rattle.inner_pairs.proofs.cases.JoinedPairs.+tell_by_cases.Goals as goal

pub tell_by_cases-tell_case-requires : goal.tell_by_cases-tell_case-requires
tell_by_cases-tell_case-requires t c =
    let below = λ (column : ℕ). column < columns c.args.self.now.looped.now.net in
    let all : All below (c.in-Some.column.now ∷ c.in-Some.others.now) = rw c.in-Some.ensures.cases.0 at c.requires.columns in
    let len : length c.args.columns.now ≡ suc (length c.in-Some.others.now) = ap length c.in-Some.ensures.cases.0 in
    (omega (arith, c.decreases, len), (c.requires.paired, (c.requires.cube, (All-head below c.in-Some.column.now c.in-Some.others.now all, All-tail below c.in-Some.column.now c.in-Some.others.now all))))

pub tell_by_cases-tell_case-requires-in-Never : goal.tell_by_cases-tell_case-requires-in-Never
tell_by_cases-tell_case-requires-in-Never t c =
    let below = λ (column : ℕ). column < columns c.args.self.now.looped.now.net in
    let all : All below (c.in-Some.column.now ∷ c.in-Some.others.now) = rw c.in-Some.ensures.cases.0 at c.requires.columns in
    let len : length c.args.columns.now ≡ suc (length c.in-Some.others.now) = ap length c.in-Some.ensures.cases.0 in
    (omega (arith, c.decreases, len), (c.requires.paired, (c.requires.cube, (All-head below c.in-Some.column.now c.in-Some.others.now all, All-tail below c.in-Some.column.now c.in-Some.others.now all))))

pub tell_by_cases-returns-in-Never : goal.tell_by_cases-returns-in-Never
tell_by_cases-returns-in-Never t c =
    IfOk-weaker c.tell_case-in-Never.result _ _
    (λ told is.
    both_told c.args.self.now.looped.now.net c.args.self.now.care.now c.args.cube.now c.args.self.now.pairs.now c.in-Some.column.now
    (subst (λ (x : PairsTold). TellsIn c.args.self.now.looped.now.net c.args.self.now.care.now (c.args.cube.now ++ fixed_at c.in-Some.column.now false ∷ []) c.args.self.now.pairs.now x) c.in-Never.is c.in_ok-told.ensures)
    told is)
    c.tell_case-in-Never.ensures
