use Rattle.std.proofs.Common.{◌≡◌, ◌+◌, ◌*◌, ◌&&◌, Some, None, Err, sym, ap, ◌∙◌, arith, false}
use Rattle.aig_core.proofs.Common.{position_or_len, list_any, Edge, And, Graph, with_ands, first_and, edge_to, den, simple_and, pair_of, same_pair, entered, hashed, conjunction}
use Rattle.aig_core.specs.Conjunctions.{NeedsAnd}
use Rattle.aig_core.proofs.ConjunctionLemmas.{IsMade, conjunction-some, conjunction-none, apart_at, simple_at, hashed_is}
use Rattle.aig_core.proofs.AnswerLemmas.{handed, fault_from, too_many}
use Rattle.aig_core.specs.contracts.aig.Aig.{the_view}
use Rattle.aig_core.proofs.aig.Aig.and.Goals as goal
use Rattle.aig_core.proofs.aig.Aig.and.Goals.{After-pair_of}

simple : (c : goal.In-Some) → simple_and c.args.a c.args.b ≡ Some c.in-Some.edge
simple c = sym c.simple_and.ensures ∙ c.in-Some.is

pub returns-in-Some-clause-made : goal.returns-in-Some-clause-made
returns-in-Some-clause-made c = grind (arith, conjunction-some c.args.self.now c.args.a c.args.b c.in-Some.edge (simple c), simple c)

pub returns-in-Some-clause-value : goal.returns-in-Some-clause-value
returns-in-Some-clause-value c v h = (simple_at c.args.a c.args.b c.in-Some.edge (simple c)).value c.args.self.now v

-- what is known of the AND that is entered
none : (c : After-pair_of) → simple_and c.args.a c.args.b ≡ None
none c = sym c.simple_and.ensures ∙ c.in_default.is

conjunction_is : (c : After-pair_of) → conjunction (the_view c.self.inside) c.args.a c.args.b ≡ hashed (the_view c.self.inside) (pair_of c.args.a c.args.b)
conjunction_is c = conjunction-none (the_view c.self.inside) c.args.a c.args.b (none c)

made : (c : After-pair_of) → IsMade (the_view c.self.inside) (hashed (the_view c.self.inside) (pair_of c.args.a c.args.b)) (λ v. den (the_view c.self.inside) c.args.a v && den (the_view c.self.inside) c.args.b v)
made c = grind (arith, hashed_is (the_view c.self.inside) c.args.a c.args.b c.self.invariant.2, apart_at c.args.a c.args.b (none c), none c)

needs : (c : After-pair_of) → list_any (same_pair c.pair_of.result) c.self.inside.ands.keys ≡ false → NeedsAnd (the_view c.self.inside) c.args.a c.args.b
needs c h = record { apart = none c; new = ap (λ (x : And). list_any (same_pair x) c.self.inside.ands.keys) (sym c.pair_of.ensures) ∙ h }

place_is : (c : goal.In_ok-place) → c.in_ok-place.place ≡ position_or_len (same_pair (pair_of c.args.a c.args.b)) c.self.inside.ands.keys
place_is c = c.in_ok-place.ensures.place ∙ ap (λ (x : And). position_or_len (same_pair x) c.self.inside.ands.keys) c.pair_of.ensures

edge_is : (c : goal.In_ok-place) → ◌≡◌ {A = Edge} (record { 0 = 2 * (1 + c.self.inside.inputs + c.self.inside.latches + c.in_ok-place.place) }) (hashed (the_view c.self.inside) (pair_of c.args.a c.args.b)).edge
edge_is c = ap (λ p. edge_to (first_and (the_view c.self.inside) + p)) (place_is c)

keys_are : (c : goal.In_ok-place) → c.enter.new.ands.keys ≡ entered c.self.inside.ands.keys (pair_of c.args.a c.args.b)
keys_are c = c.in_ok-place.ensures.entered ∙ ap (entered c.self.inside.ands.keys) c.pair_of.ensures

graph_is : (c : goal.In_ok-place) → ◌≡◌ {A = Graph} (with_ands (the_view c.self.inside) c.enter.new.ands.keys) (hashed (the_view c.self.inside) (pair_of c.args.a c.args.b)).graph
graph_is c = ap (with_ands (the_view c.self.inside)) (keys_are c)

pub returns-in_err-place-clause-made : goal.returns-in_err-place-clause-made
returns-in_err-place-clause-made c =
    handed c.from_residual.result c.in_err-place.field-0.0 _ (conjunction c.args.self.now c.args.a c.args.b) c.from_residual.ensures.1
    (rw (← c.self.view_is) (fault_from (conjunction (the_view c.self.inside) c.args.a c.args.b).graph c.in_err-place.field-0.0 (λ is.
    let full = c.enter.ensures.too_large.0 (c.in_err-place.was ∙ ap Err is) in
    too_many (the_view c.self.inside) c.args.a c.args.b (needs ((goal.at.returns-in_err-place-clause-made c).After-pair_of) full.0) full.1)))

pub overflow_add-result-3 : goal.overflow_add-result-3
overflow_add-result-3 c = grind (arith, made ((goal.at.overflow_add-result-3 c).After-pair_of), place_is c, keys_are c)

pub overflow_mul-result : goal.overflow_mul-result
overflow_mul-result c = grind (arith, made ((goal.at.overflow_mul-result c).After-pair_of), place_is c, keys_are c)

pub invariant_of-self-2 : goal.invariant_of-self-2
invariant_of-self-2 c = grind (arith, made ((goal.at.invariant_of-self-2 c).After-pair_of), graph_is c)

pub returns-clause-made : goal.returns-clause-made
returns-clause-made c = grind (arith, conjunction_is ((goal.at.returns-clause-made c).After-pair_of), edge_is c, graph_is c)

pub returns-clause-edge : goal.returns-clause-edge
returns-clause-edge c = grind (arith, made ((goal.at.returns-clause-edge c).After-pair_of), place_is c, keys_are c)

pub returns-clause-value : goal.returns-clause-value
returns-clause-value c = grind (arith, made ((goal.at.returns-clause-value c).After-pair_of), graph_is c, edge_is c)

pub returns-clause-extends : goal.returns-clause-extends
returns-clause-extends c = grind (arith, made ((goal.at.returns-clause-extends c).After-pair_of), graph_is c)
