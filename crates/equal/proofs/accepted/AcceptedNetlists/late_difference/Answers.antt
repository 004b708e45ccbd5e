use Rattle.std.proofs.Common.{◌≡◌, Bool, Option, List, ℕ, All, [], ap, ap₂, subst, sym, ◌∙◌}
use Rattle.equal.proofs.Common.{IfOk, order, Parts, IsCareOf, columns, Pair, IsPairOf, difference, joined, joined_pairs, IsOutOfNodes, IsBelowEnoughFor, least_apart, Accepted}
use Rattle.bdd_ops.specs.Least.{IsLayout}
use Rattle.loops.specs.Looped.{Looped}
use Rattle.miters.proofs.ComparisonLemmas.{care_joined, pairs_joined, least_joined}
use Rattle.equal.proofs.accepted.AcceptedNetlists.late_difference.Goals as goal

pub invariant_of-comparison : goal.invariant_of-comparison
invariant_of-comparison c =
    let m = c.self.inside in
    let is = c.self.invariant in
    let same : c.looped-looped.result.net ≡ joined m.a.now m.b.now [] = ap (λ (l : Looped). l.net) c.looped-looped.ensures.looped ∙ c.in_ok-loops.ensures ∙ c.in_ok-net.ensures in
    record {
      laid = subst (λ (net : Parts). IsLayout (columns net) c.deref.result.now) (sym same)
          (subst (λ (order : List ℕ). IsLayout (columns c.self.inside.a.now) order) (sym c.deref.ensures.value) c.in_ok-order.ensures.layout);
      paired = subst (λ (net : Parts). All (IsPairOf net) c.self.inside.pairs.now) (sym same)
          (subst (λ (pairs : List Pair). All (IsPairOf (joined c.self.inside.a.now c.self.inside.b.now [])) pairs) (sym is.pairs_are) (pairs_joined m.a.now m.b.now is.valid_a is.valid_b is.names []));
    }

pub least_on-requires-clause-care : goal.least_on-requires-clause-care
least_on-requires-clause-care c =
    let m = c.self.inside in
    let same : c.looped-looped.result.net ≡ joined m.a.now m.b.now [] = ap (λ (l : Looped). l.net) c.looped-looped.ensures.looped ∙ c.in_ok-loops.ensures ∙ c.in_ok-net.ensures in
    subst (λ (net : Parts). IsCareOf net c.self.inside.care.now) (sym same) (care_joined m.a.now m.b.now [] m.care.now c.self.invariant.care_is)

pub returns : goal.returns
returns c =
    let m = c.self.inside in
    let is = c.self.invariant in
    let same : c.looped-looped.result.net ≡ joined m.a.now m.b.now [] = ap (λ (l : Looped). l.net) c.looped-looped.ensures.looped ∙ c.in_ok-loops.ensures ∙ c.in_ok-net.ensures in
    record {
      found = subst (λ (o : Option (List Bool)). IfOk c.least_on.result (λ found. found ≡ o))
          (ap₂ (λ (net : Parts) (pairs : List Pair). least_apart net m.care.now pairs) same is.pairs_are
          ∙ least_joined m.a.now m.b.now is.valid_a is.valid_b is.names m.care.now is.are_accepted []
          ∙ ap (λ (x : Accepted). difference x.a x.b x.care) c.self.view_is)
          c.least_on.ensures.found;
      fault = c.least_on.ensures.fault;
      cause = λ e.
          subst (λ (x : Accepted). IsOutOfNodes c.least_on.new.d (joined x.a x.b []) x.care c.args.limit) c.self.view_is
          (subst (λ (net : Parts). IsOutOfNodes c.least_on.new.d net c.self.inside.care.now c.args.limit) same (c.least_on.ensures.cause e));
      below = λ e.
          subst (λ (x : Accepted). IsBelowEnoughFor (order x.a) (joined x.a x.b []) x.care (joined_pairs x.a x.b) c.args.limit) c.self.view_is
          (subst (λ (pairs : List Pair). IsBelowEnoughFor (order c.self.inside.a.now) (joined c.self.inside.a.now c.self.inside.b.now []) c.self.inside.care.now pairs c.args.limit) is.pairs_are
          (subst (λ (net : Parts). IsBelowEnoughFor (order c.self.inside.a.now) net c.self.inside.care.now c.self.inside.pairs.now c.args.limit) same
          (subst (λ (columns : List ℕ). IsBelowEnoughFor columns c.looped-looped.result.net c.self.inside.care.now c.self.inside.pairs.now c.args.limit) (c.deref.ensures.value ∙ c.in_ok-order.ensures.order)
          (c.least_on.ensures.below e))));
    }
