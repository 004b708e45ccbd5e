use Rattle.std.proofs.Common.{◌≡◌, ◌<◌, true, ℕ, List, All, [], length, ap, ap₂, subst, sym, ◌∙◌, arith}
use Rattle.netlist.specs.Netlists.{is_marked}
use Rattle.equal.proofs.Common.{Parts, IsCareOf, Pair, IsPairOf, difference, joined, least_apart, Accepted}
use Rattle.loops.specs.Looped.{Looped}
use Rattle.clause_decision.specs.Scopes.{IsScopeOf}
use Rattle.miters.proofs.ComparisonLemmas.{care_joined, pairs_joined, least_joined}
use Rattle.equal.proofs.accepted.AcceptedNetlists.difference_in.Goals as goal

pub least_by_pairs-requires-clause-paired : goal.least_by_pairs-requires-clause-paired
least_by_pairs-requires-clause-paired c =
    let m = c.self.inside in
    let is = c.self.invariant in
    let fits = is.fits in
    let own : c.looped-looped.result.net ≡ c.args.net.now = ap (λ (l : Looped). l.net) c.looped-looped.ensures.looped ∙ c.in_ok-loops.ensures in
    let same : c.looped-looped.result.net ≡ joined m.a.now m.b.now [] = own ∙ c.requires ∙ ap (λ (x : Accepted). joined x.a x.b []) (sym c.self.view_is) in
    record {
      joined_is = same;
      fits = omega (arith, fits);
      care_is = subst (λ (net : Parts). IsCareOf net c.self.inside.care.now) (sym same) (care_joined m.a.now m.b.now [] m.care.now is.care_is);
      scope_is = subst (λ (net : Parts). IsScopeOf net c.in_ok-scope.scope) (sym own) c.in_ok-scope.ensures.scope;
      all_marked = subst (λ (net : Parts). (n : ℕ) → n < length net.gates → is_marked c.in_ok-scope.scope.gates n ≡ true) (sym own) c.in_ok-scope.ensures.all;
      pairs_are = subst (λ (net : Parts). All (IsPairOf net) c.self.inside.pairs.now) (sym same)
          (subst (λ (pairs : List Pair). All (IsPairOf (joined c.self.inside.a.now c.self.inside.b.now [])) pairs) (sym is.pairs_are) (pairs_joined m.a.now m.b.now is.valid_a is.valid_b is.names []));
    }

pub least_by_pairs-requires-clause-least : goal.least_by_pairs-requires-clause-least
least_by_pairs-requires-clause-least c =
    let m = c.self.inside in
    let is = c.self.invariant in
    let same : c.looped-looped.result.net ≡ joined m.a.now m.b.now [] =
    ap (λ (l : Looped). l.net) c.looped-looped.ensures.looped ∙ c.in_ok-loops.ensures ∙ c.requires ∙ ap (λ (x : Accepted). joined x.a x.b []) (sym c.self.view_is) in
    ap₂ (λ (net : Parts) (pairs : List Pair). least_apart net m.care.now pairs) same is.pairs_are
    ∙ least_joined m.a.now m.b.now is.valid_a is.valid_b is.names m.care.now is.are_accepted []
    ∙ ap (λ (x : Accepted). difference x.a x.b x.care) c.self.view_is
