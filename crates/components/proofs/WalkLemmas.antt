-- Walks one after another.
use Rattle.std.proofs.Common.{inl, inr, ℕ, List, [], ◌∷◌, ◌++◌, sym, subst, arith}
use Rattle.components.specs.Graphs.{Edge, Walk, Reaches, AreStronglyConnected}
use Rattle.components.specs.Search.{Leads}

module _ (graph : List (List ℕ)) where
  pub Walk-append : (a b c : ℕ) (via on : List ℕ) → Walk graph a via b → Walk graph b on c → Walk graph a (via ++ b ∷ on) c
  Walk-append a b c [] on first second = (first, second)
  Walk-append a b c (x ∷ via) on first second = (first.0, Walk-append x b c via on first.1 second)

  pub Reaches-trans : (a b c : ℕ) → Reaches graph a b → Reaches graph b c → Reaches graph a c
  Reaches-trans a b c first second = grind (arith, Walk-append)

  pub Leads-edge : (a b : ℕ) → Edge graph a b → Leads graph a b
  Leads-edge a b edge = inr (record { via = []; walk = edge })

  pub Leads-trans : (a b c : ℕ) → Leads graph a b → Leads graph b c → Leads graph a c
  Leads-trans a b c (inl e) second = subst (λ (x : ℕ). Leads graph x c) (sym e) second
  Leads-trans a b c (inr first) (inl e) = inr (subst (λ (x : ℕ). Reaches graph a x) e first)
  Leads-trans a b c (inr first) (inr second) = inr (Reaches-trans a b c first second)

  pub connected : (a b : ℕ) → Leads graph a b → Leads graph b a → AreStronglyConnected graph a b
  connected a b h back = grind arith
