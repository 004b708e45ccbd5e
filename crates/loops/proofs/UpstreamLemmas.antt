-- Which gates lie upstream of others.
use Rattle.std.proofs.Common.{◌≡◌, inl, inr, ℕ, ◌<◌, List, [], ◌∷◌, length, sym, subst, arith}
use Rattle.loops.proofs.Common.{AnyGate, AreBlocksOf, Blocks, Feeds, Leads, Parts, Walk, home_of}
use Rattle.loops.specs.Walks.{IsUpstream}
use Rattle.loops.proofs.Walks.{leads-trans}

pub upstream-trans : (net : Parts) (a b c : ℕ) → IsUpstream net a b → IsUpstream net b c → IsUpstream net a c
upstream-trans net a b c (inl e) q = subst (λ (n : ℕ). IsUpstream net n c) (sym e) q
upstream-trans net a b c (inr r) (inl e) = inr (subst (Leads net AnyGate a) e r)
upstream-trans net a b c (inr r) (inr q) = inr (leads-trans net a b c r q)

pub same-up : (net : Parts) (blocks : Blocks) → AreBlocksOf net blocks → (a b : ℕ) → a < length net.gates → b < length net.gates → home_of blocks a ≡ home_of blocks b → IsUpstream net a b
same-up net blocks are a b al bl homes = elim ((are.same a b al bl).0 homes) [ inl e ↦ inl e | inr s ↦ inr s.there ]

-- what has each gate on a pin of its gates has what leads to them
pub walk-closed : (net : Parts) (P : ℕ → Type 0) → ((a b : ℕ) → Feeds net a b → P b → P a) → (m n : ℕ) (via : List ℕ) → Walk net m via n → P n → P m
walk-closed net P closed m n [] feeds last = closed m n feeds last
walk-closed net P closed m n (x ∷ via) walk last = closed m x walk.0 (walk-closed net P closed x n via walk.1 last)

pub upstream-closed : (net : Parts) (P : ℕ → Type 0) → ((a b : ℕ) → Feeds net a b → P b → P a) → (m n : ℕ) → IsUpstream net m n → P n → P m
upstream-closed net P closed m n h last = grind (arith, walk-closed)
