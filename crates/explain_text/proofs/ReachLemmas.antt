-- Whether a walk leads from one gate to another, by trying all walks.
use Rattle.std.proofs.Common.{◌≡◌, ◌⊎◌, ◌↔◌, inl, inr, ℕ, zero, suc, ◌<◌, ltb, true, ◌&&◌, ◌==◌, List, [], ◌∷◌, length, subst, arith}
use Rattle.explain_text.proofs.Common.{and_parts, and_from, eqb-true, Parts, gate_at, member, among, is_upstream}
use Rattle.std.proofs.lemmas.Bool.{cases_eq, or_cases, or_left, or_right, ltb-true, lt-ltb, eq-eqb}
use Rattle.std.specs.List.{AllByRecursion, list_any}
use Rattle.cyc_base.proofs.ListLemmas.{all_weaker}
use Rattle.netlist.specs.Netlists.{gate_sig, sig_eq}
use Rattle.netlist.specs.Walks.{Feeds, Walk}
use Rattle.loops.specs.Walks.{Leads, AnyGate}
use Rattle.loops.specs.Found.{feeds, reaches}
use Rattle.loops.proofs.Walks.{leads-step, leads-trans, split, walk_within_of}
use Rattle.loops.specs.Walks.{IsUpstream}

module _ (net : Parts) where
  feeds-true : (a b : ℕ) → feeds net a b ≡ true → Feeds net a b
  feeds-true a b e =
      let p = and_parts (ltb a (length net.gates)) (ltb b (length net.gates) && list_any (sig_eq (gate_sig net a)) (gate_at net b).pins) e in
      let q = and_parts (ltb b (length net.gates)) (list_any (sig_eq (gate_sig net a)) (gate_at net b).pins) p.1 in
      record {
        source = ltb-true a (length net.gates) p.0;
        reader = ltb-true b (length net.gates) q.0;
        pin = member (gate_sig net a) (gate_at net b).pins q.1;
      }

  true-feeds : (a b : ℕ) → Feeds net a b → feeds net a b ≡ true
  true-feeds a b f =
      and_from (ltb a (length net.gates)) (ltb b (length net.gates) && list_any (sig_eq (gate_sig net a)) (gate_at net b).pins)
      (lt-ltb a (length net.gates) f.source)
      (and_from (ltb b (length net.gates)) (list_any (sig_eq (gate_sig net a)) (gate_at net b).pins)
      (lt-ltb b (length net.gates) f.reader)
      (among (gate_sig net a) (gate_at net b).pins f.pin.0 f.pin.1 f.pin.2))

  abbrev reached : ℕ → ℕ → ℕ → Type 0
  reached k a b = reaches net (λ g. true) k a b ≡ true

  leads-from : (k a b : ℕ) → reached k a b → Leads net AnyGate a b
  leads-from zero a b e = leads-step net a b (feeds-true a b e)
  leads-from (suc k) a b e =
      elim (or_cases (reaches net (λ g. true) k a b) (reaches net (λ g. true) k a k && reaches net (λ g. true) k k b) e) [
        | inl h ↦ leads-from k a b h
        | inr h ↦
            let p = and_parts (reaches net (λ g. true) k a k) (reaches net (λ g. true) k k b) h in
            leads-trans net a k b (leads-from k a k p.0) (leads-from k k b p.1)
      ]

  abbrev Below : ℕ → ℕ → Type 0
  Below k g = (g < k) × AnyGate g

  -- what follows the last time that a walk passes k
  last-part : (k a b : ℕ) (via : List ℕ) → Walk net a via b → AllByRecursion (Below (suc k)) via → AllByRecursion (Below k) via ⊎ Leads net (Below k) k b
  last-part k a b [] walk all = inl tt
  last-part k a b (x ∷ via) walk all =
      elim (last-part k x b via walk.1 all.1) [
        | inr leads ↦ inr leads
        | inl rest ↦
            elim (cases_eq x k) [
              | inl e ↦ inr (record { via = via; kind = rest; walk = subst (λ (g : ℕ). Walk net g via b) e walk.1 })
              | inr ne ↦ let l = all.0.0 in inl ((omega (arith, ne, l), tt), rest)
            ]
      ]

  reached-by : (k a b : ℕ) (via : List ℕ) → Walk net a via b → AllByRecursion (Below k) via → reached k a b
  reached-by zero a b [] walk all = true-feeds a b walk
  reached-by zero a b (x ∷ via) walk all = absurd (let l = all.0.0 in omega (arith, l))
  reached-by (suc k) a b via walk all =
      elim (split net AnyGate k a b via walk all) [
        | inl below ↦ or_left (reaches net (λ g. true) k a b) (reaches net (λ g. true) k a k && reaches net (λ g. true) k k b) (reached-by k a b via walk below)
        | inr s ↦
            let second : reached k k b =
            elim (last-part k k b s.second s.rest s.kind) [
              | inl below ↦ reached-by k k b s.second s.rest below
              | inr leads ↦ reached-by k k b leads.via leads.walk leads.kind
            ] in
            or_right (reaches net (λ g. true) k a b) (reaches net (λ g. true) k a k && reaches net (λ g. true) k k b)
            (and_from (reaches net (λ g. true) k a k) (reaches net (λ g. true) k k b) (reached-by k a k s.first s.walk s.before) second)
      ]

  pub upstream-test : (n m : ℕ) → (is_upstream net n m ≡ true) ↔ IsUpstream net m n
  upstream-test n m = (to, from)
    where
      to : is_upstream net n m ≡ true → IsUpstream net m n
      to e =
          elim (or_cases (m == n) (reaches net (λ g. true) (length net.gates) m n) e) [
            | inl same ↦ inl (eqb-true m n same)
            | inr leads ↦ inr (leads-from (length net.gates) m n leads)
          ]

      from : IsUpstream net m n → is_upstream net n m ≡ true
      from (inl same) = or_left (m == n) (reaches net (λ g. true) (length net.gates) m n) (eq-eqb m n same)
      from (inr leads) =
          or_right (m == n) (reaches net (λ g. true) (length net.gates) m n)
          (reached-by (length net.gates) m n leads.via leads.walk
          (all_weaker (λ g. g < length net.gates) (Below (length net.gates)) leads.via (λ g l. (l, tt)) (walk_within_of net m n leads.via leads.walk)))
