-- The loops and cut wires that are found by trying all walks are those of the netlist.
use Rattle.std.proofs.Common.{◌≡◌, ◌⊎◌, ◌↔◌, inl, inr, ℕ, zero, suc, ◌<◌, ltb, Bool, true, not, ◌&&◌, List, [], ◌∷◌, ◌++◌, length, refl, ap, sym, ◌∙◌, arith}
use Rattle.loops.proofs.Common.{cases_eq, and_parts, and_from, lt-ltb, AllByRecursion, all_weaker, all_append, Parts, gate_at, gate_sig, Feeds, Walk, Leads, AnyGate, SameLoop, MayPass, loops_of}
use Rattle.std.proofs.lemmas.Bool.{or_cases, or_left, or_right, ltb-true, not-true, eq-eqb}
use Rattle.std.proofs.lemmas.List.Folds.{list_any_at}
use Rattle.std.proofs.lemmas.Map.Views.{Contains-from_any}
use Rattle.std.specs.List.{list_any}
use Rattle.netlist.specs.Netlists.{sig_eq}
use Rattle.netlist.proofs.NameLemmas.{sig_eq-true}
use Rattle.loops.specs.Found.{feeds, reaches, same_of, cut_below}
use Rattle.loops.specs.Laws.{LoopsExist}
use Rattle.loops.proofs.Walks.{walk-append, split, walk_within_of}

feeds_iff : (net : Parts) (a b : ℕ) → (feeds net a b ≡ true) ↔ Feeds net a b
feeds_iff net a b = (
  λ e.
      let p = and_parts (ltb a (length net.gates)) (ltb b (length net.gates) && list_any (sig_eq (gate_sig net a)) (gate_at net b).pins) e in
      let q = and_parts (ltb b (length net.gates)) (list_any (sig_eq (gate_sig net a)) (gate_at net b).pins) p.1 in
      record {
        source = ltb-true a (length net.gates) p.0;
        reader = ltb-true b (length net.gates) q.0;
        pin = Contains-from_any {eq = sig_eq} sig_eq-true (gate_sig net a) (gate_at net b).pins q.1;
      },
  λ f.
      and_from (ltb a (length net.gates)) (ltb b (length net.gates) && list_any (sig_eq (gate_sig net a)) (gate_at net b).pins)
      (lt-ltb a (length net.gates) f.source)
      (and_from (ltb b (length net.gates)) (list_any (sig_eq (gate_sig net a)) (gate_at net b).pins)
      (lt-ltb b (length net.gates) f.reader)
      (list_any_at (sig_eq (gate_sig net a)) (gate_at net b).pins f.pin.0 (gate_sig net a) f.pin.1 (rw f.pin.2 (eq-eqb (gate_sig net a).0 (gate_sig net a).0 refl)))),
)

-- what follows the last time that a walk passes k
last_part : (net : Parts) (P : ℕ → Type 0) (k a b : ℕ) (via : List ℕ) → Walk net a via b → AllByRecursion (λ g. (g < suc k) × P g) via → AllByRecursion (λ g. (g < k) × P g) via ⊎ Leads net (λ g. (g < k) × P g) k b
last_part net P k a b [] h all = inl tt
last_part net P k a b (x ∷ via) h all = grind (arith, last_part net P k x b via h.1 all.1, cases_eq x k)

module _ (net : Parts) (test : ℕ → Bool) where
  reaches_from : (k a b : ℕ) (via : List ℕ) → Walk net a via b → AllByRecursion (λ g. (g < k) × (test g ≡ true)) via → reaches net test k a b ≡ true
  reaches_from zero a b [] walk all = (feeds_iff net a b).1 walk
  reaches_from zero a b (x ∷ via) walk all = absurd (let l = all.0.0 in omega arith)
  reaches_from (suc k) a b via walk all =
      elim (split net (λ g. test g ≡ true) k a b via walk all) [
        | inl below ↦ or_left (reaches net test k a b) (test k && (reaches net test k a k && reaches net test k k b)) (reaches_from k a b via walk below)
        | inr s ↦
            let first = reaches_from k a k s.first s.walk s.before in
            let second : reaches net test k k b ≡ true =
            elim (last_part net (λ g. test g ≡ true) k k b s.second s.rest s.kind) [
              | inl below ↦ reaches_from k k b s.second s.rest below
              | inr leads ↦ reaches_from k k b leads.via leads.walk leads.kind
            ] in
            or_right (reaches net test k a b) (test k && (reaches net test k a k && reaches net test k k b))
            (and_from (test k) (reaches net test k a k && reaches net test k k b) s.here (and_from (reaches net test k a k) (reaches net test k k b) first second))
      ]

  more : (k : ℕ) (via : List ℕ) → AllByRecursion (λ g. (g < k) × (test g ≡ true)) via → AllByRecursion (λ g. (g < suc k) × (test g ≡ true)) via
  more k via all = grind (arith, all_weaker)

  leads_from : (k a b : ℕ) → reaches net test k a b ≡ true → Leads net (λ g. (g < k) × (test g ≡ true)) a b
  leads_from zero a b e = record { via = []; kind = tt; walk = (feeds_iff net a b).0 e }
  leads_from (suc k) a b e =
      elim (or_cases (reaches net test k a b) (test k && (reaches net test k a k && reaches net test k k b)) e) [
        | inl h ↦
            let r = leads_from k a b h in
            record { via = r.via; kind = more k r.via r.kind; walk = r.walk }
        | inr h ↦
            let p = and_parts (test k) (reaches net test k a k && reaches net test k k b) h in
            let q = and_parts (reaches net test k a k) (reaches net test k k b) p.1 in
            let r = leads_from k a k q.0 in
            let s = leads_from k k b q.1 in
            record {
              via = r.via ++ (k ∷ s.via);
              kind = all_append (λ g. (g < suc k) × (test g ≡ true)) r.via (k ∷ s.via) (more k r.via r.kind) ((omega arith, p.0), more k s.via s.kind);
              walk = walk-append net a k b r.via s.via r.walk s.walk;
            }
      ]

reaches_agree : (net : Parts) (test other : ℕ → Bool) (k a b : ℕ) → ((g : ℕ) → g < k → test g ≡ other g) → reaches net test k a b ≡ reaches net other k a b
reaches_agree net test other zero a b same = refl
reaches_agree net test other (suc k) a b same = grind (arith, reaches_agree net test other k a b, reaches_agree net test other k a k, reaches_agree net test other k k b)

-- the bound doesn't matter
cut_below_same : (net : Parts) (one two n : ℕ) → n < one → n < two → cut_below net one n ≡ cut_below net two n
cut_below_same net zero two n l k = absurd (omega arith)
cut_below_same net (suc one) zero n l k = absurd (omega arith)
cut_below_same net (suc one) (suc two) n l k = grind (arith, reaches_agree, cut_below_same net one two)

same_of_iff : (net : Parts) (a b : ℕ) → (same_of net a b ≡ true) ↔ SameLoop net a b
same_of_iff net a b =
    let n = length net.gates in (
      λ e.
          let p = and_parts (reaches net (λ g. true) n a b) (reaches net (λ g. true) n b a) e in
          record { there = any_leads net n a b p.0; back = any_leads net n b a p.1 },
      λ s. and_from (reaches net (λ g. true) n a b) (reaches net (λ g. true) n b a) (any_reaches net a b s.there) (any_reaches net b a s.back),
    )
  where
    any_leads : (net : Parts) (k a b : ℕ) → reaches net (λ g. true) k a b ≡ true → Leads net AnyGate a b
    any_leads net k a b e = grind (arith, leads_from net, all_weaker)

    any_reaches : (net : Parts) (a b : ℕ) → Leads net AnyGate a b → reaches net (λ g. true) (length net.gates) a b ≡ true
    any_reaches net a b r = grind (arith, reaches_from, all_weaker, walk_within_of)

pub loops_exist : LoopsExist
loops_exist net = record {
  same = same_of_iff net;
  cut = λ n.
      let test = λ (g : ℕ). same_of net n g && not (cut_below net n g) in (
        λ e.
            let r = leads_from net test n n n e in
            record {
              via = r.via;
              kind = all_weaker (λ g. (g < n) × ((same_of net n g && not (cut_below net n g)) ≡ true)) (MayPass net (loops_of net).cut n) r.via
                  (λ g p.
                  let l = p.0 in
                  let q = and_parts (same_of net n g) (not (cut_below net n g)) p.1 in
                  record {
                    loop = (same_of_iff net n g).0 q.0;
                    before = p.0;
                    uncut = cut_below_same net (suc g) n g (omega arith) p.0 ∙ not-true (cut_below net n g) q.1;
                  })
                  r.kind;
              walk = r.walk;
            },
        λ r.
            reaches_from net test n n n r.via r.walk
            (all_weaker (MayPass net (loops_of net).cut n) (λ g. (g < n) × ((same_of net n g && not (cut_below net n g)) ≡ true)) r.via
            (λ g p.
            let l = p.before in (
              p.before,
              and_from (same_of net n g) (not (cut_below net n g)) ((same_of_iff net n g).1 p.loop)
                  (ap not (sym (cut_below_same net (suc g) n g (omega arith) p.before) ∙ p.uncut)),
            ))
            r.kind),
      );
}
