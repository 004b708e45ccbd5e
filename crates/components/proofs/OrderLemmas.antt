-- Numbers that differ, and the order of a graph's nodes by components that have one node each.
use Rattle.std.proofs.Common.{◌≡◌, ◌≢◌, inl, inr, ℕ, zero, suc, ◌+◌, ◌<◌, Bool, true, false, List, [], ◌∷◌, ◌++◌, length, get_or, set, take, replicate, refl, ap, sym, ◌∙◌, subst, arith, true≢false}
use Rattle.std.specs.List.{All, Contains}
use Rattle.std.proofs.lemmas.Bool.{cases_eq, cases_lt}
use Rattle.std.proofs.lemmas.List.{get_or_default, get_or-set_same, get_or-set_other, get_or-replicate, get_or-take, get_or_past, length-replicate, length-set, take_more, length-take-le}
use Rattle.std.proofs.lemmas.List.Elements.{Contains-append_left, Contains-push}
use Rattle.components.specs.declared.components.Components.{Components}
use Rattle.components.specs.Graphs.{Edge, Walk, AreComponentsOf}
use Rattle.components.specs.Orders.{IsTopologicalOrder, HasCycle, IsAcyclic, HasPair, AllDiffer, HasPlaces, marked, HasSeen}
use Rattle.components.proofs.WalkLemmas.{Reaches-trans}

marked-replicate : (n : ℕ) → marked (replicate n false) ≡ 0
marked-replicate zero = refl
marked-replicate (suc n) = marked-replicate n

marked-set : (seen : List Bool) (v : ℕ) → v < length seen → get_or seen v false ≡ false → marked (set seen v true) ≡ marked seen + 1
marked-set [] v l e = absurd (omega arith)
marked-set (true ∷ seen) zero l e = absurd (true≢false e)
marked-set (false ∷ seen) zero l e = omega arith
marked-set (true ∷ seen) (suc v) l e = (let rest = marked-set seen v (omega arith) e in omega arith)
marked-set (false ∷ seen) (suc v) l e = marked-set seen v (omega arith) e

all_marked : (seen : List Bool) → ((v : ℕ) → v < length seen → get_or seen v false ≡ true) → marked seen ≡ length seen
all_marked [] all = refl
all_marked (false ∷ seen) all = absurd (true≢false (sym (all 0 (omega arith))))
all_marked (true ∷ seen) all = (let rest = all_marked seen (λ v l. all (suc v) (omega arith)) in omega arith)

pub seen_none : (numbers : List ℕ) (count : ℕ) → HasSeen numbers (replicate count false) count 0
seen_none numbers count = grind (arith, length-replicate, marked-replicate, true≢false, cases_lt, get_or-replicate, get_or_past)

module _ (numbers : List ℕ) (seen : List Bool) (count i : ℕ) (has : HasSeen numbers seen count i) (within : i < length numbers) where
  pub seen_more : get_or numbers i 0 < length seen → get_or seen (get_or numbers i 0) false ≡ false → HasSeen numbers (set seen (get_or numbers i 0) true) count (i + 1)
  seen_more inside unseen = record {
    size = length-set seen (get_or numbers i 0) true ∙ has.size;
    marks = (let marks = has.marks in let more = marked-set seen (get_or numbers i 0) inside unseen in omega arith);
    once = λ a b l m e.
        elim (cases_eq a i) [
          | inl one ↦
              elim (cases_eq b i) [
                | inl two ↦ one ∙ sym two
                | inr ne ↦ absurd (fresh b (omega arith) (sym e ∙ ap (λ n. get_or numbers n 0) one))
              ]
          | inr ne ↦
              elim (cases_eq b i) [
                | inl two ↦ absurd (fresh a (omega arith) (e ∙ ap (λ n. get_or numbers n 0) two))
                | inr also ↦ has.once a b (omega arith) (omega arith) e
              ]
        ];
    seen_at = λ k l.
        elim (cases_eq (get_or numbers k 0) (get_or numbers i 0)) [
          | inl e ↦ rw e (get_or-set_same seen (get_or numbers i 0) true false inside)
          | inr ne ↦
              elim (cases_eq k i) [
                | inl same ↦ absurd (ne (ap (λ n. get_or numbers n 0) same))
                | inr apart ↦ get_or-set_other seen (get_or numbers i 0) (get_or numbers k 0) true false ne ∙ has.seen_at k (omega arith)
              ]
        ];
    only = λ number h.
        rw (take_more numbers i 0 within)
        (elim (cases_eq number (get_or numbers i 0)) [
          | inl e ↦ subst (λ (n : ℕ). Contains (take i numbers ++ get_or numbers i 0 ∷ []) n) (sym e) (Contains-push (take i numbers) (get_or numbers i 0))
          | inr ne ↦
              Contains-append_left (take i numbers) (get_or numbers i 0 ∷ []) number
              (has.only number (sym (get_or-set_other seen (get_or numbers i 0) number true false ne) ∙ h))
        ]);
  }
    where
      fresh : (k : ℕ) → k < i → get_or numbers k 0 ≢ get_or numbers i 0
      fresh k l e = true≢false (sym (has.seen_at k l) ∙ ap (λ n. get_or seen n false) e ∙ unseen)

  pub seen_pair : get_or seen (get_or numbers i 0) false ≡ true → HasPair numbers
  seen_pair is = grind (arith, length-take-le, get_or-take, get_or_default)

pub all_seen : (numbers : List ℕ) (seen : List Bool) (count : ℕ) → HasSeen numbers seen count (length numbers) → AllDiffer numbers count
all_seen numbers seen count has = record {
  once = has.once;
  full = λ used.
      let size = has.size in
      let marks = has.marks in
      let all = all_marked seen (λ v l. found v (used v (omega arith))) in
      omega arith;
}
  where
    found : (v : ℕ) → Contains numbers v → get_or seen v false ≡ true
    found v c = grind (arith, get_or_default)

-- a node that stands at a place of the order, which is its component
record At (homes order : List ℕ) (i : ℕ) : Type 0 where
  node : ℕ
  within : node < length homes
  is : get_or order i 0 ≡ node
  home : get_or homes node 0 ≡ i

module _ (graph : List (List ℕ)) (found : Components) (are : AreComponentsOf graph found) (no_self : (a : ℕ) → Edge graph a a → ⊥) where
  pub pair_cycle : HasPair found.home → HasCycle graph
  pair_cycle pair = grind (arith, Reaches-trans graph pair.first pair.second pair.first)

  pub homes_within : All (λ home. home < found.count) found.home
  homes_within k d l = grind (arith, get_or_default)

  module _ (differ : AllDiffer found.home found.count) where
    below : (a b : ℕ) → Edge graph a b → get_or found.home b 0 < get_or found.home a 0
    below a b edge =
        let order = are.order a b edge in
        let nodes = are.nodes in
        let source = edge.source in
        let target = edge.target in
        elim (cases_eq (get_or found.home b 0) (get_or found.home a 0)) [
          | inr ne ↦ omega (arith, ne)
          | inl e ↦ absurd (no_self a (subst (λ (x : ℕ). Edge graph a x) (differ.once b a (omega arith) (omega arith) e) edge))
        ]

    falls : (a b : ℕ) (via : List ℕ) → Walk graph a via b → get_or found.home b 0 < get_or found.home a 0
    falls a b [] walk = below a b walk
    falls a b (x ∷ via) walk = grind (arith, below, falls x b via walk.1)

    pub acyclic : IsAcyclic graph
    acyclic a reaches = (let down = falls a a reaches.via reaches.walk in omega arith)

    pub ordered : (order : List ℕ) → HasPlaces found.home order found.count (length found.home) → IsTopologicalOrder graph order
    ordered order places = record {
      size = places.size ∙ sym (differ.full used) ∙ are.nodes;
      within = λ i l. (let nodes = are.nodes in let at = node_at i (below_count i l) in let w = at.within in let is = at.is in omega arith);
      each = λ a l.
          let nodes = are.nodes in
          let home = are.within a l in
          let size = places.size in
          let inside : get_or found.home a 0 < length order = omega arith in
          (get_or found.home a 0, inside, get_or_default order (get_or found.home a 0) a 0 inside ∙ places.at a (omega arith));
      once = λ i j l m e. sym (home_at i (below_count i l)) ∙ ap (λ n. get_or found.home n 0) e ∙ home_at j (below_count j m);
      after = λ i j l m edge.
          let down = below (get_or order i 0) (get_or order j 0) edge in
          let one = home_at i (below_count i l) in
          let two = home_at j (below_count j m) in
          omega arith;
    }
      where
        below_count : (i : ℕ) → i < length order → i < found.count
        below_count i l = (let size = places.size in omega arith)

        used : (number : ℕ) → number < found.count → Contains found.home number
        used number l =
            let has = are.used number l in
            (has.node, has.within, get_or_default found.home has.node number 0 has.within ∙ has.is)

        node_at : (i : ℕ) → i < found.count → At found.home order i
        node_at i l =
            let has = are.used i l in
            record {
              node = has.node;
              within = has.within;
              is = ap (λ n. get_or order n 0) (sym has.is) ∙ places.at has.node has.within;
              home = has.is;
            }

        home_at : (i : ℕ) → i < found.count → get_or found.home (get_or order i 0) 0 ≡ i
        home_at i l = (let at = node_at i l in ap (λ n. get_or found.home n 0) at.is ∙ at.home)
