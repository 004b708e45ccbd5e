-- The miter of two netlists is refused just where they differ, with the least vector of that.
use Rattle.std.proofs.Common.{◌≡◌, ◌≢◌, inl, inr, ℕ, suc, ◌+◌, ◌-◌, ◌<◌, Bool, true, false, not, ◌&&◌, cond, List, [], ◌∷◌, length, map, Option, Some, None, refl, ap, sym, subst, ◌∙◌, arith}
use Rattle.miters.proofs.Common.{find, is_none, list_any, range_with_len, option_or, cases_lt, length-map-range_with_len, get_or-map-range_with_len, map-range_with_len_more, Sig, X, bits, Parts, gate_sig, IsNetlist, wire, fix, map_agree, CareSet, columns, is_care_vector, Pair, by_name, differs, difference, AreAccepted, joined_pairs, miter, find-append, vectors, option_or-neither, option_map-nothing, Undetermined, gate_sigs, AreDetermined, care_vectors, refusal, find-filter, any-find, accepted_without_refusal, care_vector_decides}
use Rattle.std.specs.Option.{option_map, option_and_then}
use Rattle.netlist.specs.Fixpoint.{next}
use Rattle.care_sets.specs.Care.{IsCareVector}
use Rattle.refusals.specs.Tests.{is_unknown_at}
use Rattle.cyc_base.proofs.VectorLemmas.{find-alike}
use Rattle.refusals.specs.declared.observe.Observe.TheVariants as observe
use Rattle.refusals.specs.declared.refusal.Refusal.TheVariants.{Leaves}
use Rattle.refusals.specs.Refusals.{is_undetermined, next_state, leaves, initial_refusal, empty_refusal, undetermined_refusal, leaves_refusal}
use Rattle.refusals.proofs.ObservedLemmas.{all_observes_gates}
use Rattle.refusals.proofs.RefusalLemmas.{known-is_x}
use Rattle.miters.proofs.NameLemmas.{find_nowhere}
use Rattle.miters.proofs.MatchLemmas.{Match}
use Rattle.miters.proofs.JoinLemmas.{fix_first, apart_same, pair_known, gate_known}
use Rattle.miters.proofs.MiterLemmas.{told, place, length-net, link_known, teller_is}

-- ---- tests that agree on all vectors that count

agree_after : (s : Bool) (p q : Bool) → (s ≡ true → p ≡ q) → (s && p) ≡ (s && q)
agree_after s p q same = grind arith

pub agree_on_care : (net : Parts) (care : CareSet) (p q : List Bool → Bool) → ((v : List Bool) → IsCareVector net care v → p v ≡ q v) → find p (care_vectors net care) ≡ find q (care_vectors net care)
agree_on_care net care p q same = grind (arith, find-filter p (is_care_vector net care) (vectors (columns net)), find-alike (columns net), agree_after, care_vector_decides net care, find-filter q (is_care_vector net care) (vectors (columns net)))

-- ---- what the parts of a refusal say where there is none

-- what is unknown at one place alone
find_last : (p : Sig → Bool) (f : ℕ → Sig) (n : ℕ) → ((k : ℕ) → k < n → p (f k) ≡ false) → find p (map f (range_with_len 0 (suc n))) ≡ cond (p (f n)) (Some (f n)) None
find_last p f n none =
    ap (find p) (ap (λ m. map f (range_with_len 0 m)) (let e : suc n ≡ n + 1 = omega arith in e) ∙ map-range_with_len_more f 0 n n (omega arith))
    ∙ find-append p (map f (range_with_len 0 n)) (f n ∷ [])
    ∙ ap (λ o. option_or o (find p (f n ∷ [])))
    (find_nowhere p (map f (range_with_len 0 n)) (λ k d l.
    let m = length-map-range_with_len f 0 n in
    ap p (get_or-map-range_with_len f 0 n k k d (omega arith) (omega arith)) ∙ none k (omega arith)))

first_of_one : {V : Type 0} (s : Sig) (o : Option V) (fails : Sig → Option V) → fails s ≡ o →
    option_and_then {U = Sig × V} (λ (w : Sig). option_map (λ (v : V). (w, v)) (fails w)) (cond (not (is_none o)) (Some s) None) ≡ option_map (λ (v : V). (s, v)) o
first_of_one s o fails e = grind arith

module _ (a b : Parts) (care_a : CareSet) (valid_a : IsNetlist a) (valid_b : IsNetlist b) (match_ : Match a b) (accepted : AreAccepted a b care_a) where
  accepted_a : refusal a care_a observe.All ≡ None
  accepted_a = accepted.first

  -- all gates of both are known on care
  pub known_a : (v : List Bool) → IsCareVector a care_a v → AreDetermined a v (gate_sigs a)
  known_a v counts = let accepts = (accepted_without_refusal a care_a observe.All valid_a).0 accepted_a in accepts.determined v counts

  known_b : (v : List Bool) → IsCareVector a care_a v → AreDetermined b (by_name a b v) (gate_sigs b)
  known_b v counts = accepted.second v counts

  abbrev pairs : List Pair
  pairs = joined_pairs a b

  abbrev net : Parts
  net = miter a b

  abbrev last : ℕ
  last = place a b pairs (suc (length pairs))

  -- the last gate is unknown just where they differ
  last_is : (v : List Bool) → IsCareVector a care_a v → is_undetermined net (gate_sig net last) v ≡ differs a b v
  last_is v counts =
      teller_is a b pairs v counts.width (pair_known a b (told a b pairs) valid_a valid_b match_ v counts.width (known_a v counts) (known_b v counts))
      ∙ apart_same a b (told a b pairs) valid_a valid_b match_ v counts.width (known_a v counts) (known_b v counts)

  -- and the others are known
  others_known : (v : List Bool) → IsCareVector a care_a v → (k : ℕ) → k < last → is_undetermined net (gate_sig net k) v ≡ false
  others_known v counts k l =
      known-is_x (wire (fix net (bits v)) (gate_sig net k)) (elim (cases_lt k (length a.gates + length b.gates)) [
        | inl low ↦ gate_known a b (told a b pairs) valid_a valid_b match_ v counts.width (known_a v counts) (known_b v counts) k low
        | inr high ↦
            let i : ℕ = k - (length a.gates + length b.gates) in
            let e : place a b pairs i ≡ k = omega arith in
            subst (λ n. wire (fix net (bits v)) (gate_sig net n) ≢ X) e
            (link_known a b pairs v counts.width (pair_known a b (told a b pairs) valid_a valid_b match_ v counts.width (known_a v counts) (known_b v counts)) i (omega arith))
      ])

  never_loose : (k : ℕ) → k < last → list_any (is_undetermined net (gate_sig net k)) (care_vectors net care_a) ≡ false
  never_loose k l =
      any-find (is_undetermined net (gate_sig net k)) (care_vectors net care_a)
      ∙ ap (λ o. not (is_none o))
      (agree_on_care a care_a (is_undetermined net (gate_sig net k)) (λ v. false) (λ v counts. others_known v counts k l)
      ∙ find_nowhere (λ v. false) (care_vectors a care_a) (λ i d m. refl))

  found_last : find (is_undetermined net (gate_sig net last)) (care_vectors net care_a) ≡ difference a b care_a
  found_last = agree_on_care a care_a (is_undetermined net (gate_sig net last)) (differs a b) last_is

  -- the least vector at which the last gate is unknown is where they differ
  pub found_unknown : (gate : ℕ) → gate ≡ length net.gates - 1 → find (is_unknown_at net care_a gate) (vectors (columns net)) ≡ difference a b care_a
  found_unknown gate is =
      let many = length-net a b pairs in
      let same : gate ≡ last = omega (arith, is, many) in
      ap (λ n. find (is_unknown_at net care_a n) (vectors (columns net))) same
      ∙ sym (find-filter (is_undetermined net (gate_sig net last)) (is_care_vector net care_a) (vectors (columns net)))
      ∙ found_last

  undetermined_is : undetermined_refusal net care_a observe.All ≡ option_map (λ v. Undetermined v (gate_sig net last)) (difference a b care_a)
  undetermined_is =
      grind (arith, all_observes_gates net, length-net a b pairs, find_last, never_loose, any-find (is_undetermined net (gate_sig net last)) (care_vectors net care_a), found_last, first_of_one (gate_sig net last) (difference a b care_a))

  -- the latches load what they load in the first netlist
  next_same : (v : List Bool) → length v ≡ columns a → next net (bits v) ≡ next a (bits v)
  next_same v wide = grind (arith, map_agree, fix_first a b (told a b pairs) valid_a valid_b match_ v wide, told a b pairs)

  leaves_is : find (leaves net care_a) (care_vectors net care_a) ≡ find (leaves a care_a) (care_vectors a care_a)
  leaves_is = grind (arith, agree_on_care a care_a (leaves net care_a) (leaves a care_a), next_same)

  pub refusal_is : refusal net care_a observe.All ≡ option_map (λ v. Undetermined v (gate_sig net last)) (difference a b care_a)
  refusal_is =
      let first = option_or-neither _ _ accepted_a in
      let second = option_or-neither _ _ first.1 in
      let third = option_or-neither _ _ second.1 in
      let fourth = option_or-neither _ _ third.1 in
      let stays : find (leaves a care_a) (care_vectors a care_a) ≡ None = option_map-nothing (λ v. Leaves v (next_state a v)) _ fourth.0 in
      let none_initial : initial_refusal net care_a ≡ None = first.0 in
      let none_empty : empty_refusal net care_a ≡ None = second.0 in
      let none_leaves : leaves_refusal net care_a ≡ None = ap (option_map (λ v. Leaves v (next_state net v))) (leaves_is ∙ stays) in
      grind (arith, undetermined_is)
