-- The readers of signals, gate by gate and pin by pin.
use Rattle.std.proofs.Common.{◌≡◌, inl, inr, ℕ, ◌+◌, ◌<◌, List, [], ◌∷◌, ◌++◌, length, get_or, set, refl, sym, ◌∙◌, subst, arith, Contains}
use Rattle.simulation.proofs.Common.{cases_eq, get_or-set_same, get_or-set_other, get_or_default, length-set, Sig, Parts, count, gate_at, readers_of, AreListed}
use Rattle.std.proofs.lemmas.List.Elements.{Contains-append_left, Contains-append_right}
use Rattle.cyc_base.proofs.ListLemmas.{Contains-here, Contains-cases, Contains-nothing}
use Rattle.simulation.specs.Plans.{AreReadersOf}
use Rattle.simulation.proofs.PinLemmas.{contains_at}
use Rattle.simulation.proofs.ListLemmas.{append_cases}

-- what a signal's list is once a gate was added to that of s
added_same : (lists : List (List ℕ)) (s t : Sig) (list : List ℕ) → s.0 < length lists → t.0 ≡ s.0 → readers_of (set lists s.0 list) t ≡ list
added_same lists s t list l e = rw e (get_or-set_same lists s.0 list [] l)

pub listed_more : (gate : ℕ) (pins : List Sig) (k : ℕ) (s : Sig) (old lists : List (List ℕ)) (list : List ℕ) → ((d : Sig) → get_or pins k d ≡ s) → s.0 < length lists → list ≡ get_or lists s.0 list → AreListed gate pins k old lists → AreListed gate pins (k + 1) old (set lists s.0 (list ++ gate ∷ []))
listed_more gate pins k s old lists list at within is h =
    let more = list ++ gate ∷ [] in
    let was : (t : Sig) → t.0 ≡ s.0 → readers_of lists t ≡ list = λ t e. rw e (get_or_default lists s.0 [] list within ∙ sym is) in
    let keep : (t : Sig) (n : ℕ) → Contains (readers_of lists t) n → Contains (readers_of (set lists s.0 more) t) n =
    λ t n c.
    elim (cases_eq t.0 s.0) [
      | inl e ↦
          subst (λ (xs : List ℕ). Contains xs n) (sym (added_same lists s t more within e))
          (Contains-append_left list (gate ∷ []) n (subst (λ (xs : List ℕ). Contains xs n) (was t e) c))
      | inr ne ↦ subst (λ (xs : List ℕ). Contains xs n) (sym (get_or-set_other lists s.0 t.0 more [] ne)) c
    ] in
    record {
      size = length-set lists s.0 more ∙ h.size;
      each = λ i d l.
          elim (cases_eq i k) [
            | inl e ↦
                let pin : get_or pins i d ≡ s = rw e (at d) in
                subst (λ (t : Sig). Contains (readers_of (set lists s.0 more) t) gate) (sym pin)
                (subst (λ (xs : List ℕ). Contains xs gate) (sym (added_same lists s s more within refl))
                (Contains-append_right list (gate ∷ []) gate (Contains-here gate [])))
            | inr ne ↦ keep (get_or pins i d) gate (h.each i d (omega (arith, ne)))
          ];
      keeps = λ t n c. keep t n (h.keeps t n c);
      only = λ t n c.
          elim (cases_eq t.0 s.0) [
            | inl e ↦
                elim (append_cases list (gate ∷ []) n (subst (λ (xs : List ℕ). Contains xs n) (added_same lists s t more within e) c)) [
                  | inl before ↦ h.only t n (subst (λ (xs : List ℕ). Contains xs n) (sym (was t e)) before)
                  | inr last ↦
                      elim (Contains-cases gate [] n last) [
                        | inl same ↦ inr (sym same)
                        | inr none ↦ absurd (Contains-nothing n none)
                      ]
                ]
            | inr ne ↦ h.only t n (subst (λ (xs : List ℕ). Contains xs n) (get_or-set_other lists s.0 t.0 more [] ne) c)
          ];
    }

-- the first k gates are among the readers of their pins
pub record AreReadersBelow (net : Parts) (k : ℕ) (lists : List (List ℕ)) : Type 0 where
  pub signals : length lists ≡ count net
  pub each : (n : ℕ) (s : Sig) → n < k → Contains (gate_at net n).pins s → Contains (readers_of lists s) n
  pub gates : (s : Sig) (n : ℕ) → Contains (readers_of lists s) n → n < k

pub readers_more : (net : Parts) (k : ℕ) (pins : List Sig) (lists new : List (List ℕ)) → pins ≡ (gate_at net k).pins → AreReadersBelow net k lists → AreListed k pins (length pins) lists new → AreReadersBelow net (k + 1) new
readers_more net k pins lists new is h listed = record {
  signals = listed.size ∙ h.signals;
  each = λ n s l c.
      elim (cases_eq n k) [
        | inl e ↦
            let pin : Contains pins s = rw (is, ← e) c in
            let there : Contains (readers_of new (get_or pins pin.0 s)) k = listed.each pin.0 s pin.1 in
            let here : Contains (readers_of new s) k = subst (λ (t : Sig). Contains (readers_of new t) k) pin.2 there in
            rw e here
        | inr ne ↦ listed.keeps s n (h.each n s (omega (arith, ne)) c)
      ];
  gates = λ s n c.
      elim (listed.only s n c) [
        | inl before ↦ let l = h.gates s n before in omega arith
        | inr e ↦ omega arith
      ];
}

pub readers_all : (net : Parts) (lists : List (List ℕ)) → AreReadersBelow net (length net.gates) lists → AreReadersOf net lists
readers_all net lists h = record {
  signals = h.signals;
  each = h.each;
  gates = λ s k d l. h.gates s (get_or (readers_of lists s) k d) (contains_at (readers_of lists s) k d l);
}
