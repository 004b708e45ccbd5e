-- What is kept, with its places.
use Rattle.std.proofs.Common.{◌≡◌, ◌+◌, ◌++◌, ℕ, Bool, List, [], length, sym, ap, ◌∙◌, subst, arith}
use Rattle.care_rows.proofs.Common.{AreUsed, IsConeOf, IsKept, IsPlaced, Kept, Parts, Row, gates_of_rows, kept_signals, places, places_from, rank}
use Rattle.care_rows.proofs.LayoutLemmas.{length-places}

pub placed_is : (used cone columns gates : List Bool) (start first second : List ℕ) (inputs signals : ℕ) → columns ≡ used → gates ≡ cone → start ≡ [] → first ≡ start ++ places_from columns 0 → inputs ≡ 0 + rank columns (length columns) →
    second ≡ first ++ places_from gates inputs → signals ≡ inputs + rank gates (length gates) → (second ≡ places used cone) × (inputs ≡ rank used (length used)) × (signals ≡ kept_signals used cone)
placed_is used cone columns gates start first second inputs signals e1 e2 e3 e4 e5 e6 e7 =
    let number : inputs ≡ rank used (length used) = e5 ∙ (let e : 0 + rank columns (length columns) ≡ rank columns (length columns) = omega arith in e) ∙ ap (λ (marks : List Bool). rank marks (length marks)) e1 in (
      e6
          ∙ ap (λ (xs : List ℕ). xs ++ places_from gates inputs) (e4 ∙ ap (λ (xs : List ℕ). xs ++ places_from columns 0) e3 ∙ ap (λ (marks : List Bool). places_from marks 0) e1)
          ∙ ap (λ (marks : List Bool). places_from used 0 ++ places_from marks inputs) e2
          ∙ ap (λ (n : ℕ). places_from used 0 ++ places_from cone n) number,
      number,
      e7 ∙ ap (λ (n : ℕ). n + rank gates (length gates)) number ∙ ap (λ (marks : List Bool). rank used (length used) + rank marks (length marks)) e2,
    )

pub kept_is : (net : Parts) (assumed : List ℕ) (rows : List Row) (used cone : List Bool) (kept : Kept) → IsConeOf net (gates_of_rows net rows) cone → AreUsed net assumed rows cone used → IsPlaced used cone kept → IsKept net assumed rows kept
kept_is net assumed rows used cone kept cone_is used_are is = record {
  cone_is = subst (IsConeOf net (gates_of_rows net rows)) (sym is.gates_are) cone_is;
  used_are = subst (λ (marks : List Bool). AreUsed net assumed rows marks kept.columns.items) (sym is.gates_are) (subst (AreUsed net assumed rows cone) (sym is.columns_are) used_are);
  table_is = is.table_is ∙ ap (λ (marks : List Bool). places marks cone) (sym is.columns_are) ∙ ap (places kept.columns.items) (sym is.gates_are);
  inputs_are = is.inputs_are ∙ ap (λ (marks : List Bool). rank marks (length marks)) (sym is.columns_are);
  signals_are = is.signals_are ∙ ap (λ (marks : List Bool). kept_signals marks cone) (sym is.columns_are) ∙ ap (kept_signals kept.columns.items) (sym is.gates_are);
  long =
      let a = ap (λ (xs : List ℕ). length xs) is.table_is in
      let b = length-places used cone in
      let c = used_are.width in
      let d = cone_is.width in
      omega (arith, a, b, c, d);
}
