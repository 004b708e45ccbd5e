-- The diagram of a cover.
use Rattle.std.proofs.Common.{◌≡◌, ℕ, ◌-◌, ◌^◌, ◌<◌, ◌≤◌, Bool, List, [], length, inl, inr, Result, IfOk, sym, ap, subst, ◌∙◌, arith}
use Rattle.dual_rail.proofs.Common.{range_with_len, Node, Arena, den, IsNodeOf, IsLawful, nodes, IsPart, KeepsNodes, Row, value, remainder, IsExpansion}
use Rattle.bdd_store.specs.Subfunctions.{Alike}
use Rattle.bdd_store.specs.Growth.{NewAreParts, IsRefusedPart}
use Rattle.bdd_store.proofs.SubfunctionLemmas.{IsPart-of_alike}
use Rattle.bdd_store.proofs.GrowthLemmas.{IsPartAt-into, added-parts, refused-parts}
use Rattle.cover_logic.specs.Covers.{Cover, IsCover}
use Rattle.dual_rail.specs.Local.{IsLocal, IsDiagramOf, size}
use Rattle.dual_rail.proofs.ExpansionLemmas.{remainder-whole}
use Rattle.dual_rail.proofs.SizeLemmas.{nodes-below_power}

-- at the first pin all is left
pub remainder-cover : (cover : Cover) → IsCover cover → (rows : List Row) (plane : Bool) → rows ≡ cover.rows → plane ≡ cover.plane → (bits : List Bool) → remainder rows plane 0 (range_with_len 0 (length rows)) bits ≡ value cover bits
remainder-cover cover is rows plane rows_are plane_is bits = grind (arith, remainder-whole cover.rows cover.plane is.plane bits)

pub function-cover : {E : Type 0} (cover : Cover) (is : IsCover cover) (rows : List Row) (plane : Bool) → rows ≡ cover.rows → plane ≡ cover.plane → (s : Arena) → s.vars ≡ cover.pins → (r : Result Node E) → IfOk r (IsExpansion rows plane s 0 (range_with_len 0 (length rows))) → IfOk r (λ n. (bits : List Bool) → length bits ≡ cover.pins → den s n bits ≡ value cover bits)
function-cover cover is rows plane rows_are plane_is s vars h e = grind (arith, remainder-cover)

pub NewAreParts-alike : {s t : Arena} {f g : List Bool → Bool} → Alike s.vars f g → NewAreParts s t f → NewAreParts s t g
NewAreParts-alike {s} {t} same new = record { each = λ n node. elim (new.each n node) [ inl was ↦ inl was | inr part ↦ inr (IsPartAt-into t t n (λ m at here. IsPart-of_alike here same) part) ] }

pub IsRefusedPart-alike : {a : Arena} {f g : List Bool → Bool} → Alike a.vars f g → IsRefusedPart a f → IsRefusedPart a g
IsRefusedPart-alike same r = record { full = r.full; part = r.part; is_part = IsPart-of_alike r.is_part same; absent = r.absent }

module _ (cover : Cover) (old new : Arena) (pins_are : old.vars ≡ cover.pins) (empty : old.entries ≡ []) (lawful : IsLawful new) (kept : KeepsNodes old new) (parts : NewAreParts old new (value cover)) where
  pub local-size : length new.entries ≤ size cover
  local-size = omega (arith, added-parts old new (value cover) lawful kept parts, ap (λ v. nodes v (value cover)) pins_are, ap length empty)

  pub local-most : length new.entries ≤ 2 ^ cover.pins - 1
  local-most = omega (arith, local-size, nodes-below_power cover.pins (value cover))

  pub local-full : IsRefusedPart new (value cover) → old.limit < size cover
  local-full r = grind (arith, refused-parts old new (value cover) lawful kept parts r)

  module _ (top : Node) (node : IsNodeOf new top) (function_is : (bits : List Bool) → length bits ≡ cover.pins → den new top bits ≡ value cover bits) (pins : ℕ) (at : pins ≡ cover.pins) where
    pub local-is : IsLocal (record { store = new; top = top; pins = pins })
    local-is = record {
      pins = at ∙ sym (kept.vars ∙ pins_are);
      node = node;
      parts = λ n in_n more. elim (parts.each n in_n) [
        | inl was ↦ absurd (omega (arith, was, more, ap length empty))
        | inr part ↦ IsPartAt-into new new n (λ m at here. IsPart-of_alike (subst (λ (v : ℕ). IsPart v (value cover) (den new m)) (sym kept.vars) here) (λ bits len. sym (function_is bits (len ∙ kept.vars ∙ pins_are)))) part
      ];
    }

    pub local-of : IsDiagramOf (record { store = new; top = top; pins = pins }) cover
    local-of = record { pins = at; function = function_is }
