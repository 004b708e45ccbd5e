-- The gate that tells whether wires have their values.
use Rattle.std.proofs.Common.{◌≡◌, ◌≢◌, Bool, true, List, [], ◌∷◌, map, All, refl, sym, ap, ap₂, ◌∙◌, arith}
use Rattle.std.specs.Prelude.{◌↔◌}
use Rattle.care_rows.proofs.Common.{All-from_recursion, AllByRecursion, Trit, One, X, bit, bits, WireValue, and_cover, ext, is_one, literal, matches, recursion_from_All, wire}
use Rattle.cyc_base.proofs.OrderLemmas.{same_bit}
use Rattle.cyc_base.proofs.TruthLemmas.{first_of_and, second_of_and, or-false}
use Rattle.std.proofs.lemmas.Bool.{and_from}
use Rattle.cover_logic.proofs.ExtensionLemmas.{ext_at_bits}

-- a wire has its value
abbrev pub Holds : List Trit → WireValue → Type 0
Holds values e = wire values e.wire ≡ bit e.value

abbrev pub IsKnown : List Trit → WireValue → Type 0
IsKnown values e = wire values e.wire ≢ X

pub known_is : (t : Trit) → t ≢ X → t ≡ bit (is_one t)
known_is t known = grind arith

allowed_same : (f : WireValue → Bool) (e : WireValue) → matches (literal e ∷ []) (f e ∷ []) ≡ true → f e ≡ e.value
allowed_same f e h = by (f e) e.value h
  where
    by : (b c : Bool) → matches (literal (record { wire = e.wire; value = c }) ∷ []) (b ∷ []) ≡ true → b ≡ c
    by b c h = grind arith

same_allowed : (b : Bool) (e : WireValue) → b ≡ e.value → matches (literal e ∷ []) (b ∷ []) ≡ true
same_allowed b e h = by b e.value h
  where
    by : (b c : Bool) → b ≡ c → matches (literal (record { wire = e.wire; value = c }) ∷ []) (b ∷ []) ≡ true
    by b c h = grind arith

matches_to : (f : WireValue → Bool) (wires : List WireValue) → matches (map literal wires) (map f wires) ≡ true → AllByRecursion (λ e. f e ≡ e.value) wires
matches_to f [] h = tt
matches_to f (e ∷ es) h = (allowed_same f e (and_from _ true (first_of_and _ _ h) refl), matches_to f es (second_of_and _ _ h))

matches_from : (f : WireValue → Bool) (wires : List WireValue) → AllByRecursion (λ e. f e ≡ e.value) wires → matches (map literal wires) (map f wires) ≡ true
matches_from f [] h = refl
matches_from f (e ∷ es) h = and_from _ _ (first_of_and _ _ (same_allowed (f e) e h.0)) (matches_from f es h.1)

module _ (values : List Trit) where
  abbrev told : WireValue → Bool
  told e = is_one (wire values e.wire)

  all_known : (wires : List WireValue) → AllByRecursion (IsKnown values) wires → map (wire values) (map (λ e. e.wire) wires) ≡ bits (map told wires)
  all_known [] h = refl
  all_known (e ∷ es) h = ap₂ (λ t ts. t ∷ ts) (known_is (wire values e.wire) h.0) (all_known es h.1)

  value_is : (wires : List WireValue) → AllByRecursion (IsKnown values) wires → ext (and_cover wires) (map (wire values) (map (λ e. e.wire) wires)) ≡ bit (matches (map literal wires) (map told wires))
  value_is wires known =
      ap (ext (and_cover wires)) (all_known wires known)
      ∙ ext_at_bits (and_cover wires) (map told wires)
      ∙ ap bit (or-false (matches (map literal wires) (map told wires)))

  told_holds : (e : WireValue) → IsKnown values e → told e ≡ e.value → Holds values e
  told_holds e known is = known_is (wire values e.wire) known ∙ ap bit is

  holds_told : (e : WireValue) → Holds values e → told e ≡ e.value
  holds_told e is = by e.value is
    where
      by : (b : Bool) → wire values e.wire ≡ bit b → told e ≡ b
      by b h = ap is_one h ∙ one_of b
        where
          one_of : (b : Bool) → is_one (bit b) ≡ b
          one_of b = grind arith

  all_hold : (wires : List WireValue) → AllByRecursion (IsKnown values) wires → AllByRecursion (λ e. told e ≡ e.value) wires → AllByRecursion (Holds values) wires
  all_hold [] known h = tt
  all_hold (e ∷ es) known h = (told_holds e known.0 h.0, all_hold es known.1 h.1)

  all_told : (wires : List WireValue) → AllByRecursion (Holds values) wires → AllByRecursion (λ e. told e ≡ e.value) wires
  all_told [] h = tt
  all_told (e ∷ es) h = (holds_told e h.0, all_told es h.1)

  -- it is 1 just where all wires have their values, where these are known
  pub and_tells : (wires : List WireValue) → All (IsKnown values) wires → (ext (and_cover wires) (map (wire values) (map (λ e. e.wire) wires)) ≡ One) ↔ All (Holds values) wires
  and_tells wires known =
      let all = recursion_from_All (IsKnown values) wires known in (
        λ is. All-from_recursion (Holds values) wires (all_hold wires all (matches_to told wires (same_bit (matches (map literal wires) (map told wires)) true (sym (value_is wires all) ∙ is)))),
        λ hold. value_is wires all ∙ ap bit (matches_from told wires (all_told wires (recursion_from_All (Holds values) wires hold))),
      )
