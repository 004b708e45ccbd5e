-- Where rows end.
use Rattle.std.proofs.Common.{◌≡◌, ℕ, zero, suc, ◌+◌, ◌<◌, ◌≤◌, ◌⊎◌, Bool, true, false, not, ◌&&◌, List, [], ◌∷◌, ◌++◌, length, take, drop, map, get_or, refl, ap, ◌∙◌, arith, leb}
use Rattle.dual_rail.proofs.Common.{cases_lt, and_from, list_any, list_all, Lit, Any, Row, lits_of}
use Rattle.std.proofs.lemmas.Bool.{le-leb, lt-leb}
use Rattle.std.proofs.lemmas.List.{take_more, length-take-le}
use Rattle.dual_rail.specs.declared.classes.Classes.{Classes}
use Rattle.dual_rail.specs.Classes.{AreEndsOf, is_behind_end}
use Rattle.dual_rail.proofs.ExpansionLemmas.{any_same}
use Rattle.dual_rail.specs.Expansion.{is_any, is_settled, end_behind, end_of}

-- ---- one literal more

end_of-any : (lits : List Lit) → end_of (lits ++ Any ∷ []) ≡ end_of lits
end_of-any [] = refl
end_of-any (l ∷ lits) = ap (end_behind (is_any l)) (end_of-any lits)

end_behind-suc : (any : Bool) (end : ℕ) → end_behind any (suc end) ≡ suc (suc end)
end_behind-suc any end = grind arith

end_of-asking : (lits : List Lit) (lit : Lit) → is_any lit ≡ false → end_of (lits ++ lit ∷ []) ≡ suc (length lits)
end_of-asking [] lit h = ap (λ any. end_behind any 0) h
end_of-asking (l ∷ lits) lit h = ap (end_behind (is_any l)) (end_of-asking lits lit h) ∙ end_behind-suc (is_any l) (length lits)

any_of : (lit : Lit) → not (is_any lit) ≡ false → lit ≡ Any
any_of lit h = grind arith

asks_of : (lit : Lit) → not (is_any lit) ≡ true → is_any lit ≡ false
asks_of lit h = grind arith

pub end_of-take-asking : (lits : List Lit) (pin : ℕ) (d : Lit) → pin < length lits → not (is_any (get_or lits pin d)) ≡ true → end_of (take (pin + 1) lits) ≡ pin + 1
end_of-take-asking lits pin d less asks = grind (arith, take_more lits pin d less, end_of-asking (take pin lits) (get_or lits pin d) (asks_of (get_or lits pin d) asks), asks_of (get_or lits pin d) asks, length-take-le pin lits)

pub end_of-take-any : (lits : List Lit) (pin : ℕ) (d : Lit) → pin < length lits → not (is_any (get_or lits pin d)) ≡ false → end_of (take (pin + 1) lits) ≡ end_of (take pin lits)
end_of-take-any lits pin d less any = grind (arith, take_more lits pin d less, any_of (get_or lits pin d) any, end_of-any (take pin lits))

-- ---- a row asks nothing from its end on

-- the first literal counts unless it and all later ones ask nothing
end_of-first : (l : Lit) (lits : List Lit) → (end_of (l ∷ lits) ≡ suc (end_of lits)) ⊎ ((end_of (l ∷ lits) ≡ 0) × (end_of lits ≡ 0) × (is_any l ≡ true))
end_of-first l lits = grind arith

settled-behind : (lits : List Lit) (pin : ℕ) → end_of lits ≤ pin → list_all is_any (drop pin lits) ≡ true
settled-behind [] zero h = refl
settled-behind [] (suc pin) h = refl
settled-behind (l ∷ lits) zero h = grind (arith, end_of-first l lits, and_from (is_any l) (list_all is_any lits), settled-behind lits zero)
settled-behind (l ∷ lits) (suc pin) h = grind (arith, end_of-first l lits, settled-behind lits pin)

asks_behind : (b c : Bool) (end : ℕ) → 0 < end_behind b end → (0 < end → c ≡ false) → (b && c) ≡ false
asks_behind b c end h later = grind arith

settled-before : (lits : List Lit) (pin : ℕ) → pin < end_of lits → list_all is_any (drop pin lits) ≡ false
settled-before [] pin h = absurd (omega (arith, h))
settled-before (l ∷ lits) zero h = asks_behind (is_any l) (list_all is_any lits) (end_of lits) h (settled-before lits zero)
settled-before (l ∷ lits) (suc pin) h = grind (arith, end_of-first l lits, settled-before lits pin)

-- ---- the ends of all rows

end-of-row : (rows : List Row) (row : ℕ) → get_or (map (λ (r : Row). end_of r.lits) rows) row 0 ≡ end_of (lits_of rows row)
end-of-row [] zero = refl
end-of-row [] (suc row) = refl
end-of-row (r ∷ rows) zero = refl
end-of-row (r ∷ rows) (suc row) = end-of-row rows row

settled-by-end : (lits : List Lit) (pin : ℕ) → leb (end_of lits) pin ≡ list_all is_any (drop pin lits)
settled-by-end lits pin = grind (arith, cases_lt pin (end_of lits), lt-leb (end_of lits) pin, settled-before lits pin, le-leb (end_of lits) pin, settled-behind lits pin)

behind-settled : (rows : List Row) (classes : Classes) → AreEndsOf rows classes → (pin row : ℕ) → is_behind_end classes pin row ≡ is_settled rows pin row
behind-settled rows classes ends pin row = ap (λ n. leb n pin) (ap (λ ns. get_or ns row 0) ends ∙ end-of-row rows row) ∙ settled-by-end (lits_of rows row) pin

pub any-settled : (rows : List Row) (classes : Classes) → AreEndsOf rows classes → (pin : ℕ) (live : List ℕ) → list_any (is_behind_end classes pin) live ≡ list_any (is_settled rows pin) live
any-settled rows classes ends pin live = any_same (is_behind_end classes pin) (is_settled rows pin) (behind-settled rows classes ends pin) live
