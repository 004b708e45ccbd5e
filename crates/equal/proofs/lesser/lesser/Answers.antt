use Rattle.std.proofs.Common.{◌≡◌, ◌∙◌, ◌||◌, ℕ, Vec, Global, Option, Some, Bool, true, false, cond, List, refl, sym, ap}
use Rattle.std.specs.Option.{option_map}
use Rattle.std.specs.Cmp.Lexicographic.{slice_cmp}
use Rattle.std.specs.Ordering.{bool_cmp, is_lt}
use Rattle.equal.proofs.Common.{find, vectors}
use Rattle.equal.proofs.LesserLemmas.{above-from_cmp, below-from_cmp, lesser-first, lesser-second, only-first, only-second}
use Rattle.equal.proofs.lesser.lesser.Goals as goal

-- the bits of a vector
abbrev items : Option (Vec Bool Global) → Option (List Bool)
items found = option_map (λ (v : Vec Bool Global). v.items) found

least-of : (n : ℕ) (p q : List Bool → Bool) (v w : Vec Bool Global) (b : Bool) → is_lt (slice_cmp bool_cmp w.items v.items) ≡ b → find p (vectors n) ≡ Some v.items → find q (vectors n) ≡ Some w.items →
    items (Some (cond b w v)) ≡ find (λ u. p u || q u) (vectors n)
least-of n p q v w true is first second = sym (lesser-second n p q v.items w.items first second (below-from_cmp w.items v.items is))
least-of n p q v w false is first second = sym (lesser-first n p q v.items w.items first second (above-from_cmp w.items v.items is))

pub returns-in-Some-Some : goal.returns-in-Some-Some
returns-in-Some-Some c n p q first second =
    ap (λ (m : Vec Bool Global). items (Some m)) c.min.ensures
    ∙ least-of n p q c.in-Some-Some.v c.in-Some-Some.w _ refl (sym first ∙ ap items c.in-Some-Some.is-0) (sym second ∙ ap items c.in-Some-Some.is-1)

pub returns-in-Some-None : goal.returns-in-Some-None
returns-in-Some-None c n p q first second = sym (ap items c.in-Some-None.is-0) ∙ first ∙ sym (only-first n p q (sym second ∙ ap items c.in-Some-None.is-1))

pub returns-in-None-default : goal.returns-in-None-default
returns-in-None-default c n p q first second = second ∙ sym (only-second n p q (sym first ∙ ap items c.in-None-default.is-0))
