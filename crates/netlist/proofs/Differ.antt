-- A list repeats nothing exactly where its items differ from each other.
use Rattle.std.proofs.Common.{◌≡◌, ◌++◌, ◌||◌, Bool, false, List, [], ◌∷◌, None, refl, ◌∙◌, arith}
use Rattle.std.specs.List.{list_any, AllByRecursion, IsDistinct}
use Rattle.std.proofs.lemmas.List.{append-nil, append_assoc}
use Rattle.netlist.specs.Faults.{repeat_after, first_repeat}

module _ {T : Type 0} (eq : T → T → Bool) (flips : (x y : T) → eq x y ≡ eq y x) where
  or_false : (a b : Bool) → (a || b) ≡ false → (a ≡ false) × (b ≡ false)
  or_false a b e = grind arith

  past_end : (y x : T) (e : List T) → AllByRecursion (λ z. eq y z ≡ false) e → eq y x ≡ false → AllByRecursion (λ z. eq y z ≡ false) (e ++ x ∷ [])
  past_end y x [] h k = (k, tt)
  past_end y x (z ∷ e) h k = (h.0, past_end y x e h.1 k)

  -- one more item that differs from all before it
  one_more : (e : List T) (x : T) → IsDistinct eq e → list_any (eq x) e ≡ false → IsDistinct eq (e ++ x ∷ [])
  unfolding IsDistinct
  one_more [] x d n = (tt, tt)
  one_more (y ∷ e) x d n = grind (arith, or_false (eq x y) (list_any (eq x) e) n, past_end y x e d.0, one_more e x d.1)

  at_place : (y x : T) (e xs : List T) → AllByRecursion (λ z. eq y z ≡ false) (e ++ x ∷ xs) → eq y x ≡ false
  at_place y x [] xs h = h.0
  at_place y x (z ∷ e) xs h = at_place y x e xs h.1

  new_at_place : (e : List T) (x : T) (xs : List T) → IsDistinct eq (e ++ x ∷ xs) → list_any (eq x) e ≡ false
  unfolding IsDistinct
  new_at_place [] x xs d = refl
  new_at_place (y ∷ e) x xs d = rw (flips x y ∙ at_place y x e xs d.0) (new_at_place e x xs d.1)

  differ_after : (e xs : List T) → IsDistinct eq e → repeat_after eq e xs ≡ None → IsDistinct eq (e ++ xs)
  differ_after e [] d n = rw append-nil d
  differ_after e (x ∷ xs) d n = grind (arith, differ_after (e ++ x ∷ []) xs, one_more e x d, append_assoc)

  no_repeat_after : (e xs : List T) → IsDistinct eq (e ++ xs) → repeat_after eq e xs ≡ None
  no_repeat_after e [] d = refl
  no_repeat_after e (x ∷ xs) d =
      rw (new_at_place e x xs d) (no_repeat_after (e ++ x ∷ []) xs (rw append_assoc d))

  pub differ_from_no_repeat : (xs : List T) → first_repeat eq xs ≡ None → IsDistinct eq xs
  unfolding IsDistinct
  differ_from_no_repeat xs n = differ_after [] xs tt n

  pub no_repeat_from_differ : (xs : List T) → IsDistinct eq xs → first_repeat eq xs ≡ None
  no_repeat_from_differ xs d = no_repeat_after [] xs d
