-- A piece that is added at the end, and a piece by its number.
use Rattle.std.proofs.Common.{◌≡◌, ℕ, zero, suc, ◌+◌, ◌-◌, ◌<◌, ◌≤◌, List, [], ◌∷◌, ◌++◌, length, get_or, take, drop, refl, ap, sym, arith}
use Rattle.std.proofs.lemmas.List.{length-append, length_push, take-append-le, drop-append-le, drop_at, take_all, length-drop}
use Rattle.components.specs.Pieces.{pieces, EndAt}

pub EndAt-below : (start : ℕ) (ends : List ℕ) (len : ℕ) → EndAt start ends len → start ≤ len
EndAt-below start [] len e = omega arith
EndAt-below start (end ∷ ends) len e = let below = EndAt-below end ends len e.1 in omega arith

pub EndAt-push : (start : ℕ) (ends : List ℕ) (len more : ℕ) → EndAt start ends len → len ≤ more → EndAt start (ends ++ more ∷ []) more
EndAt-push start [] len more e l = (omega arith, refl)
EndAt-push start (end ∷ ends) len more e l = (e.0, EndAt-push end ends len more e.1 l)

-- a piece lies within the list to which more is appended
piece-append : (start end : ℕ) (items more : List ℕ) → start ≤ end → end ≤ length items →
    take (end - start) (drop start (items ++ more)) ≡ take (end - start) (drop start items)
piece-append start end items more l within = grind (arith, length-drop, drop-append-le, take-append-le)

pub pieces-push : (start : ℕ) (ends items more : List ℕ) → EndAt start ends (length items) →
    pieces start (ends ++ length (items ++ more) ∷ []) (items ++ more) ≡ pieces start ends items ++ more ∷ []
pieces-push start [] items more e =
    let last = drop_at items more start (sym e) in
    let len = length-append items more in
    let whole = take_all (length (items ++ more) - start) more (omega arith) in
    rw last (ap (λ (xs : List ℕ). xs ∷ []) whole)
pieces-push start (end ∷ ends) items more e = grind (arith, EndAt-below, piece-append, pieces-push end ends items more e.1)

pub length-pieces : (start : ℕ) (ends items : List ℕ) → length (pieces start ends items) ≡ length ends
length-pieces start [] items = refl
length-pieces start (end ∷ ends) items = ap (λ n. suc n) (length-pieces end ends items)

-- a piece begins where the one before ends
pub pieces-at : (start : ℕ) (ends items : List ℕ) (n : ℕ) → n < length ends →
    get_or (pieces start ends items) n [] ≡ take (get_or ends n 0 - get_or (start ∷ ends) n 0) (drop (get_or (start ∷ ends) n 0) items)
pieces-at start [] items n l = absurd (omega arith)
pieces-at start (end ∷ ends) items zero l = refl
pieces-at start (end ∷ ends) items (suc n) l = pieces-at end ends items n (omega arith)

pub EndAt-at : (start : ℕ) (ends : List ℕ) (len n : ℕ) → EndAt start ends len → n < length ends →
    (get_or (start ∷ ends) n 0 ≤ get_or ends n 0) × (get_or ends n 0 ≤ len)
EndAt-at start [] len n e l = absurd (omega arith)
EndAt-at start (end ∷ ends) len zero e l = (e.0, EndAt-below end ends len e.1)
EndAt-at start (end ∷ ends) len (suc n) e l = EndAt-at end ends len n e.1 (omega arith)

pub record Adds (ends items new_ends new_items more : List ℕ) : Type 0 where
  pub ending : EndAt 0 new_ends (length new_items)
  pub count : length new_ends ≡ length ends + 1
  pub added : pieces 0 new_ends new_items ≡ pieces 0 ends items ++ more ∷ []

pub adds : (ends items new_ends new_items more : List ℕ) → EndAt 0 ends (length items) →
    new_items ≡ items ++ more → new_ends ≡ ends ++ length new_items ∷ [] → Adds ends items new_ends new_items more
adds ends items new_ends new_items more e appended pushed =
    let len = length-append items more in
    let pushed : new_ends ≡ ends ++ length (items ++ more) ∷ [] = rw (← appended) pushed in
    grind (arith, EndAt-push 0 ends (length items) (length (items ++ more)) e, length_push ends (length (items ++ more)), pieces-push 0 ends items more e)
