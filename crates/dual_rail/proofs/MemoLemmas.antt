-- The memo of the expansion.
use Rattle.std.proofs.Common.{◌≡◌, ℕ, Bool, true, false, cond, List, Option, Some, Result, is_err, OnOk, nat_eq, refl, sym, ◌∙◌, eq-eqb, arith}
use Rattle.std.proofs.lemmas.Option.{same_Some}
use Rattle.dual_rail.proofs.Common.{and_parts, Node, Arena, KeepsNodes, Row, IsExpansion}
use Rattle.std.proofs.lemmas.Bool.{eqb-true}
use Rattle.std.specs.Bool.{Decides}
use Rattle.std.specs.Cmp.Lexicographic.{pointwise, pointwise_decides}
use Rattle.std.specs.HashMap.{get}
use Rattle.dual_rail.specs.declared.live.Live.{Live}
use Rattle.dual_rail.specs.Memo.{Memo, live_eq, IsMemo}
use Rattle.dual_rail.proofs.ExpansionLemmas.{IsExpansion-kept}

numbers_decide : (a b : ℕ) → Decides (nat_eq a b) (a ≡ b)
numbers_decide a b = (eqb-true a b, eq-eqb a b)

same_live : (p q : Live) → live_eq p q ≡ true → (p.pin ≡ q.pin) × (p.rows.items ≡ q.rows.items)
same_live p q h =
    let parts = and_parts (nat_eq p.pin q.pin) (pointwise nat_eq p.rows.items q.rows.items) h in
    (eqb-true p.pin q.pin parts.0, (pointwise_decides numbers_decide p.rows.items q.rows.items).0 parts.1)

pub IsMemo-kept : (rows : List Row) (plane : Bool) (s t : Arena) (memo : Memo) → KeepsNodes s t → IsMemo rows plane s memo → IsMemo rows plane t memo
IsMemo-kept rows plane s t memo k h = record { each = λ q n at. IsExpansion-kept k (h.each q n at) }

pub IsMemo-found : (rows : List Row) (plane : Bool) (s : Arena) (memo : Memo) (q : Live) (n : Node) (r : Option Node) → IsMemo rows plane s memo → r ≡ get live_eq memo q → r ≡ Some n → IsExpansion rows plane s q.pin q.rows.items n
IsMemo-found rows plane s memo q n r h e is = h.each q n (sym e ∙ is)

-- the memo with one more node
pub IsMemo-insert : (rows : List Row) (plane : Bool) (s : Arena) (old new : Memo) (p : Live) (n : Node)
    → IsMemo rows plane s old → IsExpansion rows plane s p.pin p.rows.items n
    → ((q : Live) → get live_eq new q ≡ cond (live_eq p q) (Some n) (get live_eq old q)) → IsMemo rows plane s new
IsMemo-insert rows plane s old new p n memo is updates = record { each = λ q m at. by q m (live_eq p q) refl (sym (updates q) ∙ at) }
  where
    by : (q : Live) (m : Node) (b : Bool) → live_eq p q ≡ b → cond b (Some n) (get live_eq old q) ≡ Some m → IsExpansion rows plane s q.pin q.rows.items m
    by q m b e h = grind (arith, same_live, same_Some)

-- the clause of an `Ok`
pub on_ok : {X E : Type 0} {P : Type 0} (r : Result X E) → false ≡ is_err r → OnOk r P → P
on_ok r e h = grind arith
