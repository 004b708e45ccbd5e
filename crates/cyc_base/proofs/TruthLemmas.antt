-- Lemmas of Booleans that std lacks.
use Rattle.std.proofs.Common.{◌≡◌, Bool, true, false, ◌&&◌, ◌||◌, arith}

pub same_truth : (a b : Bool) → (a ≡ true → b ≡ true) → (b ≡ true → a ≡ true) → a ≡ b
same_truth a b there back = grind arith

pub first_of_and : (a b : Bool) → (a && b) ≡ true → a ≡ true
first_of_and a b e = grind arith

pub second_of_and : (a b : Bool) → (a && b) ≡ true → b ≡ true
second_of_and a b e = grind arith

pub or-false : (b : Bool) → (b || false) ≡ b
or-false b = grind arith

pub or_without_second : (a b : Bool) → b ≡ false → (a || b) ≡ a
or_without_second a b e = grind arith

pub and_with_true : (b : Bool) → b ≡ (b && true)
and_with_true b = grind arith

pub or_with_false : (b : Bool) → b ≡ (b || false)
or_with_false b = grind arith

pub and_comm : (a b : Bool) → (a && b) ≡ (b && a)
and_comm a b = grind arith

pub or_comm : (a b : Bool) → (a || b) ≡ (b || a)
or_comm a b = grind arith

pub and_assoc : (a b c : Bool) → ((a && b) && c) ≡ (a && (b && c))
and_assoc a b c = grind arith

pub or_assoc : (a b c : Bool) → ((a || b) || c) ≡ (a || (b || c))
or_assoc a b c = grind arith
