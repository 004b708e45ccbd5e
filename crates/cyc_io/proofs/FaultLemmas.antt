-- Counts over several calls.
use Rattle.std.proofs.Common.{ℕ, ◌-◌, ◌≤◌, List, refl, arith}
use Rattle.cyc_io.specs.Faults.{Counts, ChangesCountOf, RaisesOnly, Rose, SameCounts, next_count}

-- a call that changes none
pub ChangesCountOf_refl : (name : List ℕ) (counts : Counts) → ChangesCountOf name counts counts
ChangesCountOf_refl name counts = record { later = λ other. omega arith; others = λ other differs. refl }

pub ChangesCountOf_trans : (name : List ℕ) (a b c : Counts) → ChangesCountOf name a b → ChangesCountOf name b c → ChangesCountOf name a c
ChangesCountOf_trans name a b c first second = grind arith

-- a count that rose after it may have grown
pub Rose_later : (a b c : ℕ) → a ≤ b → Rose b c → Rose a c
Rose_later a b c le h = grind arith

-- a count that rose in the second of two calls rose in both together
pub Rose_second : (name : List ℕ) (a b c : Counts) → ChangesCountOf name a b → Rose (b name) (c name) → Rose (a name) (c name)
Rose_second name a b c first rose = Rose_later (a name) (b name) (c name) (first.later name) rose

pub next_later : (n : ℕ) → n ≤ next_count n
next_later n = grind (arith)

pub next_rose : (n : ℕ) → Rose n (next_count n)
next_rose n = grind arith

-- A fault of a name, behind calls that changed no count.

pub raises_behind : (old kept new : Counts) (name : List ℕ) → SameCounts old kept → RaisesOnly name kept new → RaisesOnly name old new
raises_behind old kept new name same raises = grind arith

pub raised_only : (old kept new : Counts) (name : List ℕ) → SameCounts old kept → RaisesOnly name kept new → ChangesCountOf name old new
raised_only old kept new name same raises = grind arith

pub raised_rose : (old kept new : Counts) (name : List ℕ) → SameCounts old kept → RaisesOnly name kept new → Rose (old name) (new name)
raised_rose old kept new name same raises = grind arith

pub same_only : (old kept : Counts) (name : List ℕ) → SameCounts old kept → ChangesCountOf name old kept
same_only old kept name same = record { later = λ other. omega (arith, same other); others = λ other differs. same other }
