-- Where no instance stands in a model, the walk comes to the lines of its body.
use Rattle.std.proofs.Common.{◌≡◌, ℕ, zero, suc, ◌+◌, ◌<◌, ◌≤◌, nat_le, Bool, true, false, if◌then◌else◌, List, [], ◌∷◌, length, sym, ap, arith, All, Ok, Err, option_map}
use Rattle.flatten.proofs.Common.{All-nil, All-cons, All-head, All-tail, list_any, Option, Clock, BlifModel, GateLine, LatchLine, Item, Gate, Latch, Part, TooLarge, linked_lines, model_at, linked, Instance, gate_at, clock_at, latch_at, IsPrintedGate, IsPrintedLatch, Event, decided, then_gate, then_latch, common_steps, own_gates, own_latches}
use Rattle.blif_read.specs.Flattening.{IsSoundItem}
use Rattle.flatten.specs.Alone.{is_part, own_lines, flat_alone}
use Rattle.flatten.specs.Flat.{flat_at}
use Rattle.flatten.specs.Printable.{ArePrintedLines}
use Rattle.flatten.specs.Walk.{events_by}
use Rattle.std.proofs.lemmas.List.{map-id}

-- a body has no more lines than items
pub few_own_lines : (items : List Item) → length (own_latches items) + length (own_gates items) ≤ length items
few_own_lines [] = omega arith
few_own_lines (Gate g ∷ items) = let h = few_own_lines items in omega (arith, h)
few_own_lines (item ∷ items) = let h = few_own_lines items in omega (arith, h)

-- the lines of a sound body are printed
pub own_lines_printed : (items : List Item) → All IsSoundItem items → ArePrintedLines (own_lines items)
own_lines_printed [] h = record { latches = All-nil IsPrintedLatch; gates = All-nil IsPrintedGate }
own_lines_printed (item ∷ items) h = grind (arith, All-head IsSoundItem item items h, own_lines_printed items (All-tail IsSoundItem item items h), All-tail IsSoundItem item items h, All-cons IsPrintedGate, All-cons IsPrintedLatch)

-- lines of the top are printed as they stand
pub gate_same : (m : List ℕ) (g : GateLine) → gate_at m [] g ≡ g
gate_same m g = grind (arith, map-id g.pins)

pub control_same : (m : List ℕ) (control : Option Clock) → option_map (clock_at m []) control ≡ control
control_same m control = grind arith

pub latch_same : (m : List ℕ) (l : LatchLine) → latch_at m [] l ≡ l
latch_same m l = grind arith

-- whether so many lines fit
none_fit : (room : ℕ) → nat_le 0 room ≡ true
none_fit room = grind (arith, common_steps)

too_many : (n : ℕ) → nat_le (suc n) 0 ≡ false
too_many n = grind (arith, common_steps)

one_more : (n room : ℕ) → nat_le (suc n) (suc room) ≡ nat_le n room
one_more n room = grind (arith, common_steps)

by_room : {A B : Type 0} (f : A → B) (b : Bool) (x y : A) → f (if b then x else y) ≡ (if b then f x else f y)
by_room f b x y = grind arith

module _ (deeper : List Instance → List Item → List Event) (depth : ℕ) (models : List BlifModel) (top m : List ℕ) where
  walk_alone : (n : ℕ) (items : List Item) (room : ℕ) → list_any is_part items ≡ false → decided room (events_by deeper depth models top m [] n items) ≡ (if nat_le (length items) room then Ok (own_lines items) else Err TooLarge)
  walk_alone n [] zero h = sym (ap (λ (b : Bool). if b then Ok (own_lines []) else Err TooLarge) (none_fit zero))
  walk_alone n [] (suc room) h = sym (ap (λ (b : Bool). if b then Ok (own_lines []) else Err TooLarge) (none_fit (suc room)))
  walk_alone n (Gate g ∷ items) zero h = sym (ap (λ (b : Bool). if b then Ok (own_lines (Gate g ∷ items)) else Err TooLarge) (too_many (length items)))
  walk_alone n (Gate g ∷ items) (suc room) h = grind (arith, gate_same m g, walk_alone n items room h, by_room (then_gate g) (nat_le (length items) room) (Ok (own_lines items)) (Err TooLarge), one_more (length items) room)
  walk_alone n (Latch l ∷ items) zero h = sym (ap (λ (b : Bool). if b then Ok (own_lines (Latch l ∷ items)) else Err TooLarge) (too_many (length items)))
  walk_alone n (Latch l ∷ items) (suc room) h = grind (arith, latch_same m l, walk_alone n items room h, by_room (then_latch l) (nat_le (length items) room) (Ok (own_lines items)) (Err TooLarge), one_more (length items) room)
  walk_alone n (Part p ∷ items) room h = absurd (cc)

-- the flat netlist of a top in which no instance stands
pub is_flat_alone : (depth limit : ℕ) (models : List BlifModel) (i : ℕ) → list_any is_part (model_at models i).body ≡ false → flat_at depth limit models i ≡ flat_alone limit (model_at models i)
is_flat_alone zero limit models i h =
    let top = model_at models i in
    grind (arith, walk_alone, by_room (linked_lines top) (nat_le (length top.body) limit) (Ok (own_lines top.body)) (Err TooLarge))
is_flat_alone (suc more) limit models i h =
    let top = model_at models i in
    grind (arith, walk_alone, by_room (linked_lines top) (nat_le (length top.body) limit) (Ok (own_lines top.body)) (Err TooLarge))

-- the two cases of such a top
pub alone_fits : (limit : ℕ) (model : BlifModel) → length model.body ≤ limit → flat_alone limit model ≡ linked model (own_lines model.body)
alone_fits limit model fits = grind arith

pub alone_too_large : (limit : ℕ) (model : BlifModel) → limit < length model.body → flat_alone limit model ≡ Err TooLarge
alone_too_large limit model less = grind arith
