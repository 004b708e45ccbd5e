-- What latches start with, latch by latch.
use Rattle.std.proofs.Common.{◌≡◌, ◌<◌, ℕ, ◌+◌, Bool, List, length, drop, get_or, slice_get, Some, add-one, arith}
use Rattle.sched_text.proofs.Common.{if◌then◌else◌, drop-cons, Latch, permits, first_refused}
use Rattle.std.proofs.lemmas.Option.{get_or_from_slice_get}

-- the latches from one on are refused, where those so far aren't
pub start_here : (latches : List Latch) (bits : List Bool) (i : ℕ) (latch : Latch) (d t : Bool)
    → first_refused 0 latches bits ≡ first_refused i (drop i latches) (drop i bits)
    → slice_get latches i ≡ Some latch → i < length latches → i < length bits → permits latch.init (get_or bits i d) ≡ t
    → first_refused 0 latches bits ≡ (if t then first_refused (i + 1) (drop (i + 1) latches) (drop (i + 1) bits) else Some i)
start_here latches bits i latch d t so_far at inside within is = grind (arith, drop-cons latches i latch inside, get_or_from_slice_get latches i latch latch, drop-cons bits i d within, add-one i)
