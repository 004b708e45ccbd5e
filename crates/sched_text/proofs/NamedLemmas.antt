-- Each line of a written schedule has words, all of which are names.
use Rattle.std.proofs.Common.{◌≡◌, ◌≢◌, ℕ, Bool, true, false, List, [], ◌∷◌, ◌++◌, map, get_or, refl, arith}
use Rattle.sched_text.proofs.Common.{codes, decimal, flat_map, All-nil, All-cons, IsBlifName, IsLine, Parts, gate_at, IsNetlist, PlannedEvent, Schedule, IsSmall, bits_words, past_line, start_word, event_line, tick_lines, lines_of}
use Rattle.std.specs.Prelude.{All}
use Rattle.std.proofs.lemmas.List.Elements.{All-append, All-map}
use Rattle.cyc_base.specs.Names.{IsBlifByte}
use Rattle.cyc_io.specs.Bits.{bits_text}
use Rattle.netlist.specs.Faults.{is_blif_name}
use Rattle.netlist.proofs.Decisions.{is_blif_name_decides}
use Rattle.sched_text.specs.Written.{head_lines}
use Rattle.sched_text.proofs.GateLemmas.{gate_named}
use Rattle.sched_text.proofs.LevelLemmas.{IsWritable, AreWritable, ticks_each}
use Rattle.sched_text.proofs.WrittenNumbers.{decimal_named}

cons_filled : {X : Type 0} (x : X) (xs : List X) → (x ∷ xs) ≢ []
cons_filled x xs e = cc

constant : (word : List ℕ) → is_blif_name word ≡ true → IsBlifName word
constant word e = (is_blif_name_decides word).0 e

line_named : (first : List ℕ) (words : List (List ℕ)) → is_blif_name first ≡ true → All IsBlifName words → IsLine (first ∷ words)
line_named first words is each = record { filled = cons_filled first words; names = All-cons IsBlifName first words (constant first is) each }

bytes_named : (bits : List Bool) → All IsBlifByte (bits_text bits)
bytes_named [] = All-nil IsBlifByte
bytes_named (true ∷ bits) = All-cons IsBlifByte 49 (bits_text bits) (omega arith, omega arith, λ e. omega (arith, e)) (bytes_named bits)
bytes_named (false ∷ bits) = All-cons IsBlifByte 48 (bits_text bits) (omega arith, omega arith, λ e. omega (arith, e)) (bytes_named bits)

bits_filled : (b : Bool) (bits : List Bool) → bits_text (b ∷ bits) ≢ []
bits_filled b bits e = grind arith

bits_named : (bits : List Bool) → All IsBlifName (bits_words bits)
bits_named [] = All-nil IsBlifName
bits_named (b ∷ bits) = All-cons IsBlifName (bits_text (b ∷ bits)) [] (bits_filled b bits, bytes_named (b ∷ bits)) (All-nil IsBlifName)

start_named : (free : Bool) (bits : List Bool) → IsLine (start_word free ∷ bits_words bits)
start_named true bits = line_named (codes "state") (bits_words bits) refl (bits_named bits)
start_named false bits = line_named (codes "latches") (bits_words bits) refl (bits_named bits)

one_named : (word : List ℕ) → IsBlifName word → All IsBlifName (word ∷ [])
one_named word named = All-cons IsBlifName word [] named (All-nil IsBlifName)

event_named : (net : Parts) → IsNetlist net → (p : PlannedEvent) → IsWritable net p → IsLine (event_line net p)
event_named net valid p good =
    line_named (codes "e") ((gate_at net p.event.gate).name ∷ map decimal p.event.ages) refl
    (All-cons IsBlifName (gate_at net p.event.gate).name (map decimal p.event.ages) (gate_named net p.event.gate valid good.0)
    (All-map IsBlifName decimal p.event.ages (λ k d l. decimal_named (get_or p.event.ages k d) (good.1 k d l))))

pub lines_named : (net : Parts) (s : Schedule) → IsNetlist net → IsSmall s.window → All (All (AreWritable net)) s.ticks → All IsLine (lines_of net s)
lines_named net s valid small writable =
    let start : List (List ℕ) = start_word s.free ∷ bits_words s.latches in
    let gates : List (List ℕ) = codes "gates" ∷ bits_words s.gates in
    let format : List (List ℕ) = codes "schedule" ∷ codes "2" ∷ [] in
    let window : List (List ℕ) = codes "window" ∷ decimal s.window ∷ [] in
    All-append IsLine (head_lines s) (flat_map (tick_lines net) s.ticks)
    (All-cons IsLine format (window ∷ (map past_line s.past ++ (start ∷ gates ∷ [])))
    (line_named (codes "schedule") (codes "2" ∷ []) refl (one_named (codes "2") (constant (codes "2") refl)))
    (All-cons IsLine window (map past_line s.past ++ (start ∷ gates ∷ []))
    (line_named (codes "window") (decimal s.window ∷ []) refl (one_named (decimal s.window) (decimal_named s.window small)))
    (All-append IsLine (map past_line s.past) (start ∷ gates ∷ [])
    (All-map IsLine past_line s.past (λ k d l. line_named (codes "past") (bits_words (get_or s.past k d)) refl (bits_named (get_or s.past k d))))
    (All-cons IsLine start (gates ∷ []) (start_named s.free s.latches)
    (All-cons IsLine gates [] (line_named (codes "gates") (bits_words s.gates) refl (bits_named s.gates)) (All-nil IsLine))))))
    (ticks_each net IsLine (line_named (codes "tick") [] refl (All-nil IsBlifName)) (line_named (codes "round") [] refl (All-nil IsBlifName)) (event_named net valid) s.ticks writable)
