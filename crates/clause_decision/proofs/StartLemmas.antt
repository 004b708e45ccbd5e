-- What inits ask of a state.
use Rattle.std.proofs.Common.{◌≡◌, ℕ, zero, suc, ◌+◌, ◌*◌, ◌<◌, Bool, not, List, [], ◌∷◌, ◌++◌, length, take, get_or, refl, arith}
use Rattle.std.specs.Prelude.{zip}
use Rattle.clause_decision.proofs.Common.{list_all, All-nil, bit, bits, Latch, Parts, CareSet, is_in_invariant, Rails, says, negation, Reads, ReadsAll, AreWithin, says-negation, asked_starts}
use Rattle.std.specs.List.{All}
use Rattle.std.proofs.lemmas.List.{append_assoc, append-nil}
use Rattle.std.proofs.lemmas.List.Elements.{All-append}
use Rattle.std.proofs.lemmas.List.Folds.{list_all-append}
use Rattle.cyc_base.proofs.TruthLemmas.{and_comm}
use Rattle.netlist.specs.declared.parts.Init.{Init}
use Rattle.refusals.specs.Refusals.{is_initial, may_start}
use Rattle.clause_decision.specs.Starts.{asked_of}
use Rattle.refusals.specs.Tests.{is_outside}

-- ---- latch by latch

pub asked-more : (k : ℕ) (latches : List Latch) (rails : List Rails) (latch : Latch) (r : Rails) → k < length latches → k < length rails → asked_starts (take (k + 1) latches) (take (k + 1) rails) ≡ (asked_starts (take k latches) (take k rails) ++ asked_of (get_or latches k latch).init (get_or rails k r))
asked-more zero [] rails latch r low high = absurd (omega (arith, low))
asked-more zero (l ∷ latches) [] latch r low high = absurd (omega (arith, high))
asked-more zero (l ∷ latches) (s ∷ rails) latch r low high = append-nil (asked_of l.init s)
asked-more (suc k) [] rails latch r low high = absurd (omega (arith, low))
asked-more (suc k) (l ∷ latches) [] latch r low high = absurd (omega (arith, high))
asked-more (suc k) (l ∷ latches) (s ∷ rails) latch r low high =
    grind (arith, asked-more k latches rails latch r, append_assoc (asked_of l.init s) (asked_starts (take k latches) (take k rails)) (asked_of (get_or latches k latch).init (get_or rails k r)))

-- ---- what they say of a state

start-told : (m : List Bool) (init : Init) (r : Rails) (b : Bool) → Reads m r (bit b) → list_all (says m) (asked_of init r) ≡ may_start init b
start-told m init r b reads = grind arith

pub starts-told : (m : List Bool) (latches : List Latch) (rails : List Rails) (q : List Bool) → length rails ≡ length latches → ReadsAll m rails (bits q) → list_all (says m) (asked_starts latches rails) ≡ list_all (λ p. may_start p.0.init p.1) (zip latches q)
starts-told m [] rails q wide reads = refl
starts-told m (l ∷ latches) [] q wide reads = absurd (omega (arith, wide))
starts-told m (l ∷ latches) (r ∷ rails) [] wide reads = absurd reads
starts-told m (l ∷ latches) (r ∷ rails) (b ∷ q) wide reads = grind (arith, list_all-append (says m) (asked_of l.init r) (asked_starts latches rails), start-told m l.init r b reads.0, starts-told m latches rails q)

-- with the invariant's literal negated
pub outside-told : (net : Parts) (care : CareSet) (m : List Bool) (rails : List Rails) (q : List Bool) (inside : ℕ) → length rails ≡ length net.latches → ReadsAll m rails (bits q) → says m inside ≡ is_in_invariant care q →
    list_all (says m) (negation inside ∷ asked_starts net.latches rails) ≡ is_outside net care q
outside-told net care m rails q inside wide reads is = grind (arith, says-negation m inside, starts-told m net.latches rails q wide reads, and_comm (not (is_in_invariant care q)) (is_initial net q))

-- ---- they are of the formula

asked-within : (n : ℕ) (init : Init) (r : Rails) → AreWithin n r → All (λ l. l < 2 * n) (asked_of init r)
asked-within n init r is k d less = grind arith

pub starts-within : (n : ℕ) (latches : List Latch) (rails : List Rails) → All (AreWithin n) rails → All (λ l. l < 2 * n) (asked_starts latches rails)
starts-within n [] rails all = All-nil (λ l. l < 2 * n)
starts-within n (l ∷ latches) [] all = All-nil (λ l. l < 2 * n)
starts-within n (l ∷ latches) (r ∷ rails) all =
    All-append (λ x. x < 2 * n) (asked_of l.init r) (asked_starts latches rails) (asked-within n l.init r (all 0 r (omega arith))) (starts-within n latches rails (λ k d less. all (suc k) d (omega (arith, less))))
