-- The graph of loops.
use Rattle.std.proofs.Common.{◌≡◌, ◌<◌, ◌≤◌, ℕ, Bool, List, ◌++◌, length, ap, ap₂, ◌∙◌, append_assoc, arith}
use Rattle.std.proofs.lemmas.Bool.{lt-ltb}
use Rattle.explain_text.proofs.Common.{CareSet, loops_of, gate_numbers, loop_of, begins_with, Parts, sweeps_needed, counts_are_needed, Counted, counted_sweeps, IsCounted, AreSweepsOnCare, if◌then◌else◌, short_cluster, told_cluster, whole_cluster}
use Rattle.loops.specs.Looped.{Looped}
use Rattle.explain_text.specs.Graphs.{told_clusters}
use Rattle.explain_text.proofs.LineLemmas.{begun-passes, numbered-alike}

-- three texts, one after another
pub three_told : (old one two new front middle back : List ℕ) → one ≡ old ++ front → two ≡ one ++ middle → new ≡ two ++ back
    → new ≡ old ++ (front ++ (middle ++ back))
three_told old one two new front middle back first second third =
    third
    ∙ ap (λ (text : List ℕ). text ++ back) (second ∙ ap (λ (text : List ℕ). text ++ middle) first)
    ∙ append_assoc (old ++ front) middle back
    ∙ append_assoc old front (middle ++ back)

-- a cluster, by what its parts are
pub cluster_told : (cluster : Looped → List ℕ → List ℕ → List ℕ) (old new : List ℕ) (given looped : Looped) (label text gates of_loop : List ℕ)
    → new ≡ old ++ cluster given label gates → given ≡ looped → label ≡ text → gates ≡ of_loop → new ≡ old ++ cluster looped text of_loop
cluster_told cluster old new given looped label text gates of_loop told netlist texts same =
    told
    ∙ ap (λ (l : Looped). old ++ cluster l label gates) netlist
    ∙ ap₂ (λ (t g : List ℕ). old ++ cluster looped t g) texts same

-- the sweeps that are needed
pub drawn_on_care : (counted : Counted) (care : CareSet) → IsCounted counted → AreSweepsOnCare counted.net counted.blocks counted.cut care counted.sweeps
    → told_clusters counted.net (counted_sweeps counted) ≡ told_clusters counted.net (sweeps_needed counted.net care)
drawn_on_care counted care is on_care =
    let net = counted.net in
    numbered-alike (told_cluster net (counted_sweeps counted)) (told_cluster net (sweeps_needed net care)) (λ n. begins_with (loop_of net n) n)
    (λ k n begun.
    ap (λ (m : ℕ). told_cluster net (λ gate. m) k n)
    (counts_are_needed net counted.blocks counted.cut care counted.sweeps is.blocks is.cut on_care n (begun-passes ((loops_of net).same n) (gate_numbers net) n begun)))
    (gate_numbers net) 1

-- which of the two is drawn

pub short_told : (net : Parts) (sweeps : ℕ → ℕ) (number first : ℕ) → 32 < length (loop_of net first) → told_cluster net sweeps number first ≡ short_cluster net sweeps number first
short_told net sweeps number first many = ap (λ (b : Bool). if b then short_cluster net sweeps number first else whole_cluster net sweeps number first) (lt-ltb 32 (length (loop_of net first)) many)

pub whole_told : (net : Parts) (sweeps : ℕ → ℕ) (number first : ℕ) → length (loop_of net first) ≤ 32 → told_cluster net sweeps number first ≡ whole_cluster net sweeps number first
whole_told net sweeps number first few = grind arith
