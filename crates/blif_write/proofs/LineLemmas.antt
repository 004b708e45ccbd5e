-- Lines and the whole text, as they are appended.
use Rattle.std.proofs.Common.{◌≡◌, ℕ, List, [], ◌∷◌, ◌++◌, map, refl, sym, ap, ◌∙◌, append_assoc, append-nil, arith}
use Rattle.std.specs.Prelude.{codes}
use Rattle.blif_write.proofs.Common.{flat_map, Sig, Gate, Latch, Parts, line_text, lines_of, signal_name, clock_lines, control_words, init_word, latch_line, row_line, gate_lines, latch_lines, all_gate_lines, behind, gate_text}
use Rattle.std.proofs.lemmas.List.Concat.{flat_map-append}
use Rattle.std.proofs.lemmas.List.Folds.{flat_map-map}
use Rattle.blif_write.specs.Written.{line_end, text_of, head_lines, written, models_written}
use Rattle.blif_write.specs.Putting.{names_behind, last_behind, last_word, names_rest, gates_text, latches_text}

-- A line is its first word and the rest.

pub line_is : (word : List ℕ) (words : List (List ℕ)) → line_text (word ∷ words) ≡ word ++ names_rest word words
line_is word [] = refl
line_is word (next ∷ words) = grind (arith, line_is next words, append_assoc next (flat_map behind words) (line_end (last_word next words)))

-- The line of the outputs.

abbrev pub signals_line : List ℕ → Parts → List Sig → List ℕ
signals_line first net sigs = line_text (first ∷ map (signal_name net) sigs)

abbrev pub signals_rest : List ℕ → Parts → List Sig → List ℕ
signals_rest first net sigs = names_behind net sigs ++ line_end (last_word first (map (signal_name net) sigs))

pub signals_is : (first : List ℕ) (net : Parts) (sigs : List Sig) → signals_line first net sigs ≡ first ++ signals_rest first net sigs
signals_is first net sigs = grind (arith, line_is first (map (signal_name net) sigs), flat_map-map behind (signal_name net) sigs)

-- The line of a gate's names.

pub line_ends : (word : List ℕ) (f : Sig → List ℕ) (sigs : List Sig) (last : List ℕ)
    → line_text (word ∷ (map f sigs ++ last ∷ [])) ≡ word ++ (flat_map (λ sig. behind (f sig)) sigs ++ last_behind last)
line_ends word f [] last = refl
line_ends word f (sig ∷ sigs) last =
    ap (λ rest. word ++ 32 ∷ rest) (line_ends (f sig) f sigs last)
    ∙ ap (λ rest. word ++ 32 ∷ rest) (sym (append_assoc (f sig) (flat_map (λ sig. behind (f sig)) sigs) (last_behind last)))

-- The line of a latch.

abbrev pub latch_rest : Parts → Latch → List ℕ
latch_rest net latch =
    behind (signal_name net latch.from)
    ++ (behind latch.name ++ (flat_map behind (control_words net.clock latch.clocked) ++ last_behind (init_word latch.init)))

two_words : (v w rest : List ℕ) → (v ++ (behind w ++ [])) ++ rest ≡ v ++ (behind w ++ rest)
two_words v w rest = append_assoc v (behind w ++ []) rest ∙ ap (λ word. v ++ 32 ∷ (word ++ rest)) (append-nil w)

pub latch_is : (net : Parts) (latch : Latch) → line_text (latch_line net latch) ≡ codes ".latch" ++ latch_rest net latch
latch_is net latch = grind (arith, two_words)

-- The whole text.

abbrev pub body : Parts → List ℕ
body net = latches_text net ++ (gates_text net ++ codes ".end\n")

gate_is : (net : Parts) (gate : Gate) → text_of (gate_lines net gate) ≡ gate_text net gate
gate_is net gate = grind (arith, flat_map-map line_text (row_line gate.cover.plane) gate.cover.rows)

gates_are : (net : Parts) (gates : List Gate) → text_of (flat_map (gate_lines net) gates) ≡ flat_map (gate_text net) gates
gates_are net [] = refl
gates_are net (gate ∷ gates) = grind (arith, flat_map-append line_text (gate_lines net gate) (flat_map (gate_lines net) gates), gate_is net gate, gates_are net gates)

pub written_is : (net : Parts) → written net ≡ text_of (head_lines net) ++ body net
written_is net =
    let end : List (List (List ℕ)) = (codes ".end" ∷ []) ∷ [] in
    grind (arith, flat_map-append line_text (head_lines net) (latch_lines net ++ (all_gate_lines net ++ end)), flat_map-append line_text (latch_lines net) (all_gate_lines net ++ end), flat_map-map line_text (latch_line net) net.latches, flat_map-append line_text (all_gate_lines net) end, gates_are net net.gates)

-- The lines of some netlists, one after another.

abbrev pub all_lines : List Parts → List (List (List ℕ))
all_lines nets = flat_map lines_of nets

pub models_written_is : (nets : List Parts) → models_written nets ≡ text_of (all_lines nets)
models_written_is [] = refl
models_written_is (net ∷ nets) = ap (λ text. written net ++ text) (models_written_is nets) ∙ sym (flat_map-append line_text (lines_of net) (all_lines nets))

-- the lines of a netlist before others, its first three apart
abbrev pub rest_before : Parts → List (List (List ℕ)) → List (List (List ℕ))
rest_before net ws = clock_lines net net.clock ++ (latch_lines net ++ (all_gate_lines net ++ (codes ".end" ∷ []) ∷ ws))

abbrev pub head_before : Parts → List (List (List ℕ)) → List (List (List ℕ))
head_before net ws = (codes ".model" ∷ net.name ∷ []) ∷ (codes ".inputs" ∷ net.inputs) ∷ (codes ".outputs" ∷ map (signal_name net) net.outputs) ∷ ws

pub lines_before : (net : Parts) (ws : List (List (List ℕ))) → lines_of net ++ ws ≡ head_before net (rest_before net ws)
lines_before net ws =
    let end : List (List (List ℕ)) = (codes ".end" ∷ []) ∷ [] in
    let gates = all_gate_lines net ++ end in
    ap (head_before net)
    (append_assoc (clock_lines net net.clock) (latch_lines net ++ gates) ws
    ∙ ap (λ more. clock_lines net net.clock ++ more) (append_assoc (latch_lines net) gates ws ∙ ap (λ more. latch_lines net ++ more) (append_assoc (all_gate_lines net) end ws)))
