-- Wires of loops, and what their sources say of them. What is drawn, as the code sees it.
use Rattle.std.proofs.Common.{◌≡◌, ◌<◌, ◌+◌, ◌++◌, ◌∷◌, All, length, filter, arith, ℕ, Bool, [], List, Some, None, refl, ap, ◌∙◌, append_assoc}
use Rattle.std.specs.Prelude.{codes}
use Rattle.std.proofs.lemmas.List.Concat.{flat_map-append}
use Rattle.std.proofs.lemmas.List.Elements.{All-filter, All-from_get_or}
use Rattle.std.proofs.lemmas.List.FromFn.{get_or-range_with_len, length-range_with_len}
use Rattle.std.proofs.lemmas.List.{length-append, length-map}
use Rattle.cyc_base.specs.Values.{bit, bits}
use Rattle.netlist.specs.Fixpoint.{fix, fix_gates}
use Rattle.loops.proofs.Sweeps.{length-fix}
use Rattle.std.specs.Prelude.{if◌then◌else◌, slice_index, ◌||◌}
use Rattle.cyc_base.specs.declared.sig.Sig.{Sig}
use Rattle.dot_text.proofs.Common.{flat_map, Trit, Parts, gate_sig, is_marked, loops_of, pin_wire, loop_wire, quoted_line}
use Rattle.netlist.specs.Netlists.{count}
use Rattle.loops.specs.Cuts.{Loops}
use Rattle.explanations.specs.declared.explanation.Explanation.{Explanation}
use Rattle.explanations.specs.declared.pins.Pin.{Pin}
use Rattle.loops.specs.Listed.{gate_numbers}
use Rattle.loops.specs.Sweeps.{gate_of, in_loop_of}
use Rattle.dot_text.specs.Dot.{box, box_closes, box_opens, graph_head, quoted, quoted_byte, wire}
use Rattle.dot_text.specs.ExplanationGraphs.{Picture, gate_wire, picture_of, pin_line}
use Rattle.dot_text.specs.Marks.{AreMarksOf}
use Rattle.dot_text.specs.LoopGraphs.{wire_style}

module _ (net : Parts) (loops : Loops) (gate : ℕ) (pin : Sig) where
  pub wire_drawn : (source : ℕ) → Some source ≡ (if in_loop_of net loops gate pin then Some (gate_of net pin) else None)
      → loop_wire net loops gate pin ≡ wire pin.0 (gate_sig net gate).0 (wire_style (loops.cut source))
  wire_drawn source is = grind arith

  pub wire_left : None ≡ (if in_loop_of net loops gate pin then Some (gate_of net pin) else None) → loop_wire net loops gate pin ≡ []
  wire_left is = grind arith

-- the gates that pass a test
pub kept_inside : (net : Parts) (p : ℕ → Bool) → All (λ n. n < length net.gates) (filter p (gate_numbers net))
kept_inside net p =
    All-filter p (λ n. n < length net.gates) (gate_numbers net)
    (All-from_get_or (λ n. n < length net.gates) (gate_numbers net) 0 (λ i low.
    let wide = length-range_with_len 0 (length net.gates) in
    let here = get_or-range_with_len 0 (length net.gates) i 0 (omega (arith, wide, low)) in
    omega (arith, wide, low, here)))

-- what is drawn where these gates are marked
abbrev picture_by : Parts → List Trit → (ℕ → Bool) → (ℕ → Bool) → (ℕ → Bool) → List Pin → List Trit → List Trit → Picture
picture_by net values drawn cycle way sides needs also = record { net = net; loops = loops_of net; values = values; drawn = drawn; cycle = cycle; way = way; sides = sides; needs = needs; also = also }

pub picture_is : (net : Parts) (values : List Trit) (why : Explanation) (first : ℕ) (way cycle : List Bool) (sides : List Pin) (needs also : List Trit) → first ≡ slice_index why.cycle 0
    → sides ≡ why.sides → needs ≡ why.needs → also ≡ why.also → AreMarksOf net why.way way → AreMarksOf net why.cycle cycle
    → picture_by net values (λ n. (loops_of net).same first n || is_marked way n) (is_marked cycle) (is_marked way) sides needs also ≡ picture_of net values why
picture_is net values why first way cycle sides needs also begins beside needed further on_way on_cycle = grind arith

-- the values of all signals
pub values_fit : (net : Parts) (v : List Bool) → length v ≡ length net.inputs + length net.latches → length (fix net (bits v)) ≡ count net
values_fit net v width =
    let all = length-append (bits v) (fix_gates net (bits v)) in
    let gates = length-fix net (loops_of net) (bits v) in
    let columns = length-map v bit in
    omega (arith, all, gates, columns, width)

-- what a pin of gate n reads is drawn as the wire of the gate that drives it
module _ (p : Picture) (n : ℕ) (pin : Sig) where
  pub driven_drawn : (source : ℕ) → pin ≡ gate_sig p.net source → pin_wire p n pin ≡ gate_wire p n source
  driven_drawn source is = grind arith

-- Texts between quotes, piece by piece.

pub quoted_end : (name end : List ℕ) → quoted (name ++ end) ≡ quoted name ++ quoted end
quoted_end name end = flat_map-append quoted_byte name end

quoted_lines : {X : Type 0} (f : X → List ℕ) (xs : List X) → quoted (flat_map f xs) ≡ flat_map (λ x. quoted (f x)) xs
quoted_lines f [] = refl
quoted_lines f (x ∷ xs) = quoted_end (f x) (flat_map f xs) ∙ ap (λ more. quoted (f x) ++ more) (quoted_lines f xs)

pub box_lines : (p : Picture) (n number : ℕ) (pins : List Sig) → box number (flat_map (pin_line p n) pins) ≡ box_opens number ++ (flat_map (quoted_line p n) pins ++ box_closes number)
box_lines p n number pins = ap (λ text. box_opens number ++ (text ++ box_closes number)) (quoted_lines (pin_line p n) pins)

pub named_head : (name : List ℕ) → graph_head (codes "refused undetermined wire=" ++ (name ++ codes "\n"))
    ≡ codes "digraph {\n  label=\"refused undetermined wire=" ++ (quoted name ++ codes "\\l\";\n")
named_head name =
    let words = codes "refused undetermined wire=" in
    ap (λ label. codes "digraph {\n  label=\"" ++ (label ++ codes "\";\n")) (quoted_end words (name ++ codes "\n") ∙ ap (λ more. quoted words ++ more) (quoted_end name (codes "\n")))
    ∙ ap (λ label. codes "digraph {\n  label=\"refused undetermined wire=" ++ label) (append_assoc (quoted name) (codes "\\l") (codes "\";\n"))
