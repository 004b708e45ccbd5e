-- Texts that grow cell by cell, and whole texts as their parts.
use Rattle.std.proofs.Common.{◌≡◌, ℕ, ◌+◌, List, [], ◌∷◌, ◌++◌, map, codes, sym, ap, ◌∙◌, arith}
use Rattle.std.specs.List.{flat_map}
use Rattle.std.proofs.lemmas.List.{append-nil, append_assoc, map-id, flat_map_more}
use Rattle.std.proofs.lemmas.Grind.{flat_map-append}
use Rattle.std.proofs.lemmas.List.FromFn.{map-range_with_len_more}
use Rattle.maker.specs.Ring.{behind, line, text_of, cells, request, grant, token, latch_line, gate_lines, row_line, end_lines, ring_text, care_text}

one_more : {X : Type 0} (f : ℕ → X) (n : ℕ) → map f (cells (n + 1)) ≡ map f (cells n) ++ f n ∷ []
one_more f n = map-range_with_len_more f 0 n n (omega arith)

cell_more : (n : ℕ) → cells (n + 1) ≡ cells n ++ n ∷ []
cell_more n = sym (map-id (cells (n + 1))) ∙ one_more (λ (i : ℕ). i) n ∙ ap (λ (ns : List ℕ). ns ++ n ∷ []) (map-id (cells n))

-- one item of a list for each cell
pub item_more : (f : ℕ → ℕ) (base before after : List ℕ) (n : ℕ)
    → before ≡ base ++ map f (cells n)
    → after ≡ before ++ f n ∷ []
    → after ≡ base ++ map f (cells (n + 1))
item_more f base before after n e more = grind (arith, append_assoc base (map f (cells n)) (f n ∷ []), one_more f n)

-- one part for each cell
pub part_more : {X : Type 0} (told : X → List ℕ) (f : ℕ → X) (base before after : List ℕ) (n : ℕ)
    → before ≡ base ++ flat_map told (map f (cells n))
    → after ≡ before ++ told (f n)
    → after ≡ base ++ flat_map told (map f (cells (n + 1)))
part_more told f base before after n e more = grind (arith, flat_map_more told base (map f (cells n)) (f n), one_more f n)

lines_more : (f : ℕ → List (List (List ℕ))) (n : ℕ) → flat_map f (cells (n + 1)) ≡ flat_map f (cells n) ++ f n
lines_more f n = ap (flat_map f) (cell_more n) ∙ sym (flat_map_more f [] (cells n) n)

pub text_of-append : (xs ys : List (List (List ℕ))) → text_of (xs ++ ys) ≡ text_of xs ++ text_of ys
text_of-append xs ys = flat_map-append line xs ys

-- some lines for each cell
pub text_more : (f : ℕ → List (List (List ℕ))) (base before after : List ℕ) (n : ℕ)
    → before ≡ base ++ text_of (flat_map f (cells n))
    → after ≡ before ++ text_of (f n)
    → after ≡ base ++ text_of (flat_map f (cells (n + 1)))
text_more f base before after n e more = grind (arith, append_assoc base (text_of (flat_map f (cells n))) (text_of (f n)), text_of-append (flat_map f (cells n)) (f n), lines_more f n)

-- parts that are put behind a text one after another
abbrev pub puts : List ℕ → List (List ℕ) → List ℕ
puts text [] = text
puts text (part ∷ parts) = puts (text ++ part) parts

puts_at_once : (text : List ℕ) (parts : List (List ℕ)) → puts text parts ≡ text ++ flat_map (λ part. part) parts
puts_at_once text [] = sym (append-nil text)
puts_at_once text (part ∷ parts) = puts_at_once (text ++ part) parts ∙ append_assoc text part (flat_map (λ p. p) parts)

-- the texts as they are put together
abbrev pub ring_parts : ℕ → List (List ℕ)
ring_parts n =
    codes ".model ring\n.inputs"
    ∷ flat_map behind (map request (cells n))
    ∷ codes "\n.outputs"
    ∷ flat_map behind (map grant (cells n))
    ∷ codes "\n"
    ∷ text_of (map (latch_line n) (cells n))
    ∷ text_of (flat_map (gate_lines n) (cells n))
    ∷ codes ".end\n"
    ∷ []

pub ring_put : (n : ℕ) → puts [] (ring_parts n) ≡ ring_text n
ring_put n =
    let requests = flat_map behind (map request (cells n)) in
    let grants = flat_map behind (map grant (cells n)) in
    let latches = map (latch_line n) (cells n) in
    let gates = flat_map (gate_lines n) (cells n) in
    let rest = text_of (latches ++ (gates ++ end_lines)) in
    grind (arith, puts_at_once [] (ring_parts n), append_assoc requests (codes "\n") (codes ".outputs" ++ ((grants ++ codes "\n") ++ rest)), append_assoc grants (codes "\n") rest, text_of-append latches (gates ++ end_lines), text_of-append gates end_lines)

abbrev pub care_parts : ℕ → List (List ℕ)
care_parts n =
    codes ".model invariant\n.inputs"
    ∷ flat_map behind (map token (cells n))
    ∷ codes "\n.outputs ok\n.names"
    ∷ flat_map behind (map token (cells n))
    ∷ codes " ok\n"
    ∷ text_of (map (row_line n) (cells n))
    ∷ codes ".end\n"
    ∷ []

pub care_put : (n : ℕ) → puts [] (care_parts n) ≡ care_text n
care_put n =
    let tokens = flat_map behind (map token (cells n)) in
    let rows = map (row_line n) (cells n) in
    let rest = text_of (rows ++ end_lines) in
    puts_at_once [] (care_parts n)
    ∙ sym (ap (λ (t : List ℕ). codes ".model invariant\n.inputs" ++ t) (
    append_assoc tokens (codes "\n") (codes ".outputs ok\n.names" ++ ((flat_map behind (map token (cells n) ++ codes "ok" ∷ []) ++ codes "\n") ++ rest))
    ∙ ap (λ (t : List ℕ). tokens ++ (codes "\n.outputs ok\n.names" ++ t)) (
    ap (λ (t : List ℕ). (t ++ codes "\n") ++ rest) (flat_map-append behind (map token (cells n)) (codes "ok" ∷ []))
    ∙ ap (λ (t : List ℕ). t ++ rest) (append_assoc tokens (behind (codes "ok")) (codes "\n"))
    ∙ append_assoc tokens (codes " ok\n") rest
    ∙ ap (λ (t : List ℕ). tokens ++ (codes " ok\n" ++ t)) (text_of-append rows end_lines))))
