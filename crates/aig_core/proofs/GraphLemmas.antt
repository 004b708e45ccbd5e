-- The denotation of edges: by cases on the variable, and kept where ANDs are added.
use Rattle.std.proofs.Common.{◌≡◌, ℕ, suc, ◌+◌, ◌<◌, ◌&&◌, Bool, false, not, if◌then◌else◌, List, [], ◌∷◌, ◌++◌, length, get_or, take, drop, fold, slice_get, Some, refl, sym, ap, ap₂, ◌∙◌, arith}
use Rattle.aig_core.proofs.Common.{get_or_append_left, length_push, take-append-drop, fold-append, slice_get_within, get_or_from_slice_get, Edge, And, Graph, with_ands, first_and, edge_to, complement, IsEdge, den, IsVector, Extends}
use Rattle.std.proofs.lemmas.List.{get_or_at, length-take-le, drop_more}
use Rattle.aig_core.specs.Graphs.{variable, is_complement, edge_value, with_value, values}
use Rattle.aig_core.specs.Soundness.{IsSoundAnd}

-- ---- complements

pub edge_value-complement : (vs : List Bool) (e : Edge) → edge_value vs (complement e) ≡ not (edge_value vs e)
edge_value-complement vs e = grind arith

pub IsEdge-complement : (g : Graph) (e : Edge) → IsEdge g e → IsEdge g (complement e)
IsEdge-complement g e h = omega arith

pub edge_value-to : (vs : List Bool) (n : ℕ) → edge_value vs (edge_to n) ≡ get_or vs n false
edge_value-to vs n = grind arith

-- ---- values

pub length-values_from : (vs : List Bool) (ands : List And) → length (fold with_value vs ands) ≡ length vs + length ands
length-values_from vs [] = omega arith
length-values_from vs (x ∷ xs) = grind (arith, length_push vs (edge_value vs x.greater && edge_value vs x.smaller), length-values_from (with_value vs x) xs)

pub length-values : (ands : List And) (v : List Bool) → length (values ands v) ≡ 1 + length v + length ands
length-values ands v = let e = length-values_from (false ∷ v) ands in omega arith

-- values that are there stay
pub value_kept : (vs : List Bool) (ands : List And) (i : ℕ) → i < length vs → get_or (fold with_value vs ands) i false ≡ get_or vs i false
value_kept vs [] i h = refl
value_kept vs (x ∷ xs) i h = grind (arith, length_push vs (edge_value vs x.greater && edge_value vs x.smaller), value_kept (with_value vs x) xs i, get_or_append_left vs ((edge_value vs x.greater && edge_value vs x.smaller) ∷ []) false i h)

pub edge_value_kept : (vs : List Bool) (ands : List And) (e : Edge) → variable e < length vs → edge_value (fold with_value vs ands) e ≡ edge_value vs e
edge_value_kept vs ands e h = ap (λ b. if is_complement e then not b else b) (value_kept vs ands (variable e) h)

pub values-append : (ands more : List And) (v : List Bool) → values (ands ++ more) v ≡ fold with_value (values ands v) more
values-append ands more v = fold-append with_value (false ∷ v) ands more

pub den_kept : (g : Graph) (more : List And) (e : Edge) (v : List Bool) → IsEdge g e → IsVector g v → den (with_ands g (g.ands ++ more)) e v ≡ den g e v
unfolding den
den_kept g more e v is_edge is_vector = grind (arith, values-append g.ands more v, edge_value_kept (values g.ands v) more e, length-values g.ands v)

pub extended : (g : Graph) (more : List And) → Extends g (with_ands g (g.ands ++ more))
extended g more = record { more = more; is = refl; keeps = λ e v h k. den_kept g more e v h k }

-- ---- the denotation by cases

pub den-complement : (g : Graph) (e : Edge) (v : List Bool) → den g (complement e) v ≡ not (den g e v)
unfolding den
den-complement g e v = edge_value-complement (values g.ands v) e

pub den-constant : (g : Graph) (v : List Bool) → den g (edge_to 0) v ≡ false
unfolding den
den-constant g v = edge_value-to (values g.ands v) 0 ∙ value_kept (false ∷ v) g.ands 0 (omega arith)

pub den-column : (g : Graph) (i : ℕ) (v : List Bool) → i < length v → den g (edge_to (1 + i)) v ≡ get_or v i false
unfolding den
den-column g i v h = grind (arith, edge_value-to (values g.ands v) (1 + i), value_kept (false ∷ v) g.ands (suc i))

-- an AND has the value of the conjunction of its edges
pub den-and : (g : Graph) (i : ℕ) (x : And) (v : List Bool) → slice_get g.ands i ≡ Some x → IsSoundAnd (first_and g + i) x → IsVector g v → den g (edge_to (first_and g + i)) v ≡ (den g x.greater v && den g x.smaller v)
unfolding den
den-and g i x v at sound is_vector =
    let within : i < length g.ands = slice_get_within g.ands i x at in
    let front = take i g.ands in
    let back = drop (i + 1) g.ands in
    let front_length : length front ≡ i = length-take-le i g.ands (omega arith) in
    let split : g.ands ≡ front ++ x ∷ back =
    sym (take-append-drop i g.ands)
    ∙ ap (λ rest. front ++ rest) (drop_more g.ands i x within ∙ ap (λ y. y ∷ back) (get_or_from_slice_get g.ands i x x at)) in
    let vs = values front v in
    let len = length-values front v in
    let all : values g.ands v ≡ fold with_value (with_value vs x) back =
    ap (λ ands. values ands v) split ∙ values-append front (x ∷ back) v in
    let one = length_push vs (edge_value vs x.greater && edge_value vs x.smaller) in
    let kept : (e : Edge) → variable e < length vs → edge_value (values g.ands v) e ≡ edge_value vs e =
    λ e h. ap (λ ws. edge_value ws e) all ∙ edge_value_kept vs (x ∷ back) e h in
    edge_value-to (values g.ands v) (first_and g + i)
    ∙ ap (λ ws. get_or ws (first_and g + i) false) all
    ∙ value_kept (with_value vs x) back (first_and g + i) (omega (arith, is_vector))
    ∙ get_or_at vs (edge_value vs x.greater && edge_value vs x.smaller) [] false (first_and g + i) (omega (arith, is_vector))
    ∙ ap₂ (λ b c. b && c) (sym (kept x.greater (omega (arith, is_vector)))) (sym (kept x.smaller (omega (arith, is_vector))))
