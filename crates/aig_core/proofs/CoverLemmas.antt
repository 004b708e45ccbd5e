-- The edge of a cover has its value, and no AND is ever taken away.
use Rattle.std.proofs.Common.{◌≡◌, ℕ, ◌+◌, ◌<◌, ◌≤◌, ◌&&◌, ◌||◌, Bool, true, false, not, if◌then◌else◌, List, [], ◌∷◌, ◌++◌, length, get_or, take, drop, min, fold, map, All, refl, ap, ap₂, ◌∙◌, arith, length-append}
use Rattle.aig_core.proofs.Common.{list_any, zip, append_assoc, length_push, take-append-drop, fold-append, All-head, All-tail, All-cons, Edge, And, Graph, with_ands, complement, IsEdge, den, IsSound, IsVector, Extends, Made, found, constant, pair_of, same_pair, entered, conjunction, row_made, with_row}
use Rattle.std.specs.List.{list_all}
use Rattle.std.proofs.lemmas.List.{take_all}
use Rattle.std.proofs.lemmas.List.Sums.{fold_more}
use Rattle.std.proofs.lemmas.Slice.Zip.{length-zip, get_or-zip}
use Rattle.std.proofs.lemmas.List.Elements.{All-weaker}
use Rattle.cyc_base.proofs.TruthLemmas.{and_with_true, and_assoc, or_assoc, or_with_false}
use Rattle.cover_logic.specs.Covers.{Cover, allows, matches, some_row_matches, value_of_rows, value}
use Rattle.cover_logic.specs.declared.row.Lit.{Lit}
use Rattle.cover_logic.specs.declared.row.Lit.TheVariants.{Zero, One, Any}
use Rattle.cover_logic.specs.declared.row.Row.{Row}
use Rattle.aig_core.specs.Conjunctions.{disjunction, complemented}
use Rattle.aig_core.specs.Covers.{with_pin, rows_made, in_plane, cover_made}
use Rattle.aig_core.proofs.GraphLemmas.{den-complement, den-constant, IsEdge-complement}
use Rattle.aig_core.proofs.ConjunctionLemmas.{IsMade, Extends-refl, conjunction_is, made_alike}

-- ---- graphs that extend others

pub IsVector-kept : {old new : Graph} (v : List Bool) → Extends old new → IsVector old v → IsVector new v
IsVector-kept {old} {new} v e h = rw e.is h

pub IsEdge-kept : {old new : Graph} (x : Edge) → Extends old new → IsEdge old x → IsEdge new x
IsEdge-kept {old} {new} x e h = rw e.is (omega (arith, h, length-append old.ands e.more))

pub edges_kept : {old new : Graph} (xs : List Edge) → Extends old new → All (IsEdge old) xs → All (IsEdge new) xs
edges_kept {old} {new} xs e h = All-weaker (IsEdge old) (IsEdge new) (λ x k. IsEdge-kept x e k) xs h

pub Extends-trans : {a b c : Graph} → Extends a b → Extends b c → Extends a c
Extends-trans {a} {b} {c} e f = record {
  more = e.more ++ f.more;
  is = f.is ∙ ap (λ g. with_ands g (g.ands ++ f.more)) e.is ∙ ap (with_ands a) (append_assoc a.ands e.more f.more);
  keeps = λ x v h k. f.keeps x v (IsEdge-kept x e h) (IsVector-kept v e k) ∙ e.keeps x v h k;
}

-- ---- the number of ANDs

-- calls that take nothing away, one after another
pub fold-grows : {A B : Type 0} (f : B → A → B) (size : B → ℕ) → ((b : B) (a : A) → size b ≤ size (f b a)) → (b : B) (xs : List A) → size b ≤ size (fold f b xs)
fold-grows f size grows b [] = omega arith
fold-grows f size grows b (x ∷ xs) = omega (arith, grows b x, fold-grows f size grows (f b x) xs)

-- and the first of them have made no more than all
pub fold-first : {A B : Type 0} (f : B → A → B) (size : B → ℕ) → ((b : B) (a : A) → size b ≤ size (f b a)) → (b : B) (xs : List A) (n : ℕ) → size (fold f b (take n xs)) ≤ size (fold f b xs)
fold-first f size grows b xs n = grind (arith, take-append-drop n xs, fold-append f b (take n xs) (drop n xs), fold-grows f size grows (fold f b (take n xs)) (drop n xs))

abbrev pub made_size : Made → ℕ
made_size made = length made.graph.ands

pub entered-grows : (ands : List And) (x : And) → length ands ≤ length (entered ands x)
entered-grows ands x = elim (list_any (same_pair x) ands) as (λ t. length ands ≤ length (if t then ands else ands ++ x ∷ [])) [ true ↦ omega arith | false ↦ omega (arith, length_push ands x) ]

pub conjunction-grows : (g : Graph) (a b : Edge) → length g.ands ≤ length (conjunction g a b).graph.ands
unfolding conjunction
conjunction-grows g a b = grind (arith, entered-grows g.ands (pair_of a b))

pub with_pin-grows : (made : Made) (pin : Edge) (lit : Lit) → length made.graph.ands ≤ length (with_pin made pin lit).graph.ands
with_pin-grows made pin lit = grind (arith, conjunction-grows)

abbrev pub with_pair : Made → Edge × Lit → Made
with_pair made pin = with_pin made pin.0 pin.1

pub with_pair-grows : (made : Made) (pin : Edge × Lit) → made_size made ≤ made_size (with_pair made pin)
with_pair-grows made pin = with_pin-grows made pin.0 pin.1

pub row-grows : (g : Graph) (pins : List Edge) (lits : List Lit) → length g.ands ≤ length (row_made g pins lits).graph.ands
unfolding row_made
row-grows g pins lits = fold-grows with_pair made_size with_pair-grows (found g (constant true)) (zip pins lits)

pub with_row-grows : (pins : List Edge) (made : Made) (row : Row) → length made.graph.ands ≤ length (with_row pins made row).graph.ands
with_row-grows pins made row =
    let next = row_made made.graph pins row.lits in
    grind (arith, conjunction-grows next.graph (complement made.edge) (complement next.edge), row-grows made.graph pins row.lits)

pub in_plane-graph : (plane : Bool) (rows : List Row) (made : Made) → (in_plane plane rows made).graph ≡ made.graph
in_plane-graph true rows made = refl
in_plane-graph false [] made = refl
in_plane-graph false (row ∷ rows) made = refl

pub cover-grows : (g : Graph) (pins : List Edge) (cover : Cover) → length g.ands ≤ length (cover_made g pins cover).graph.ands
unfolding rows_made
cover-grows g pins cover = grind (arith, fold-grows (with_row pins) made_size (with_row-grows pins) (found g (constant false)) cover.rows, with_row-grows pins, in_plane-graph cover.plane cover.rows (rows_made g pins cover.rows))

-- ---- values

pub made_then : {g : Graph} {made : Made} {f : List Bool → Bool} {next : Made} {h : List Bool → Bool} (q : List Bool → Bool)
    → IsMade g made f → IsMade made.graph next h → ((v : List Bool) → IsVector g v → h v ≡ q v) → IsMade g next q
made_then {g} {made} {f} {next} {h} q is then_is e = grind (arith, Extends-trans is.extends then_is.extends, IsVector-kept)

pub complemented_is : {g : Graph} {made : Made} {f : List Bool → Bool} → IsMade g made f → IsMade g (complemented made) (λ v. not (f v))
complemented_is {g} {made} {f} is = grind (arith, IsEdge-complement made.graph made.edge is.is_edge, den-complement made.graph made.edge)

false_is : (g : Graph) → IsSound g → IsMade g (found g (constant false)) (λ v. false)
false_is g sound = grind (arith, Extends-refl g, den-constant g)

pub constant_is : (g : Graph) (b : Bool) → IsSound g → IsMade g (found g (constant b)) (λ v. b)
constant_is g true sound = complemented_is (false_is g sound)
constant_is g false sound = false_is g sound

pub de_morgan : (a b : Bool) → not (not a && not b) ≡ (a || b)
de_morgan a b = grind arith

pub with_pin_is : {g : Graph} {made : Made} {f : List Bool → Bool} (pin : Edge) (lit : Lit) → IsMade g made f → IsEdge g pin → IsMade g (with_pin made pin lit) (λ v. f v && allows lit (den g pin v))
with_pin_is {g} {made} {f} pin Zero is in_g =
    let pin_kept = IsEdge-kept pin is.extends in_g in
    made_then (λ v. f v && not (den g pin v)) is
    (conjunction_is made.graph made.edge (complement pin) is.sound is.is_edge (IsEdge-complement made.graph pin pin_kept))
    (λ v k. ap₂ (λ a b. a && b) (is.value_is v k) (den-complement made.graph pin v ∙ ap not (is.extends.keeps pin v in_g k)))
with_pin_is {g} {made} {f} pin One is in_g =
    let pin_kept = IsEdge-kept pin is.extends in_g in
    made_then (λ v. f v && den g pin v) is
    (conjunction_is made.graph made.edge pin is.sound is.is_edge pin_kept)
    (λ v k. ap₂ (λ a b. a && b) (is.value_is v k) (is.extends.keeps pin v in_g k))
with_pin_is {g} {made} {f} pin Any is in_g = made_alike (λ v. f v && true) is (λ v k. and_with_true (f v))

abbrev pub pin_allows : Graph → List Bool → Edge × Lit → Bool
pin_allows g v pin = allows pin.1 (den g pin.0 v)

pins_are : (g : Graph) (pins : List (Edge × Lit)) (made : Made) (f : List Bool → Bool) → IsMade g made f → All (λ (p : Edge × Lit). IsEdge g p.0) pins → IsMade g (fold with_pair made pins) (λ v. f v && list_all (pin_allows g v) pins)
pins_are g [] made f is in_g = made_alike (λ v. f v && true) is (λ v k. and_with_true (f v))
pins_are g (p ∷ ps) made f is in_g =
    let one = with_pin_is p.0 p.1 is (All-head (λ (q : Edge × Lit). IsEdge g q.0) p ps in_g) in
    let rest = pins_are g ps (with_pair made p) (λ v. f v && pin_allows g v p) one (All-tail (λ (q : Edge × Lit). IsEdge g q.0) p ps in_g) in
    made_alike (λ v. f v && list_all (pin_allows g v) (p ∷ ps)) rest (λ v k. and_assoc (f v) (pin_allows g v p) (list_all (pin_allows g v) ps))

zip_edges : (g : Graph) (pins : List Edge) (lits : List Lit) → All (IsEdge g) pins → All (λ (p : Edge × Lit). IsEdge g p.0) (zip pins lits)
zip_edges g [] lits h = λ k d l. absurd (omega (arith, l))
zip_edges g (p ∷ ps) [] h = λ k d l. absurd (omega (arith, l))
zip_edges g (p ∷ ps) (l ∷ ls) h = grind (arith, All-cons, All-head (IsEdge g) p ps h, zip_edges g ps ls (All-tail (IsEdge g) p ps h), All-tail (IsEdge g) p ps h)

zip_matches : (g : Graph) (v : List Bool) (pins : List Edge) (lits : List Lit) → list_all (pin_allows g v) (zip pins lits) ≡ matches lits (map (λ e. den g e v) pins)
zip_matches g v [] [] = refl
zip_matches g v [] (l ∷ ls) = refl
zip_matches g v (p ∷ ps) [] = refl
zip_matches g v (p ∷ ps) (l ∷ ls) = ap (λ rest. allows l (den g p v) && rest) (zip_matches g v ps ls)

pub row_is : (g : Graph) (pins : List Edge) (lits : List Lit) → IsSound g → All (IsEdge g) pins → IsMade g (row_made g pins lits) (λ v. matches lits (map (λ e. den g e v) pins))
unfolding row_made
row_is g pins lits sound in_g =
    let is = pins_are g (zip pins lits) (found g (constant true)) (λ v. true) (constant_is g true sound) (zip_edges g pins lits in_g) in
    made_alike (λ v. matches lits (map (λ e. den g e v) pins)) is (λ v k. zip_matches g v pins lits)

kept_values : {old new : Graph} (v : List Bool) (pins : List Edge) → Extends old new → IsVector old v → All (IsEdge old) pins → map (λ e. den new e v) pins ≡ map (λ e. den old e v) pins
kept_values {old} {new} v [] e k h = refl
kept_values {old} {new} v (p ∷ ps) e k h = grind (arith, All-head (IsEdge old) p ps h, kept_values v ps e k (All-tail (IsEdge old) p ps h), All-tail (IsEdge old) p ps h)

pub with_row_is : {g : Graph} {made : Made} {f : List Bool → Bool} (pins : List Edge) (row : Row) → IsMade g made f → All (IsEdge g) pins → IsMade g (with_row pins made row) (λ v. f v || matches row.lits (map (λ e. den g e v) pins))
with_row_is {g} {made} {f} pins row is in_g =
    let next = row_made made.graph pins row.lits in
    let next_is = row_is made.graph pins row.lits is.sound (edges_kept pins is.extends in_g) in
    let kept = IsEdge-kept made.edge next_is.extends is.is_edge in
    let both = complemented_is (conjunction_is next.graph (complement made.edge) (complement next.edge) next_is.sound (IsEdge-complement next.graph made.edge kept) (IsEdge-complement next.graph next.edge next_is.is_edge)) in
    let from_made = made_then (λ v. den made.graph made.edge v || matches row.lits (map (λ e. den made.graph e v) pins)) next_is both
    (λ v k.
    ap₂ (λ a b. not (a && b)) (den-complement next.graph made.edge v ∙ ap not (next_is.extends.keeps made.edge v is.is_edge k)) (den-complement next.graph next.edge v ∙ ap not (next_is.value_is v k))
    ∙ de_morgan (den made.graph made.edge v) (matches row.lits (map (λ e. den made.graph e v) pins))) in
    made_then (λ v. f v || matches row.lits (map (λ e. den g e v) pins)) is from_made
    (λ v k. ap₂ (λ a bs. a || matches row.lits bs) (is.value_is v k) (kept_values v pins is.extends k in_g))

rows_are : (g : Graph) (pins : List Edge) (rows : List Row) (made : Made) (f : List Bool → Bool) → IsMade g made f → All (IsEdge g) pins → IsMade g (fold (with_row pins) made rows) (λ v. f v || some_row_matches rows (map (λ e. den g e v) pins))
rows_are g pins [] made f is in_g = made_alike (λ v. f v || false) is (λ v k. or_with_false (f v))
rows_are g pins (r ∷ rs) made f is in_g =
    let rest = rows_are g pins rs (with_row pins made r) (λ v. f v || matches r.lits (map (λ e. den g e v) pins)) (with_row_is pins r is in_g) in_g in
    grind (arith, made_alike, or_assoc)

plane_is : {g : Graph} (plane : Bool) (rows : List Row) (made : Made) (bs : List Bool → List Bool) → IsMade g made (λ v. some_row_matches rows (bs v)) → IsMade g (in_plane plane rows made) (λ v. value_of_rows plane rows (bs v))
plane_is {g} true rows made bs is = is
plane_is {g} false [] made bs is = is
plane_is {g} false (row ∷ rows) made bs is = complemented_is is

-- the edge of a cover has the cover's value
pub cover_is : (g : Graph) (pins : List Edge) (cover : Cover) → IsSound g → All (IsEdge g) pins → IsMade g (cover_made g pins cover) (λ v. value cover (map (λ e. den g e v) pins))
unfolding rows_made
cover_is g pins cover sound in_g =
    plane_is cover.plane cover.rows (rows_made g pins cover.rows) (λ v. map (λ e. den g e v) pins)
    (rows_are g pins cover.rows (found g (constant false)) (λ v. false) (constant_is g false sound) in_g)

-- ---- a row and rows, as far as a loop has come

pub row_next : (start made : Made) (pins : List Edge) (lits : List Lit) (k : ℕ) (pin : Edge) (lit : Lit)
    → k < length pins → k < length lits → ((d : Edge) → pin ≡ get_or pins k d) → ((d : Lit) → lit ≡ get_or lits k d)
    → made ≡ fold with_pair start (take k (zip pins lits)) → with_pin made pin lit ≡ fold with_pair start (take (k + 1) (zip pins lits))
row_next start made pins lits k pin lit l m pin_is lit_is e = grind (arith, length-zip pins lits, get_or-zip pins lits k (pin, lit) l, fold_more with_pair start (zip pins lits) k (pin, lit))

pub row_fault : (g : Graph) (pins : List Edge) (lits : List Lit) (n : ℕ) → length (fold with_pair (found g (constant true)) (take n (zip pins lits))).graph.ands ≤ length (row_made g pins lits).graph.ands
unfolding row_made
row_fault g pins lits n = fold-first with_pair made_size with_pair-grows (found g (constant true)) (zip pins lits) n

pub row_all : (g : Graph) (pins : List Edge) (lits : List Lit) (n : ℕ) (made : Made) → n ≡ min (length pins) (length lits) → made ≡ fold with_pair (found g (constant true)) (take n (zip pins lits)) → made ≡ row_made g pins lits
unfolding row_made
row_all g pins lits n made e is = grind (arith, take_all n (zip pins lits), length-zip pins lits)

pub rows_next : (pins : List Edge) (start made : Made) (rows : List Row) (k : ℕ) (row : Row) → k < length rows → row ≡ get_or rows k row
    → made ≡ fold (with_row pins) start (take k rows) → with_row pins made row ≡ fold (with_row pins) start (take (k + 1) rows)
rows_next pins start made rows k row l row_is e = grind (arith, fold_more (with_row pins) start rows k row l)

pub rows_fault : (g : Graph) (pins : List Edge) (rows : List Row) (n : ℕ) → length (fold (with_row pins) (found g (constant false)) (take n rows)).graph.ands ≤ length (rows_made g pins rows).graph.ands
unfolding rows_made
rows_fault g pins rows n = fold-first (with_row pins) made_size (with_row-grows pins) (found g (constant false)) rows n

pub rows_all : (g : Graph) (pins : List Edge) (rows : List Row) (n : ℕ) (made : Made) → length rows ≤ n → made ≡ fold (with_row pins) (found g (constant false)) (take n rows) → made ≡ rows_made g pins rows
unfolding rows_made
rows_all g pins rows n made l is = is ∙ ap (fold (with_row pins) (found g (constant false))) (take_all n rows l)

pub disjunction-grows : (g : Graph) (a b : Edge) → length g.ands ≤ length (disjunction g a b).graph.ands
disjunction-grows g a b = conjunction-grows g (complement a) (complement b)
