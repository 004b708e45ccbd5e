-- The items of the text, by their places.
use Rattle.std.proofs.Common.{◌*◌, ◌-◌, true, false, eqb, All, ◌≡◌, ℕ, ◌+◌, ◌<◌, ◌≤◌, List, [], ◌∷◌, ◌++◌, length, get_or, map, sym, subst, ◌∙◌, arith, Some}
use Rattle.aig_core.proofs.Common.{enumerate_from, length-map, item_at, And, edge, latch_line, and_line, signal_name, Latch}
use Rattle.std.specs.List.{list_any, IsDistinct, AllByRecursion, slice_get}
use Rattle.std.proofs.lemmas.Bool.{false≢true, eqb-true}
use Rattle.std.proofs.lemmas.List.Elements.{All-head, All-tail}
use Rattle.std.proofs.lemmas.Map.Steps.{length-le_from_distinct_below}
use Rattle.std.proofs.lemmas.List.{get_or_append_left, get_or-map}
use Rattle.std.proofs.lemmas.List.FromFn.{get_or-enumerate_from}
use Rattle.std.proofs.lemmas.Option.{slice_get_within, get_or_from_slice_get}
use Rattle.cyc_base.specs.declared.sig.Sig.{Sig}
use Rattle.aig_core.specs.declared.building.Built.{Built}
use Rattle.aig_core.specs.Graphs.{Graph}
use Rattle.aig_core.specs.Text.{numbers_line, head_text, init_words, load_line, groups, and_groups}
use Rattle.netlist.specs.declared.parts.Parts.{Parts}
use Rattle.netlist.specs.Netlists.{count, signal, sig_eq, signal_names, driven_names, IsSignal, IsNetlist}

-- an item with its place, as loops name it
pub numbered : {X : Type 0} (xs : List X) (i : ℕ) (x : X) → i < length xs → x ≡ get_or xs i x → ◌≡◌ {A = ℕ × X} (i, x) (get_or (enumerate_from 0 xs) i (i, x))
numbered {X} xs i x l is = grind (arith, get_or-enumerate_from 0 xs i (i, x) l)

-- the name of an input
pub input_name : (net : Parts) (i : ℕ) (name : List ℕ) → i < length net.inputs → slice_get (signal_names net) i ≡ Some name → name ≡ get_or net.inputs i name
input_name net i name l e = item_at (signal_names net) i name e ∙ get_or_append_left net.inputs (driven_names net) name i l

-- the name of a latch
pub latch_name : (net : Parts) (i : ℕ) (latch : Latch) → slice_get net.latches i ≡ Some latch → latch.name ≡ get_or (map (λ (x : Latch). x.name) net.latches) i latch.name
latch_name net i latch e = grind (arith, item_at net.latches i latch e, get_or-map, slice_get_within net.latches i latch e)

-- what equals an item is it
pub as_item : {X : Type 0} (xs : List X) (i : ℕ) (x y : X) → y ≡ x → x ≡ get_or xs i x → y ≡ get_or xs i y
as_item {X} xs i x y e is = let P : X → Type 0 = λ z. z ≡ get_or xs i z in subst P (sym e) is

-- ---- the number of outputs

signals_below : (net : Parts) (signals : List Sig) → All (IsSignal net) signals → (q : ℕ) → list_any (eqb q) (map (λ (s : Sig). s.0) signals) ≡ true → q < count net
signals_below net [] all q h = absurd (false≢true h)
signals_below net (s ∷ rest) all q h = grind (arith, signals_below net rest (All-tail (IsSignal net) s rest all) q, All-tail (IsSignal net) s rest all, All-head (IsSignal net) s rest all, eqb-true q s.0)

apart : (s : Sig) (rest : List Sig) → AllByRecursion (λ y. sig_eq s y ≡ false) rest → AllByRecursion (λ y. eqb s.0 y ≡ false) (map (λ (x : Sig). x.0) rest)
apart s [] h = h
apart s (t ∷ rest) h = (h.0, apart s rest h.1)

distinct : (signals : List Sig) → IsDistinct sig_eq signals → IsDistinct eqb (map (λ (x : Sig). x.0) signals)
unfolding IsDistinct
distinct [] h = h
distinct (s ∷ rest) h = (apart s rest h.0, distinct rest h.1)

-- outputs are different signals, so their number fits
pub few_outputs : (net : Parts) → IsNetlist net → length net.outputs ≤ 4294967295
few_outputs net valid =
    let numbers = map (λ (x : Sig). x.0) net.outputs in
    let few = length-le_from_distinct_below numbers (count net) (distinct net.outputs valid.outputs_differ) (signals_below net net.outputs valid.outputs) in
    let same = length-map net.outputs (λ (x : Sig). x.0) in
    let fits = valid.fits in
    omega arith

-- ---- lines, by what calls answered

pub head_is : (word : List ℕ) (built : Built) (i l o a : ℕ) → i ≡ built.aig.inputs → l ≡ built.aig.latches → o ≡ length built.outputs → a ≡ length built.aig.ands
    → head_text word built ≡ word ++ numbers_line ((i + l + a) ∷ i ∷ l ∷ o ∷ a ∷ [])
head_is word built i l o a i_is l_is o_is a_is = grind arith

pub and_is : (g : Graph) (k i l : ℕ) (x : And) → i ≡ g.inputs → l ≡ g.latches → and_line g k x ≡ numbers_line ((2 * ((1 + i + l) + k)) ∷ x.greater.0 ∷ x.smaller.0 ∷ [])
and_is g k i l x i_is l_is = sym (λ j. numbers_line ((2 * ((1 + i_is j + l_is j) + k)) ∷ x.greater.0 ∷ x.smaller.0 ∷ []))

pub latch_is : (built : Built) (k i n : ℕ) (latch : Latch) → i ≡ built.aig.inputs → n ≡ (get_or built.nexts k (edge 0)).0
    → latch_line built k latch ≡ numbers_line ((2 * (1 + i + k)) ∷ n ∷ init_words (2 * (1 + i + k)) latch.init)
latch_is built k i n latch i_is n_is = sym (λ j. numbers_line ((2 * (1 + i_is j + k)) ∷ n_is j ∷ init_words (2 * (1 + i_is j + k)) latch.init))

-- the name of an output
pub output_name : (net : Parts) (k : ℕ) (outputs : List Sig) (name : List ℕ) → outputs ≡ net.outputs → k < length net.outputs
    → slice_get (signal_names net) (get_or outputs k (signal 0)).0 ≡ Some name → name ≡ get_or (map (signal_name net) net.outputs) k name
output_name net k outputs name is l at = grind (arith, get_or_from_slice_get (signal_names net) (get_or outputs k (signal 0)).0 name [], get_or-map (signal_name net) net.outputs k (signal 0) name l)

-- ---- the binary form

pub load_is : (built : Built) (k i n : ℕ) (latch : Latch) → i ≡ built.aig.inputs → n ≡ (get_or built.nexts k (edge 0)).0
    → load_line built k latch ≡ numbers_line (n ∷ init_words (2 * (1 + i + k)) latch.init)
load_is built k i n latch i_is n_is = sym (λ j. numbers_line (n_is j ∷ init_words (2 * (1 + i_is j + k)) latch.init))

pub differences_are : (g : Graph) (k i l : ℕ) (x : And) → i ≡ g.inputs → l ≡ g.latches
    → and_groups g k x ≡ groups (2 * ((1 + i + l) + k) - x.greater.0) ++ groups (x.greater.0 - x.smaller.0)
differences_are g k i l x i_is l_is = sym (λ j. groups (2 * ((1 + i_is j + l_is j) + k) - x.greater.0) ++ groups (x.greater.0 - x.smaller.0))
