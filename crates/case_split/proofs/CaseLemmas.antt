-- The tables of cases, what is chosen among them, and the heads.
use Rattle.std.proofs.Common.{◌≡◌, ◌⊎◌, inl, inr, ℕ, suc, ◌+◌, ◌-◌, ◌*◌, ◌<◌, ◌≤◌, Bool, true, false, List, [], ◌∷◌, ◌++◌, length, get_or, set, take, replicate, Option, Some, None, All, Contains, refl, sym, ap, ◌∙◌, subst, arith}
use Rattle.std.specs.List.{range_with_len}
use Rattle.std.specs.List.Sorted.{IsPermutation}
use Rattle.std.proofs.lemmas.Bool.{cases_eq, cases_lt}
use Rattle.std.proofs.lemmas.List.{get_or-append_right, get_or-map, get_or-set_other, get_or-set_same, get_or_append_left, get_or_default, length-append, length-replicate, length-set, take_more}
use Rattle.std.proofs.lemmas.List.Elements.{All-append, All-cons, All-contains, All-from_recursion, All-map, All-nil, All-push, All-replicate, All-same, Contains-get_or, recursion_from_All}
use Rattle.std.proofs.lemmas.List.FromFn.{get_or-range_with_len, length-range_with_len}
use Rattle.std.proofs.lemmas.List.Sorted.{Contains-permutation, length_permutation}
use Rattle.cyc_base.proofs.ListLemmas.{Contains-filter, Contains-range}
use Rattle.cyc_base.specs.declared.sig.Sig.{Sig}
use Rattle.cyc_base.specs.declared.trit.Trit.{Trit}
use Rattle.cyc_base.specs.declared.trit.Trit.TheVariants.{Zero, One, X}
use Rattle.cyc_base.specs.Values.{bit, Below, EachBelow}
use Rattle.cyc_base.proofs.OrderLemmas.{Below-refl, EachBelow-set}
use Rattle.netlist.specs.declared.parts.Gate.{Gate}
use Rattle.netlist.specs.declared.parts.Parts.{Parts}
use Rattle.netlist.specs.Fixpoint.{wire, fix}
use Rattle.netlist.specs.Netlists.{count, gate_sig, no_gate, signal, is_marked}
use Rattle.netlist.proofs.FixpointLemmas.{unknown_below_state}
use Rattle.case_split.specs.declared.cases.Case.{Case}
use Rattle.case_split.specs.declared.cases.ColumnValue.{ColumnValue}
use Rattle.case_split.specs.declared.operands.Operand.{Operand}
use Rattle.case_split.specs.declared.operands.Operand.TheVariants.{Constant, Wire}
use Rattle.case_split.specs.Cases.{Holds}
use Rattle.case_split.specs.Operands.{value_by, IsWithin}
use Rattle.case_split.specs.Added.{AreNew, IsMore}
use Rattle.case_split.specs.Sizes.{copied_gates}
use Rattle.case_split.specs.Tables.{operand_at, plain_of, ArePlain, IsPlain, IsMade, AreStanding, AreCopySteps}
use Rattle.case_split.specs.CaseTables.{IsBelowCase, IsCaseTable, IsTableStep, IsEntry, AreTables}
use Rattle.case_split.specs.Cubes.{IsCube}
use Rattle.case_split.specs.Choices.{AreLeavesOf, IsChosen}
use Rattle.case_split.specs.Heads.{leaves_of, AreStandingIn, IsWithinAny, IsRoot, IsRootStep, AreRoots, IsHead, AreHeads}
use Rattle.case_split.proofs.AddedLemmas.{agrees_before, all_within_more, more_length, more_none, more_trans, more_weaker, within_more}
use Rattle.case_split.proofs.CofactorLemmas.{all_filtered}
use Rattle.case_split.proofs.TableLemmas.{made_more, standing_more}

-- ---- what is known in a case

all_front : {A : Type 0} (P : A → Type 0) (xs ys : List A) → All P (xs ++ ys) → All P xs
all_front P xs ys h i d l = subst P (get_or_append_left xs ys d i l) (h i d (let e = length-append xs ys in omega arith))

pub knows_none : (v : List Trit) (columns : ℕ) (given : List Trit) → given ≡ replicate columns X → length v ≡ columns → EachBelow given v
knows_none v columns given is wide = subst (λ (g : List Trit). EachBelow g v) (sym is) (unknown_below_state columns v wide)

pub knows_next : (v : List Trit) (values : List ColumnValue) (i : ℕ) (d : ColumnValue) (given : List Trit) (value : Trit) → EachBelow given v → i < length values → All (Holds v) (take (i + 1) values) → value ≡ bit (get_or values i d).value → EachBelow (set given (get_or values i d).column value) v
knows_next v values i d given value h l all is =
    EachBelow-set given v (get_or values i d).column value h
    (subst (Below value) (is ∙ sym (at (take i values) (subst (All (Holds v)) (take_more values i d l) all))) (Below-refl value))
  where
    at : (xs : List ColumnValue) → All (Holds v) (xs ++ get_or values i d ∷ []) → get_or v (get_or values i d).column X ≡ bit (get_or values i d).value
    at [] k = k 0 d (omega arith)
    at (x ∷ xs) k = at xs (λ j e m. k (suc j) e (omega arith))

pub knows_before : (v : List Trit) (values : List ColumnValue) (i : ℕ) (d : ColumnValue) → i < length values → All (Holds v) (take (i + 1) values) → All (Holds v) (take i values)
knows_before v values i d l all = all_front (Holds v) (take i values) (get_or values i d ∷ []) (subst (All (Holds v)) (take_more values i d l) all)

-- ---- the gates of loops

pub copied_within : (net : Parts) (marks : List Bool) → All (λ n. n < length net.gates) (copied_gates net marks)
copied_within net marks =
    All-from_recursion (λ n. n < length net.gates) (copied_gates net marks)
    (all_filtered (λ n. n < length net.gates) (is_marked marks) (range_with_len 0 (length net.gates))
    (recursion_from_All (λ n. n < length net.gates) (range_with_len 0 (length net.gates))
    (λ i d l. let w = length-range_with_len 0 (length net.gates) in let e = get_or-range_with_len 0 (length net.gates) i d (omega arith) in omega arith)))

pub copied_all : (net : Parts) (marks : List Bool) (n : ℕ) → n < length net.gates → is_marked marks n ≡ true → Contains (copied_gates net marks) n
copied_all net marks n l e = Contains-filter (is_marked marks) (range_with_len 0 (length net.gates)) n e (Contains-range (length net.gates) n l)

-- ---- a table before any gate is copied

plain_inside : (bound : ℕ) (t : Trit) (s : Sig) → s.0 < bound → IsWithin bound (plain_of t s)
plain_inside bound Zero s l = tt
plain_inside bound One s l = tt
plain_inside bound X s l = l

pub plain_within : (bound : ℕ) (values : List Trit) (table : List Operand) → ArePlain values table → length values ≤ bound → All (IsWithin bound) table
plain_within bound values table h l i d k =
    let w = h.width in
    subst (IsWithin bound) (sym (get_or_default table i d (Wire (signal i)) k ∙ h.each i (omega arith)))
    (plain_inside bound (get_or values i X) (signal i) (omega arith))

plain_by : (values : List Trit) (t : Trit) (s : Sig) (o : Operand) → wire values s ≡ t → o ≡ plain_of t s → IsPlain values s o
plain_by values Zero s o e is = inr (record { value = false; is = is; known = e })
plain_by values One s o e is = inr (record { value = true; is = is; known = e })
plain_by values X s o e is = inl is

plain_standing : (net : Parts) (values : List Trit) (gates : List Gate) (table : List Operand) → ArePlain values table → length values ≡ count net → AreStanding net values gates table
plain_standing net values gates table h wide s l = inl (plain_by values (get_or values s.0 X) s (operand_at table s) refl (h.each s.0 (omega arith)))

-- ---- one table

-- gates that were copied in another order
pub copied_in_order : (net : Parts) (list order : List ℕ) (old new : List Gate) (before after : List Operand) → IsPermutation list order → AreCopySteps net order old new before after → AreCopySteps net list old new before after
copied_in_order net list order old new before after permuted steps = record {
  more = subst (IsMore old new) (length_permutation list order permuted) steps.more;
  are = steps.are;
  width = steps.width;
  within = steps.within;
  stand = steps.stand;
  made = λ values stand i d l.
      All-contains (IsMade net values (count net) new after) order (get_or list i d) (steps.made values stand)
      (Contains-permutation list order (get_or list i d) permuted (Contains-get_or list i d l));
}

pub table_made : (net : Parts) (marks : List Bool) (given : List Trit) (list : List ℕ) (old new : List Gate) (before after : List Operand) → list ≡ copied_gates net marks → length (fix net given) ≡ count net → ArePlain (fix net given) before → AreCopySteps net list old new before after →
    IsTableStep net marks given old new after
table_made net marks given list old new before after is wide plain steps =
    let values = fix net given in
    let stand = plain_standing net values old before plain wide in
    let all = steps.made values stand in
    record {
      is = record {
        width = steps.width;
        each = steps.stand values stand;
        made = λ n l e. All-contains (IsMade net values (count net) new after) list n all (subst (λ (xs : List ℕ). Contains xs n) (sym is) (copied_all net marks n l e));
      };
      within = steps.within;
      more = more_weaker old new (length list) (length (copied_gates net marks)) (let f = ap length is in omega arith) steps.more;
      are = steps.are;
    }

pub possible_entry : (net : Parts) (marks : List Bool) (case : Case) (given : List Trit) (old new : List Gate) (table : List Operand) → IsCube case.cube.items → IsBelowCase net case given → IsTableStep net marks given old new table → IsEntry net marks case old new table
possible_entry net marks case given old new table cube below step = record {
  is = inl (record { cube = cube; given = given; below = below; is = step.is });
  width = step.is.width;
  within = step.within;
  more = step.more;
  are = step.are;
}

pub impossible_entry : (net : Parts) (marks : List Bool) (case : Case) (gates : List Gate) (table : List Operand) (many : ℕ) → (IsCube case.cube.items → ⊥) → many ≡ count net → table ≡ replicate many (Constant false) → AreNew net gates → IsEntry net marks case gates gates table
impossible_entry net marks case gates table many never e is are = record {
  is = inr (record { not_cube = never; all = All-same (λ operand. operand ≡ Constant false) table (replicate many (Constant false)) is (All-replicate (λ operand. operand ≡ Constant false) many (Constant false) refl) });
  width = (let low = Constant false in ap length is ∙ length-replicate many low ∙ e);
  within = All-same (IsWithin (count net + length gates)) table (replicate many (Constant false)) is (All-replicate (IsWithin (count net + length gates)) many (Constant false) tt);
  more = more_weaker gates gates 0 (length (copied_gates net marks)) (omega arith) (more_none gates);
  are = are;
}

-- ---- all tables

pub case_more : (net : Parts) (marks : List Bool) (case : Case) (a b : List Gate) (m : ℕ) (table : List Operand) → IsMore a b m → IsCaseTable net marks case a table → IsCaseTable net marks case b table
case_more net marks case a b m table h (inl is) = inl (record {
  cube = is.cube;
  given = is.given;
  below = is.below;
  is = record {
    width = is.is.width;
    each = standing_more net (fix net is.given) a b m table h is.is.each;
    made = λ n l e. made_more net (fix net is.given) (count net) a b m table n h (is.is.made n l e);
  };
})
case_more net marks case a b m table h (inr is) = inr is

pub tables_none : (net : Parts) (marks : List Bool) (cases : List Case) (gates : List Gate) → AreNew net gates → AreTables net marks cases 0 gates gates []
tables_none net marks cases gates are = record {
  width = refl;
  each = λ i c d l. absurd (omega arith);
  wide = All-nil (λ table. length table ≡ count net);
  within = All-nil (All (IsWithin (count net + length gates)));
  more = more_weaker gates gates 0 (0 * length (copied_gates net marks)) (omega arith) (more_none gates);
  are = are;
}

pub tables_next : (net : Parts) (marks : List Bool) (cases : List Case) (n : ℕ) (case : Case) (old mid new : List Gate) (tables : List (List Operand)) (table : List Operand) → AreTables net marks cases n old mid tables → n < length cases → case ≡ get_or cases n case → IsEntry net marks case mid new table → AreTables net marks cases (n + 1) old new (tables ++ table ∷ [])
tables_next net marks cases n case old mid new tables table h inside is entry =
    let width = h.width in
    record {
      width = (let e = length-append tables (table ∷ []) in omega arith);
      each = λ i c d l. elim (cases_lt i n) [
        | inl before ↦
            subst (IsCaseTable net marks (get_or cases i c) new) (sym (get_or_append_left tables (table ∷ []) d i (omega arith)))
            (case_more net marks (get_or cases i c) mid new (length (copied_gates net marks)) (get_or tables i d) entry.more (h.each i c d before))
        | inr here ↦
            let same : i ≡ n = omega arith in
            let at : get_or (tables ++ table ∷ []) i d ≡ table = get_or-append_right tables (table ∷ []) n i d width here ∙ ap (λ k. get_or (table ∷ []) k d) (let z : i - n ≡ 0 = omega arith in z) in
            let of : case ≡ get_or cases i c = is ∙ get_or_default cases n case c inside ∙ ap (λ (k : ℕ). get_or cases k c) (sym same) in
            subst (IsCaseTable net marks (get_or cases i c) new) (sym at) (subst (λ (x : Case). IsCaseTable net marks x new table) of entry.is)
      ];
      wide = All-push (λ t. length t ≡ count net) tables table h.wide entry.width;
      within = All-append (All (IsWithin (count net + length new))) tables (table ∷ [])
          (λ i d k. all_within_more (count net + length mid) (count net + length new) (get_or tables i d) (let x = (more_length mid new (length (copied_gates net marks)) entry.more).0 in omega arith) (h.within i d k))
          (All-cons (All (IsWithin (count net + length new))) table [] entry.within (All-nil (All (IsWithin (count net + length new)))));
      more = more_weaker old new (n * length (copied_gates net marks) + length (copied_gates net marks)) ((n + 1) * length (copied_gates net marks)) (omega arith)
          (more_trans old mid new (n * length (copied_gates net marks)) (length (copied_gates net marks)) h.more entry.more);
      are = entry.are;
    }

pub tables_stand : (net : Parts) (marks : List Bool) (cases : List Case) (old new : List Gate) (tables : List (List Operand)) → AreTables net marks cases (length cases) old new tables → AreStandingIn net cases tables
tables_stand net marks cases old new tables h = record {
  width = h.width;
  wide = h.wide;
  each = λ i c d l. told (get_or cases i c) (get_or tables i d) (h.each i c d l);
}
  where
    told : (case : Case) (table : List Operand) → IsCaseTable net marks case new table → IsCube case.cube.items ⊎ All (λ operand. operand ≡ Constant false) table
    told case table (inl is) = inl is.cube
    told case table (inr is) = inr is.all

-- ---- what is chosen

pub leaves_within : (bound : ℕ) (tables : List (List Operand)) (s : Sig) → All (λ table. s.0 < length table) tables → All (All (IsWithin bound)) tables → All (IsWithin bound) (leaves_of tables s)
leaves_within bound tables s wide h = All-map (IsWithin bound) (λ table. operand_at table s) tables (λ i d l. h i d l s.0 (Wire s) (wide i d l))

pub leaves_are : (net : Parts) (cases : List Case) (tables : List (List Operand)) (s : Sig) → AreStandingIn net cases tables → s.0 < count net → AreLeavesOf cases (leaves_of tables s)
leaves_are net cases tables s h l i c d k =
    elim (h.each i c [] k) [
      | inl cube ↦ inl cube
      | inr never ↦
          let w = h.width in
          let wide : length (get_or tables i []) ≡ count net = h.wide i [] (omega arith) in
          inr (get_or-map (λ (t : List Operand). operand_at t s) tables i [] d (omega arith) ∙ never s.0 (Wire s) (omega arith))
    ]

pub root_made : (net : Parts) (cases : List Case) (tables : List (List Operand)) (n : ℕ) (leaves : List Operand) (s : Sig) (old new : List Gate) (operand : Operand) → leaves ≡ leaves_of tables s → s ≡ gate_sig net n → IsChosen net cases leaves old new operand → IsRootStep net cases tables n old new operand
root_made net cases tables n leaves s old new operand is at h = record {
  is = record {
    operand = operand;
    is = refl;
    under = λ f agree i d l only. subst (λ (ls : List Operand). Below (value_by f (get_or ls i d)) (value_by f operand)) (is ∙ ap (leaves_of tables) at) (h.under f agree i d l only);
  };
  within = h.within;
  more = h.more;
  are = h.are;
}

within_any_more : (low high : ℕ) (o : Option Operand) → low ≤ high → IsWithinAny low o → IsWithinAny high o
within_any_more low high None l h = tt
within_any_more low high (Some o) l h = within_more low high o l h

all_any_more : (low high : ℕ) (os : List (Option Operand)) → low ≤ high → All (IsWithinAny low) os → All (IsWithinAny high) os
all_any_more low high os l h i d k = within_any_more low high (get_or os i d) l (h i d k)

root_more : (net : Parts) (cases : List Case) (tables : List (List Operand)) (a b : List Gate) (m n : ℕ) (root : Option Operand) → IsMore a b m → IsRoot net cases tables a n root → IsRoot net cases tables b n root
root_more net cases tables a b m n root h is = record {
  operand = is.operand;
  is = is.is;
  under = λ f agree. is.under f (agrees_before f (count net) a b m h agree);
}

pub roots_next : (net : Parts) (cases : List Case) (tables : List (List Operand)) (list : List ℕ) (j n : ℕ) (old mid new : List Gate) (roots : List (Option Operand)) (operand : Operand) → AreRoots net cases tables (take j list) old mid roots → All (λ m. m < length net.gates) list → j < length list → get_or list j 0 ≡ n →
    IsRootStep net cases tables n mid new operand → AreRoots net cases tables (take (j + 1) list) old new (set roots n (Some operand))
roots_next net cases tables list j n old mid new roots operand h all l at step =
    let root : Option Operand = Some operand in
    let more : take (j + 1) list ≡ take j list ++ n ∷ [] = take_more list j 0 l ∙ ap (λ m. take j list ++ m ∷ []) at in
    let inside : n < length net.gates = subst (λ (m : ℕ). m < length net.gates) at (all j 0 l) in
    let wide = h.width in
    let longer = (more_length mid new (length cases) step.more).0 in
    let sizes = length-append (take j list) (n ∷ []) in
    subst (λ (ms : List ℕ). AreRoots net cases tables ms old new (set roots n root)) (sym more)
    (record {
      width = length-set roots n root ∙ wide;
      each = All-append (λ m. IsRoot net cases tables new m (get_or (set roots n root) m None)) (take j list) (n ∷ [])
          (λ i d k. other (get_or (take j list) i d) (root_more net cases tables mid new (length cases) (get_or (take j list) i d) (get_or roots (get_or (take j list) i d) None) step.more (h.each i d k)))
          (All-cons (λ m. IsRoot net cases tables new m (get_or (set roots n root) m None)) n []
          (subst (IsRoot net cases tables new n) (sym (get_or-set_same roots n root None (omega arith))) step.is)
          (All-nil (λ m. IsRoot net cases tables new m (get_or (set roots n root) m None))));
      within = λ i d k.
          let e = length-set roots n root in
          elim (cases_eq i n) [
            | inl same ↦ subst (IsWithinAny (count net + length new)) (sym (ap (λ q. get_or (set roots n root) q d) same ∙ get_or-set_same roots n root d (omega arith))) step.within
            | inr apart ↦ subst (IsWithinAny (count net + length new)) (sym (get_or-set_other roots n i root d apart))
                (all_any_more (count net + length mid) (count net + length new) roots (omega arith) h.within i d (omega arith))
          ];
      more = more_weaker old new (length (take j list) * length cases + length cases) (length (take j list ++ n ∷ []) * length cases) (product (length (take j list ++ n ∷ [])) (length (take j list)) (length cases) sizes)
          (more_trans old mid new (length (take j list) * length cases) (length cases) h.more step.more);
      are = step.are;
    })
  where
    product : (a b t : ℕ) → a ≡ b + 1 → b * t + t ≤ a * t
    product a b t e = subst (λ (x : ℕ). b * t + t ≤ x * t) (sym e) (omega arith)

    other : (m : ℕ) → IsRoot net cases tables new m (get_or roots m None) → IsRoot net cases tables new m (get_or (set roots n (Some operand)) m None)
    other m is = elim (cases_eq m n) [
      | inl same ↦
          let low : n < length net.gates = subst (λ (q : ℕ). q < length net.gates) at (all j 0 l) in let wide = h.width in let inside : n < length roots = omega arith in
          subst (λ (q : ℕ). IsRoot net cases tables new q (get_or (set roots n (Some operand)) q None)) (sym same)
          (subst (IsRoot net cases tables new n) (sym (get_or-set_same roots n (Some operand) None inside)) step.is)
      | inr apart ↦ subst (IsRoot net cases tables new m) (sym (get_or-set_other roots n m (Some operand) None apart)) is
    ]

-- ---- heads

pub heads_next : (net : Parts) (marks : List Bool) (roots : List (Option Operand)) (n : ℕ) (heads : List Gate) (head : Gate) → AreHeads net marks roots n heads → IsHead net marks (get_or roots n None) n head → AreHeads net marks roots (n + 1) (heads ++ head ∷ [])
heads_next net marks roots n heads head h is =
    let width = h.width in
    record {
      width = (let e = length-append heads (head ∷ []) in omega arith);
      each = λ i l. elim (cases_lt i n) [
        | inl before ↦ subst (IsHead net marks (get_or roots i None) i) (sym (get_or_append_left heads (head ∷ []) no_gate i (omega arith))) (h.each i before)
        | inr here ↦
            let same : i ≡ n = omega arith in
            let at : get_or (heads ++ head ∷ []) i no_gate ≡ head = get_or-append_right heads (head ∷ []) n i no_gate width here ∙ ap (λ k. get_or (head ∷ []) k no_gate) (let z : i - n ≡ 0 = omega arith in z) in
            subst (IsHead net marks (get_or roots i None) i) (sym at) (subst (λ (k : ℕ). IsHead net marks (get_or roots k None) k head) (sym same) is)
      ];
    }
