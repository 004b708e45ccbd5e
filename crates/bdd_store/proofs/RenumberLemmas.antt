-- The table that a sweep makes: what is kept stands there once, at its place, with its function.
use Rattle.std.proofs.Common.{◌≡◌, ℕ, zero, suc, ◌+◌, ◌%◌, ◌<◌, ◌≤◌, Bool, true, false, List, [], ◌∷◌, ◌++◌, length, get_or, set, slice_get, Some, Contains, if◌then◌else◌, refl, sym, ap, ◌∙◌, inl, inr, ◌⊎◌, arith, get_or-set_same, get_or-set_other, true≢false, add-one, length-append}
use Rattle.std.specs.List.{list_any, filter, range_with_len}
use Rattle.bdd_store.proofs.Common.{cases_eq, cases_lt, length_push, slice_get-get_or, slice_get_within, same_Some, Node, Entry, index, is_marked, flipped, value_at, node_value, top_at, branch, IsSound, is_marked_at, moved_node, AreMoved}
use Rattle.std.proofs.lemmas.Bool.{cases_Bool}
use Rattle.std.proofs.lemmas.List.Elements.{filter-append}
use Rattle.indexmap.specs.IndexSet.{insert_key}
use Rattle.indexmap.proofs.CallerLemmas.{Contains-list_any}
use Rattle.cyc_base.specs.declared.limits.TheConstants.{MAX_NODES}
use Rattle.std.proofs.lemmas.List.FromFn.{length-range_with_len}
use Rattle.cyc_base.proofs.ListLemmas.{filter-no_longer, range-suc}
use Rattle.bdd_store.specs.Soundness.{IsSoundEntry}
use Rattle.bdd_store.specs.Renumbering.{AreClosed, IsPlaced, place, moved_entry}
use Rattle.bdd_store.proofs.ValueLemmas.{branch_both, branch_low, by_branches, slice_get-append_left, slice_get-last, value_at-entry, value_at-zero, top_at-entry, top_at-zero, entry_at}
use Rattle.bdd_store.proofs.CanonicalLemmas.{early}
use Rattle.bdd_store.proofs.MakeLemmas.{entry_eq, entry_eq-true, read-Contains, IsSound-push}

-- ---- the table grows at its end

pub insert-new : (es : List Entry) (e : Entry) → (Contains es e → ⊥) → insert_key entry_eq es e ≡ es ++ e ∷ []
insert-new es e absent = elim (cases_Bool (list_any (entry_eq e) es)) [
  | inl there ↦ absurd (absent (Contains-list_any entry_eq entry_eq-true es e there))
  | inr none ↦ rw none refl
]

-- ---- how many are kept

-- the entries among the first n that are kept
abbrev pub kept : List Bool → ℕ → List ℕ
kept marks n = filter (λ p. is_marked_at marks (suc p)) (range_with_len 0 n)

kept-suc : (marks : List Bool) (n : ℕ) (b : Bool) → is_marked_at marks (suc n) ≡ b → length (kept marks (suc n)) ≡ length (kept marks n) + (if b then 1 else 0)
kept-suc marks n b is = grind (arith, range-suc 0 n, filter-append, length-append (kept marks n) (n ∷ []), length-append (kept marks n) [])

pub kept-few : (marks : List Bool) (n : ℕ) → length (kept marks n) ≤ n
kept-few marks n = omega (arith, filter-no_longer (λ p. is_marked_at marks (suc p)) (range_with_len 0 n), length-range_with_len 0 n)

-- ---- moved nodes and entries

pub index-moved : (places : List ℕ) (n : Node) → index (moved_node places n) ≡ place places (index n)
index-moved places n = omega arith

pub is_marked-moved : (places : List ℕ) (n : Node) → is_marked (moved_node places n) ≡ is_marked n
is_marked-moved places n = let same : (moved_node places n).number % 2 ≡ n.number % 2 = omega arith in rw same refl

branch-moved : (places : List ℕ) (e : Entry) (bit : Bool) → branch (moved_entry places e) bit ≡ moved_node places (branch e bit)
branch-moved places e bit = grind arith

-- a place further on changes no entry before
moved-set : (places : List ℕ) (i v : ℕ) (e : Entry) → index e.lo < i → index e.hi < i → moved_entry (set places i v) e ≡ moved_entry places e
moved-set places i v e low high = rw (get_or-set_other places i (index e.lo) v 0 (omega arith), get_or-set_other places i (index e.hi) v 0 (omega arith)) refl

branch-marked : (es : List Entry) (marks : List Bool) → AreClosed es marks → (p : ℕ) (e : Entry) (bit : Bool) → slice_get es p ≡ Some e → is_marked_at marks (suc p) ≡ true → is_marked_at marks (index (branch e bit)) ≡ true
branch-marked es marks closed p e bit at marked = branch_both (λ n. is_marked_at marks (index n) ≡ true) e bit (by (index e.lo) (λ q is. inl is)) (by (index e.hi) (λ q is. inr is))
  where
    by : (i : ℕ) → ((q : ℕ) → i ≡ suc q → (index e.lo ≡ suc q) ⊎ (index e.hi ≡ suc q)) → is_marked_at marks i ≡ true
    by zero leads = closed.constants
    by (suc q) leads = closed.branches p q marked (e, at, leads q refl)

module _ (es : List Entry) (marks : List Bool) (places : List ℕ) (table : List Entry) (n : ℕ) (closed : AreClosed es marks) (vars : ℕ) (sound : IsSound vars es) (moved : AreMoved es marks places table n) where
  sound_table : IsSound vars table
  sound_table = moved.sound vars sound

  pub place-within : (i : ℕ) → i ≤ n → n ≤ length es → is_marked_at marks i ≡ true → place places i ≤ length table
  place-within zero le w marked = omega (arith, moved.constants)
  place-within (suc p) le w marked = grind (arith, entry_at es p, slice_get_within table)

  top-place : (i : ℕ) → i ≤ n → n ≤ length es → is_marked_at marks i ≡ true → top_at vars table (place places i) ≡ top_at vars es i
  top-place zero le w marked = ap (top_at vars table) moved.constants ∙ top_at-zero vars table ∙ sym (top_at-zero vars es)
  top-place (suc p) le w marked = grind (arith, entry_at es p, top_at-entry vars table, top_at-entry vars es p)

  -- nodes with marked indices are moved apart
  same_moved : (a b : Node) → index a ≤ n → index b ≤ n → is_marked_at marks (index a) ≡ true → is_marked_at marks (index b) ≡ true → (moved_node places a).number ≡ (moved_node places b).number → a.number ≡ b.number
  same_moved a b la lb ma mb e = grind arith

  module _ (e : Entry) (at : slice_get es n ≡ Some e) (marked : is_marked_at marks (suc n) ≡ true) where
    within : n < length es
    within = slice_get_within es n e at

    branch_marked : (bit : Bool) → is_marked_at marks (index (branch e bit)) ≡ true
    branch_marked bit = branch-marked es marks closed n e bit at marked

    -- the entry is not in the table yet
    pub moved-absent : Contains table (moved_entry places e) → ⊥
    moved-absent has =
        let from = moved.from has.0 has.1 in
        let p = from.0 in
        let old = entry_at es p (omega (arith, from.1, within)) in
        let x = old.0 in
        let is = moved.each p x from.1 old.1 from.2 in
        let same_q : is.0 ≡ has.0 = omega (arith, is.1, from.3) in
        let same : moved_entry places x ≡ moved_entry places e = same_Some (moved_entry places x) (moved_entry places e) (sym is.2 ∙ ap (slice_get table) same_q ∙ read-Contains table (moved_entry places e) has) in
        let branches : (bit : Bool) → (branch x bit).number ≡ (branch e bit).number = λ bit.
        let low = branch_low es (early sound) p x bit old.1 in
        same_moved (branch x bit) (branch e bit) (omega (arith, low, from.1)) (branch_low es (early sound) n e bit at) (branch-marked es marks closed p x bit old.1 from.2) (branch_marked bit)
        (ap (λ (m : Node). m.number) (sym (branch-moved places x bit) ∙ ap (λ y. branch y bit) same ∙ branch-moved places e bit)) in
        let one : x ≡ e = λ j. record { var = ap (λ (y : Entry). y.var) same j; lo = record { number = branches false j }; hi = record { number = branches true j } } in
        let p_is : p ≡ n = sound.once p n e (old.1 ∙ ap Some one) at in
        omega (arith, p_is, from.1)

    moved-fits : IsSoundEntry vars table (length table) (moved_entry places e)
    moved-fits =
        let s = sound.each n e at in
        let w : n ≤ length es = omega (arith, within) in
        record {
          lo_earlier = omega (arith, index-moved places e.lo, place-within (index e.lo) s.lo_earlier w (branch_marked false));
          hi_earlier = omega (arith, index-moved places e.hi, place-within (index e.hi) s.hi_earlier w (branch_marked true));
          apart = λ same. s.apart (same_moved e.lo e.hi s.lo_earlier s.hi_earlier (branch_marked false) (branch_marked true) same);
          unmarked = is_marked-moved places e.hi ∙ s.unmarked;
          within = s.within;
          lo_below = omega (arith, s.lo_below, ap (top_at vars table) (index-moved places e.lo), top-place (index e.lo) s.lo_earlier w (branch_marked false));
          hi_below = omega (arith, s.hi_below, ap (top_at vars table) (index-moved places e.hi), top-place (index e.hi) s.hi_earlier w (branch_marked true));
        }

    pub moved-sound : IsSound vars (table ++ moved_entry places e ∷ [])
    moved-sound = IsSound-push sound_table (moved_entry places e) moved-fits moved-absent

-- ---- the loop

pub AreMoved-skip : (es : List Entry) (marks : List Bool) (places : List ℕ) (table : List Entry) (n : ℕ) → is_marked_at marks (suc n) ≡ false → AreMoved es marks places table n → AreMoved es marks places table (suc n)
AreMoved-skip es marks places table n not_marked moved =
    let before : (i : ℕ) → i ≤ suc n → is_marked_at marks i ≡ true → i ≤ n = λ i le marked. elim (cases_eq i (suc n)) [ inl same ↦ absurd (true≢false (sym marked ∙ ap (is_marked_at marks) same ∙ not_marked)) | inr apart ↦ omega arith ] in
    record {
      sound = moved.sound;
      constants = moved.constants;
      each = λ p e less at marked. moved.each p e (omega (arith, before (suc p) (omega arith) marked)) at marked;
      once = λ i j low_i low_j mi mj same. moved.once i j (before i low_i mi) (before j low_j mj) mi mj same;
      from = λ q less. let f = moved.from q less in (f.0, omega (arith, f.1), f.2, f.3);
      count = omega (arith, moved.count, kept-suc marks n false not_marked);
    }

pub AreMoved-more : (es : List Entry) (marks : List Bool) (places : List ℕ) (table : List Entry) (n : ℕ) (closed : AreClosed es marks) (sound : (vars : ℕ) × IsSound vars es) (moved : AreMoved es marks places table n) (e : Entry) → slice_get es n ≡ Some e → is_marked_at marks (suc n) ≡ true → suc n < length places → AreMoved es marks (set places (suc n) (length table + 1)) (table ++ moved_entry places e ∷ []) (suc n)
AreMoved-more es marks places table n closed sound moved e at marked room =
    let new_places = set places (suc n) (length table + 1) in
    let new = table ++ moved_entry places e ∷ [] in
    let within : n < length es = slice_get_within es n e at in
    let here : place new_places (suc n) ≡ suc (length table) = get_or-set_same places (suc n) (length table + 1) 0 room ∙ add-one (length table) in
    let there : (i : ℕ) → i ≤ n → place new_places i ≡ place places i = λ i le. get_or-set_other places (suc n) i (length table + 1) 0 (omega arith) in
    let low : (i : ℕ) → i ≤ n → is_marked_at marks i ≡ true → place places i ≤ length table = λ i le m. place-within es marks places table n closed sound.0 sound.1 moved i le (omega arith) m in
    let longer : length new ≡ length table + 1 = length_push table (moved_entry places e) in
    let same_entry : (p : ℕ) (x : Entry) → p ≤ n → slice_get es p ≡ Some x → moved_entry new_places x ≡ moved_entry places x = λ p x le at_p. let s = sound.1.each p x at_p in moved-set places (suc n) (length table + 1) x (omega (arith, s.lo_earlier)) (omega (arith, s.hi_earlier)) in
    record {
      sound = λ vars s. moved-sound es marks places table n closed vars s moved e at marked;
      constants = there 0 (omega arith) ∙ moved.constants;
      each = λ p x less at_p m. elim (cases_lt p n) [
        | inl before ↦
            let is = moved.each p x before at_p m in
            (is.0, there (suc p) (omega arith) ∙ is.1, slice_get-append_left table (moved_entry places e ∷ []) is.0 (slice_get_within table is.0 (moved_entry places x) is.2) ∙ is.2 ∙ ap Some (sym (same_entry p x (omega arith) at_p)))
        | inr last ↦
            let is : p ≡ n = omega arith in
            let x_is : e ≡ x = same_Some e x (sym at ∙ ap (slice_get es) (sym is) ∙ at_p) in (
              length table,
              ap (λ k. place new_places (suc k)) is ∙ here,
              slice_get-last table (moved_entry places e) ∙ ap Some (ap (moved_entry places) x_is ∙ sym (same_entry p x (omega arith) at_p)),
            )
      ];
      once = λ i j low_i low_j mi mj same. elim (cases_lt i (suc n)) [
        | inl bi ↦ elim (cases_lt j (suc n)) [
          | inl bj ↦ moved.once i j (omega arith) (omega arith) mi mj (sym (there i (omega arith)) ∙ same ∙ there j (omega arith))
          | inr aj ↦ let is : j ≡ suc n = omega arith in absurd (omega (arith, there i (omega arith), low i (omega arith) mi, same, ap (place new_places) is, here))
        ]
        | inr ai ↦ elim (cases_lt j (suc n)) [
          | inl bj ↦ let is : i ≡ suc n = omega arith in absurd (omega (arith, there j (omega arith), low j (omega arith) mj, same, ap (place new_places) is, here))
          | inr aj ↦ omega arith
        ]
      ];
      from = λ q less. elim (cases_lt q (length table)) [
        | inl before ↦ let f = moved.from q before in (f.0, omega (arith, f.1), f.2, there (suc f.0) (omega (arith, f.1)) ∙ f.3)
        | inr last ↦ (n, omega arith, marked, here ∙ (omega (arith, longer)))
      ];
      count = omega (arith, longer, moved.count, kept-suc marks n true marked);
    }

-- ---- functions

module _ (es : List Entry) (marks : List Bool) (places : List ℕ) (table : List Entry) (closed : AreClosed es marks) (vars : ℕ) (sound : IsSound vars es) (moved : AreMoved es marks places table (length es)) where
  value-moved : (n : Node) (bits : List Bool) → value_at table (place places (index n)) bits ≡ value_at es (index n) bits → node_value table (moved_node places n) bits ≡ node_value es n bits
  value-moved n bits same = rw (is_marked-moved places n, index-moved places n) (ap (flipped (is_marked n)) same)

  value-place : (bits : List Bool) (i : ℕ) → i ≤ length es → is_marked_at marks i ≡ true → value_at table (place places i) bits ≡ value_at es i bits
  value-place bits = by_branches es (λ i. is_marked_at marks i ≡ true → value_at table (place places i) bits ≡ value_at es i bits)
      (λ marked. ap (λ k. value_at table k bits) moved.constants ∙ value_at-zero table bits ∙ sym (value_at-zero es bits))
      (λ p e at rest marked.
      let is = moved.each p e (slice_get_within es p e at) at marked in
      let bit = get_or bits e.var false in
      ap (λ k. value_at table k bits) is.1
      ∙ value_at-entry table (early (moved.sound vars sound)) bits is.0 (moved_entry places e) is.2
      ∙ ap (λ (n : Node). node_value table n bits) (branch-moved places e bit)
      ∙ value-moved (branch e bit) bits (rest (index (branch e bit)) (branch_low es (early sound) p e bit at) (branch-marked es marks closed p e bit at marked))
      ∙ sym (value_at-entry es (early sound) bits p e at))

  -- a node that is kept has its function at its place
  pub node_value-moved : (n : Node) (bits : List Bool) → index n ≤ length es → is_marked_at marks (index n) ≡ true → node_value table (moved_node places n) bits ≡ node_value es n bits
  node_value-moved n bits w marked = value-moved n bits (value-place bits (index n) w marked)

  pub top-moved : (n : Node) → index n ≤ length es → is_marked_at marks (index n) ≡ true → top_at vars table (index (moved_node places n)) ≡ top_at vars es (index n)
  top-moved n w marked = ap (top_at vars table) (index-moved places n) ∙ top-place es marks places table (length es) closed vars sound moved (index n) w (omega arith) marked

-- ---- what the code asks at each entry that is kept

pub record IsKeptNext (es : List Entry) (places : List ℕ) (table : List Entry) (e : Entry) : Type 0 where
  pub lo : IsPlaced places e.lo
  pub hi : IsPlaced places e.hi
  pub room : length table < MAX_NODES
  pub absent : Contains table (moved_entry places e) → ⊥

pub IsKeptNext-from : (es : List Entry) (marks : List Bool) (places : List ℕ) (table : List Entry) (n : ℕ) (d : Entry) → AreClosed es marks → (vars : ℕ) × IsSound vars es → AreMoved es marks places table n → length es ≤ MAX_NODES → length places ≡ length es + 1 → n < length es → is_marked_at marks (suc n) ≡ true → IsKeptNext es places table (get_or es n d)
IsKeptNext-from es marks places table n d closed sound moved few long less marked =
    let e = get_or es n d in
    let at : slice_get es n ≡ Some e = slice_get-get_or es n d less in
    let s = sound.1.each n e at in
    let lo = place-within es marks places table n closed sound.0 sound.1 moved (index e.lo) s.lo_earlier (omega arith) (branch-marked es marks closed n e false at marked) in
    let hi = place-within es marks places table n closed sound.0 sound.1 moved (index e.hi) s.hi_earlier (omega arith) (branch-marked es marks closed n e true at marked) in
    let count : length table ≤ n = omega (arith, moved.count, kept-few marks n) in
    grind (arith, within, moved-absent es marks places table n closed sound.0 sound.1 moved e)
