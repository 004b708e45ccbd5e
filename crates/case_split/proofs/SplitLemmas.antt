-- The netlist that is split by cases: it is a netlist, and tells as much.
use Rattle.std.proofs.Common.{◌≡◌, inl, inr, ℕ, zero, suc, ◌+◌, ◌*◌, ◌<◌, ◌≤◌, Bool, true, false, List, [], ◌∷◌, ◌++◌, length, map, get_or, Option, Some, None, IfSome, All, refl, sym, ap, ap₂, ◌∙◌, subst, arith}
use Rattle.std.proofs.Common.{cond}
use Rattle.std.specs.Prelude.{if◌then◌else◌}
use Rattle.std.specs.List.{AllByRecursion, filter, list_any, range_with_len}
use Rattle.std.proofs.Math.Nat.{mul-le-mul}
unfoldable use Rattle.std.specs.List.{IsDistinct}
use Rattle.std.specs.Option.{option_map_or}
use Rattle.std.specs.Str.{bytes_eq}
use Rattle.std.proofs.lemmas.Bool.{cases_Bool, or_from, or_parts}
use Rattle.std.proofs.lemmas.List.{append_assoc, get_or-map, get_or_append_left, get_or_default, length-append, length-map, map-append}
use Rattle.std.proofs.lemmas.List.Elements.{All-append, All-contains, All-from_get_or, All-tail, filter-append, recursion_from_All}
use Rattle.std.proofs.lemmas.List.Folds.{list_any-append}
use Rattle.std.proofs.lemmas.Map.Made.{IsDistinct-from_AllPairs}
use Rattle.std.proofs.lemmas.Slice.Eq.{bytes_eq-Decides}
use Rattle.cyc_base.specs.Tildes.{longest_run, longest_run_of}
use Rattle.cyc_base.proofs.TildeLemmas.{longest-append}
use Rattle.cyc_base.specs.declared.limits.TheConstants.{MAX_REWRITTEN_ITEMS}
use Rattle.cyc_base.specs.Names.{IsBlifName}
use Rattle.cyc_base.proofs.ListLemmas.{list_any-map, range-suc}
use Rattle.cyc_base.specs.declared.sig.Sig.{Sig}
use Rattle.cyc_base.specs.declared.trit.Trit.{Trit}
use Rattle.cyc_base.specs.declared.trit.Trit.TheVariants.{X}
use Rattle.cyc_base.specs.Values.{Below}
use Rattle.cyc_base.proofs.OrderLemmas.{Below-at, Below-trans, EachBelow-at}
use Rattle.cover_logic.specs.Extensions.{ext}
use Rattle.netlist.specs.declared.parts.Clock.{Clock}
use Rattle.netlist.specs.declared.parts.Gate.{Gate}
use Rattle.netlist.specs.declared.parts.Latch.{Latch}
use Rattle.netlist.specs.declared.parts.Parts.{Parts}
use Rattle.netlist.specs.Fixpoint.{wire, fix}
use Rattle.netlist.specs.Netlists.{count, driven_names, gate_at, gate_sig, is_driven, no_gate, signal, signal_names, with_gates, IsClockName, IsNetlist, IsSignal, is_marked}
use Rattle.netlist.proofs.FixpointLemmas.{fix_is_monotone}
use Rattle.netlist.proofs.NameLemmas.{length-signal_names}
use Rattle.loops.specs.Sweeps.{first_gate}
use Rattle.unroll.specs.Laws.{KeepsInterface, TellsAsMuchAt}
use Rattle.unroll.specs.Marks.{clock_names, longest_run_in}
use Rattle.unroll.proofs.NameLemmas.{all_short, copy_is_long, copy_name_fits, copy_names_tell, distinct_append, short_from_long, short_is_none}
use Rattle.case_split.specs.declared.cases.Case.{Case}
use Rattle.case_split.specs.declared.operands.Operand.{Operand}
use Rattle.case_split.specs.Cases.{IsInOneCase, IsUsable}
use Rattle.case_split.specs.Operands.{value_by}
use Rattle.case_split.specs.Added.{AreNew, IsNewName}
use Rattle.case_split.specs.Sizes.{copied_gates}
use Rattle.case_split.specs.Splits.{split_by}
use Rattle.case_split.specs.Tables.{operand_at}
use Rattle.case_split.specs.CaseTables.{IsPossible, IsCaseTable}
use Rattle.case_split.specs.Choices.{IsOnlyBy}
use Rattle.case_split.specs.Heads.{IsWithinAny, IsRoot, IsShown}
use Rattle.case_split.specs.Made.{AreSplitParts, IsSplit, IsSplitNetlist}
use Rattle.case_split.proofs.AddedLemmas.{more_length}
use Rattle.case_split.proofs.CaseLemmas.{case_more, copied_all}
use Rattle.case_split.proofs.CubeLemmas.{cube_from}
use Rattle.case_split.proofs.LawLemmas.{now, now_column, now_head, agrees, tells_as_much}

abbrev names_of : List Gate → List (List ℕ)
names_of gates = map (λ (gate : Gate). gate.name) gates

-- ---- the gates of loops, counted

kept_length : (b : Bool) (n : ℕ) → length (cond b (n ∷ []) []) ≡ (if b then 1 else 0)
kept_length true n = refl
kept_length false n = refl

pub count_next : (p : ℕ → Bool) (n : ℕ) → length (filter p (range_with_len 0 (n + 1))) ≡ length (filter p (range_with_len 0 n)) + (if p n then 1 else 0)
count_next p n =
    ap length (ap (λ (k : ℕ). filter p (range_with_len 0 k)) (let e : n + 1 ≡ suc n = omega arith in e) ∙ ap (filter p) (range-suc 0 n) ∙ filter-append p (range_with_len 0 n) ((0 + n) ∷ []))
    ∙ length-append (filter p (range_with_len 0 n)) (filter p ((0 + n) ∷ []))
    ∙ ap (λ (k : ℕ). length (filter p (range_with_len 0 n)) + k) (kept_length (p (0 + n)) (0 + n) ∙ ap (λ (k : ℕ). if p k then 1 else 0) (let e : 0 + n ≡ n = omega arith in e))

pub product_small : (c l : ℕ) → c ≤ 4096 → l ≤ 4294967295 → c * l ≤ 17592186040320
product_small c l h k = (let e = mul-le-mul h k in omega (arith, e))

-- ---- names of added gates

abbrev AreNumbered : Parts → List (List ℕ) → Type 0
AreNumbered net names = (i : ℕ) → i < length names → IsNewName net i (get_or names i [])

numbered : (net : Parts) (gates : List Gate) → AreNew net gates → AreNumbered net (names_of gates)
numbered net gates are i l =
    let m = length-map gates (λ (gate : Gate). gate.name) in
    subst (IsNewName net i) (sym (get_or-map (λ (gate : Gate). gate.name) gates i no_gate [] (omega arith))) (are i (omega arith)).named

numbered_long : (net : Parts) (names : List (List ℕ)) → AreNumbered net names → AllByRecursion (λ name. longest_run_in net < longest_run name) names
numbered_long net names h =
    recursion_from_All (λ name. longest_run_in net < longest_run name) names
    (All-from_get_or (λ name. longest_run_in net < longest_run name) names [] (λ i l.
    let here = h i l in
    let long = copy_is_long (suc (longest_run_in net)) i here.own in
    let same = ap longest_run here.is in
    omega arith))

numbered_fit : (net : Parts) (names : List (List ℕ)) → length names ≤ 4294967295 → AreNumbered net names → All IsBlifName names
numbered_fit net names few h =
    All-from_get_or IsBlifName names [] (λ i l.
    let here = h i l in
    subst IsBlifName (sym here.is) (copy_name_fits (suc (longest_run_in net)) i here.own (omega arith) here.fits))

numbered_distinct : (net : Parts) (names : List (List ℕ)) → length names ≤ 4294967295 → AreNumbered net names → IsDistinct bytes_eq names
numbered_distinct net names few h =
    IsDistinct-from_AllPairs bytes_eq-Decides names
    (λ i j d less l e.
    let one = h i (omega arith) in
    let other = h j l in
    let told = copy_names_tell (longest_run_in net) i j one.own other.own (omega arith) (omega arith)
    (sym one.is ∙ get_or_default names i [] d (omega arith) ∙ e ∙ get_or_default names j d [] l ∙ other.is) in
    let same = told.0 in
    omega arith)

-- ---- the same names as the netlist's

same_names : (xs ys : List Gate) → length xs ≡ length ys → ((i : ℕ) → i < length ys → (get_or xs i no_gate).name ≡ (get_or ys i no_gate).name) → names_of xs ≡ names_of ys
same_names [] [] e h = refl
same_names [] (y ∷ ys) e h = absurd (omega arith)
same_names (x ∷ xs) [] e h = absurd (omega arith)
same_names (x ∷ xs) (y ∷ ys) e h = ap₂ (λ n ns. n ∷ ns) (h zero (omega arith)) (same_names xs ys (omega arith) (λ i l. h (suc i) (omega arith)))

pub record IsSound (bound : ℕ) (gate : Gate) : Type 0 where
  pub pins : All (λ s. s.0 < bound) gate.pins
  pub counted : length gate.pins ≡ gate.cover.pins

module _ (net : Parts) (valid : IsNetlist net) (heads more : List Gate) (wide : length heads ≡ length net.gates) (fits : count net + length more ≤ 4294967295) (are : AreNew net more)
    (named : (i : ℕ) → i < length net.gates → (get_or heads i no_gate).name ≡ (gate_at net i).name)
    (sound_heads : (i : ℕ) → i < length net.gates → IsSound (count net + length more) (get_or heads i no_gate)) where
  abbrev new : Parts
  new = split_by net heads more

  abbrev added : List (List ℕ)
  added = names_of more

  count_new : count new ≡ count net + length more
  count_new = (let e = length-append heads more in omega arith)

  length-added : length added ≡ length more
  length-added = length-map more (λ (gate : Gate). gate.name)

  heads_named : names_of heads ≡ names_of net.gates
  heads_named = same_names heads net.gates wide named

  names_are : signal_names new ≡ signal_names net ++ added
  names_are = grind (arith, map-append, append_assoc, append_assoc net.inputs (driven_names net) added, heads_named)

  added_numbered : AreNumbered net added
  added_numbered = numbered net more are

  added_long : AllByRecursion (λ name. longest_run_in net < longest_run name) added
  added_long = numbered_long net added added_numbered

  old_short : AllByRecursion (λ name. longest_run name ≤ longest_run_in net) (signal_names net)
  old_short = let whole = longest-append (signal_names net) (clock_names net) in all_short (signal_names net) (longest_run_in net) (omega arith)

  names_differ : IsDistinct bytes_eq (signal_names new)
  names_differ =
      subst (IsDistinct bytes_eq) (sym names_are)
      (distinct_append (signal_names net) added valid.names_differ (numbered_distinct net added (let e = length-added in omega arith) added_numbered)
      (short_from_long (longest_run_in net) (signal_names net) added old_short added_long))

  names_fit : All IsBlifName (signal_names new)
  names_fit = subst (All IsBlifName) (sym names_are) (All-append IsBlifName (signal_names net) added valid.names (numbered_fit net added (let e = length-added in omega arith) added_numbered))

  all_sound : All (IsSound (count net + length more)) (heads ++ more)
  all_sound =
      All-append (IsSound (count net + length more)) heads more
      (All-from_get_or (IsSound (count net + length more)) heads no_gate (λ i l. sound_heads i (omega arith)))
      (All-from_get_or (IsSound (count net + length more)) more no_gate (λ i l. record { pins = (are i l).pins; counted = (are i l).counted }))

  -- the clock's name is none of the added ones
  still_undriven : (name : List ℕ) → longest_run name ≤ longest_run_in net → is_driven net name ≡ false → is_driven new name ≡ false
  still_undriven name short h =
      let parts = or_parts (list_any (λ (latch : Latch). bytes_eq name latch.name) net.latches) (list_any (λ (gate : Gate). bytes_eq name gate.name) net.gates) h in
      or_from (list_any (λ (latch : Latch). bytes_eq name latch.name) net.latches) (list_any (λ (gate : Gate). bytes_eq name gate.name) (heads ++ more)) parts.0
      (sym (list_any-map (bytes_eq name) (λ (gate : Gate). gate.name) (heads ++ more))
      ∙ ap (list_any (bytes_eq name)) (map-append (λ (gate : Gate). gate.name) heads more ∙ ap (λ ns. ns ++ added) heads_named)
      ∙ list_any-append (bytes_eq name) (names_of net.gates) added
      ∙ or_from (list_any (bytes_eq name) (names_of net.gates)) (list_any (bytes_eq name) added)
      (list_any-map (bytes_eq name) (λ (gate : Gate). gate.name) net.gates ∙ parts.1)
      (short_is_none (longest_run_in net) name added short added_long))

  clock_kept : (o : Option Clock) → longest_run_of (option_map_or (λ (clock : Clock). clock.name ∷ []) o []) ≤ longest_run_in net → IfSome o (λ clock. IsClockName net clock.name) → IfSome o (λ clock. IsClockName new clock.name)
  clock_kept o short h = grind (arith, still_undriven)

  pub new_is_netlist : IsNetlist new
  new_is_netlist =
      let all = count_new in
      record {
        fits = omega arith;
        pins = λ k d l i e m. (let h = (all_sound k d l).pins i e m in omega arith);
        sources = λ k d l. (let h = valid.sources k d l in omega arith);
        outputs = λ k d l. (let h = valid.outputs k d l in omega arith);
        pin_counts = λ k d l. (all_sound k d l).counted;
        name = valid.name;
        names = names_fit;
        names_differ = names_differ;
        outputs_differ = valid.outputs_differ;
        clocked = valid.clocked;
        clock = clock_kept net.clock (let whole = longest-append (signal_names net) (clock_names net) in omega arith) valid.clock;
      }

  names_kept : (outputs : List Sig) → All (IsSignal net) outputs → map (λ s. get_or (signal_names net) s.0 []) outputs ≡ map (λ s. get_or (signal_names new) s.0 []) outputs
  names_kept [] h = refl
  names_kept (s ∷ ss) h =
      let inside : s.0 < count net = h zero s (omega arith) in
      let wide_names = length-signal_names net in
      ap₂ (λ n ns. n ∷ ns)
      (sym (ap (λ (ns : List (List ℕ)). get_or ns s.0 []) names_are ∙ get_or_append_left (signal_names net) added [] s.0 (omega arith)))
      (names_kept ss (All-tail (IsSignal net) s ss h))

  pub interface_kept : KeepsInterface net new
  interface_kept = record { inputs = refl; latches = refl; inits = refl; outputs = names_kept net.outputs valid.outputs; clock = refl }

-- ---- what it tells

shown_root : (f : Sig → Trit) (root : Option Operand) (operand : Operand) (leaf : Operand) (name : List ℕ) (head : Gate) → root ≡ Some operand → Below (value_by f leaf) (value_by f operand) → IsShown name root head → Below (value_by f leaf) (ext head.cover (map f head.pins))
shown_root f root operand leaf name head e h is = Below-trans (value_by f leaf) (value_by f operand) (ext head.cover (map f head.pins)) h (is.shows f operand e)

sizes : (c l a b : ℕ) → a ≤ 0 + c * l → b ≤ a + l * c → b ≤ 2 * (c * l)
sizes c l a b x y = omega arith

module _ (net : Parts) (valid : IsNetlist net) (marks : List Bool) (cases : List Case) (heads more : List Gate) (parts : AreSplitParts net marks cases heads more) (usable : All (IsUsable (first_gate net)) cases)
    (inputs : length net.inputs ≤ 4000000000) (small : length net.gates + length net.latches + 2 * (length cases * length (copied_gates net marks)) ≤ MAX_REWRITTEN_ITEMS) where
  few_more : length more ≤ 2 * (length cases * length (copied_gates net marks))
  few_more =
      sizes (length cases) (length (copied_gates net marks)) (length parts.first) (length more)
      (more_length [] parts.first (length cases * length (copied_gates net marks)) parts.are.more).1
      (more_length parts.first more (length (copied_gates net marks) * length cases) parts.chosen.more).1

  fits_more : count net + length more ≤ 4294967295
  fits_more = (let f = few_more in omega arith)

  root_is : (n : ℕ) → n < length net.gates → is_marked marks n ≡ true → IsRoot net cases parts.tables more n (get_or parts.roots n None)
  root_is n l e = All-contains (λ m. IsRoot net cases parts.tables more m (get_or parts.roots m None)) (copied_gates net marks) n parts.chosen.each (copied_all net marks n l e)

  root_within : (n : ℕ) → n < length net.gates → is_marked marks n ≡ true → IsWithinAny (count net + length more) (get_or parts.roots n None)
  root_within n l e = (let w = parts.chosen.width in parts.chosen.within n None (omega arith))

  head_sound : (n : ℕ) → n < length net.gates → IsSound (count net + length more) (get_or heads n no_gate)
  head_sound n l =
      let head = parts.heads_are.each n l in
      elim (cases_Bool (is_marked marks n)) [
        | inl e ↦ record { pins = (head.shown e).within (count net + length more) (root_within n l e); counted = (head.shown e).counted }
        | inr e ↦
            let same = head.kept e in
            record {
              pins = subst (All (λ (s : Sig). s.0 < count net + length more)) (sym same.pins) (λ i d k. (let h = valid.pins n no_gate l i d k in omega arith));
              counted = ap length same.pins ∙ valid.pin_counts n no_gate l ∙ ap (λ c. c.pins) (sym same.cover);
            }
      ]

  module _ (v : List Trit) (wide : length v ≡ first_gate net) (here : IsInOneCase cases v) where
    abbrev seen : Sig → Trit
    seen s = now net valid heads more parts.heads_are.width v wide s

    column_seen : (column : ℕ) → column < first_gate net → seen (signal column) ≡ get_or v column X
    column_seen column l = now_column net valid heads more parts.heads_are.width v wide (signal column) l

    abbrev this : Case → Case
    this c = get_or cases here.number c

    abbrev table : List Operand
    table = get_or parts.tables here.number []

    case_table : (c : Case) → IsCaseTable net marks (this c) more table
    case_table c = case_more net marks (this c) parts.first more (length (copied_gates net marks) * length cases) table parts.chosen.more (parts.are.each here.number c [] here.within)

    only : IsOnlyBy seen cases here.number
    only = record {
      here = λ c i d l.
          let literal = get_or (this c).cube.items i d in
          let inside = (usable here.number c here.within).cube i d l in
          column_seen literal.column inside ∙ (here.here c).cube i d l;
      others = λ j c l apart.
          let out = here.others j c l apart in
          let inside = All-contains (λ literal. literal.column < first_gate net) (get_or cases j c).cube.items out.literal (usable j c l).cube out.among in
          record { literal = out.literal; among = out.among; contradicted = column_seen out.literal.column inside ∙ out.contradicted };
    }

    possible : (c : Case) → IsPossible net marks (this c) more table
    possible c = elim (case_table c) [
      | inl is ↦ is
      | inr is ↦ absurd (is.not_cube (cube_from (λ column. get_or v column X) (this c).cube.items (here.here c).cube))
    ]

    chosen : (n : ℕ) → n < length net.gates → is_marked marks n ≡ true → Below (value_by seen (operand_at table (gate_sig net n))) (seen (gate_sig net n))
    chosen n l e =
        let head = parts.heads_are.each n l in
        let root = root_is n l e in
        let leaf = operand_at table (gate_sig net n) in
        subst (Below (value_by seen leaf)) (sym (now_head net valid heads more parts.heads_are.width v wide n l))
        (shown_root seen (get_or parts.roots n None) root.operand leaf (gate_at net n).name (get_or heads n no_gate) root.is
        (subst (λ (o : Operand). Below (value_by seen o) (value_by seen root.operand))
        (let w = parts.are.width in let i = here.within in get_or-map (λ (t : List Operand). operand_at t (gate_sig net n)) parts.tables here.number [] leaf (omega arith))
        (root.under seen (agrees net valid heads more parts.heads_are.width v wide) here.number leaf here.within only))
        (head.shown e))

    tells_by : (cs : List Case) → cs ≡ cases → TellsAsMuchAt net (split_by net heads more) v
    tells_by [] e = absurd (let n = ap length e in let i = here.within in omega arith)
    tells_by (c ∷ cs) e =
        let is = possible c in
        tells_as_much net valid heads more parts.heads_are.width v wide (is_marked marks) (fix net is.given)
        (λ s b k.
        Below-at (wire (fix net is.given) s) (wire (fix net v) s) b
        (EachBelow-at (fix net is.given) (fix net v) s.0 (fix_is_monotone net is.given v (is.below v wide (here.here c)))) k)
        table is.is (λ n l k. (parts.heads_are.each n l).kept k) chosen

    tells : TellsAsMuchAt net (split_by net heads more) v
    tells = tells_by cases refl

  pub made_is_split : IsSplitNetlist net marks cases (split_by net heads more)
  made_is_split = record {
    valid = new_is_netlist net valid heads more parts.heads_are.width fits_more parts.chosen.are (λ i l. (parts.heads_are.each i l).named) head_sound;
    interface = interface_kept net valid heads more parts.heads_are.width fits_more parts.chosen.are (λ i l. (parts.heads_are.each i l).named) head_sound;
    size = (let f = few_more in let e = length-append heads more in let w = parts.heads_are.width in omega arith);
    tells = tells;
  }

pub split_is : (net : Parts) → IsNetlist net → (marks : List Bool) (cases : List Case) (gates : List Gate) → IsSplit net marks cases gates → All (IsUsable (first_gate net)) cases → length net.inputs ≤ 4000000000 →
    length net.gates + length net.latches + 2 * (length cases * length (copied_gates net marks)) ≤ MAX_REWRITTEN_ITEMS → IsSplitNetlist net marks cases (with_gates net gates net.outputs)
split_is net valid marks cases gates h usable inputs small =
    subst (λ (gs : List Gate). IsSplitNetlist net marks cases (with_gates net gs net.outputs)) (sym h.is)
    (made_is_split net valid marks cases h.heads h.more h.parts usable inputs small)
