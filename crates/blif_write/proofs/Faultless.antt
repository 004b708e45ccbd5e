-- No line of written netlists has a fault.
use Rattle.std.proofs.Common.{◌≡◌, ◌&&◌, ◌||◌, ℕ, ◌+◌, ◌≤◌, Bool, true, false, List, [], ◌∷◌, ◌++◌, length, map, refl, sym, ap, ◌∙◌, subst, append_assoc, arith, eq-eqb, if◌then◌else◌, None, Some, option_map}
use Rattle.cyc_base.specs.declared.limits.TheConstants.{MAX_PINS}
use Rattle.blif_write.proofs.Common.{All, flat_map, Option, length-map, All-head, All-tail, IsCover, Lit, Init, Gate, Parts, numbered, signal_name, clock_lines, control_words, init_word, latch_line, latch_lines, lit_byte, plane_word, lits_words, row_line, gate_lines, all_gate_lines, lines_of}
use Rattle.std.specs.Prelude.{codes, bytes_eq}
use Rattle.std.specs.List.{list_all, AllByRecursion, IsDistinct}
use Rattle.std.proofs.lemmas.Bool.{or_parts}
use Rattle.std.proofs.lemmas.Map.Keys.{IsDistinct-head, IsDistinct-tail}
use Rattle.std.proofs.lemmas.List.{length-append}
use Rattle.cover_logic.specs.declared.row.Row.{Row as CoverRow}
use Rattle.netlist.specs.declared.parts.Clock.{Clock as ClockOf}
use Rattle.netlist.specs.declared.parts.Init.TheVariants as starts
use Rattle.netlist.specs.declared.parts.Latch.{Latch as LatchOf}
use Rattle.blif_text.specs.Texts.{Line}
use Rattle.blif_read.specs.declared.kind.LineKind.TheVariants.{Row}
use Rattle.blif_read.specs.declared.fault.BlifFault.{BlifFault}
use Rattle.blif_read.specs.Kinds.{kind, arguments, pin_count, is_on, kind_of, model_name}
use Rattle.blif_read.specs.declared.fault.BlifFault.TheVariants.{ModelTwice}
use Rattle.blif_read.specs.Places.{is_model, is_end, in_model, cover_line, first_row, place_behind, is_model_name}
use Rattle.blif_read.specs.Laws.{ends_model}
use Rattle.flatten.specs.Instances.{is_among}
use Rattle.flatten.proofs.Names.{bytes_sym}
use Rattle.flatten.proofs.Libraries.{none_old}
use Rattle.blif_write.proofs.LineLemmas.{all_lines, lines_before}
use Rattle.blif_read.specs.Faults.{names_fault, latch_fault, is_lit, is_plane, is_row_of, differs, row_fault, fault_at, fault, or_else, first_fault}

abbrev pub line : ℕ → List (List ℕ) → Line
line n words = record { number = n; words = words }

-- the models of these lines have these names
abbrev pub HaveModels : List (List ℕ) → List Line → Type 0
HaveModels taken earlier = (name : List ℕ) → is_model_name name earlier ≡ is_among taken name

-- behind these lines a model is in progress
record InModel (taken : List (List ℕ)) (earlier : List Line) : Type 0 where
  progress : in_model earlier ≡ true
  models : HaveModels taken earlier

-- Behind any lines whose models have these names, of which the last is in progress, these lines have no fault.
record Passes (taken : List (List ℕ)) (ws : List (List (List ℕ))) : Type 0 where
  none : (n : ℕ) (earlier : List Line) → InModel taken earlier → first_fault earlier (numbered n ws) ≡ None

-- The same whether or not a model is in progress.
record Follows (taken : List (List ℕ)) (ws : List (List (List ℕ))) : Type 0 where
  none : (n : ℕ) (earlier : List Line) → HaveModels taken earlier → first_fault earlier (numbered n ws) ≡ None

inside : (t : Bool) (f g : Option BlifFault) → t ≡ true → f ≡ None → (if t then f else g) ≡ None
inside t f g e h = grind arith

or_none : (f g : Option BlifFault) → f ≡ None → g ≡ None → or_else f g ≡ None
or_none f g e h = grind arith

-- a line that neither begins nor ends a model
still_in : (taken : List (List ℕ)) (at : Line) (earlier : List Line) → ends_model (kind at) ≡ false → InModel taken earlier → InModel taken (at ∷ earlier)
still_in taken at earlier e within =
    let both = or_parts (is_model (kind at)) (is_end (kind at)) e in
    record {
      progress = rw (both.0, both.1) within.progress;
      models = λ name. rw both.0 (within.models name);
    }

module _ (taken : List (List ℕ)) where
  -- such a line without a fault
  step : (words : List (List ℕ)) (ws : List (List (List ℕ)))
      → ((n : ℕ) (earlier : List Line) → in_model earlier ≡ true → fault (line n words) earlier ≡ None)
      → ((n : ℕ) → ends_model (kind (line n words)) ≡ false)
      → Passes taken ws → Passes taken (words ∷ ws)
  step words ws fine stays rest = record {
    none = λ n earlier within. or_none _ _ (fine n earlier within.progress) (rest.none (n + 1) (line n words ∷ earlier) (still_in taken (line n words) earlier (stays n) within));
  }

  inputs_pass : (names : List (List ℕ)) (ws : List (List (List ℕ))) → Passes taken ws → Passes taken ((codes ".inputs" ∷ names) ∷ ws)
  inputs_pass names ws = step (codes ".inputs" ∷ names) ws (λ n earlier m. inside _ _ _ m refl) (λ n. refl)

  outputs_pass : (names : List (List ℕ)) (ws : List (List (List ℕ))) → Passes taken ws → Passes taken ((codes ".outputs" ∷ names) ∷ ws)
  outputs_pass names ws = step (codes ".outputs" ∷ names) ws (λ n earlier m. inside _ _ _ m refl) (λ n. refl)

  clock_line_passes : (name : List ℕ) (ws : List (List (List ℕ))) → Passes taken ws → Passes taken ((codes ".clock" ∷ name ∷ []) ∷ ws)
  clock_line_passes name ws = step (codes ".clock" ∷ name ∷ []) ws (λ n earlier m. inside _ _ _ m refl) (λ n. refl)

  clock_passes : (net : Parts) (clock : Option ClockOf) (ws : List (List (List ℕ))) → Passes taken ws → Passes taken (clock_lines net clock ++ ws)
  clock_passes net clock ws rest = grind (arith, clock_line_passes)

  end_passes : (ws : List (List (List ℕ))) → Follows taken ws → Passes taken ((codes ".end" ∷ []) ∷ ws)
  end_passes ws rest = record {
    none = λ n earlier within. or_none _ _ (inside _ _ _ within.progress refl) (rest.none (n + 1) (line n (codes ".end" ∷ []) ∷ earlier) within.models);
  }

  model_follows : (name : List ℕ) (ws : List (List (List ℕ))) → is_among taken name ≡ false → Passes (name ∷ taken) ws → Follows taken ((codes ".model" ∷ name ∷ []) ∷ ws)
  model_follows name ws new rest = record {
    none = λ n earlier models.
        or_none _ _ (ap (λ t. if t then Some (ModelTwice n) else None) (models name ∙ new))
        (rest.none (n + 1) (line n (codes ".model" ∷ name ∷ []) ∷ earlier)
        (record { progress = refl; models = λ other. ap (λ t. bytes_eq other name || t) (models other) }));
  }

-- Latches.

latch_fine : (n : ℕ) (from name : List ℕ) (clock : Option ClockOf) (clocked : Bool) (init : Init)
    → latch_fault n (from ∷ name ∷ (control_words clock clocked ++ init_word init ∷ [])) ≡ None
latch_fine n from name clock clocked init = grind arith

latches_pass : (taken : List (List ℕ)) (net : Parts) (latches : List LatchOf) (ws : List (List (List ℕ))) → Passes taken ws → Passes taken (map (latch_line net) latches ++ ws)
latches_pass taken net [] ws rest = rest
latches_pass taken net (latch ∷ latches) ws rest =
    step taken (latch_line net latch) (map (latch_line net) latches ++ ws)
    (λ n earlier m. inside _ _ _ m (latch_fine n (signal_name net latch.from) latch.name net.clock latch.clocked latch.init))
    (λ n. refl)
    (latches_pass taken net latches ws rest)

-- Rows.

-- behind these lines a cover with so many pins is open, whose rows so far are of this plane
record InCover (taken : List (List ℕ)) (earlier : List Line) (pins : ℕ) (plane : Bool) : Type 0 where
  model : InModel taken earlier
  width : option_map (λ names. pin_count (arguments names)) (cover_line earlier) ≡ Some pins
  first : differs (option_map is_on (first_row earlier)) plane ≡ false

plane_row : (n : ℕ) (plane : Bool) → kind (line n (plane_word plane ∷ [])) ≡ Row
plane_row n plane = grind arith

lit_row : (lit : Lit) (bytes : List ℕ) → kind_of (lit_byte lit ∷ bytes) ≡ Row
lit_row lit bytes = grind arith

pub row_kind : (n : ℕ) (plane : Bool) (lits : List Lit) → kind (line n (lits_words lits ++ plane_word plane ∷ [])) ≡ Row
row_kind n plane [] = plane_row n plane
row_kind n plane (lit ∷ lits) = lit_row lit (map lit_byte lits)

plane_on : (plane : Bool) → bytes_eq (plane_word plane) (codes "1") ≡ plane
plane_on plane = grind arith

pub row_on : (n : ℕ) (plane : Bool) (lits : List Lit) → is_on (line n (lits_words lits ++ plane_word plane ∷ [])) ≡ plane
row_on n plane [] = plane_on plane
row_on n plane (lit ∷ lits) = plane_on plane

is_plane_word : (plane : Bool) → is_plane (plane_word plane) ≡ true
is_plane_word plane = grind arith

lit_fine : (lit : Lit) → is_lit (lit_byte lit) ≡ true
lit_fine lit = grind arith

lits_fine : (lits : List Lit) → list_all is_lit (map lit_byte lits) ≡ true
lits_fine [] = refl
lits_fine (lit ∷ lits) = ap (λ t. t && list_all is_lit (map lit_byte lits)) (lit_fine lit) ∙ lits_fine lits

all_three : (a b c : Bool) → a ≡ true → b ≡ true → c ≡ true → (a && b && c) ≡ true
all_three a b c e f g = rw (e, f, g) refl

row_fine : (plane : Bool) (lits : List Lit) → is_row_of (length lits) (lits_words lits ++ plane_word plane ∷ []) ≡ true
row_fine plane [] = is_plane_word plane
row_fine plane (lit ∷ lits) =
    all_three _ _ _ (eq-eqb _ _ (length-map (lit ∷ lits) lit_byte)) (lits_fine (lit ∷ lits)) (is_plane_word plane)

fits : (pins : Option ℕ) (first : Option Bool) (width : ℕ) (plane : Bool) (at : Line) → pins ≡ Some width
    → is_row_of width at.words ≡ true → is_on at ≡ plane → differs first plane ≡ false → row_fault pins first at ≡ None
fits pins first width plane at e fine on same = rw (e, fine, on, same) refl

row_fault_none : (taken : List (List ℕ)) (n : ℕ) (earlier : List Line) (pins : ℕ) (plane : Bool) (row : CoverRow) → length row.lits ≡ pins
    → InCover taken earlier pins plane → fault (line n (row_line plane row)) earlier ≡ None
row_fault_none taken n earlier pins plane row e opened =
    let at = line n (row_line plane row) in
    let P : ℕ → Type 0 = λ k. is_row_of k (row_line plane row) ≡ true in
    ap (λ k. fault_at k at (place_behind earlier) (is_model_name (model_name at) earlier)) (row_kind n plane row.lits)
    ∙ inside _ _ _ opened.model.progress
    (fits _ _ pins plane at opened.width (subst P e (row_fine plane row.lits)) (row_on n plane row.lits) opened.first)

first_still : (at : Line) (earlier : List Line) (plane : Bool) → kind at ≡ Row → is_on at ≡ plane
    → differs (option_map is_on (first_row earlier)) plane ≡ false → differs (option_map is_on (first_row (at ∷ earlier))) plane ≡ false
first_still at earlier plane k on first = grind arith

next_row : (taken : List (List ℕ)) (at : Line) (earlier : List Line) (pins : ℕ) (plane : Bool) → kind at ≡ Row → is_on at ≡ plane
    → InCover taken earlier pins plane → InCover taken (at ∷ earlier) pins plane
next_row taken at earlier pins plane k on opened = record {
  model = still_in taken at earlier (ap ends_model k) opened.model;
  width = rw k opened.width;
  first = first_still at earlier plane k on opened.first;
}

rows_pass : (taken : List (List ℕ)) (pins : ℕ) (plane : Bool) (rows : List CoverRow) (ws : List (List (List ℕ))) → All (λ row. length row.lits ≡ pins) rows
    → Passes taken ws → (n : ℕ) (earlier : List Line) → InCover taken earlier pins plane
    → first_fault earlier (numbered n (map (row_line plane) rows ++ ws)) ≡ None
rows_pass taken pins plane [] ws width rest n earlier opened = rest.none n earlier opened.model
rows_pass taken pins plane (row ∷ rows) ws width rest n earlier opened =
    let W = λ (row : CoverRow). length row.lits ≡ pins in
    or_none _ _ (row_fault_none taken n earlier pins plane row (All-head W row rows width) opened)
    (rows_pass taken pins plane rows ws (All-tail W row rows width) rest (n + 1) (line n (row_line plane row) ∷ earlier)
    (next_row taken (line n (row_line plane row)) earlier pins plane (row_kind n plane row.lits) (row_on n plane row.lits) opened))

-- Gates.

few : (n : ℕ) (word : List ℕ) (words : List (List ℕ)) → length words ≤ MAX_PINS → names_fault n (word ∷ words) ≡ None
few n word words l = grind arith

names_fine : (n : ℕ) (words : List (List ℕ)) (last : List ℕ) → length words ≤ MAX_PINS → names_fault n (words ++ last ∷ []) ≡ None
names_fine n [] last l = refl
names_fine n (word ∷ words) last l = few n word (words ++ last ∷ []) (omega (arith, length-append words (last ∷ [])))

pub counted : (words : List (List ℕ)) (last : List ℕ) → pin_count (words ++ last ∷ []) ≡ length words
counted words last = omega (arith, length-append words (last ∷ []))

-- what is asked of a gate: its cover is one, and has as many pins
pub record IsWhole (gate : Gate) : Type 0 where
  pub cover : IsCover gate.cover
  pub width : length gate.pins ≡ gate.cover.pins

gate_passes : (taken : List (List ℕ)) (net : Parts) (gate : Gate) (ws : List (List (List ℕ))) → IsWhole gate → Passes taken ws → Passes taken (gate_lines net gate ++ ws)
gate_passes taken net gate ws whole rest = record {
  none = λ n earlier within.
      let names = map (signal_name net) gate.pins in
      let count : length names ≡ gate.cover.pins = length-map gate.pins (signal_name net) ∙ whole.width in
      let head = line n (codes ".names" ∷ (names ++ gate.name ∷ [])) in
      or_none _ _
      (inside _ _ _ within.progress (names_fine n names gate.name (omega (arith, count, whole.cover.pins))))
      (rows_pass taken gate.cover.pins gate.cover.plane gate.cover.rows ws whole.cover.width rest (n + 1) (head ∷ earlier)
      (record { model = still_in taken head earlier refl within; width = ap Some (counted names gate.name ∙ count); first = refl }));
}

gates_pass : (taken : List (List ℕ)) (net : Parts) (gates : List Gate) (ws : List (List (List ℕ))) → All IsWhole gates → Passes taken ws
    → Passes taken (flat_map (gate_lines net) gates ++ ws)
gates_pass taken net [] ws whole rest = rest
gates_pass taken net (gate ∷ gates) ws whole rest =
    let P : List (List (List ℕ)) → Type 0 = λ lines. Passes taken lines in
    subst P (sym (append_assoc (gate_lines net gate) (flat_map (gate_lines net) gates) ws))
    (gate_passes taken net gate (flat_map (gate_lines net) gates ++ ws) (All-head IsWhole gate gates whole)
    (gates_pass taken net gates ws (All-tail IsWhole gate gates whole) rest))

-- The whole text.

net_follows : (taken : List (List ℕ)) (net : Parts) (ws : List (List (List ℕ))) → All IsWhole net.gates → is_among taken net.name ≡ false
    → Follows (net.name ∷ taken) ws → Follows taken (lines_of net ++ ws)
net_follows taken net ws whole new rest =
    let P : List (List (List ℕ)) → Type 0 = λ lines. Follows taken lines in
    let names = net.name ∷ taken in
    subst P (sym (lines_before net ws))
    (model_follows taken net.name _ new (inputs_pass names net.inputs _ (outputs_pass names (map (signal_name net) net.outputs) _
    (clock_passes names net net.clock _ (latches_pass names net net.latches _ (gates_pass names net net.gates _ whole (end_passes names ws rest)))))))

abbrev pub HasWholeGates : Parts → Type 0
HasWholeGates net = All IsWhole net.gates

-- names that differ, and none of which is among these
nets_follow : (taken : List (List ℕ)) (nets : List Parts) → All HasWholeGates nets → AllByRecursion (λ name. is_among taken name ≡ false) (map (λ net. net.name) nets)
    → IsDistinct bytes_eq (map (λ net. net.name) nets) → Follows taken (all_lines nets)
nets_follow taken [] whole new apart = record { none = λ n earlier models. refl }
nets_follow taken (net ∷ nets) whole new apart =
    let names : List (List ℕ) = map (λ (net : Parts). net.name) nets in
    net_follows taken net (all_lines nets) (All-head HasWholeGates net nets whole) new.0
    (nets_follow (net.name ∷ taken) nets (All-tail HasWholeGates net nets whole)
    (still_new names (IsDistinct-head bytes_eq net.name names apart) new.1) (IsDistinct-tail bytes_eq net.name names apart))
  where
    still_new : (names : List (List ℕ)) → AllByRecursion (λ y. bytes_eq net.name y ≡ false) names → AllByRecursion (λ y. is_among taken y ≡ false) names
        → AllByRecursion (λ y. is_among (net.name ∷ taken) y ≡ false) names
    still_new [] a b = tt
    still_new (y ∷ ys) a b = (ap (λ t. t || is_among taken y) (bytes_sym y net.name ∙ a.0) ∙ b.0, still_new ys a.1 b.1)

pub no_fault : (nets : List Parts) → All HasWholeGates nets → IsDistinct bytes_eq (map (λ net. net.name) nets) → first_fault [] (numbered 1 (all_lines nets)) ≡ None
no_fault nets whole apart = (nets_follow [] nets whole (none_old (map (λ net. net.name) nets)) apart).none 1 [] (λ name. refl)
