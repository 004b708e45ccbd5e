-- The copies of a loop's gates after a sweep.
use Rattle.std.proofs.Common.{◌≡◌, inl, inr, ℕ, zero, suc, ◌<◌, ◌+◌, ◌==◌, leb, Bool, true, false, not, if◌then◌else◌, List, [], ◌∷◌, ◌++◌, length, map, take, get_or, Contains, refl, sym, ap, subst, ◌∙◌, arith, append_assoc, true≢false}
use Rattle.ternary_clauses.proofs.Common.{cases_lt, and_parts, and_from, length-map, length_push, get_or_append_left, All-nil, All-push, All-head, All-tail, All-get_or, All-weaker, All, AllZip, Sig, Trit, X, Gate, Parts, no_gate, gate_at, wire, is_cut, first_gate, gate_of, value_in, Formula, Rails, says, IsModel, IsFormula, HasModelFrom, Grows, Reads, ReadsAll, AreWithin, AreRailsOf, value_read, no_rails, AreCopies, IsSeen, get_or_push, take_more, rails_at, CopiedLoop, AreCopied, TakesValue, HasNewRails}
use Rattle.std.proofs.lemmas.Bool.Decides.{nat_tests}
use Rattle.std.proofs.lemmas.Bool.{leb-true, le-leb, eq-eqb}
use Rattle.std.proofs.lemmas.List.{get_or_past, get_or_default}
use Rattle.std.proofs.lemmas.List.FromFn.{get_or-map-range_with_len}
use Rattle.std.proofs.lemmas.List.Elements.{Contains-get_or}
use Rattle.std.proofs.lemmas.Slice.Zip.{all_zipped_more}
use Rattle.std.specs.List.{range_with_len}
use Rattle.netlist.specs.Fixpoint.{fix}
use Rattle.netlist.specs.Netlists.{IsNetlist}
use Rattle.loops.specs.declared.structure.Blocks.{Blocks}
use Rattle.loops.specs.declared.structure.Cut.{Cut}
use Rattle.loops.specs.Blocks.{AreBlocksOf, block_at, home_of}
use Rattle.loops.specs.Cuts.{IsCutOf, in_one_loop, loops_by}
use Rattle.loops.specs.Placing.{Rise}
use Rattle.loops.specs.Sweeps.{in_loop_of, pin_in, gate_in, sweep}
use Rattle.loops.proofs.OrderedSweeps.{sweep_of_one_loop}
use Rattle.loops.proofs.OrderLemmas.{block_rises, block_within}
use Rattle.loops.proofs.Sweeps.{sweep_each}
use Rattle.loops.proofs.Told.{blocks_tell_loops, blocks_have_loops, gate_home}
use Rattle.ternary_clauses.specs.Rails.{unknown_rails}
use Rattle.ternary_clauses.specs.Sweeps.{ReadsPlaces, ReadsOutside, SaysSweep, HasCopies, IsCopiedLoop, IsCopyWithin, IsCopyOf, ReadsSeen, value_seen, BindsCopy}
use Rattle.ternary_clauses.proofs.NodeLemmas.{Reads-unique}
use Rattle.ternary_clauses.proofs.ReadingLemmas.{Reads-more, All-within-more}
use Rattle.clause_formulas.proofs.GrowthLemmas.{Grows-refl, Grows-chain, model-here, model-after}
use Rattle.ternary_clauses.proofs.KeptLemmas.{rails-kept}

pub unknown-read : (f : Formula) (m : List Bool) → IsFormula f → IsModel m f → Reads m unknown_rails X
unknown-read f m formula h = let e : says m 1 ≡ false = ap not (formula.truth m h) in record { one = e; zero = e; known = e }

-- ---- new rails

pub copies-none : (f : Formula) → IsFormula f → AreCopies f f [] 0
copies-none f formula = record {
  grows = Grows-refl f formula;
  within = All-nil (AreWithin f.variables);
  size = refl;
  own = λ i less. absurd (omega (arith, less));
  complete = λ m values len h.
      let has : HasModelFrom f m = model-here f m len h in
      record { more = has.more; width = has.width; model = has.model; reads = λ i less. absurd (omega (arith, less)) };
}

module _ (start old new : Formula) (copies : List Rails) (k : ℕ) (r : Rails) (was : AreCopies start old copies k) (made : HasNewRails old new false r) where
  early : (i : ℕ) → i < k → rails_at (copies ++ r ∷ []) i ≡ rails_at copies i
  early i low = get_or_append_left copies (r ∷ []) no_rails i (let x = was.size in omega (arith, low, x))

  -- what holds of the copies before and of this one holds of all of them
  each : (P : ℕ → Rails → Type 0) → ((i : ℕ) → i < k → P i (rails_at copies i)) → P k r → (i : ℕ) → i < k + 1 → P i (rails_at (copies ++ r ∷ []) i)
  each P before here i below = grind (arith, cases_lt i k, early i, get_or_push copies r no_rails i)

  pub copies-step : AreCopies start new (copies ++ r ∷ []) (k + 1)
  copies-step = record {
    grows = Grows-chain was.grows made.grows;
    within = All-push (AreWithin new.variables) copies r (All-within-more old.variables new.variables copies made.grows.more was.within) made.own.within;
    size = (let x = was.size in let y = length_push copies r in omega (arith, x, y));
    own = each (λ i. AreRailsOf new) (λ i low. rails-kept made.grows (was.own i low)) made.own;
    complete = λ m values len h.
        let had : HasCopies old copies k m values = was.complete m values len h in
        let long = m ++ had.more in
        let has : TakesValue new r (m ++ had.more) (values k) = made.takes long (values k) (λ e. absurd (true≢false (sym e))) had.width had.model in
        let reads : (i : ℕ) → i < k + 1 → Reads ((m ++ had.more) ++ has.more) (rails_at (copies ++ r ∷ []) i) (values i) =
        each (λ i q. Reads (long ++ has.more) q (values i)) (λ i low. Reads-more long has.more (rails_at copies i) (values i) (rw had.width (was.own i low).within) (had.reads i low)) has.reads in
        record {
          more = had.more ++ has.more;
          width = rw (append_assoc m had.more has.more) at has.width;
          model = rw (append_assoc m had.more has.more) at has.model;
          reads = λ i below. rw (append_assoc m had.more has.more) at (reads i below);
        };
  }

-- ---- what gates see

seen-read : (c : CopiedLoop) (m : List Bool) (see : Sig → Trit) (pins : List Sig) (seen : List Rails) → All (λ pin. (r : Rails) → IsSeen c pin r → Reads m r (see pin)) pins → AllZip (IsSeen c) pins seen → ReadsAll m seen (map see pins)
seen-read c m see [] [] all zip = tt
seen-read c m see [] (r ∷ seen) all zip = absurd zip
seen-read c m see (pin ∷ pins) [] all zip = absurd zip
seen-read c m see (pin ∷ pins) (r ∷ seen) all zip = (
  All-head (λ p. (r : Rails) → IsSeen c p r → Reads m r (see p)) pin pins all r zip.0,
  seen-read c m see pins seen (All-tail (λ p. (r : Rails) → IsSeen c p r → Reads m r (see p)) pin pins all) zip.1,
)

-- one pin more
pub seen-step : (c : CopiedLoop) (pins : List Sig) (i : ℕ) (none : Sig) (seen more : List Rails) (r : Rails) → i < length pins → more ≡ seen ++ r ∷ []
    → AllZip (IsSeen c) (take i pins) seen → IsSeen c (get_or pins i none) r → AllZip (IsSeen c) (take (i + 1) pins) more
seen-step c pins i none seen more r inside items zip is = grind (arith, take_more pins i none inside, all_zipped_more (IsSeen c) (take i pins) seen (get_or pins i none) r zip is)

-- ---- copies that are bound

pub copied-none : (c : CopiedLoop) (f : Formula) → IsFormula f → AreCopied c f f 0
copied-none c f formula = grind (arith, Grows-refl f formula, model-here f)

-- values of further variables change nothing of what rails are read as
Seen-more : (c : CopiedLoop) (m more : List Bool) (see : ℕ → Sig → Trit) → ((pin : Sig) (r : Rails) → IsSeen c pin r → AreWithin (length m) r) → ReadsSeen c m see → ReadsSeen c (m ++ more) see
Seen-more c m more see inside reads i less =
    All-weaker (λ pin. (r : Rails) → IsSeen c pin r → Reads m r (see i pin)) (λ pin. (r : Rails) → IsSeen c pin r → Reads (m ++ more) r (see i pin))
    (λ pin here r is. Reads-more m more r (see i pin) (inside pin r is) (here r is)) (gate_at c.net (get_or c.gates i 0)).pins (reads i less)

rails-in : (v : ℕ) (xs : List Rails) (i : ℕ) → 0 < v → All (AreWithin v) xs → AreWithin v (get_or xs i no_rails)
rails-in v xs i some all = grind (arith, cases_lt i (length xs), All-get_or (AreWithin v) xs i no_rails, get_or_past xs i no_rails)

seen-within : (c : CopiedLoop) (v : ℕ) → 0 < v → IsCopyWithin v c → (pin : Sig) (r : Rails) → IsSeen c pin r → AreWithin v r
seen-within c v some within pin r (inl out) = rw out.is (rails-in v c.rails pin.0 some within.rails)
seen-within c v some within pin r (inr one) = grind (arith, rails-in v c.before one.place some within.before, rails-in v c.after one.place some within.after)

-- rails of a formula are those of one that it grew to
pub copy-kept : (c : CopiedLoop) (old new : Formula) → Grows old new → IsCopyOf old c → IsCopyOf new c
copy-kept c old new grows is = record {
  formula = grows.formula;
  within = record {
    rails = All-within-more old.variables new.variables c.rails grows.more is.within.rails;
    before = All-within-more old.variables new.variables c.before grows.more is.within.before;
    after = All-within-more old.variables new.variables c.after grows.more is.within.after;
  };
  own = λ i inside. rails-kept grows (is.own i inside);
}

module _ (c : CopiedLoop) (valid : IsNetlist c.net) (proper : IsCopiedLoop c) (start old new : Formula) (k : ℕ) (inside : k < length c.gates) (is : IsCopyOf start c) (was : AreCopied c start old k) (bound : BindsCopy c k old new) where
  pin-width : (see : ℕ → Sig → Trit) → length (map (see k) (gate_at c.net (get_or c.gates k 0)).pins) ≡ (gate_at c.net (get_or c.gates k 0)).cover.pins
  pin-width see = length-map (gate_at c.net (get_or c.gates k 0)).pins (see k) ∙ All-get_or (λ (g : Gate). length g.pins ≡ g.cover.pins) c.net.gates (get_or c.gates k 0) no_gate (proper.inside k inside) valid.pin_counts

  pins-seen : (m : List Bool) (see : ℕ → Sig → Trit) → ReadsSeen c m see → ReadsAll m bound.pins (map (see k) (gate_at c.net (get_or c.gates k 0)).pins)
  pins-seen m see reads = seen-read c m (see k) (gate_at c.net (get_or c.gates k 0)).pins bound.pins (reads k inside) bound.seen

  pub copied-step : AreCopied c start new (k + 1)
  copied-step = record {
    grows = Grows-chain was.grows bound.says_gate.grows;
    reads = λ m see h reads i below. elim (cases_lt i k) [
      | inl low ↦ was.reads m see (bound.says_gate.grows.sound m h) reads i low
      | inr high ↦
          let here : k ≡ i = omega (arith, below, high) in
          rw (← here) (bound.says_gate.reads m (map (see k) (gate_at c.net (get_or c.gates k 0)).pins) (pin-width see) h (pins-seen m see reads))
    ];
    complete = λ m see len h reads still.
        let had : HasModelFrom old m = was.complete m see len h reads still in
        model-after new m had.more
        (bound.says_gate.complete (m ++ had.more) (map (see k) (gate_at c.net (get_or c.gates k 0)).pins) (pin-width see) had.width had.model
        (pins-seen (m ++ had.more) see (Seen-more c m had.more see (λ pin r seen. rw len (seen-within c start.variables is.formula.some is.within pin r seen)) reads))
        (Reads-more m had.more (rails_at c.after k) (value_seen c see k) (rw len (rails-in start.variables c.after k is.formula.some is.within.after)) (still k inside)));
  }

-- ---- a whole sweep

-- the value that the copy of a gate is read as
copy_value : List Bool → List ℕ → List Rails → ℕ → Trit
copy_value m [] rs n = X
copy_value m (g ∷ gates) [] n = X
copy_value m (g ∷ gates) (r ∷ rs) n = if g == n then value_read m r else copy_value m gates rs n

differ : (a b : ℕ) → a < b → (a == b) ≡ false
differ a b less = grind (arith, nat_tests)

rise-tail : (g : ℕ) (gates : List ℕ) → Rise (g ∷ gates) → Rise gates
rise-tail g gates rise i j less inside = rise (suc i) (suc j) (omega (arith, less)) (omega (arith, inside))

copy-at : (m : List Bool) (gates : List ℕ) (rs : List Rails) (i : ℕ) → Rise gates → length rs ≡ length gates → i < length gates → copy_value m gates rs (get_or gates i 0) ≡ value_read m (get_or rs i no_rails)
unfolding copy_value
copy-at m [] rs i rise size less = absurd (omega (arith, less))
copy-at m (g ∷ gates) [] i rise size less = absurd (omega (arith, size))
copy-at m (g ∷ gates) (r ∷ rs) zero rise size less = rw (eq-eqb g g refl) refl
copy-at m (g ∷ gates) (r ∷ rs) (suc i) rise size less =
    let above : g < get_or gates i 0 = rise zero (suc i) (omega arith) less in
    grind (arith, differ g (get_or gates i 0) above, copy-at m gates rs i (rise-tail g gates rise), rise-tail g gates rise)

abbrev pub copy_of : Parts → (gates : List ℕ) (cut : List Bool) (rails before after : List Rails) → CopiedLoop
copy_of net gates cut rails before after = record { net = net; gates = gates; cut = cut; rails = rails; before = before; after = after }

-- the copy of the loop at a place of the blocks
abbrev pub loop_copy : Parts → Blocks → Cut → ℕ → (rails before after : List Rails) → CopiedLoop
loop_copy net blocks cut block rails before after = copy_of net (block_at blocks block).gates cut.wires rails before after

module _ (net : Parts) (blocks : Blocks) (are : AreBlocksOf net blocks) (cut : Cut) (cut_is : IsCutOf net cut) (block : ℕ) (bl : block < length blocks.list) (looped : (block_at blocks block).looped ≡ true) where
  home-looped : (n : ℕ) → home_of blocks n ≡ block → (block_at blocks (home_of blocks n)).looped ≡ true
  home-looped n home = subst (λ b. (block_at blocks b).looped ≡ true) (sym home) looped

  same-to : (n g : ℕ) → Contains (block_at blocks block).gates n → in_one_loop blocks n g ≡ true → Contains (block_at blocks block).gates g
  same-to n g c e = grind (arith, gate_home net blocks are block n bl c, blocks_have_loops net blocks cut are n, home-looped n)

  same-from : (n g : ℕ) → Contains (block_at blocks block).gates n → Contains (block_at blocks block).gates g → in_one_loop blocks n g ≡ true
  same-from n g c d = grind (arith, gate_home net blocks are block n bl c, blocks_have_loops net blocks cut are n, home-looped n)

  module _ (rails before after : List Rails) (m : List Bool) (v c s : List Trit) (outside : ReadsOutside net (loops_by blocks cut) (block_at blocks block).gates rails m v)
      (reads_before : ReadsPlaces (block_at blocks block).gates before m c) (reads_after : ReadsPlaces (block_at blocks block).gates after m s) where
    see-one : (n : ℕ) → Contains (block_at blocks block).gates n → (pin : Sig) (r : Rails) → IsSeen (loop_copy net blocks cut block rails before after) pin r → (in_loop_of net (loops_by blocks cut) n pin ≡ false → Reads m (rails_at rails pin.0) (wire (fix net v) pin)) → Reads m r (pin_in net (loops_by blocks cut) v c s n pin)
    see-one n listed pin r (inl out) at =
        let apart : in_loop_of net (loops_by blocks cut) n pin ≡ false = no-loop (in_loop_of net (loops_by blocks cut) n pin) refl in
        rw (out.is, apart) (at apart)
      where
        no-loop : (b : Bool) → in_loop_of net (loops_by blocks cut) n pin ≡ b → in_loop_of net (loops_by blocks cut) n pin ≡ false
        no-loop b e = grind (arith, and_parts, leb-true, same-to)
    see-one n listed pin r (inr one) at =
        let there : Contains (block_at blocks block).gates (gate_of net pin) = subst (Contains (block_at blocks block).gates) one.here (Contains-get_or (block_at blocks block).gates one.place 0 one.within) in
        let inside : in_loop_of net (loops_by blocks cut) n pin ≡ true = and_from (leb (first_gate net) pin.0) (in_one_loop blocks n (gate_of net pin)) (le-leb (first_gate net) pin.0 one.gate) (same-from n (gate_of net pin) listed there) in
        rw (one.is, inside) (by (is_cut cut.wires (gate_of net pin)))
      where
        by : (b : Bool) → Reads m (if b then rails_at before one.place else rails_at after one.place) (if b then value_in c (gate_of net pin) else value_in s (gate_of net pin))
        by b = grind arith

    sees : ReadsSeen (loop_copy net blocks cut block rails before after) m (λ i pin. pin_in net (loops_by blocks cut) v c s (get_or (block_at blocks block).gates i 0) pin)
    sees i less =
        let n = get_or (block_at blocks block).gates i 0 in
        let listed : Contains (block_at blocks block).gates (get_or (block_at blocks block).gates i 0) = Contains-get_or (block_at blocks block).gates i 0 less in
        All-weaker (λ pin. in_loop_of net (loops_by blocks cut) n pin ≡ false → Reads m (rails_at rails pin.0) (wire (fix net v) pin))
        (λ pin. (r : Rails) → IsSeen (loop_copy net blocks cut block rails before after) pin r → Reads m r (pin_in net (loops_by blocks cut) v c s n pin))
        (λ pin at r is. see-one n listed pin r is at) (gate_at net n).pins (outside n listed)

  module _ (rails before after : List Rails) (old mid new : Formula) (rails_in : All (AreWithin old.variables) rails) (before_in : All (AreWithin old.variables) before) (some : 0 < old.variables)
      (copies : AreCopies old mid after (length (block_at blocks block).gates)) (copied : AreCopied (loop_copy net blocks cut block rails before after) mid new (length (block_at blocks block).gates)) where
    after-read : (m : List Bool) → IsModel m mid → ReadsPlaces (block_at blocks block).gates after m (map (copy_value m (block_at blocks block).gates after) (range_with_len 0 (length net.gates)))
    after-read m h i less =
        let n = get_or (block_at blocks block).gates i 0 in
        let value : value_in (map (copy_value m (block_at blocks block).gates after) (range_with_len 0 (length net.gates))) n ≡ value_read m (rails_at after i) =
        get_or-map-range_with_len (copy_value m (block_at blocks block).gates after) 0 (length net.gates) n n X (block_within net blocks are block bl i less) (omega arith)
        ∙ copy-at m (block_at blocks block).gates after i (block_rises net blocks are block bl) copies.size less in
        rw value ((copies.own i less).reads m h)

    sweep-sound : (m : List Bool) (v c : List Trit) → IsModel m new → ReadsOutside net (loops_by blocks cut) (block_at blocks block).gates rails m v → ReadsPlaces (block_at blocks block).gates before m c → ReadsPlaces (block_at blocks block).gates after m (sweep net (loops_by blocks cut) v c)
    sweep-sound m v c h outside reads_before i less =
        let s = map (copy_value m (block_at blocks block).gates after) (range_with_len 0 (length net.gates)) in
        let n = get_or (block_at blocks block).gates i 0 in
        let listed : Contains (block_at blocks block).gates n = Contains-get_or (block_at blocks block).gates i 0 less in
        let reads : ReadsPlaces (block_at blocks block).gates after m s = after-read m (copied.grows.sound m h) in
        let see : ℕ → Sig → Trit = λ j pin. pin_in net (loops_by blocks cut) v c s (get_or (block_at blocks block).gates j 0) pin in
        let seen : ReadsSeen (loop_copy net blocks cut block rails before after) m see = sees rails before after m v c s outside reads_before reads in
        let at_place : (j : ℕ) → j < length (block_at blocks block).gates → value_in s (get_or (block_at blocks block).gates j 0) ≡ gate_in net (loops_by blocks cut) v c s (get_or (block_at blocks block).gates j 0) =
        λ j inside. Reads-unique m (rails_at after j) (value_in s (get_or (block_at blocks block).gates j 0)) (gate_in net (loops_by blocks cut) v c s (get_or (block_at blocks block).gates j 0)) (reads j inside) (copied.reads m see h seen j inside) in
        let each : (g : ℕ) → in_one_loop blocks n g ≡ true → value_in s g ≡ gate_in net (loops_by blocks cut) v c s g =
        λ g e. at-gate s c v at_place g (same-to n g listed e) in
        subst (Reads m (rails_at after i)) (sweep_of_one_loop net (loops_by blocks cut) (blocks_tell_loops net blocks cut are cut_is) v c s n each n (same-from n n listed listed)) (reads i less)
      where
        at-gate : (s c v : List Trit) → ((j : ℕ) → j < length (block_at blocks block).gates → value_in s (get_or (block_at blocks block).gates j 0) ≡ gate_in net (loops_by blocks cut) v c s (get_or (block_at blocks block).gates j 0)) → (g : ℕ) → Contains (block_at blocks block).gates g → value_in s g ≡ gate_in net (loops_by blocks cut) v c s g
        at-gate s c v all g there = grind (arith, get_or_default (block_at blocks block).gates there.0 0 g there.1)

    outside-more : (m more : List Bool) (v : List Trit) → length m ≡ old.variables → ReadsOutside net (loops_by blocks cut) (block_at blocks block).gates rails m v → ReadsOutside net (loops_by blocks cut) (block_at blocks block).gates rails (m ++ more) v
    outside-more m more v len outside n listed =
        All-weaker (λ pin. in_loop_of net (loops_by blocks cut) n pin ≡ false → Reads m (rails_at rails pin.0) (wire (fix net v) pin))
        (λ pin. in_loop_of net (loops_by blocks cut) n pin ≡ false → Reads (m ++ more) (rails_at rails pin.0) (wire (fix net v) pin))
        (λ pin at e. Reads-more m more (rails_at rails pin.0) (wire (fix net v) pin) (rw len (rails-in old.variables rails pin.0 some rails_in)) (at e)) (gate_at net n).pins (outside n listed)

    sweep-complete : (m : List Bool) (v c : List Trit) → length m ≡ old.variables → IsModel m old → ReadsOutside net (loops_by blocks cut) (block_at blocks block).gates rails m v → ReadsPlaces (block_at blocks block).gates before m c → HasModelFrom new m
    sweep-complete m v c len h outside reads_before =
        let s = sweep net (loops_by blocks cut) v c in
        let values : ℕ → Trit = λ i. value_in s (get_or (block_at blocks block).gates i 0) in
        let first : HasCopies mid after (length (block_at blocks block).gates) m values = copies.complete m values len h in
        let long = m ++ first.more in
        let there : ReadsOutside net (loops_by blocks cut) (block_at blocks block).gates rails long v = outside-more m first.more v len outside in
        let early : ReadsPlaces (block_at blocks block).gates before long c = λ i less. Reads-more m first.more (rails_at before i) (value_in c (get_or (block_at blocks block).gates i 0)) (rw len (rails-in old.variables before i some before_in)) (reads_before i less) in
        let see : ℕ → Sig → Trit = λ j pin. pin_in net (loops_by blocks cut) v c s (get_or (block_at blocks block).gates j 0) pin in
        let seen : ReadsSeen (loop_copy net blocks cut block rails before after) long see = sees rails before after long v c s there early first.reads in
        let still : (i : ℕ) → i < length (block_at blocks block).gates → Reads long (rails_at after i) (value_seen (loop_copy net blocks cut block rails before after) see i) =
        λ i less. subst (Reads long (rails_at after i)) (sweep_each net (loops_by blocks cut) v c (get_or (block_at blocks block).gates i 0) (block_within net blocks are block bl i less)) (first.reads i less) in
        model-after new m first.more (copied.complete long see first.width first.model seen still)

    pub sweep-says : SaysSweep net (loops_by blocks cut) (block_at blocks block).gates rails before old new after
    sweep-says = record {
      grows = Grows-chain copies.grows copied.grows;
      within = All-within-more mid.variables new.variables after copied.grows.more copies.within;
      size = copies.size;
      sound = sweep-sound;
      complete = sweep-complete;
    }
