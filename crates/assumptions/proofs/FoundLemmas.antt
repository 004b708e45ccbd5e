-- Rows as they are found one after another.
use Rattle.std.proofs.Common.{◌≡◌, ◌≢◌, ◌⊎◌, inl, inr, ℕ, ◌<◌, ◌≤◌, Bool, true, List, [], ◌∷◌, ◌++◌, length, get_or, take, Option, Some, IfSome, refl, ap, sym, ◌∙◌, subst, arith}
use Rattle.std.specs.Prelude.{Err, IfOk, Ok, Result, is_some}
use Rattle.std.specs.List.{All, Contains}
use Rattle.std.specs.Option.{option_map_or}
use Rattle.std.proofs.lemmas.Bool.{cases_eq}
use Rattle.std.proofs.lemmas.List.{get_or_append_left, get_or_push, length-append, take-append-le, take_all}
use Rattle.std.proofs.lemmas.List.Elements.{All-nil, All-push, All-weaker}
use Rattle.assumptions.specs.declared.search.TheConstants.{MAX_ROWS}
use Rattle.cyc_base.specs.declared.sig.Sig.{Sig}
use Rattle.cyc_base.specs.declared.trit.Trit.TheVariants.{X}
use Rattle.cyc_base.specs.Values.{bits}
use Rattle.netlist.specs.declared.parts.Parts.{Parts}
use Rattle.netlist.specs.Fixpoint.{fix, wire}
use Rattle.care_sets.specs.Binding.{IsCareOf}
use Rattle.care_sets.specs.Care.{CareSet, holds_at, is_in_invariant, state_of, IsCareVector}
use Rattle.care_sets.specs.declared.model.CareModel.{CareModel}
use Rattle.refusals.specs.Acceptance.{Accepts, observed}
use Rattle.refusals.specs.Refusals.{refusal, IsAt}
use Rattle.refusals.specs.declared.observe.Observe.{Observe}
use Rattle.refusals.specs.declared.refusal.Refusal.{Refusal}
use Rattle.refusals.specs.declared.refusal.Refusal.TheVariants.{Initial, EmptyCare, Undetermined, Leaves}
use Rattle.care_rows.specs.Rows.{IsIn, IsInNone, IsSteadySignal, AreSteadyRows}
use Rattle.care_rows.specs.declared.rows.Row.{Row}
use Rattle.care_rows.specs.declared.rows.WireValue.{WireValue}
use Rattle.care_rows.specs.Restricted.{IsModelSize, IsRestrictFault}
use Rattle.care_rows.specs.declared.fault.RestrictFault.TheVariants as fault
use Rattle.assumptions.specs.Assumptions.{IsOpenRow, HasNewVector, AreFound, IsStrengthened, IsAccepted, IsAssumeModel, IsWeakest, IsRefused, IsRefusedBeside, HasManyRows, IsTooLarge, IsUndetermined as IsForUndetermined}
use Rattle.verdict.specs.Witnessed.{IsSomeRefusal}
use Rattle.assumptions.specs.Making.{Excludes, IsNextRow, IsShownBeside, HasOneMore}

pub found_none : (net : Parts) (care : CareSet) (what : Observe) → AreFound net care what []
found_none net care what = record { each = All-nil (IsOpenRow net what); new = λ k d l. absurd (omega arith) }

pub found_steady : (net : Parts) (care : CareSet) (what : Observe) (rows : List Row) → AreFound net care what rows → AreSteadyRows net rows
found_steady net care what rows found = All-weaker (IsOpenRow net what) (λ (row : Row). All (λ (e : WireValue). IsSteadySignal net e.wire) row.values) (λ row open'. open'.steady) rows found.each

pub found_more : (net : Parts) (care : CareSet) (what : Observe) (rows : List Row) (row : Row) → AreFound net care what rows → IsNextRow net care what rows row → AreFound net care what (rows ++ row ∷ [])
found_more net care what rows row found next = record {
  each = All-push (IsOpenRow net what) rows row found.each next.opens;
  new = λ k d l.
      let long = length-append rows (row ∷ []) in
      elim (cases_eq k (length rows)) [
        | inl last ↦
            subst (λ (r : Row). HasNewVector net care (take k (rows ++ row ∷ [])) r) (sym (get_or_push rows row d k (sym last)))
            (subst (λ (rs : List Row). HasNewVector net care rs row)
            (sym (take-append-le k rows (row ∷ []) (omega arith) ∙ take_all k rows (omega arith))) next.new)
        | inr before ↦
            let inside : k < length rows = omega arith in
            subst (λ (r : Row). HasNewVector net care (take k (rows ++ row ∷ [])) r) (sym (get_or_append_left rows (row ∷ []) d k inside))
            (subst (λ (rs : List Row). HasNewVector net care rs (get_or rows k d)) (sym (take-append-le k rows (row ∷ []) (omega arith))) (found.new k d inside))
      ];
}

-- the care set itself, with no row
pub strengthened_by_none : (net : Parts) (care : CareSet) (what : Observe) → IsCareOf net care → IsStrengthened net care what [] care
strengthened_by_none net care what is = record {
  found = found_none net care what;
  bound = is;
  invariant = refl;
  lets = λ v width. (λ allowed. (allowed, λ k d l. absurd (omega arith)), λ both. both.0);
}

pub strengthened_by : (net : Parts) (care : CareSet) (what : Observe) (rows : List Row) (stronger : CareSet) → AreFound net care what rows → Excludes net care rows stronger → IsStrengthened net care what rows stronger
strengthened_by net care what rows stronger found excludes = record { found = found; bound = excludes.bound; invariant = excludes.invariant; lets = excludes.lets }

pub weakest_by : (net : Parts) (care : CareSet) (what : Observe) (rows : List Row) (stronger : CareSet) → length rows ≤ MAX_ROWS → AreFound net care what rows → Excludes net care rows stronger →
    Accepts net stronger what → IsWeakest net care what stronger
weakest_by net care what rows stronger few found excludes accepted = record {
  rows = rows;
  few = few;
  strengthened = strengthened_by net care what rows stronger found excludes;
  accepted = accepted;
  some = ap is_some excludes.is;
  assume = subst (λ (m : Option CareModel). IfSome m IsAssumeModel) (sym excludes.is) excludes.small;
}

-- ---- a refusal for an undetermined wire

-- the vector counts in the care set, is in none of the rows, and leaves the wire, an observed gate, unknown
pub record IsOpenAt (net : Parts) (care : CareSet) (what : Observe) (rows : List Row) (v : List Bool) (s : Sig) : Type 0 where
  pub at : IsAt net v s
  pub unknown : wire (fix net (bits v)) s ≡ X
  pub among : Contains (observed net what) s
  pub counts : IsCareVector net care v
  pub beyond : IsInNone net v rows

-- the invariant is the same
pub same_states : (a b : CareSet) (q : List Bool) → a.invariant ≡ b.invariant → is_in_invariant a q ≡ is_in_invariant b q
same_states a b q e = ap (λ (m : Option CareModel). option_map_or (λ model. holds_at model q) m true) e

counted : (net : Parts) (care : CareSet) (what : Observe) (rows : List Row) (stronger : CareSet) (v : List Bool) → IsStrengthened net care what rows stronger → IsCareVector net stronger v →
    IsCareVector net care v × IsInNone net v rows
counted net care what rows stronger v h counts =
    let both = (h.lets v counts.width).0 counts.allowed in
    (record { width = counts.width; state = sym (same_states stronger care (state_of net v) h.invariant) ∙ counts.state; allowed = both.0 }, both.1)

pub open_at : (net : Parts) (care : CareSet) (what : Observe) (rows : List Row) (v : List Bool) (s : Sig) → IsShownBeside net care what rows (Undetermined v s) → IsOpenAt net care what rows v s
open_at net care what rows v s h =
    let counts = counted net care what rows h.stronger v h.strengthened h.refused.counts in
    record { at = h.refused.at; unknown = h.refused.unknown; among = h.refused.among; counts = counts.0; beyond = counts.1 }

-- ---- refusals of the definition

-- one that isn't for an undetermined wire is that of the definition
refused_beside : (net : Parts) (care : CareSet) (what : Observe) (rows : List Row) (r : Refusal) → IsShownBeside net care what rows r → ¬ IsForUndetermined r → IsRefusedBeside net care what rows r
refused_beside net care what rows r h other = record { stronger = h.stronger; strengthened = h.strengthened; refused = exact r h.refused other }
  where
    exact : (r : Refusal) → IsSomeRefusal net h.stronger what r → ¬ IsForUndetermined r → refusal net h.stronger what ≡ Some r
    exact (Initial q) is other = is
    exact EmptyCare is other = is
    exact (Undetermined v s) is other = absurd (other tt)
    exact (Leaves v q) is other = is

pub refused_rest : (net : Parts) (care : CareSet) (what : Observe) (rows : List Row) (r : Refusal) → length rows ≤ MAX_ROWS → IsShownBeside net care what rows r → ¬ IsForUndetermined r → IsRefused net care what r
refused_rest net care what rows r few h other = record { rows = rows; few = few; refused = refused_beside net care what rows r h other; other = other }

-- beside any witness there is that of the definition
pub many_rows_by : (net : Parts) (care : CareSet) (what : Observe) (rows : List Row) (r : Refusal) → length rows ≡ MAX_ROWS → IsShownBeside net care what rows r → IsForUndetermined r → HasManyRows net care what
many_rows_by net care what rows r many h is = by r h.refused is
  where
    by : (r : Refusal) → IsSomeRefusal net h.stronger what r → IsForUndetermined r → HasManyRows net care what
    by (Initial q) shown is = absurd is
    by EmptyCare shown is = absurd is
    by (Undetermined v s) shown is = record {
      rows = rows;
      many = many;
      refusal_left = Undetermined shown.least shown.first;
      refused = record { stronger = h.stronger; strengthened = h.strengthened; refused = shown.refused };
      open_left = tt;
    }
    by (Leaves v q) shown is = absurd is

pub next_row : (net : Parts) (care : CareSet) (what : Observe) (rows : List Row) (v : List Bool) (s : Sig) (row : Row) → IsOpenAt net care what rows v s → IsOpenRow net what row → IsIn net v row → IsNextRow net care what rows row
next_row net care what rows v s row at opens inside = record { opens = opens; new = record { vector = v; counts = at.counts; inside = inside; beyond = at.beyond } }

pub one_more : (net : Parts) (care : CareSet) (what : Observe) (rows : List Row) (row : Row) → length rows < MAX_ROWS → AreFound net care what rows → IsNextRow net care what rows row → HasOneMore net care what rows (rows ++ row ∷ [])
one_more net care what rows row few found next =
    let long = length-append rows (row ∷ []) in
    record { found = found_more net care what rows row found next; more = omega arith; few = omega arith }

-- a row, by what is told of a call that makes it
module _ (net m : Parts) (care : CareSet) (what : Observe) (rows : List Row) (r : Refusal) (v w : List Bool) (s : Sig) (same : m ≡ net) (items : w ≡ v)
    (is : r ≡ Undetermined v s) (h : IsShownBeside net care what rows r) where
  open_there : IsOpenAt net care what rows v s
  open_there = open_at net care what rows v s (subst (IsShownBeside net care what rows) is h)

  moved : (P : Parts → List Bool → Type 0) → P net v → P m w
  moved P p = subst (λ (n : Parts). P n w) (sym same) (subst (λ (u : List Bool). P net u) (sym items) p)

  pub asked_at : IsAt m w s
  asked_at = moved (λ n u. IsAt n u s) open_there.at

  pub asked_unknown : wire (fix m (bits w)) s ≡ X
  asked_unknown = moved (λ n u. wire (fix n (bits u)) s ≡ X) open_there.unknown

  pub asked_among : Contains (observed m what) s
  asked_among = moved (λ n u. Contains (observed n what) s) open_there.among

  next_by : (row : Row) → IsOpenRow m what row → IsIn m w row → IsNextRow net care what rows row
  next_by row opens inside =
      next_row net care what rows v s row open_there (subst (λ (n : Parts). IsOpenRow n what row) same opens)
      (subst (λ (n : Parts). IsIn n v row) same (subst (λ (u : List Bool). IsIn m u row) items inside))

  pub row_made : {E : Type 0} (made : Result Row E) → IfOk made (IsOpenRow m what) → IfOk made (IsIn m w) → IfOk made (IsNextRow net care what rows)
  row_made (Ok row) opens inside = next_by row opens inside
  row_made (Err e) opens inside = tt

-- ---- what a round finds

pub stands_by : (net : Parts) (care : CareSet) (what : Observe) → Accepts net care what → (is_some care.assume ≡ true) ⊎ (is_some care.invariant ≡ true) → IsAccepted net care what
stands_by net care what accepted some = record { accepted = accepted; some = some }

pub shown_by : (net : Parts) (care : CareSet) (what : Observe) (rows : List Row) (stronger : CareSet) (r : Refusal) → AreFound net care what rows → Excludes net care rows stronger → IsSomeRefusal net stronger what r →
    IsShownBeside net care what rows r
shown_by net care what rows stronger r found excludes refused = record { stronger = stronger; strengthened = strengthened_by net care what rows stronger found excludes; refused = refused }

pub shown_without : (net : Parts) (care : CareSet) (what : Observe) (rows : List Row) (r : Refusal) → IsCareOf net care → rows ≡ [] → IsSomeRefusal net care what r → IsShownBeside net care what rows r
shown_without net care what rows r is none refused =
    record { stronger = care; strengthened = subst (λ (rs : List Row). IsStrengthened net care what rs care) (sym none) (strengthened_by_none net care what is); refused = refused }

pub found_at_first : (net : Parts) (care : CareSet) (what : Observe) (rows : List Row) → rows ≡ [] → AreFound net care what rows
found_at_first net care what rows none = subst (AreFound net care what) (sym none) (found_none net care what)

pub too_large_by : (net : Parts) (care : CareSet) (what : Observe) (rows : List Row) (gates : ℕ) → length rows ≤ MAX_ROWS → AreFound net care what rows → IsRestrictFault net care rows (fault.TooLarge gates) → IsTooLarge net care what gates
too_large_by net care what rows gates few found (inl e) = absurd (too_large_is_not_memory e)
  where
    too_large_is_not_memory : fault.TooLarge gates ≢ fault.Memory
    too_large_is_not_memory e = cc
too_large_by net care what rows gates few found (inr large) =
    let same : gates ≡ large.gates = number large.is in
    record { rows = rows; few = few; found = found; size = subst (λ (n : ℕ). IsModelSize net care rows n) (sym same) large.size; over = (let over = large.over in omega arith) }
  where
    number : {m : ℕ} → fault.TooLarge gates ≡ fault.TooLarge m → gates ≡ m
    number e = cc
