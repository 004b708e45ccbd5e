-- The literals of care models.
use Rattle.std.proofs.Common.{◌≡◌, inl, inr, ℕ, ◌+◌, ◌-◌, ◌<◌, Bool, true, false, List, [], length, map, get_or, Option, Some, None, IfSome, sym, ap, ap₂, ◌∙◌, subst, arith}
use Rattle.std.specs.Prelude.{replicate}
use Rattle.std.specs.List.{All}
use Rattle.clause_decision.proofs.Common.{option_map_or, cases_lt, get_or-map, length-map, All-map, All-nil, All-get_or, Sig, Trit, X, bit, bits, Parts, IsNetlist, count, gate_at, wire, fix, fix_gates, first_gate, gate_of, value_in, CareModel, CareSet, columns, holds_at, Formula, Rails, IsWanted, IsClosed, SaysNetlist, says, IsModel, Reads, ReadsAll, AreWithin, rails_at, no_rails, ReadsAll-at, SaysTest, ReadsWithin, All-contains}
use Rattle.std.specs.Option.{option_map}
use Rattle.std.proofs.lemmas.List.{get_or-replicate, get_or_append_left, length-replicate}
use Rattle.std.proofs.lemmas.Option.{same_Some}
use Rattle.cyc_base.proofs.OrderLemmas.{bits-at}
use Rattle.netlist.specs.Walks.{IsLoopFree}
use Rattle.loops.proofs.Determined.{loop_free_is_determined}
use Rattle.loops.proofs.Reading.{wire_of_gate}
use Rattle.care_sets.specs.Binding.{IsCareOf, IsBoundTo}
use Rattle.care_sets.specs.Care.{is_one, inputs_at, HasValues}
use Rattle.care_sets.proofs.CareLemmas.{vectors_serve_assume, states_serve_invariant}
use Rattle.ternary_clauses.specs.Encoding.{AreNeverUnknown}
use Rattle.ternary_clauses.specs.Rails.{is_one as is_one_rail}
use Rattle.ternary_clauses.proofs.LawLemmas.{still_is_fix_without_loops}
use Rattle.ternary_clauses.proofs.ReadingLemmas.{ReadsAll-length}
use Rattle.clause_decision.specs.Formulas.{accepts}
use Rattle.clause_decision.proofs.FormulaLemmas.{reads-map}

-- ---- all gates are wanted

abbrev all : Parts → List Bool
all net = replicate (length net.gates) true

pub all-closed : (net : Parts) → IsNetlist net → IsClosed net (all net)
all-closed net valid n wanted k d less behind = grind (arith, get_or-replicate (length net.gates) (gate_of net (get_or (gate_at net n).pins k d)) true false)

pub all-known : (net : Parts) → IsNetlist net → IsLoopFree net → AreNeverUnknown net (all net) (all net)
all-known net valid free v wide n wanted marked = loop_free_is_determined net valid free v wide n wanted.within

-- ---- the output

same-one : (t : Trit) → is_one_rail t ≡ is_one t
same-one t = grind arith

module _ (net : Parts) (valid : IsNetlist net) (free : IsLoopFree net) (given : List Rails) (old new : Formula) (rails : List Rails) (said : SaysNetlist net (all net) given old new rails) (wide : length given ≡ first_gate net) where
  -- what the rails of a signal say
  signal-says : (m values : List Bool) (n : ℕ) → n < count net → IsModel m new → ReadsAll m given (bits values) → says m (rails_at rails n).one ≡ is_one (get_or (fix net (bits values)) n X)
  signal-says m values n inside is reads = elim (cases_lt n (first_gate net)) [
    | inl low ↦
        let at : Reads m (rails_at given n) (get_or (bits values) n X) = ReadsAll-at m given (bits values) n no_rails X (omega (arith, low, wide)) reads in
        ap (λ (r : Rails). says m r.one) (said.columns n low)
        ∙ at.one ∙ same-one (get_or (bits values) n X)
        ∙ ap is_one (sym (get_or_append_left (bits values) (fix_gates net (bits values)) X n (omega (arith, low, long))))
    | inr high ↦
        let gate : ℕ = n - first_gate net in
        let wanted : IsWanted net (all net) gate = record { within = omega (arith, inside, high); marked = get_or-replicate (length net.gates) gate true false (omega (arith, inside, high)) } in
        let still = said.sound m (bits values) is reads in
        let at = still.reads gate wanted in
        let number : first_gate net + gate ≡ n = omega (arith, high) in
        sym (ap (λ (k : ℕ). says m (rails_at rails k).one) number)
        ∙ at.one ∙ same-one (value_in still.state gate)
        ∙ ap is_one (still_is_fix_without_loops net (all net) values still.state valid free (all-closed net valid) (sym (length-map values bit) ∙ long) still.still gate wanted
        ∙ sym (wire_of_gate (bits values) (fix_gates net (bits values)) (first_gate net) n long high))
  ]
    where
      long : length (bits values) ≡ first_gate net
      long = sym (ReadsAll-length m given (bits values) reads) ∙ wide

  pub output-says : (output : Sig) → 0 < length net.outputs → output ≡ get_or net.outputs 0 output → (literal : ℕ) → literal ≡ (rails_at rails output.0).one → SaysTest old new given (accepts net) literal
  output-says output some is literal literal_is = record {
    grows = said.grows;
    within = let w = (All-get_or (AreWithin new.variables) rails output.0 no_rails (let z = said.size in omega (arith, inside, z)) said.within).one in omega (arith, w, literal_is);
    says_it = λ m values model reads.
        ap (says m) literal_is
        ∙ signal-says m values output.0 inside model reads
        ∙ ap is_one (sym (get_or-map (wire (fix net (bits values))) net.outputs 0 output X some ∙ ap (wire (fix net (bits values))) (sym is)));
    complete = λ m values long model reads. let has = said.complete m values long model reads in record { more = has.more; width = has.width; model = has.model };
  }
    where
      inside : output.0 < count net
      inside = subst (λ (s : Sig). s.0 < count net) (sym is) (valid.outputs 0 output some)

-- ---- models of a care set

-- the columns' rails that a model reads
pub inputs-read : (model : CareModel) (m : List Bool) (rails list : List Rails) (values : List Bool) → All (λ column. column - model.first < length rails) model.columns →
    list ≡ map (λ column. rails_at rails (column - model.first)) model.columns → ReadsAll m rails (bits values) → ReadsAll m list (bits (inputs_at model values))
inputs-read model m rails list values within is reads =
    let long : length rails ≡ length values = ReadsAll-length m rails (bits values) reads ∙ length-map values bit in
    subst (λ (rs : List Rails). ReadsAll m rs (bits (inputs_at model values))) (sym is)
    (reads-map m (λ column. rails_at rails (column - model.first)) (λ column. get_or values (column - model.first) false) model.columns (λ column there.
    let place : ℕ = column - model.first in
    let low : place < length rails = All-contains (λ c. c - model.first < length rails) model.columns column within there in
    subst (Reads m (rails_at rails place)) (bits-at values place (omega (arith, low, long))) (ReadsAll-at m rails (bits values) place no_rails X low reads)))

-- so a literal for its inputs is one for the columns
model-says : (old new : Formula) (model : CareModel) (rails list : List Rails) (literal : ℕ) → All (λ column. column - model.first < length rails) model.columns → list ≡ map (λ column. rails_at rails (column - model.first)) model.columns →
    SaysTest old new list (accepts model.net) literal → SaysTest old new rails (holds_at model) literal
model-says old new model rails list literal within is said = record {
  grows = said.grows;
  within = said.within;
  says_it = λ m values holds reads. said.says_it m (inputs_at model values) holds (inputs-read model m rails list values within is reads);
  complete = λ m values long holds reads. said.complete m (inputs_at model values) long holds (inputs-read model m rails list values within is reads);
}

-- a model that may be there, of its parts, with rails for what it reads
module _ (o : Option CareModel) (net : Parts) (columns_read : List ℕ) (first : ℕ) (rails given : List Rails) (is : Some net ≡ option_map (λ model. model.net) o) (are : columns_read ≡ option_map_or (λ model. model.columns) o [])
    (reads : IfSome o (ReadsWithin first (length rails))) (given_is : given ≡ map (λ column. rails_at rails (column - first)) columns_read) where
  pub held-within : (k : ℕ) → All (AreWithin k) rails → All (AreWithin k) given
  held-within k all = by o are reads
    where
      by : (o : Option CareModel) → columns_read ≡ option_map_or (λ model. model.columns) o [] → IfSome o (ReadsWithin first (length rails)) → All (AreWithin k) given
      by None e h = subst (All (AreWithin k)) (sym (given_is ∙ ap (map (λ column. rails_at rails (column - first))) e)) (All-nil (AreWithin k))
      by (Some model) e h =
          subst (All (AreWithin k)) (sym (given_is ∙ ap (map (λ column. rails_at rails (column - first))) e)) (All-map (AreWithin k) (λ column. rails_at rails (column - first)) model.columns
          (λ j d less. All-get_or (AreWithin k) rails (get_or model.columns j d - first) no_rails (h.within j d less) all))

  -- a literal for its inputs says whether it holds
  pub held-says : (old new : Formula) (literal : ℕ) → SaysTest old new given (accepts net) literal → SaysTest old new rails (λ v. option_map_or (λ model. holds_at model v) o true) literal
  held-says old new literal said = by o is are reads
    where
      by : (o : Option CareModel) → Some net ≡ option_map (λ model. model.net) o → columns_read ≡ option_map_or (λ model. model.columns) o [] → IfSome o (ReadsWithin first (length rails)) →
          SaysTest old new rails (λ v. option_map_or (λ model. holds_at model v) o true) literal
      by None e f h = absurd (cc)
      by (Some model) e f h =
          model-says old new model rails given literal (subst (λ k. All (λ column. column - k < length rails) model.columns) (sym h.start) h.within)
          (given_is ∙ ap₂ (λ (k : ℕ) (cs : List ℕ). map (λ column. rails_at rails (column - k)) cs) (sym h.start) f)
          (subst (λ (n : Parts). SaysTest old new given (accepts n) literal) (same_Some net model.net e) said)

pub of-there : (o : Option CareModel) (model : CareModel) (P : CareModel → Type 0) → o ≡ Some model → IfSome o P → P model
of-there o model P is holds = subst (λ (p : Option CareModel). IfSome p P) is holds

-- ---- which columns they read

model-reads : (net : Parts) (first n width : ℕ) (o : Option CareModel) → IfSome o (IsBoundTo net first) → IfSome o (HasValues (replicate n false)) → width ≡ n → IfSome o (ReadsWithin first width)
model-reads net first n width o b h is = grind (arith, length-replicate)

pub invariant-reads : (net : Parts) (care : CareSet) (width : ℕ) → IsCareOf net care → width ≡ length net.latches → IfSome care.invariant (ReadsWithin (length net.inputs) width)
invariant-reads net care width bound is =
    let n = length net.latches in
    model-reads net (length net.inputs) n width care.invariant bound.invariant (states_serve_invariant net care (replicate n false) bound (length-replicate n false)) is

pub assume-reads : (net : Parts) (care : CareSet) (width : ℕ) → IsCareOf net care → width ≡ columns net → IfSome care.assume (ReadsWithin 0 width)
assume-reads net care width bound is =
    let n = columns net in
    model-reads net 0 n width care.assume bound.assume (vectors_serve_assume net care (replicate n false) bound (length-replicate n false)) is
