-- The invariant of the next state, as a literal of a cone.
use Rattle.std.proofs.Common.{◌≡◌, ℕ, ◌<◌, ◌+◌, ◌-◌, ◌*◌, Bool, true, false, not, ◌&&◌, List, [], ◌∷◌, ◌++◌, length, map, get_or, Option, Some, None, refl, sym, ap, ap₂, subst, ◌∙◌, arith}
use Rattle.std.specs.List.{All}
use Rattle.clause_decision.proofs.Common.{option_map_or, and_parts, length-map, get_or-map, All-take, All-map, All-get_or, Trit, X, bit, bits, Sig, Latch, Parts, IsNetlist, count, gate_sig, signal, wire, fix, first_gate, gate_of, CareModel, CareSet, columns, holds_at, state_of, is_allowed, is_in_invariant, is_care_vector, IsCareVector, Formula, Rails, says, negation, IsModel, HasModelFrom, Reads, ReadsAll, AreWithin, rails_at, says-negation, ReadsAll-more, All-within-more, IsWithin, problem, Asks, models-same, column_rails, vector_in, ReadsAbove, ReadsFix, IsCone, SaysTest, ReadsWithin, All-contains, IsModelUnder, Question, IsQuestionOf}
use Rattle.std.specs.Option.{option_map}
use Rattle.std.specs.Prelude.{Contains}
use Rattle.std.proofs.lemmas.Option.{same_Some}
use Rattle.netlist.specs.Fixpoint.{next}
use Rattle.care_sets.specs.Binding.{IsCareOf}
use Rattle.care_sets.specs.Care.{is_one, inputs_at}
use Rattle.refusals.specs.Refusals.{next_state, leaves}
use Rattle.refusals.proofs.RefusalLemmas.{known_bit_is}
use Rattle.clause_queries.specs.Queries.{is_model}
use Rattle.clause_queries.specs.Vectors.{HasVector}
use Rattle.clause_decision.specs.declared.scope.Scope.{Scope}
use Rattle.clause_decision.specs.Formulas.{accepts}
use Rattle.clause_decision.specs.Loads.{HasLoads}
use Rattle.refusals.specs.Tests.{LoadsAreKnown}
use Rattle.clause_decision.specs.NextStates.{no_latch, latch_of, load_rails, loads_rails, AreLatchColumns}
use Rattle.refusals.specs.Tests.{is_leaving}
use Rattle.clause_decision.proofs.FormulaLemmas.{ones-read, question-of, reads-map}
use Rattle.clause_decision.proofs.ConeLemmas.{care-read}
use Rattle.clause_decision.proofs.ModelLemmas.{invariant-reads, of-there}
use Rattle.clause_decision.proofs.SignalLemmas.{negation-within, column_rails-length, ones-within, fix-above, signal-read, three}

-- the columns of the invariant are those of latches
pub latch-columns : (net : Parts) (care : CareSet) (columns_read : List ℕ) → IsCareOf net care → columns_read ≡ option_map_or (λ model. model.columns) care.invariant [] → AreLatchColumns net columns_read
latch-columns net care columns_read bound are = grind (arith, invariant-reads net care (length net.latches) bound)

-- rails of what they load are of the formula
pub loads-within : (net : Parts) (rails : List Rails) (k : ℕ) (columns_read : List ℕ) (list : List Rails) → IsNetlist net → length rails ≡ count net → All (AreWithin k) rails → AreLatchColumns net columns_read →
    list ≡ loads_rails net rails columns_read → All (AreWithin k) list
loads-within net rails k columns_read list proper size within latches is = grind (arith, All-map (AreWithin k) (load_rails net rails) columns_read, All-get_or (AreWithin k) rails)

-- without an invariant no next state is outside
pub none-leaves : (net : Parts) (care : CareSet) → (let nothing : Option Parts = None in nothing) ≡ option_map (λ model. model.net) care.invariant → (v : List Bool) → is_leaving net care v ≡ false
none-leaves net care none v = grind arith

module _ (net : Parts) (care : CareSet) (marks : List Bool) (f g : Formula) (rails : List Rails) (inside allowed literal : ℕ) (cone : IsCone net care marks f rails inside allowed)
    (model : CareModel) (is : care.invariant ≡ Some model) (start : model.first ≡ length net.inputs) (latches : AreLatchColumns net model.columns) (proper : IsNetlist net)
    (scoped : (column n : ℕ) (none : Latch) → Contains model.columns column → n < length net.gates → (get_or net.latches (column - length net.inputs) none).from ≡ gate_sig net n → get_or marks n false ≡ true)
    (known : LoadsAreKnown net care) (said : SaysTest f g (loads_rails net rails model.columns) (accepts model.net) literal) where
  -- at a care vector the rails of the loads stand for what the model reads of the next state
  loads-read : (m v : List Bool) → ReadsAll m (column_rails net rails) (bits v) → ReadsAbove net marks rails m v → IsCareVector net care v →
      ReadsAll m (loads_rails net rails model.columns) (bits (inputs_at model (next_state net v)))
  loads-read m v reads above counts = reads-map m (load_rails net rails) (λ column. get_or (next_state net v) (column - model.first) false) model.columns each
    where
      value : (column : ℕ) → column - length net.inputs < length net.latches → bit (get_or (next_state net v) (column - model.first) false) ≡ wire (fix net (bits v)) (latch_of net column).from
      value column low =
          let place : ℕ = column - length net.inputs in
          ap (λ (k : ℕ). bit (get_or (next_state net v) (column - k) false)) start
          ∙ ap bit (get_or-map is_one (next net (bits v)) place X false (let l = length-map net.latches (λ (latch : Latch). wire (fix net (bits v)) latch.from) in omega (arith, low, l)))
          ∙ ap (λ (t : Trit). bit (is_one t)) (get_or-map (λ (latch : Latch). wire (fix net (bits v)) latch.from) net.latches place no_latch X low)
          ∙ known_bit_is (wire (fix net (bits v)) (latch_of net column).from) (known v counts place no_latch low)

      each : (column : ℕ) → Contains model.columns column → Reads m (load_rails net rails column) (bit (get_or (next_state net v) (column - model.first) false))
      each column there =
          let place : ℕ = column - length net.inputs in
          let low : place < length net.latches = All-contains (λ c. c - length net.inputs < length net.latches) model.columns column latches.within there in
          let from : Sig = (latch_of net column).from in
          let inside_net : from.0 < count net = proper.sources place no_latch low in
          subst (Reads m (rails_at rails from.0)) (sym (value column low))
          (signal-read net marks rails m v cone.size counts.width reads above from inside_net
          (λ high. scoped column (gate_of net from) no_latch there (omega (arith, inside_net, high)) (let e : from.0 ≡ first_gate net + gate_of net from = omega (arith, high) in ap signal e))
          (known v counts place no_latch low))

  in-model : (q : List Bool) → holds_at model q ≡ is_in_invariant care q
  in-model q = ap (λ (o : Option CareModel). option_map_or (λ (c : CareModel). holds_at c q) o true) (sym is)

  under-model : (m : List Bool) → is_model (problem g) m ≡ true → IsModel m g
  under-model m h = sym (models-same g m) ∙ h

  sound : (m : List Bool) → IsModelUnder (problem g) (inside ∷ allowed ∷ negation literal ∷ []) m → is_leaving net care (vector_in net rails m) ≡ true
  sound m under =
      let v : List Bool = vector_in net rails m in
      let model_g : IsModel m g = under-model m under.model in
      let model_f : IsModel m f = said.grows.sound m model_g in
      let counts : IsCareVector net care v = care-read cone m model_f (under.assumed 0 0 (omega arith)) (under.assumed 1 0 (omega arith)) in
      let tells : says m literal ≡ is_in_invariant care (next_state net v) =
      said.says_it m (inputs_at model (next_state net v)) model_g (loads-read m v (cone.sound m model_f) (cone.above m model_f) counts) ∙ in-model (next_state net v) in
      let out : leaves net care v ≡ true = ap not (sym tells) ∙ sym (says-negation m literal) ∙ under.assumed 2 0 (omega arith) in
      ap₂ (λ (a b : Bool). a && b) (ap₂ (λ (a b : Bool). a && b) counts.state counts.allowed) out

  complete : (v : List Bool) → length v ≡ columns net → is_leaving net care v ≡ true → HasVector (problem g) (map (λ r. r.one) (column_rails net rails)) (inside ∷ allowed ∷ negation literal ∷ []) v
  complete v wide passes =
      let parts = and_parts (is_care_vector net care v) (leaves net care v) passes in
      let both = and_parts (is_in_invariant care (state_of net v)) (is_allowed care v) parts.0 in
      let counts : IsCareVector net care v = record { width = wide; state = both.0; allowed = both.1 } in
      let has : ReadsFix net marks f rails v = cone.complete v wide in
      let more : HasModelFrom g has.model = said.complete has.model (inputs_at model (next_state net v)) has.long has.holds (loads-read has.model v has.columns (fix-above net marks rails has.model v has.fixpoint) counts) in
      let all : List Bool = has.model ++ more.more in
      let within : All (AreWithin (length has.model)) rails = subst (λ k. All (AreWithin k) rails) (sym has.long) cone.within in
      let reads : ReadsAll all (column_rails net rails) (bits v) = ReadsAll-more has.model more.more (column_rails net rails) (bits v) (All-take (AreWithin (length has.model)) (columns net) rails within) has.columns in
      let model_f : IsModel all f = said.grows.sound all more.model in
      let vector : vector_in net rails all ≡ v = sym (ones-read all (column_rails net rails) (vector_in net rails all) (cone.sound all model_f)) ∙ ones-read all (column_rails net rails) v reads in
      let above : ReadsAbove net marks rails all v = subst (ReadsAbove net marks rails all) vector (cone.above all model_f) in
      let in_invariant : says all inside ≡ true = cone.inside_tells all model_f ∙ ap (λ u. is_in_invariant care (state_of net u)) vector ∙ both.0 in
      let may : says all allowed ≡ true = cone.allowed_tells all model_f ∙ ap (is_allowed care) vector ∙ both.1 in
      let out : says all (negation literal) ≡ true =
      says-negation all literal
      ∙ ap not (said.says_it all (inputs_at model (next_state net v)) more.model (loads-read all v reads above counts) ∙ in-model (next_state net v))
      ∙ parts.1 in
      record {
        model = all;
        under = record { model = models-same g all ∙ more.model; assumed = three (λ l. says all l ≡ true) inside allowed (negation literal) in_invariant may out };
        reads = ones-read all (column_rails net rails) v reads;
      }

  pub asks : Asks (problem g) (map (λ r. r.one) (column_rails net rails)) (inside ∷ allowed ∷ negation literal ∷ []) (is_leaving net care)
  asks = record {
    sound = λ m under.
        subst (λ u. is_leaving net care u ≡ true) (sym (ones-read m (column_rails net rails) (vector_in net rails m) (cone.sound m (said.grows.sound m (under-model m under.model))))) (sound m under);
    complete = λ v wide passes. complete v (wide ∙ length-map (column_rails net rails) (λ (r : Rails). r.one) ∙ column_rails-length net rails cone.size) passes;
  }

pub leaving-question : (net : Parts) (care : CareSet) (scope : Scope) (f g : Formula) (rails list : List Rails) (inside allowed literal : ℕ) (invariant : Parts) (columns_read : List ℕ) (q : Question) →
    IsNetlist net → IsCareOf net care → IsCone net care scope.gates f rails inside allowed → HasLoads net care scope → LoadsAreKnown net care →
    Some invariant ≡ option_map (λ model. model.net) care.invariant → columns_read ≡ option_map_or (λ model. model.columns) care.invariant [] →
    list ≡ loads_rails net rails columns_read → SaysTest f g list (accepts invariant) literal →
    q.formula ≡ g → q.columns.items ≡ map (λ r. r.one) (column_rails net rails) → q.assumed.items ≡ inside ∷ allowed ∷ negation literal ∷ [] → IsQuestionOf (columns net) (is_leaving net care) q
leaving-question net care scope f g rails list inside allowed literal invariant columns_read q proper bound cone loads known is are list_is said formula_is columns_is assumed_is = by care.invariant refl is are
  where
    by : (o : Option CareModel) → care.invariant ≡ o → Some invariant ≡ option_map (λ model. model.net) o → columns_read ≡ option_map_or (λ model. model.columns) o [] → IsQuestionOf (columns net) (is_leaving net care) q
    by None at e h = absurd (cc)
    by (Some model) at e h =
        let start : model.first ≡ length net.inputs = (of-there care.invariant model (ReadsWithin (length net.inputs) (length net.latches)) at (invariant-reads net care (length net.latches) bound refl)).start in
        let said_here : SaysTest f g (loads_rails net rails model.columns) (accepts model.net) literal =
        subst (λ (rs : List Rails). SaysTest f g rs (accepts model.net) literal) (list_is ∙ ap (loads_rails net rails) h) (subst (λ (n : Parts). SaysTest f g list (accepts n) literal) (same_Some invariant model.net e) said) in
        let asked : Asks (problem g) (map (λ r. r.one) (column_rails net rails)) (inside ∷ allowed ∷ negation literal ∷ []) (is_leaving net care) =
        asks net care scope.gates f g rails inside allowed literal cone model at start (subst (AreLatchColumns net) h (latch-columns net care columns_read bound are)) proper
        (of-there care.invariant model (λ model. (column n : ℕ) (none : Latch) → Contains model.columns column → n < length net.gates → (get_or net.latches (column - length net.inputs) none).from ≡ gate_sig net n → get_or scope.gates n false ≡ true) at loads)
        known said_here in
        let of_g : IsWithin g.variables (map (λ r. r.one) (column_rails net rails)) = ones-within net rails g.variables (All-within-more f.variables g.variables rails said.grows.more cone.within) in
        let care_of_g : IsWithin g.variables (inside ∷ allowed ∷ negation literal ∷ []) =
        three (λ l. l < 2 * g.variables) inside allowed (negation literal)
        (let w = cone.inside_within in let m = said.grows.more in omega (arith, w, m))
        (let w = cone.allowed_within in let m = said.grows.more in omega (arith, w, m))
        (negation-within literal g.variables said.within) in
        question-of q formula_is columns_is assumed_is of_g care_of_g (length-map (column_rails net rails) (λ (r : Rails). r.one) ∙ column_rails-length net rails cone.size) asked
