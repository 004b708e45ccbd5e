-- All gates of a netlist are in a scope, and of none is it said that it is never unknown. What an accepted netlist has.
use Rattle.std.proofs.Common.{◌≡◌, ◌≢◌, ℕ, ◌<◌, Bool, true, false, List, length, replicate, get_or, None, Some, sym, ap, ◌∙◌, arith, true≢false, Contains}
use Rattle.std.specs.Option.{IfSome}
use Rattle.std.specs.declared.option.Option.{Option}
use Rattle.std.proofs.lemmas.List.{get_or-replicate, get_or_default}
use Rattle.netlist.specs.declared.parts.Parts.{Parts}
use Rattle.netlist.specs.Netlists.{IsNetlist, gate_sig, is_marked}
use Rattle.netlist.specs.Fixpoint.{fix, loaded, wire}
use Rattle.cyc_base.specs.Values.{bit, bits}
use Rattle.cyc_base.specs.declared.sig.Sig.{Sig}
use Rattle.cyc_base.specs.declared.trit.Trit.{Trit}
use Rattle.cyc_base.specs.declared.trit.Trit.TheVariants.{X}
use Rattle.netlist.specs.declared.parts.Latch.{Latch}
use Rattle.cyc_base.proofs.OrderLemmas.{bit-known, bits-at}
use Rattle.std.proofs.lemmas.List.{get_or-map, length-map}
use Rattle.loops.specs.declared.structure.Blocks.{Blocks}
use Rattle.loops.specs.Blocks.{AreBlocksOf, block_at}
use Rattle.loops.proofs.OrderLemmas.{block_within}
use Rattle.care_sets.specs.Care.{CareSet, IsCareVector}
use Rattle.refusals.specs.Acceptance.{Accepts}
use Rattle.refusals.specs.declared.observe.Observe.TheVariants as observe
use Rattle.refusals.proofs.RefusalLemmas.{gate_sig_at, gate_wire, length-gate_sigs}
use Rattle.clause_decision.specs.Changes.{AreFedKnown}
use Rattle.clause_decision.specs.Loads.{HasLoads}
use Rattle.refusals.specs.Tests.{LoadsAreKnown}
use Rattle.clause_decision.specs.Scopes.{AreClosed, AreInScope, AreKnownOnCare, AreNeverUnknown}
use Rattle.clause_decision.specs.declared.scope.Scope.{Scope}

pub all_closed : (net : Parts) (marks : List Bool) → marks ≡ replicate (length net.gates) true → AreClosed net marks
all_closed net marks is m n feeds marked = rw is (get_or-replicate (length net.gates) m true false feeds.source)

pub none_known : (net : Parts) (marks : List Bool) → marks ≡ replicate (length net.gates) false → AreNeverUnknown net marks
none_known net marks is v width n less marked =
    let unmarked : get_or marks n false ≡ false = rw is (get_or-replicate (length net.gates) n false false less) in
    absurd (true≢false (sym marked ∙ unmarked))

-- a block's gates are in a scope of all
pub block_in_scope : (net : Parts) (blocks : Blocks) (scope : Scope) → AreBlocksOf net blocks → ((n : ℕ) → n < length net.gates → is_marked scope.gates n ≡ true) → (b : ℕ) → b < length blocks.list →
    AreInScope net scope (block_at blocks b).gates
block_in_scope net blocks scope are all b within k d less =
    let gates : List ℕ = (block_at blocks b).gates in
    let gate : get_or gates k d < length net.gates = grind (arith, block_within net blocks are b within k less, get_or_default gates k d 0 less) in
    all (get_or gates k d) gate

-- where all gates are observed, an accepted netlist has none that is unknown at a care vector
pub accepted_known : (net : Parts) (care : CareSet) → Accepts net care observe.All → AreKnownOnCare net care
accepted_known net care accepts v counts n less x =
    let gate : Sig = gate_sig net n in
    accepts.determined v counts n gate (omega (arith, less, length-gate_sigs net)) (ap (wire (fix net (bits v))) (gate_sig_at net n gate less) ∙ gate_wire net v n counts.width ∙ x)

-- nor one that feeds a loop
pub accepted_fed : (net : Parts) (care : CareSet) (gates : List ℕ) → Accepts net care observe.All → AreFedKnown net care gates
accepted_fed net care gates accepts v counts m n feeds inside outside = accepted_known net care accepts v counts m feeds.source

-- where it is accepted on all vectors, what latches load is known on any care set
pub accepted_loads : (net : Parts) (care none : CareSet) → none.assume ≡ None → none.invariant ≡ None → Accepts net none observe.All → LoadsAreKnown net care
accepted_loads net care none assume invariant accepts v counts k d less x =
    let counted : IsCareVector net none v = record { width = counts.width; state = grind arith; allowed = grind arith } in
    let step = accepts.closed v counted in
    let loads : get_or (loaded net (fix net (bits v))) k X ≡ wire (fix net (bits v)) (get_or net.latches k d).from =
    get_or-map (λ (latch : Latch). wire (fix net (bits v)) latch.from) net.latches k d X less in
    let long : k < length step.state = grind (arith, less, step.is, length-map step.state bit, length-map net.latches (λ (latch : Latch). wire (fix net (bits v)) latch.from)) in
    bit-known (get_or step.state k false) (sym (bits-at step.state k long) ∙ sym (ap (λ (trits : List Trit). get_or trits k X) step.is) ∙ loads ∙ x)

-- what holds of each value holds of the one that is there
always : {T : Type 0} {P : T → Type 0} (o : Option T) → ((x : T) → P x) → IfSome o P
always None all = tt
always (Some x) all = all x

-- what an invariant reads is loaded from gates of a scope of all
pub all_loads : (net : Parts) (care : CareSet) (scope : Scope) → ((n : ℕ) → n < length net.gates → is_marked scope.gates n ≡ true) → HasLoads net care scope
all_loads net care scope all = always care.invariant (λ model column n none read less loads. all n less)
