-- An observed wire that is undetermined, at any vector.
use Rattle.std.proofs.Common.{◌≡◌, ◌≢◌, ℕ, ◌<◌, Bool, true, List, length, Option, Some, None, refl, sym, ap, ◌∙◌, subst, arith, Contains}
use Rattle.std.specs.Option.{option_or}
use Rattle.verdict.proofs.Common.{and_parts, get_or_default, ListsMarked, Blocks, X, Sig, bits, Parts, IsNetlist, gate_sig, fix, wire, CareSet, columns, is_care_vector, IsCareVector, Observe, observed, Refusal, Initial, EmptyCare, Undetermined, Leaves, is_marked, AreMarksOf, is_undetermined, leaves_refusal, undetermined_refusal, refusal, care_vector_decides, is_unknown_at}
use Rattle.refusals.specs.Refusals.{first_failing, is_among, observed_gates, care_vectors}
use Rattle.refusals.proofs.ObservedLemmas.{member}
use Rattle.refusals.proofs.LawLemmas.{observed_determined, refusal_is_shown, undetermined_is_observed}
use Rattle.refusals.proofs.RefusalLemmas.{mapped}
use Rattle.refusals.proofs.ShowingLemmas.{is_x_decides}
use Rattle.clause_decision.specs.Witnesses.{IsWitness}
use Rattle.isolation.specs.Excerpts.{gate_in}
use Rattle.verdict.specs.Unknown.{AreAskedCandidates}
use Rattle.verdict.specs.Determinacy.{IsUnknownObserved, IsUnknownGateAt}
use Rattle.verdict.specs.Scopes.{MayGoOn}
use Rattle.verdict.specs.Questions.{Asked}
use Rattle.diagram_decision.specs.Judgements.{IsJudgement}
use Rattle.verdict.specs.Witnessed.{IsSomeJudgement, IsSomeRefusal, IsUndeterminedAt}
use Rattle.diagram_decision.specs.declared.judgement.Judgement.{Judgement}
use Rattle.diagram_decision.specs.declared.judgement.Judgement.TheVariants as judgements
use Rattle.diagram_decision.proofs.VerdictLemmas.{refused-on-care}

-- ---- the refusal that there is beside any witness

-- a netlist that is refused for an undetermined wire
pub record HasUndetermined (net : Parts) (care : CareSet) (what : Observe) : Type 0 where
  pub least : List Bool
  pub first : Sig
  pub refused : refusal net care what ≡ Some (Undetermined least first)

has-undetermined : (net : Parts) (care : CareSet) (what : Observe) (v : List Bool) (s : Sig) → IsNetlist net → MayGoOn net care → IsCareVector net care v → Contains (observed net what) s → wire (fix net (bits v)) s ≡ X →
    HasUndetermined net care what
has-undetermined net care what v s valid may counts among unknown = by (undetermined_refusal net care what) refl
  where
    by : (o : Option Refusal) → undetermined_refusal net care what ≡ o → HasUndetermined net care what
    by None none = absurd (subst (λ t. wire (fix net (bits v)) t ≢ X) among.2 (observed_determined net care what v valid none counts among.0 s among.1) unknown)
    by (Some r) is =
        let m = mapped (λ u. Undetermined u.1 u.0) (first_failing (is_undetermined net) (observed_gates net what) (care_vectors net care)) r is in
        record {
          least = m.value.1;
          first = m.value.0;
          refused = refused-on-care net care what (Some (Undetermined m.value.1 m.value.0)) may.initial may.some
              (ap (λ (o : Option Refusal). option_or o (leaves_refusal net care)) (is ∙ ap Some m.is));
        }

-- a gate that is observed, and unknown at a care vector
pub undetermined-at : (net : Parts) (care : CareSet) (what : Observe) (v : List Bool) (n : ℕ) → IsNetlist net → MayGoOn net care → n < length net.gates → length v ≡ columns net → is_unknown_at net care n v ≡ true →
    is_among (observed net what) (gate_sig net n) ≡ true → IsUndeterminedAt net care what v (gate_sig net n)
undetermined-at net care what v n valid may less wide unknown seen =
    let both = and_parts (is_care_vector net care v) (is_undetermined net (gate_sig net n) v) unknown in
    let counts = care_vector_decides net care v wide both.0 in
    let x = is_x_decides (wire (fix net (bits v)) (gate_sig net n)) both.1 in
    let among = member (gate_sig net n) (observed net what) seen in
    let has = has-undetermined net care what v (gate_sig net n) valid may counts among x in
    record {
      at = record { width = wide; gate = record { behind = omega arith; within = omega (arith, less) } };
      counts = counts;
      unknown = x;
      among = among;
      least = has.least;
      first = has.first;
      refused = has.refused;
    }

pub gate-refuses : (net : Parts) (care : CareSet) (what : Observe) (v : List Bool) (n : ℕ) (r : Refusal) → IsUndeterminedAt net care what v (gate_sig net n) → IsUnknownGateAt net v n r → IsSomeRefusal net care what r
gate-refuses net care what v n (Initial q) is at = absurd at
gate-refuses net care what v n EmptyCare is at = absurd at
gate-refuses net care what v n (Undetermined w s) is at = subst (λ t. IsUndeterminedAt net care what w t) (sym at.1) (subst (λ u. IsUndeterminedAt net care what u (gate_sig net n)) (sym at.0) is)
gate-refuses net care what v n (Leaves w q) is at = absurd at

-- an observed gate that is unknown refuses the netlist
pub unknown_refuses : (q : Asked) (v : List Bool) (n : ℕ) (r : Refusal) → IsNetlist q.net → MayGoOn q.net q.care → IsUnknownObserved q v n → IsUnknownGateAt q.net v n r → IsSomeRefusal q.net q.care q.what r
unknown_refuses q v n r valid may is at = gate-refuses q.net q.care q.what v n r (undetermined-at q.net q.care q.what v n valid may is.within is.width is.unknown is.seen) at

-- a marked gate where the marks are those of observed gates
pub observed_unknown : (q : Asked) (seen : List Bool) (v : List Bool) (n : ℕ) → AreMarksOf q.net (observed q.net q.what) seen → n < length q.net.gates → is_marked seen n ≡ true → length v ≡ columns q.net →
    is_unknown_at q.net q.care n v ≡ true → IsUnknownObserved q v n
observed_unknown q seen v n marks less marked wide unknown = record { within = less; width = wide; unknown = unknown; seen = sym (marks.each n less) ∙ marked }

-- and of a list of gates that were asked for
pub asked-unknown : (q : Asked) (seen marks : List Bool) (last : ℕ) → AreAskedCandidates q.net q.blocks q.settled seen last marks → (gates : List ℕ) → ListsMarked marks (length q.net.gates) gates →
    AreMarksOf q.net (observed q.net q.what) seen → (v : List Bool) (place : ℕ) → IsWitness q.net q.care gates v place → IsUnknownObserved q v (gate_in gates place)
asked-unknown q seen marks last candidates gates listed are v place witness =
    let here = gate_in gates place in
    let there = (listed.each here).0 (place, witness.within, get_or_default gates place _ _ witness.within) in
    observed_unknown q seen v here are there.0 (candidates.only here there.1).seen witness.width witness.unknown

-- ---- exact answers are such ones

pub exact_refusal : (net : Parts) (care : CareSet) (what : Observe) (r : Refusal) → IsNetlist net → refusal net care what ≡ Some r → IsSomeRefusal net care what r
exact_refusal net care what (Initial q) valid is = is
exact_refusal net care what EmptyCare valid is = is
exact_refusal net care what (Undetermined v s) valid is =
    let shown = refusal_is_shown net care what (Undetermined v s) valid is in
    let proves = shown.1 (λ e. not_empty e) in
    record {
      at = shown.0;
      counts = proves.counts;
      unknown = proves.unknown;
      among = undetermined_is_observed net care what v s is;
      least = v;
      first = s;
      refused = is;
    }
  where
    not_empty : Undetermined v s ≢ EmptyCare
    not_empty e = cc
exact_refusal net care what (Leaves v q) valid is = is

pub exact_judgement : (net : Parts) (care : CareSet) (what : Observe) (judgement : Judgement) → IsNetlist net → IsJudgement net care what judgement → IsSomeJudgement net care what judgement
exact_judgement net care what (judgements.Accepted loose) valid is = is
exact_judgement net care what (judgements.Refused r) valid is = exact_refusal net care what r valid is
