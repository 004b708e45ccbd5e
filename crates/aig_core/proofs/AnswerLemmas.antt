-- What is answered where a call that makes edges is refused.
use Rattle.std.proofs.Common.{◌≡◌, ◌<◌, ◌≤◌, List, length, Result, Err, IsErrAnd, arith}
use Rattle.aig_core.specs.declared.aig.TheConstants.{MAX_ANDS}
use Rattle.aig_core.proofs.Common.{length_push, Edge, Graph, Made, conjunction, pair_of, Building}
use Rattle.aig_core.specs.declared.fault.AigFault.{AigFault}
use Rattle.aig_core.specs.declared.fault.AigFault.TheVariants.{TooLarge}
use Rattle.aig_core.specs.Conjunctions.{NeedsAnd}
use Rattle.aig_core.specs.Answers.{IsFault, Makes, Builds}
use Rattle.aig_core.proofs.ConjunctionLemmas.{conjunction-none}

pub IsFault-grows : (old new : Graph) (f : AigFault) → length old.ands ≤ length new.ands → IsFault old f → IsFault new f
IsFault-grows old new f h is = grind arith

pub fault_from : (g : Graph) (f : AigFault) → (f ≡ TooLarge → MAX_ANDS < length g.ands) → IsFault g f
fault_from g f over = grind arith

pub err_is : {T : Type 0} (r : Result T AigFault) (f : AigFault) → IsErrAnd r (λ y. y ≡ f) → r ≡ Err f
err_is r f h = grind arith

-- a fault that is handed on
pub handed : (r : Result Edge AigFault) (f : AigFault) (new : Graph) (made : Made) → IsErrAnd r (λ y. y ≡ f) → IsFault made.graph f → Makes r new made
handed r f new made h is = rw (err_is r f h) is

pub too_many : (g : Graph) (a b : Edge) → NeedsAnd g a b → length g.ands ≡ MAX_ANDS → MAX_ANDS < length (conjunction g a b).graph.ands
too_many g a b needs full = grind (arith, conjunction-none g a b needs.apart, length_push g.ands (pair_of a b))

pub builds_refused : {T : Type 0} (r : Result T AigFault) (f : AigFault) (g : Graph) (edges : List Edge) (b : Building) → IsErrAnd r (λ y. y ≡ f) → IsFault b.graph f → Builds r g edges b
builds_refused r f g edges b h is = rw (err_is r f h) is
