-- A fault of a call is handed on.
use Rattle.std.proofs.Common.{◌≡◌, ◌⊎◌, inl, inr, ⊎_elim, IsErrAnd, IfErr, arith}
use Rattle.std.proofs.lemmas.Result.{IfErr-weaker}
use Rattle.flatten.proofs.Common.{Result, FlatFault, Memory}

-- by `?`, where what holds at the fault tells what is to hold
pub handed_on : {T P : Type 0} (Q : FlatFault → Type 0) (r : Result T FlatFault) (fault : FlatFault) → IsErrAnd r (λ e. e ≡ fault) → (fault ≡ Memory) ⊎ P → (P → Q fault) → IfErr r (λ e. (e ≡ Memory) ⊎ Q e)
handed_on Q r fault is h f = grind arith

-- as the call's own result
pub fault_of : {T : Type 0} (P Q : FlatFault → Type 0) (r : Result T FlatFault) → ((fault : FlatFault) → P fault → Q fault) → IfErr r (λ fault. (fault ≡ Memory) ⊎ P fault) → IfErr r (λ fault. (fault ≡ Memory) ⊎ Q fault)
fault_of P Q r f h = IfErr-weaker r _ _ (λ fault. ⊎_elim (λ m. inl m) (λ p. inr (f fault p))) h
