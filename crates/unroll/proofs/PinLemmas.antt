-- What the source of a pin says of the pin.
use Rattle.std.proofs.Common.{◌≡◌, ℕ, Bool, if◌then◌else◌, Some, None, sym, ap, ◌∙◌, arith}
use Rattle.unroll.proofs.Common.{Sig, loops_by, gate_of, in_loop_of, Option, loops_of, Looped, IsLooped}
use Rattle.loops.proofs.LoopedLemmas.{cut_is_told, one_loop_is_told}

-- the same by the blocks and the cut wires
pub source_by_blocks : (l : Looped) → IsLooped l → (n : ℕ) (s : Sig) (source : Option ℕ) → source ≡ (if in_loop_of l.net (loops_of l.net) n s then Some (gate_of l.net s) else None)
    → source ≡ (if in_loop_of l.net (loops_by l.blocks l.cut) n s then Some (gate_of l.net s) else None)
source_by_blocks l is n s source told = grind (arith, one_loop_is_told)

pub cut_by_blocks : (l told : Looped) → told ≡ l → IsLooped l → (n : ℕ) (cut : Bool) → cut ≡ (loops_of told.net).cut n → cut ≡ (loops_by l.blocks l.cut).cut n
cut_by_blocks l told same is n cut e = e ∙ ap (λ (k : Looped). (loops_of k.net).cut n) same ∙ sym (cut_is_told l is n)

-- what is read where a choice gave a gate, or none
pub read_some : (b : Bool) (g x : ℕ) (cut : ℕ → Bool) (cuts inner : ℕ → Sig) (outer : Sig) → Some x ≡ (if b then Some g else None) → (if cut x then cuts x else inner x) ≡ (if b then (if cut g then cuts g else inner g) else outer)
read_some b g x cut cuts inner outer e = grind arith

pub read_none : (b : Bool) (g : ℕ) (cut : ℕ → Bool) (cuts inner : ℕ → Sig) (outer : Sig) → None ≡ (if b then Some g else None) → outer ≡ (if b then (if cut g then cuts g else inner g) else outer)
read_none b g cut cuts inner outer e = grind arith
