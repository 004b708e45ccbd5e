-- The states of vectors on rails.
use Rattle.std.proofs.Common.{◌≡◌, ◌-◌, ℕ, Bool, List, length, drop, take, arith}
use Rattle.std.proofs.lemmas.List.{drop-map, take_rest}
use Rattle.equal.proofs.Common.{Arena, bits, Rails, values_of, Parts, state_of}
use Rattle.cyc_base.specs.Values.{bit}

-- the rails behind those of the inputs stand for the state, where those of all columns stand for the vector
pub state-values : (net : Parts) (a : Arena) (rails : List Rails) (first : ℕ) (values v : List Bool) → first ≡ length net.inputs → values_of a rails v ≡ bits values →
    values_of a (take (length rails - first) (drop first rails)) v ≡ bits (state_of net values)
state-values net a rails first values v is are = grind (arith, take_rest rails first, drop-map, drop-map bit (length net.inputs) values)
