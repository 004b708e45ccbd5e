-- Tables of formals: what they have, and where a pair or an input is at fault.
use Rattle.std.proofs.Common.{◌≡◌, ℕ, ◌+◌, ◌<◌, Bool, true, false, not, List, [], ◌∷◌, ◌++◌, length, get_or, take, drop, refl, ap, ◌∙◌, cond, if◌then◌else◌, Some, None, Err, is_some, option_map, arith}
use Rattle.flatten.proofs.Common.{drop-item, bytes_eq, Option, BlifModel, FlatFault, actual_of, is_among, formals, pairs_fault, entry, each_once, resolved, bound}
use Rattle.flatten.specs.declared.fault.FlatFault.TheVariants.{UnknownFormal, FormalTwice, OpenInput}
use Rattle.flatten.specs.Instances.{formal_fault, pair_fault, first_open}
use Rattle.flatten.proofs.Names.{taken}
use Rattle.flatten.proofs.Libraries.{among_once}

some_by : (b : Bool) (x y : List ℕ) (o p : Option (List ℕ)) → is_some o ≡ is_some p → is_some (cond b (Some x) o) ≡ is_some (cond b (Some y) p)
some_by b x y o p e = grind arith

-- a table has the formals of its pairs
pub bound_has : (prefix : List ℕ) (table pairs : List (List ℕ × List ℕ)) (name : List ℕ) → is_some (actual_of (bound prefix table pairs) name) ≡ is_some (actual_of pairs name)
bound_has prefix table [] name = refl
bound_has prefix table (p ∷ pairs) name =
    some_by (bytes_eq name p.0) (resolved prefix table p.1) p.1 (actual_of (bound prefix table pairs) name) (actual_of pairs name) (bound_has prefix table pairs name)

pub bound_open : (prefix : List ℕ) (table pairs : List (List ℕ × List ℕ)) (names : List (List ℕ)) → first_open (bound prefix table pairs) names ≡ first_open pairs names
bound_open prefix table pairs [] = refl
bound_open prefix table pairs (n ∷ names) = grind (arith, bound_has prefix table pairs n, bound_open prefix table pairs names)

pub bound_taken : (prefix : List ℕ) (table pairs : List (List ℕ × List ℕ)) (i : ℕ) (p : List ℕ × List ℕ) → i < length pairs → p ≡ get_or pairs i p → bound prefix table (take (i + 1) pairs) ≡ bound prefix table (take i pairs) ++ (p.0, resolved prefix table p.1) ∷ []
bound_taken prefix table pairs i p l e = ap (λ ps. bound prefix table ps) (taken pairs i p l e) ∙ bound_onto (take i pairs)
  where
    bound_onto : (ps : List (List ℕ × List ℕ)) → bound prefix table (ps ++ p ∷ []) ≡ bound prefix table ps ++ (p.0, resolved prefix table p.1) ∷ []
    bound_onto [] = refl
    bound_onto (q ∷ ps) = ap (λ ys. (q.0, resolved prefix table q.1) ∷ ys) (bound_onto ps)

pub pair_later : (names : List (List ℕ)) (pairs : List (List ℕ × List ℕ)) (i : ℕ) (p : List ℕ × List ℕ) → i < length pairs → p ≡ get_or pairs i p → is_among names p.0 ≡ true → is_some (actual_of (take i pairs) p.0) ≡ false → pair_fault names (take i pairs) (drop i pairs) ≡ pair_fault names (take (i + 1) pairs) (drop (i + 1) pairs)
pair_later names pairs i p l e h k = rw (drop-item pairs i p l e, h, k, taken pairs i p l e) refl

fault_of : (a b : Bool) (x y fault : FlatFault) (rest : Option FlatFault) → (if not a then Some x else (if b then Some y else None)) ≡ Some fault → (if not a then Some x else (if b then Some y else rest)) ≡ Some fault
fault_of a b x y fault rest e = grind arith

fits_of : (a b : Bool) (x y : FlatFault) → (if not a then Some x else (if b then Some y else None)) ≡ None → (a ≡ true) × (b ≡ false)
fits_of a b x y e = grind arith

pub formal_fits : (names : List (List ℕ)) (before : List (List ℕ × List ℕ)) (formal : List ℕ) → formal_fault names before formal ≡ None → (is_among names formal ≡ true) × (is_some (actual_of before formal) ≡ false)
formal_fits names before formal e = fits_of (is_among names formal) (is_some (actual_of before formal)) (UnknownFormal formal) (FormalTwice formal) e

-- the same by the table of the pairs before it
module _ (names : List (List ℕ)) (prefix : List ℕ) (table pairs entries : List (List ℕ × List ℕ)) (i : ℕ) (p : List ℕ × List ℕ) (l : i < length pairs) (at : p ≡ get_or pairs i p) (so_far : entries ≡ bound prefix table (take i pairs)) where
  same_there : is_some (actual_of entries p.0) ≡ is_some (actual_of (take i pairs) p.0)
  same_there = ap (λ es. is_some (actual_of es p.0)) so_far ∙ bound_has prefix table (take i pairs) p.0

  pub pair_refused : (fault : FlatFault) → formal_fault names entries p.0 ≡ Some fault → pair_fault names (take i pairs) (drop i pairs) ≡ Some fault
  pair_refused fault e =
      grind (arith, drop-item pairs i p l, fault_of (is_among names p.0) (is_some (actual_of (take i pairs) p.0)) (UnknownFormal p.0) (FormalTwice p.0) fault (pair_fault names (take i pairs ++ p ∷ []) (drop (i + 1) pairs)), same_there)

  pub pair_taken : formal_fault names entries p.0 ≡ None → pair_fault names (take (i + 1) pairs) (drop (i + 1) pairs) ≡ pair_fault names (take i pairs) (drop i pairs)
  pair_taken e = grind (arith, formal_fits names entries p.0 e, pair_later names pairs i p l, same_there)

-- the same by the formals once each
pub pair_fault_once : (names : List (List ℕ)) (before pairs : List (List ℕ × List ℕ)) → pair_fault (each_once names) before pairs ≡ pair_fault names before pairs
pair_fault_once names before [] = refl
pair_fault_once names before (p ∷ pairs) = rw (among_once names p.0, pair_fault_once names (before ++ p ∷ []) pairs) refl

pub none_there : (o : Option (List ℕ)) → is_some o ≡ false → o ≡ None
none_there o h = grind arith

-- the first fault of the pairs, and then the first open input or clock
pub pairs_fault_at : (model : BlifModel) (keys : List (List ℕ)) (pairs : List (List ℕ × List ℕ)) (fault : FlatFault) → keys ≡ each_once (formals model) → pair_fault keys [] pairs ≡ Some fault → pairs_fault model pairs ≡ Some fault
pairs_fault_at model keys pairs fault k e = grind (arith, pair_fault_once (formals model) [] pairs)

pub pairs_fault_open : (model : BlifModel) (keys : List (List ℕ)) (prefix : List ℕ) (table pairs : List (List ℕ × List ℕ)) → keys ≡ each_once (formals model) → pair_fault keys [] pairs ≡ None → pairs_fault model pairs ≡ option_map OpenInput (first_open (bound prefix table pairs) (model.inputs ++ model.clocks))
pairs_fault_open model keys prefix table pairs k e = grind (arith, pair_fault_once (formals model) [] pairs, bound_open prefix table pairs (model.inputs ++ model.clocks))
