-- The least completion of ternary values at which a function is 0, or 1.
use Rattle.std.specs.Prelude.{◌≡◌, ◌≢◌, ◌<◌, ℕ, Bool, true, false, not, List, [], slice_index_or, unwrap_or}
use Rattle.std.specs.declared.option.Option.{Option}
use Rattle.std.specs.List.{find}
use Rattle.cyc_base.specs.declared.trit.Trit.{Trit}
use Rattle.cyc_base.specs.declared.trit.Trit.TheVariants.{X}
use Rattle.cyc_base.specs.Values.{Completes}
use Rattle.cyc_base.specs.Vectors.{AtMost}
use Rattle.cover_logic.specs.Extensions.{completions}

-- a value is the wanted one
abbrev pub is : Bool → Bool → Bool
is true value = value
is false value = not value

-- The completions are listed in lexicographic order, 0 before 1: the first of them at which the function has this value.
abbrev pub first_where : (List Bool → Bool) → Bool → List Trit → Option (List Bool)
first_where f wanted trits = find (λ bs. is wanted (f bs)) (completions trits)

abbrev pub least_where : (List Bool → Bool) → Bool → List Trit → List Bool
least_where f wanted trits = unwrap_or (first_where f wanted trits) []

-- a completion at which the function has this value, and that no other such one precedes
pub record IsLeastWhere (f : List Bool → Bool) (wanted : Bool) (trits : List Trit) (bs : List Bool) : Type 0 where
  pub above : Completes trits bs
  pub value : f bs ≡ wanted
  pub least : (other : List Bool) → Completes trits other → f other ≡ wanted → AtMost bs other

-- the first values are known
abbrev pub AreKnown : List Trit → ℕ → Type 0
AreKnown trits n = (i : ℕ) → i < n → slice_index_or trits i X ≢ X
