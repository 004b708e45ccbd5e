-- Vectors and ticks, item by item.
use Rattle.std.proofs.Common.{◌≡◌, ℕ, Bool, List, [], ◌∷◌, length, map, refl, ap, ◌∙◌}
use Rattle.std.specs.Prelude.{suc, All}
use Rattle.std.specs.List.{AllByRecursion}
use Rattle.std.proofs.lemmas.List.Elements.{All-from_recursion, recursion_from_All}
use Rattle.plain_commands.proofs.Common.{Trit, known}
use Rattle.care_sets.specs.Care.{is_one}
use Rattle.sched_text.specs.Vectors.{HaveWidth}

-- vectors without unknown values have the width that they had
pub known_width : (n : ℕ) (vectors : List (List Trit)) → HaveWidth n vectors → All (λ (inputs : List Bool). length inputs ≡ n) (known vectors)
known_width n vectors wide =
    All-from_recursion (λ inputs. length inputs ≡ n) (known vectors) (each vectors (recursion_from_All (λ (vector : List Trit). length vector ≡ n) vectors wide))
  where
    long : (vector : List Trit) → length (map is_one vector) ≡ length vector
    long [] = refl
    long (value ∷ vector) = ap suc (long vector)

    each : (vs : List (List Trit)) → AllByRecursion (λ (vector : List Trit). length vector ≡ n) vs
        → AllByRecursion (λ (inputs : List Bool). length inputs ≡ n) (known vs)
    each [] all = tt
    each (vector ∷ vs) all = (long vector ∙ all.0, each vs all.1)
