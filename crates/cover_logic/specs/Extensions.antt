-- The exact ternary extension of a Boolean function, and that of a cover.
use Rattle.std.specs.Prelude.{Bool, true, false, not, if◌then◌else◌, List, [], ◌∷◌, ◌++◌, map}
use Rattle.std.specs.List.{list_all}
use Rattle.cyc_base.specs.declared.trit.Trit.{Trit}
use Rattle.cyc_base.specs.declared.trit.Trit.TheVariants.{Zero, One, X}
use Rattle.cover_logic.specs.Covers.{Cover, value}

-- every way to replace each X by 0 or by 1, place by place
abbrev pub completions : List Trit → List (List Bool)
completions [] = [] ∷ []
completions (Zero ∷ trits) = map (λ bs. false ∷ bs) (completions trits)
completions (One ∷ trits) = map (λ bs. true ∷ bs) (completions trits)
completions (X ∷ trits) =
    map (λ bs. false ∷ bs) (completions trits) ++ map (λ bs. true ∷ bs) (completions trits)

-- what a function says of all completions: 1 where each gives 1, 0 where each gives 0, and else X
abbrev pub exact : (List Bool → Bool) → List Trit → Trit
exact f trits =
    if list_all f (completions trits) then One
    else (if list_all (λ bs. not (f bs)) (completions trits) then Zero else X)

-- the exact ternary extension of a cover
abbrev pub ext : Cover → List Trit → Trit
ext cover = exact (value cover)
