-- The bytes read so far are the front of the file.
use Rattle.std.proofs.Common.{min, zero, suc, ◌≡◌, ℕ, ◌+◌, ◌<◌, ◌≤◌, List, [], ◌∷◌, ◌++◌, length, take, drop, arith, Some, None, refl, sym, ap, ◌∙◌, subst, append-nil}
use Rattle.std.proofs.lemmas.List.{length-drop, length-take-le, length-take, length-append}
use Rattle.std.proofs.Math.Seq.{take-add}
use Rattle.std.specs.Prelude.{MatchOption}
use Rattle.std.specs.declared.option.Option.{Option}
use Rattle.cyc_io.specs.Files.{Files, IsFile, IsFront, IsPart, GivesPart}

-- at the start
pub IsFront_nil : (files : Option Files) (name : List ℕ) → IsFront files name []
IsFront_nil files name = grind arith

part_joins : (whole bytes old new : List ℕ) (n : ℕ) → take (length bytes) whole ≡ bytes → IsPart whole (length bytes) n old new
    → take (length (bytes ++ take n new)) whole ≡ bytes ++ take n new
part_joins whole bytes old new n front part =
    let long : length (take n new) ≡ n = ap length part.front ∙ length-take-le n (drop (length bytes) whole) part.inside in
    let total : length (bytes ++ take n new) ≡ length bytes + n = length-append bytes (take n new) ∙ ap (λ k. length bytes + k) long in
    grind (arith, take-add (length bytes) n whole)

-- one more piece
pub IsFront_more : (files : Option Files) (name bytes old new : List ℕ) (n : ℕ) → IsFront files name bytes
    → GivesPart files name (length bytes) n old new → IsFront files name (bytes ++ take n new)
IsFront_more files name bytes old new n front gives = grind (arith, part_joins)

take_all : (xs : List ℕ) (n : ℕ) → length xs ≤ n → take n xs ≡ xs
take_all [] zero le = refl
take_all [] (suc n) le = refl
take_all (x ∷ xs) zero le = absurd (omega arith)
take_all (x ∷ xs) (suc n) le = ap (λ rest. x ∷ rest) (take_all xs n (omega arith))

ended_whole : (whole bytes : List ℕ) → take (length bytes) whole ≡ bytes → length whole ≤ length bytes → whole ≡ bytes
ended_whole whole bytes front le = sym (take_all whole (length bytes) le) ∙ front

-- the same, as the code names the bytes
pub front_more : (files : Option Files) (name bytes old new more : List ℕ) (at n : ℕ) → GivesPart files name at n old new
    → more ≡ bytes ++ take n new → at ≡ length bytes → IsFront files name bytes → IsFront files name more
front_more files name bytes old new more at n gives is place front = grind (arith, IsFront_more files name bytes old new n front)

-- no more piece
pub IsFile_ended : (files : Option Files) (name bytes old new : List ℕ) → 0 < length old → IsFront files name bytes
    → GivesPart files name (length bytes) 0 old new → IsFile files name bytes
IsFile_ended None name bytes old new room front gives = tt
IsFile_ended (Some told) name bytes old new room front (whole, is, part) =
    let here : MatchOption (Some whole) (bytes ≡ []) (λ whole. take (length bytes) whole ≡ bytes) =
    subst (λ (file : Option (List ℕ)). MatchOption file (bytes ≡ []) (λ whole. take (length bytes) whole ≡ bytes)) is front in
    is ∙ ap Some (ended_whole whole bytes here (part.ended refl room))

-- A front that has bytes is that of a file.
pub IsFront_file : (files : Option Files) (name bytes : List ℕ) (limit : ℕ) → IsFront files name bytes → limit < length bytes
    → (whole : List ℕ) × (limit < length whole) × IsFile files name whole
IsFront_file files name bytes limit front over = grind (arith, length-take)

-- the same, as the code names the bytes
pub whole_ended : (files : Option Files) (name bytes old new more : List ℕ) (at n : ℕ) → GivesPart files name at n old new
    → more ≡ bytes ++ take n new → at ≡ length bytes → 0 < length old → n ≡ 0 → IsFront files name bytes → IsFile files name more
whole_ended files name bytes old new more at n gives is place room none front = grind (arith, append-nil bytes, IsFile_ended files name bytes old new room front)

-- past the end there is none
pub part_none : (bytes buf : List ℕ) (at : ℕ) → length bytes ≤ at → IsPart bytes at 0 buf buf
part_none bytes buf at over = record { inside = omega arith; front = refl; rest = refl; ended = λ none room. over }

-- bytes that were copied to the front
pub part_copied : (bytes old new : List ℕ) (at n : ℕ) → at < length bytes → n ≡ min (length (drop at bytes)) (length old)
    → take n new ≡ take n (drop at bytes) → drop n new ≡ drop n old → IsPart bytes at n old new
part_copied bytes old new at n inside is front rest = grind (arith, length-drop)
