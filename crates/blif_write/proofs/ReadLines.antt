-- A text of lines of names reads back as these lines.
use Rattle.std.proofs.Common.{◌≡◌, List, [], ◌∷◌, ◌++◌, ℕ, false, refl, sym, ap, ◌∙◌, append_assoc, append-nil, arith}
use Rattle.blif_write.proofs.Common.{All, All-tail, numbered, line_text}
use Rattle.std.specs.Prelude.{Bool, ◌&&◌, if◌then◌else◌, Ok}
use Rattle.std.proofs.lemmas.Bool.{and_right}
use Rattle.cyc_base.specs.Names.{IsBlifName}
use Rattle.blif_text.specs.Texts.{ends_in_backslash, lines}
use Rattle.blif_text.proofs.Pieces.{ends_behind}
use Rattle.blif_text.proofs.WrittenLines.{IsLine, spaced, line_of}
use Rattle.blif_text.proofs.WrittenLines as texts
use Rattle.blif_write.specs.Written.{line_end, text_of}

abbrev last_of : List (List ℕ) → List ℕ
last_of [] = []
last_of (word ∷ []) = word
last_of (word ∷ next ∷ rest) = last_of (next ∷ rest)

-- whether a line ends in a blank
abbrev closes : List (List ℕ) → Bool
closes words = ends_in_backslash (last_of words)

end_is : (last : List ℕ) → line_end last ≡ (if ends_in_backslash last then 32 ∷ [] else []) ++ 10 ∷ []
end_is last = grind arith

line_is : (words : List (List ℕ)) → line_text words ≡ line_of closes words ++ 10 ∷ []
line_is [] = refl
line_is (word ∷ []) = ap (λ end. word ++ end) (end_is word) ∙ sym (append_assoc word (if ends_in_backslash word then 32 ∷ [] else []) (10 ∷ []))
line_is (word ∷ next ∷ rest) =
    let more = line_of closes (next ∷ rest) in
    let end = if closes (next ∷ rest) then 32 ∷ [] else [] in
    ap (λ text. word ++ 32 ∷ text) (line_is (next ∷ rest))
    ∙ sym (append_assoc word (32 ∷ more) (10 ∷ []))
    ∙ ap (λ text. text ++ 10 ∷ []) (sym (append_assoc word (32 ∷ spaced (next ∷ rest)) end))

-- No line is joined.

ends_spaced : (ws : List (List ℕ)) → All IsBlifName ws → ends_in_backslash (spaced ws) ≡ ends_in_backslash (last_of ws)
ends_spaced [] each = refl
ends_spaced (w ∷ []) each = refl
ends_spaced (w ∷ v ∷ ws) each = ends_behind w 32 (spaced (v ∷ ws)) refl ∙ ends_spaced (v ∷ ws) (All-tail IsBlifName w (v ∷ ws) each)

ends_closed : (t : Bool) (xs : List ℕ) → ends_in_backslash xs ≡ t → ends_in_backslash (xs ++ (if t then 32 ∷ [] else [])) ≡ false
ends_closed t xs is = grind (arith, ends_behind, append-nil)

not_joined : (joins : Bool) (ws : List (List ℕ)) → All IsBlifName ws → (joins && ends_in_backslash (line_of closes ws)) ≡ false
not_joined joins ws each = and_right joins (ends_in_backslash (line_of closes ws)) (ends_closed (closes ws) (spaced ws) (ends_spaced ws each))

pub written_lines : (written : List (List (List ℕ))) (joins : Bool) → All IsLine written → lines (text_of written) joins ≡ Ok (numbered 1 written)
written_lines written joins each = texts.written_lines line_text closes line_is joins (not_joined joins) written each
