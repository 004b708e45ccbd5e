-- A text of lines of names reads back as these lines.
use Rattle.std.proofs.Common.{◌≡◌, ℕ, ◌+◌, List, [], ◌∷◌, ◌++◌, false, refl, ap, append_assoc, append-nil, length, arith}
use Rattle.std.specs.Prelude.{All, Ok}
use Rattle.sched_text.proofs.Common.{flat_map, lines, end_number, IsLine, numbered, after_blank, line_text}
use Rattle.blif_text.proofs.WrittenLines.{spaced, line_of}
use Rattle.blif_text.proofs.WrittenLines as texts

behind_spaced : (word : List ℕ) (rest : List (List ℕ)) → word ++ flat_map after_blank rest ≡ spaced (word ∷ rest)
behind_spaced word [] = append-nil word
behind_spaced word (next ∷ rest) = ap (λ text. word ++ 32 ∷ text) (behind_spaced next rest)

-- no line ends in a blank
line_is : (words : List (List ℕ)) → line_text words ≡ line_of (λ ws. false) words ++ 10 ∷ []
line_is [] = refl
line_is (word ∷ rest) = grind (arith, append_assoc, behind_spaced, append-nil)

pub written_lines : (written : List (List (List ℕ))) → All IsLine written → lines (flat_map line_text written) false ≡ Ok (numbered 1 written)
written_lines written each = texts.written_lines line_text (λ ws. false) line_is false (λ ws names. refl) written each

pub written_end : (written : List (List (List ℕ))) → All IsLine written → end_number (flat_map line_text written) ≡ 1 + length written
written_end written each = texts.written_end line_text (λ ws. false) line_is written each
