-- How a reader goes over the lines of a dump.
use Rattle.std.proofs.Common.{◌≡◌, ◌≢◌, ◌<◌, ◌+◌, ◌-◌, ◌/◌, ◌%◌, ◌^◌, ◌==◌, ◌&&◌, ℕ, zero, suc, Bool, true, not, nat_lt, List, [], ◌∷◌, ◌++◌, codes, decimal, Option, inl, inr, refl, ap, sym, ◌∙◌, arith}
use Rattle.probes.proofs.Common.{fold, flat_map, list_all, cases_lt, lt-ltb, le-ltb, eq-eqb, ne_eqb, and_parts, and_from, not-true, append_assoc, append-nil, list_all-append, Sig, Change, value_after, code_upto, code, value_line, timed_lines, is_first, lines_from, Shown, read_line}
use Rattle.std.specs.Str.{bytes_eq}
use Rattle.std.proofs.lemmas.Bool.{cases_eq, cases_Bool, eqb-true, ltb-true}
use Rattle.std.proofs.lemmas.Fmt.{decimal_is_IsNumeral, decimal_by_steps}
use Rattle.std.proofs.lemmas.Slice.Eq.{bytes_eq-Decides}
use Rattle.cyc_io.specs.Bits.{bit_text}
use Rattle.probes.specs.Dumps.{time_line}
use Rattle.probes.specs.Reading.{read_value}
use Rattle.probes.proofs.CodeLemmas as codes_of

-- no byte of it ends a line
abbrev pub is_plain : List ℕ → Bool
is_plain = list_all (λ b. not (b == 10))

plain_byte : (b : ℕ) → b ≢ 10 → not (b == 10) ≡ true
plain_byte b other = rw (ne_eqb b 10 other) refl

pub plain_cons : (b : ℕ) (bs : List ℕ) → b ≢ 10 → is_plain bs ≡ true → is_plain (b ∷ bs) ≡ true
plain_cons b bs other plain = and_from (not (b == 10)) (is_plain bs) (plain_byte b other) plain

plain_code : (f n : ℕ) → is_plain (code_upto f n) ≡ true
plain_code zero n = refl
plain_code (suc f) n = grind (arith, cases_lt n 94, lt-ltb n 94, plain_cons (33 + n) [], le-ltb n 94, plain_cons (33 + n % 94) (code_upto f (n / 94 - 1)), plain_code f (n / 94 - 1))

pub code_is_plain : (n : ℕ) → is_plain (code n) ≡ true
code_is_plain n = plain_code (suc n) n

decimal_is_plain : (n : ℕ) → n < 2 ^ 64 → is_plain (decimal n) ≡ true
decimal_is_plain =
    decimal_by_steps (λ n ds. is_plain ds ≡ true)
    (λ n few. plain_cons (48 + n) [] (λ e. omega (arith, e)) refl)
    (λ n ds many plain.
    list_all-append (λ b. not (b == 10)) ds ((48 + n % 10) ∷ [])
    ∙ and_from (is_plain ds) (is_plain ((48 + n % 10) ∷ [])) plain (plain_cons (48 + n % 10) [] (λ e. omega (arith, e)) refl))

-- a plain piece stays on its line
pub piece : (line p rest : List ℕ) → is_plain p ≡ true → lines_from line (p ++ rest) ≡ lines_from (line ++ p) rest
piece line [] rest plain = ap (λ (l : List ℕ). lines_from l rest) (sym (append-nil line))
piece line (b ∷ p) rest plain = grind (arith, and_parts (not (b == 10)) (is_plain p) plain, not-true (b == 10), piece (line ++ b ∷ []) p rest, append_assoc line (b ∷ []) p)

pub piece_then : (line p more rest : List ℕ) → is_plain p ≡ true → lines_from line ((p ++ more) ++ rest) ≡ lines_from (line ++ p) (more ++ rest)
piece_then line p more rest plain = ap (lines_from line) (append_assoc p more rest) ∙ piece line p (more ++ rest) plain

-- codes are equal exactly where numbers are
code_test : (a b : ℕ) → bytes_eq (code a) (code b) ≡ (a == b)
code_test a b =
    elim (cases_eq a b) [
      | inl same ↦ (bytes_eq-Decides (code a) (code b)).1 (ap code same) ∙ sym (eq-eqb a b same)
      | inr other ↦
          elim (cases_Bool (bytes_eq (code a) (code b))) [
            | inl is ↦ absurd (other (codes_of.codes_differ a b ((bytes_eq-Decides (code a) (code b)).0 is)))
            | inr isnt ↦ isnt ∙ sym (ne_eqb a b other)
          ]
    ]

module _ (s : Sig) (at : ℕ) where
  pub reads : Shown → List ℕ → Shown
  reads shown text = fold (read_line s at) shown (lines_from [] text)

  -- a value counts in the text as its change does
  value_counts : (c : Change) (v : Option Bool) → read_value s at c.value (code c.sig.0) (record { time = c.at; value = v }) ≡ record { time = c.at; value = value_after s at v c }
  value_counts c v = grind (arith, code_test c.sig.0 s.0, cases_Bool (c.sig.0 == s.0 && not (nat_lt at c.at)))

  bit_reads : (b : Bool) (n : ℕ) (shown : Shown) (rest : List ℕ) →
      fold (read_line s at) shown (lines_from [] ((bit_text b ++ (code n ++ codes "\n")) ++ rest)) ≡ fold (read_line s at) (read_value s at b (code n) shown) (lines_from [] rest)
  bit_reads b n shown rest = grind (arith, piece_then, code_is_plain)

  value_reads : (c : Change) (v : Option Bool) (rest : List ℕ) →
      fold (read_line s at) (record { time = c.at; value = v }) (lines_from [] (value_line c ++ rest))
      ≡ fold (read_line s at) (record { time = c.at; value = value_after s at v c }) (lines_from [] rest)
  value_reads c v rest = grind (arith, bit_reads c.value c.sig.0, value_counts c v)

  time_reads : (time : ℕ) (c : Change) (v : Option Bool) (rest : List ℕ) → c.at < 2 ^ 64 →
      fold (read_line s at) (record { time = time; value = v }) (lines_from [] (time_line time c ++ rest))
      ≡ fold (read_line s at) (record { time = c.at; value = v }) (lines_from [] rest)
  time_reads time c v rest small = grind (arith, cases_Bool (c.at == time), eqb-true c.at time, piece_then (35 ∷ []) (decimal c.at) (codes "\n") rest (decimal_is_plain c.at small), decimal_is_plain c.at small, decimal_is_IsNumeral c.at small)

  -- the values at moment 0
  pub firsts_read : (changes : List Change) (v : Option Bool) (rest : List ℕ) → list_all is_first changes ≡ true →
      fold (read_line s at) (record { time = 0; value = v }) (lines_from [] (flat_map value_line changes ++ rest))
      ≡ fold (read_line s at) (record { time = 0; value = fold (value_after s at) v changes }) (lines_from [] rest)
  firsts_read [] v rest first = refl
  firsts_read (c ∷ changes) v rest first =
      grind (arith, and_parts (is_first c) (list_all is_first changes) first, eqb-true c.at 0, value_reads c v (flat_map value_line changes ++ rest), append_assoc (value_line c) (flat_map value_line changes) rest, firsts_read changes (value_after s at v c) rest)

  -- later values, with their times
  pub timed_read : (changes : List Change) (time : ℕ) (v : Option Bool) → list_all (λ c. nat_lt c.at (2 ^ 64)) changes ≡ true →
      (fold (read_line s at) (record { time = time; value = v }) (lines_from [] (timed_lines time changes))).value ≡ fold (value_after s at) v changes
  timed_read [] time v small = refl
  timed_read (c ∷ changes) time v small = grind (arith, and_parts, time_reads time, ltb-true, value_reads, timed_read changes)
