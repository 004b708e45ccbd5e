-- Readers take written pieces back: numbers, lines, and one item behind another.
use Rattle.std.proofs.Common.{◌≡◌, ℕ, zero, suc, ◌+◌, ◌*◌, ◌/◌, ◌%◌, ◌-◌, ◌^◌, ◌<◌, true, false, ◌==◌, List, [], ◌∷◌, ◌++◌, length, map, All, Some, Option, option_map, option_and_then, slice_get, eq-eqb, ne_eqb, lt-ltb, le-ltb, inl, inr, refl, ap, sym, ◌∙◌, append_assoc, append-nil, arith}
use Rattle.aig_core.proofs.Common.{codes, decimal, flat_map, enumerate_from, range_with_len}
use Rattle.std.specs.List.{slice_split}
use Rattle.std.specs.Str.{all_ascii_digits}
use Rattle.std.specs.Str.Parse.{digits_value}
use Rattle.std.proofs.lemmas.Fmt.{decimal_is_IsNumeral, decimal_by_steps, decimal_nonempty, digits_decimal}
use Rattle.std.proofs.lemmas.Str.Parse.{IsNumeralModel, numerals_by_value, tells_all_ascii_digits}
use Rattle.std.proofs.lemmas.List.Elements.{All-nil, All-cons, All-head, All-tail, All-push, All-append}
use Rattle.std.proofs.lemmas.List.Splits.{slice_split_none, slice_split_at}
use Rattle.std.proofs.lemmas.Bool.{cases_lt}
use Rattle.aig_core.specs.Text.{numbers_line, groups_upto, groups}
use Rattle.aig_core.specs.Reading as reading
use Rattle.aig_core.specs.Reading.{Reader, ◌>>=◌, given, each, up_to, is_blank, number, numbers_of, line}

-- the reader takes the text off the front of any bytes, and reads x
abbrev pub Takes : {X : Type 0} → Reader X → List ℕ → X → Type 0
Takes {X} read text x = (rest : List ℕ) → ◌≡◌ {A = Option (X × List ℕ)} (read (text ++ rest)) (Some (x, rest))

-- it reads x of the whole text
abbrev pub Ends : {X : Type 0} → Reader X → List ℕ → X → Type 0
Ends {X} read text x = ◌≡◌ {A = Option (X × List ℕ)} (read text) (Some (x, []))

-- ---- one reader behind another

pub takes_then : {X Y : Type 0} (read : Reader X) (next : X → Reader Y) (s t : List ℕ) (x : X) (y : Y) → Takes read s x → Takes (next x) t y → Takes (read >>= next) (s ++ t) y
takes_then read next s t x y first second rest =
    ap (read >>= next) (append_assoc s t rest)
    ∙ ap (option_and_then (λ taken. next taken.0 taken.1)) (first (t ++ rest))
    ∙ second rest

pub then_ends : {X Y : Type 0} (read : Reader X) (next : X → Reader Y) (s t : List ℕ) (x : X) (y : Y) → Takes read s x → Ends (next x) t y → Ends (read >>= next) (s ++ t) y
then_ends read next s t x y first second = ap (option_and_then (λ taken. next taken.0 taken.1)) (first t) ∙ second

pub takes_meaning : {X Y : Type 0} (read : Reader X) (meaning : X → Option Y) (s : List ℕ) (x : X) (y : Y) → Takes read s x → meaning x ≡ Some y → Takes (read >>= λ found. given (meaning found)) s y
takes_meaning read meaning s x y taken is rest =
    ap (option_and_then (λ taken. given (meaning taken.0) taken.1)) (taken rest) ∙ ap (option_map (λ found. (found, rest))) is

-- items that have their numbers, from k on
pub each_takes : {X Z : Type 0} (read : ℕ → Reader X) (text : ℕ → Z → List ℕ) (value : ℕ → Z → X) (zs : List Z) (k : ℕ)
    → ((i j : ℕ) (z : Z) → k + i ≡ j → slice_get zs i ≡ Some z → Takes (read j) (text j z) (value j z))
    → Takes (each read (range_with_len k (length zs))) (flat_map (λ item. text item.0 item.1) (enumerate_from k zs)) (map (λ item. value item.0 item.1) (enumerate_from k zs))
each_takes read text value [] k takes = λ rest. refl
each_takes read text value (z ∷ zs) k takes =
    takes_then (read k) (λ x. each read (range_with_len (k + 1) (length zs)) >>= λ xs. given (Some (x ∷ xs))) (text k z)
    (flat_map (λ item. text item.0 item.1) (enumerate_from (k + 1) zs)) (value k z) _
    (takes 0 k z (omega arith) refl)
    (takes_meaning (each read (range_with_len (k + 1) (length zs))) (λ xs. Some (value k z ∷ xs)) _ _ _
    (each_takes read text value zs (k + 1) (λ i j y e at. takes (suc i) j y (omega (arith, e)) at)) refl)

-- items without numbers
pub each_alike : {X Z : Type 0} (read : Reader X) (text : Z → List ℕ) (value : Z → X) (zs : List Z) (k : ℕ)
    → ((i : ℕ) (z : Z) → slice_get zs i ≡ Some z → Takes read (text z) (value z))
    → Takes (each (λ i. read) (range_with_len k (length zs))) (flat_map text zs) (map value zs)
each_alike read text value [] k takes = λ rest. refl
each_alike read text value (z ∷ zs) k takes =
    takes_then read (λ x. each (λ i. read) (range_with_len (k + 1) (length zs)) >>= λ xs. given (Some (x ∷ xs))) (text z)
    (flat_map text zs) (value z) _
    (takes 0 z refl)
    (takes_meaning (each (λ i. read) (range_with_len (k + 1) (length zs))) (λ xs. Some (value z ∷ xs)) _ _ _
    (each_alike read text value zs (k + 1) (λ i y at. takes (suc i) y at)) refl)

-- ---- numbers and lines

-- no byte has this value
abbrev pub Lacks : ℕ → List ℕ → Type 0
Lacks mark = All (λ b. (b == mark) ≡ false)

pub up_to_at : (mark : ℕ) (word rest : List ℕ) → Lacks mark word → up_to mark (word ++ mark ∷ rest) ≡ Some (word, rest)
up_to_at mark [] rest lacks = rw (eq-eqb mark mark refl) refl
up_to_at mark (b ∷ word) rest lacks =
    rw (All-head (λ c. (c == mark) ≡ false) b word lacks, up_to_at mark word rest (All-tail (λ c. (c == mark) ≡ false) b word lacks)) refl

-- digits are no other bytes
pub decimal_lacks : (mark n : ℕ) → mark < 48 → n < 2 ^ 64 → Lacks mark (decimal n)
decimal_lacks mark n low =
    decimal_by_steps (λ n ds. Lacks mark ds)
    (λ n few. All-cons (λ b. (b == mark) ≡ false) (48 + n) [] (ne_eqb (48 + n) mark (λ e. omega (arith, e, low))) (All-nil (λ b. (b == mark) ≡ false)))
    (λ n ds many lacks. All-push (λ b. (b == mark) ≡ false) ds (48 + n % 10) lacks (ne_eqb (48 + n % 10) mark (λ e. omega (arith, e, low))))
    n

own : IsNumeralModel (λ ds. all_ascii_digits ds ≡ true) (digits_value 10)
own = numerals_by_value (λ ds. all_ascii_digits ds ≡ true) tells_all_ascii_digits

number_of_digits : (ds : List ℕ) → 0 < length ds → all_ascii_digits ds ≡ true → number ds ≡ Some (digits_value 10 ds)
number_of_digits [] some digits = absurd (omega (arith, some))
number_of_digits (b ∷ ds) some digits = rw digits refl

pub number_decimal : (n : ℕ) → n < 2 ^ 64 → number (decimal n) ≡ Some n
number_decimal n small =
    number_of_digits (decimal n) (decimal_nonempty n small) (digits_decimal own n small)
    ∙ ap (λ (v : ℕ). Some v) ((decimal_is_IsNumeral n small).1)

abbrev pub AreSmall : List ℕ → Type 0
AreSmall [] = Unit {0}
AreSmall (n ∷ ns) = (n < 2 ^ 64) × AreSmall ns

numbers_decimal : (ns : List ℕ) → AreSmall ns → numbers_of (map decimal ns) ≡ Some ns
numbers_decimal [] small = refl
numbers_decimal (n ∷ ns) small = rw (number_decimal n small.0, numbers_decimal ns small.1) refl

-- numbers behind blanks
abbrev behind : List ℕ → List ℕ
behind ns = flat_map (λ n. codes " " ++ decimal n) ns

words_split : (first : ℕ) (others : List ℕ) → AreSmall (first ∷ others) → slice_split is_blank (decimal first ++ behind others) ≡ map decimal (first ∷ others)
words_split first [] small =
    ap (slice_split is_blank) (append-nil (decimal first))
    ∙ slice_split_none is_blank (decimal first) (decimal_lacks 32 first (omega arith) small.0)
words_split first (n ∷ others) small =
    slice_split_at is_blank (decimal first) 32 (decimal n ++ behind others) (decimal_lacks 32 first (omega arith) small.0) refl
    ∙ ap (λ words. decimal first ∷ words) (words_split n others small.1)

behind_lacks : (ns : List ℕ) → AreSmall ns → Lacks 10 (behind ns)
behind_lacks [] small = All-nil (λ b. (b == 10) ≡ false)
behind_lacks (n ∷ ns) small =
    All-cons (λ b. (b == 10) ≡ false) 32 (decimal n ++ behind ns) refl
    (All-append (λ b. (b == 10) ≡ false) (decimal n) (behind ns) (decimal_lacks 10 n (omega arith) small.0) (behind_lacks ns small.1))

-- a line of numbers is read for what they mean
pub line_takes : {X : Type 0} (meaning : List ℕ → Option X) (first : ℕ) (others : List ℕ) (x : X) → AreSmall (first ∷ others) → meaning (first ∷ others) ≡ Some x
    → Takes (line meaning) (numbers_line (first ∷ others)) x
line_takes {X} meaning first others x small is rest =
    let words : List ℕ = decimal first ++ behind others in
    let whole : numbers_line (first ∷ others) ++ rest ≡ words ++ 10 ∷ rest =
    append_assoc (decimal first) (behind others ++ codes "\n") rest
    ∙ ap (λ (t : List ℕ). decimal first ++ t) (append_assoc (behind others) (codes "\n") rest)
    ∙ sym (append_assoc (decimal first) (behind others) (10 ∷ rest)) in
    let lacks : Lacks 10 words =
    All-append (λ b. (b == 10) ≡ false) (decimal first) (behind others) (decimal_lacks 10 first (omega arith) small.0) (behind_lacks others small.1) in
    ap (line meaning) whole
    ∙ ap (option_and_then (λ (taken : List ℕ × List ℕ). (given (numbers_of (slice_split is_blank taken.0)) >>= λ ns. given (meaning ns)) taken.1)) (up_to_at 10 words rest lacks)
    ∙ ap (λ (ns : Option (List ℕ)). (given ns >>= λ found. given (meaning found)) rest) (ap numbers_of (words_split first others small) ∙ numbers_decimal (first ∷ others) small)
    ∙ ap (λ (found : Option X). option_map (λ y. (y, rest)) found) is

-- ---- groups of seven bits

groups_upto_take : (fuel n : ℕ) (rest : List ℕ) → n < fuel → ◌≡◌ {A = Option (ℕ × List ℕ)} (reading.groups (groups_upto fuel n ++ rest)) (Some (n, rest))
groups_upto_take zero n rest fits = absurd (omega (arith, fits))
groups_upto_take (suc fuel) n rest fits =
    elim (cases_lt n 128) [
      | inl few ↦ rw (lt-ltb n 128 few) (rw (lt-ltb n 128 few) refl)
      | inr many ↦
          let more : ◌≡◌ {A = Option (ℕ × List ℕ)} (reading.groups (groups_upto fuel (n / 128) ++ rest)) (Some (n / 128, rest)) =
          groups_upto_take fuel (n / 128) rest (omega (arith, fits, many)) in
          let same : 128 + n % 128 - 128 + 128 * (n / 128) ≡ n = omega arith in
          rw (le-ltb n 128 many)
          (rw (le-ltb (128 + n % 128) 128 (omega arith), more) (ap (λ (k : ℕ). Some (k, rest)) same))
    ]

pub groups_take : (n : ℕ) → Takes reading.groups (groups n) n
groups_take n rest = groups_upto_take (suc n) n rest (omega arith)
