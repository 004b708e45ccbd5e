-- A written number reads back.
use Rattle.std.proofs.Common.{◌≡◌, ℕ, ◌+◌, ◌-◌, ◌*◌, ◌/◌, ◌%◌, ◌^◌, ◌<◌, ◌≤◌, true, false, ◌&&◌, List, [], ◌∷◌, ◌++◌, length, get_or, All, Some, None, refl, ap, ◌∙◌, arith}
use Rattle.sched_text.proofs.Common.{decimal, list_all, nat_tests, All-nil, All-cons, IsBlifName, number, IsSmall}
use Rattle.std.proofs.lemmas.Bool.{and_parts}
use Rattle.std.proofs.lemmas.List.{get_or_append_left, length-append}
use Rattle.std.proofs.lemmas.List.Folds.{list_all-append}
use Rattle.std.proofs.lemmas.Fmt.{decimal_by_steps}
use Rattle.cyc_base.specs.Names.{IsBlifByte}
use Rattle.std.specs.Prelude.{◌==◌, if◌then◌else◌}
use Rattle.std.specs.Char.{digit_value, is_ascii_digit}
use Rattle.std.specs.Str.Parse.{digits_value_after}
use Rattle.sched_text.specs.Numbers.{up_to_most}
use Rattle.sched_text.proofs.NumberLemmas.{value_of_digit}

-- the digits are those of the number, without leading zeros
pub record IsWritten (n : ℕ) (ds : List ℕ) : Type 0 where
  pub digits : list_all is_ascii_digit ds ≡ true
  pub value : digits_value_after 10 0 ds ≡ n
  pub filled : 0 < length ds
  pub leads : 1 ≤ n → 48 < get_or ds 0 0
  pub one : n < 10 → length ds ≡ 1

digit_is : (d : ℕ) → d < 10 → is_ascii_digit (48 + d) ≡ true
digit_is d small = grind (arith, nat_tests)

digit_bounds : (b : ℕ) → is_ascii_digit b ≡ true → (48 ≤ b) × (b ≤ 57)
digit_bounds b is = (grind (arith, nat_tests), grind (arith, nat_tests))

value_is : (d : ℕ) → d < 10 → digit_value (48 + d) ≡ d
value_is d small = let e = value_of_digit (48 + d) (digit_is d small) in omega (arith, e)

value-append : (k : ℕ) (ds es : List ℕ) → digits_value_after 10 k (ds ++ es) ≡ digits_value_after 10 (digits_value_after 10 k ds) es
value-append k [] es = refl
value-append k (d ∷ ds) es = value-append (k * 10 + digit_value d) ds es

one_digit : (n : ℕ) → n < 10 → IsWritten n ((48 + n) ∷ [])
one_digit n small = grind (arith, digit_is n small, value_is n small)

more_digits : (n : ℕ) (ds : List ℕ) → 10 ≤ n → IsWritten (n / 10) ds → IsWritten n (ds ++ ((48 + n % 10) ∷ []))
more_digits n ds many before =
    let least : n % 10 < 10 = omega arith in
    let front : 1 ≤ n / 10 = omega (arith, many) in
    let filled = before.filled in
    record {
      digits =
          list_all-append is_ascii_digit ds ((48 + n % 10) ∷ [])
          ∙ ap (λ t. t && (is_ascii_digit (48 + n % 10) && true)) before.digits
          ∙ ap (λ t. t && true) (digit_is (n % 10) least);
      value =
          value-append 0 ds ((48 + n % 10) ∷ [])
          ∙ ap (λ k. k * 10 + digit_value (48 + n % 10)) before.value
          ∙ (let last = value_is (n % 10) least in let e : n / 10 * 10 + digit_value (48 + n % 10) ≡ n = omega (arith, last) in e);
      filled = let size = length-append ds ((48 + n % 10) ∷ []) in omega (arith, size);
      leads = λ some. let first : get_or (ds ++ ((48 + n % 10) ∷ [])) 0 0 ≡ get_or ds 0 0 = get_or_append_left ds ((48 + n % 10) ∷ []) 0 0 filled in
          let high = before.leads front in omega (arith, first, high);
      one = λ few. absurd (omega (arith, many, few));
    }

pub decimal_written : (n : ℕ) → n < 2 ^ 64 → IsWritten n (decimal n)
decimal_written = decimal_by_steps IsWritten one_digit more_digits

most_is : (n : ℕ) (ds : List ℕ) → IsWritten n ds → n ≤ 4294967295 → up_to_most 0 ds ≡ Some n
most_is n ds is small = grind arith

at_least_one : (n k : ℕ) → (n < 10 → k ≡ 1) → 2 ≤ k → 1 ≤ n
at_least_one n k one two = grind arith

leads_high : (b : ℕ) → 48 < b → (b == 48) ≡ false
leads_high b high = grind arith

number_by : (n : ℕ) (ds : List ℕ) → IsWritten n ds → n ≤ 4294967295 → number ds ≡ Some n
number_by n [] is small = let filled = is.filled in absurd (omega (arith, filled))
number_by n (b ∷ []) is small = most_is n (b ∷ []) is small
number_by n (b ∷ c ∷ rest) is small =
    let some = at_least_one n (length (b ∷ c ∷ rest)) is.one (omega arith) in
    ap (λ t. if t then None else up_to_most 0 (b ∷ c ∷ rest)) (leads_high b (is.leads some)) ∙ most_is n (b ∷ c ∷ rest) is small

-- a number of 32 bits reads back
pub number_decimal : (n : ℕ) → IsSmall n → number (decimal n) ≡ Some n
number_decimal n small = number_by n (decimal n) (decimal_written n (omega (arith, small))) small

digits_named : (ds : List ℕ) → list_all is_ascii_digit ds ≡ true → All IsBlifByte ds
digits_named [] all = All-nil IsBlifByte
digits_named (d ∷ ds) all = grind (arith, and_parts, digit_bounds, All-cons, digits_named ds)

pub decimal_named : (n : ℕ) → IsSmall n → IsBlifName (decimal n)
decimal_named n small = grind (arith, decimal_written n, digits_named (decimal n))
