-- Decimal numbers.
use Rattle.std.specs.Prelude.{ℕ, nat_le, List, [], ◌∷◌, ◌&&◌, ◌==◌, if◌then◌else◌, Some, None, unwrap_or}
use Rattle.std.specs.Char.{is_ascii_digit}
use Rattle.std.specs.List.{list_all}
use Rattle.std.specs.Str.Parse.{digits_value_after}
use Rattle.std.specs.declared.option.Option.{Option}

-- the number whose digits are those of n and then these, where they are digits and it is at most 4,294,967,295
abbrev pub up_to_most : ℕ → List ℕ → Option ℕ
up_to_most n digits =
    if list_all is_ascii_digit digits && nat_le (digits_value_after 10 n digits) 4294967295 then Some (digits_value_after 10 n digits) else None

-- a decimal number without leading zeros up to 4,294,967,295
abbrev pub number : List ℕ → Option ℕ
number [] = None
number (b ∷ []) = up_to_most 0 (b ∷ [])
number (b ∷ next ∷ rest) = if b == 48 then None else up_to_most 0 (b ∷ next ∷ rest)

abbrev pub number_of : List ℕ → ℕ
number_of word = unwrap_or (number word) 0
