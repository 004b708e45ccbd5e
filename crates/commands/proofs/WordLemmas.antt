-- The grammar of the words, read word by word.
use Rattle.std.proofs.Common.{◌≡◌, ℕ, ◌+◌, ◌-◌, ◌*◌, ◌≤◌, Bool, true, false, ◌&&◌, List, [], ◌∷◌, length, take, drop, get_or, Some, None, refl, sym, ap, ap₂, ◌∙◌, arith}
use Rattle.std.specs.Prelude.{if◌then◌else◌, nat_le, option_map}
use Rattle.std.proofs.Math.Seq.{take-length}
use Rattle.std.proofs.lemmas.Bool.Decides.{nat_tests}
use Rattle.std.specs.Char.{digit_value, is_ascii_digit}
use Rattle.std.specs.List.{list_all}
use Rattle.std.specs.Option.{option_and_then}
use Rattle.std.specs.Str.{bytes_eq}
use Rattle.std.specs.Str.Parse.{digits_value_after}
use Rattle.commands.specs.Words.{Options, Purpose, Wishes, Decide, Assume, Equal, command_in, command_on, is_file_word, no_options, up_to, with_option, with_flag, with_wish, options_of, wishes_of, decide_on, assume_on, unobserved, equal_with}

pub value_of_digit : (b : ℕ) → is_ascii_digit b ≡ true → digit_value b ≡ b - 48
value_of_digit b is = grind (arith, nat_tests)

-- more digits make no less of a number
no_less : (n : ℕ) (digits : List ℕ) → n ≤ digits_value_after 10 n digits
no_less n [] = omega arith
no_less n (b ∷ digits) = let more = no_less (n * 10 + digit_value b) digits in omega (arith, more)

pub more_digits : (most n m b : ℕ) (rest : List ℕ) → (is_ascii_digit b && nat_le (n * 10 + digit_value b) most) ≡ true → m ≡ n * 10 + digit_value b
    → up_to most n (b ∷ rest) ≡ up_to most m rest
more_digits most n m b rest fits is = grind arith

pub no_more_digits : (most n b : ℕ) (rest : List ℕ) → (is_ascii_digit b && nat_le (n * 10 + digit_value b) most) ≡ false → up_to most n (b ∷ rest) ≡ None
no_more_digits most n b rest over = grind (arith, no_less (n * 10 + digit_value b) rest)

-- options one after another
pub more_options : (word value : List ℕ) (known more : Options) (rest : List (List ℕ)) → with_option word value known ≡ Some more
    → options_of known (word ∷ value ∷ rest) ≡ options_of more rest
more_options word value known more rest is = ap (option_and_then (λ o. options_of o rest)) is

-- the same, where the words are at least two
pub options_behind : (words : List (List ℕ)) (word value : List ℕ) (known more : Options) → 2 ≤ length words
    → word ≡ get_or words 0 word → value ≡ get_or words 1 value → with_option word value known ≡ Some more
    → options_of known words ≡ options_of more (take (length words - 2) (drop 2 words))
options_behind [] word value known more two first second is = absurd (omega (arith, two))
options_behind (w ∷ []) word value known more two first second is = absurd (omega (arith, two))
options_behind (w ∷ v ∷ rest) word value known more two first second is =
    ap₂ (λ a b. option_and_then (λ o. options_of o rest) (with_option a b known)) (sym first) (sym second)
    ∙ ap (option_and_then (λ o. options_of o rest)) is
    ∙ ap (options_of more) (sym (ap (λ n. take n rest) (let e : length (w ∷ v ∷ rest) - 2 ≡ length rest = omega arith in e) ∙ take-length rest))

pub no_more_options : (word value : List ℕ) (known : Options) (rest : List (List ℕ)) → with_option word value known ≡ None
    → options_of known (word ∷ value ∷ rest) ≡ None
no_more_options word value known rest is = ap (option_and_then (λ o. options_of o rest)) is

-- the commands that decide, with their options
pub decide_asked : (purpose : Purpose) (file : List ℕ) (rest : List (List ℕ)) (options : Options) → options_of no_options rest ≡ Some options
    → decide_on purpose file rest ≡ Some (Decide file options purpose)
decide_asked purpose file rest options found = ap (option_map (λ o. Decide file o purpose)) found

pub decide_not_asked : (purpose : Purpose) (file : List ℕ) (rest : List (List ℕ)) → options_of no_options rest ≡ None → decide_on purpose file rest ≡ None
decide_not_asked purpose file rest found = ap (option_map (λ o. Decide file o purpose)) found

pub assume_asked : (file : List ℕ) (rest : List (List ℕ)) (options : Options) → options_of no_options rest ≡ Some options
    → assume_on file rest ≡ Some (Assume file options)
assume_asked file rest options found = ap (option_map (Assume file)) found

pub assume_not_asked : (file : List ℕ) (rest : List (List ℕ)) → options_of no_options rest ≡ None → assume_on file rest ≡ None
assume_not_asked file rest found = ap (option_map (Assume file)) found

pub equal_asked : (file second : List ℕ) (rest : List (List ℕ)) (options known : Options) → options_of no_options rest ≡ Some options
    → unobserved options ≡ Some known → equal_with file second rest ≡ Some (Equal file second known)
equal_asked file second rest options known found bare = grind arith

pub equal_not_asked : (file second : List ℕ) (rest : List (List ℕ)) → options_of no_options rest ≡ None → equal_with file second rest ≡ None
equal_not_asked file second rest none = ap (λ o. option_map (Equal file second) (option_and_then unobserved o)) none

pub equal_observed : (file second : List ℕ) (rest : List (List ℕ)) (options : Options) → options_of no_options rest ≡ Some options
    → unobserved options ≡ None → equal_with file second rest ≡ None
equal_observed file second rest options found observed = grind arith

-- what is wished, word by word
flag_asked : (flag word : List ℕ) (known more : Wishes) (rest : List (List ℕ)) → bytes_eq word flag ≡ true → with_flag known ≡ Some more
    → wishes_of flag known (word ∷ rest) ≡ wishes_of flag more rest
flag_asked flag word known more [] is once = grind arith
flag_asked flag word known more (value ∷ rest) is once = grind arith

wish_asked : (flag word value : List ℕ) (known more : Wishes) (rest : List (List ℕ)) → bytes_eq word flag ≡ false → with_wish word value known ≡ Some more
    → wishes_of flag known (word ∷ value ∷ rest) ≡ wishes_of flag more rest
wish_asked flag word value known more rest other is = grind arith

-- the same, where the words are at least one, or two
pub flag_behind : (flag : List ℕ) (words : List (List ℕ)) (word : List ℕ) (known more : Wishes) → 1 ≤ length words → word ≡ get_or words 0 word → bytes_eq word flag ≡ true
    → with_flag known ≡ Some more → wishes_of flag known words ≡ wishes_of flag more (take (length words - 1) (drop 1 words))
flag_behind flag [] word known more one first is once = absurd (omega (arith, one))
flag_behind flag (w ∷ rest) word known more one first is once =
    flag_asked flag w known more rest (ap (λ v. bytes_eq v flag) (sym first) ∙ is) once
    ∙ ap (wishes_of flag more) (sym (ap (λ n. take n rest) (let e : length (w ∷ rest) - 1 ≡ length rest = omega arith in e) ∙ take-length rest))

pub wish_behind : (flag : List ℕ) (words : List (List ℕ)) (word again value : List ℕ) (known more : Wishes) → 2 ≤ length words
    → word ≡ get_or words 0 word → again ≡ get_or words 0 again → value ≡ get_or words 1 value → bytes_eq again flag ≡ false → with_wish word value known ≡ Some more
    → wishes_of flag known words ≡ wishes_of flag more (take (length words - 2) (drop 2 words))
wish_behind flag [] word again value known more two first once_more second other is = absurd (omega (arith, two))
wish_behind flag (w ∷ []) word again value known more two first once_more second other is = absurd (omega (arith, two))
wish_behind flag (w ∷ v ∷ rest) word again value known more two first once_more second other is =
    wish_asked flag w v known more rest (ap (λ b. bytes_eq b flag) (sym once_more) ∙ other) (ap₂ (λ a b. with_wish a b known) (sym first) (sym second) ∙ is)
    ∙ ap (wishes_of flag more) (sym (ap (λ n. take n rest) (let e : length (w ∷ v ∷ rest) - 2 ≡ length rest = omega arith in e) ∙ take-length rest))

-- a command on a word, and the words behind it
pub command_behind : (words : List (List ℕ)) (command word : List ℕ) → 2 ≤ length words → command ≡ get_or words 0 command → word ≡ get_or words 1 word
    → is_file_word word ≡ true → command_in words ≡ command_on command word (take (length words - 2) (drop 2 words))
command_behind [] command word two first second file = absurd (omega (arith, two))
command_behind (c ∷ []) command word two first second file = absurd (omega (arith, two))
command_behind (c ∷ w ∷ rest) command word two first second file =
    ap (λ t. if t then command_on c w rest else None) (ap is_file_word (sym second) ∙ file)
    ∙ ap₂ (λ a b. command_on a b rest) (sym first) (sym second)
    ∙ ap (command_on command word) (sym (ap (λ n. take n rest) (let e : length (c ∷ w ∷ rest) - 2 ≡ length rest = omega arith in e) ∙ take-length rest))
