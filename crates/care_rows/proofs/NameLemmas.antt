-- Names that are added to a netlist's, each with a mark that is in none of those.
use Rattle.std.proofs.Common.{◌≡◌, ◌≢◌, inl, inr, ℕ, suc, ◌^◌, ◌<◌, ◌≤◌, List, [], ◌∷◌, ◌++◌, length, get_or, All, refl, sym, ap, ◌∙◌, subst, arith}
use Rattle.std.specs.Prelude.{codes}
use Rattle.std.specs.Fmt.{decimal}
use Rattle.std.proofs.lemmas.Bool.{cases_eq, eq-eqb, ne_eqb}
use Rattle.std.proofs.lemmas.Fmt.{decimal_injective}
use Rattle.std.proofs.lemmas.List.{append_cancel_left}
use Rattle.std.proofs.lemmas.List.Elements.{All-append, All-from_recursion, All-nil}
use Rattle.cyc_base.specs.Names.{IsBlifByte, IsBlifName}
use Rattle.cyc_base.specs.Tildes.{longest_run, tildes}
use Rattle.cyc_base.proofs.BlifLemmas.{decimal_fits, tildes_fit}
use Rattle.cyc_base.proofs.DigitLemmas.{NoTilde, decimal_no_tilde, split_at_tilde}
use Rattle.cyc_base.proofs.MarkLemmas.{run_longest, without_tildes}
use Rattle.care_rows.specs.Models.{marked_name, telling_name}

-- what stands before a mark is read back
pub marked_tells : (n : ℕ) (text other own their : List ℕ) → NoTilde text → NoTilde other → marked_name text (tildes (suc n)) own ≡ marked_name other (tildes (suc n)) their → (text ≡ other) × (own ≡ their)
marked_tells n text other own their free also e =
    let split = split_at_tilde text other (tildes n ++ own) (tildes n ++ their) free also e in
    (split.0, without_tildes n own their split.1)

pub marked_long : (n : ℕ) (text own : List ℕ) → n ≤ longest_run (marked_name text (tildes n) own)
marked_long n text own = run_longest text own n

-- of the gates that tell
abbrev row_text : ℕ → List ℕ
row_text number = codes "row" ++ decimal (suc number)

text_free : (number : ℕ) → suc number < 2 ^ 64 → NoTilde (row_text number)
text_free number l = (omega_ne 114 (omega arith), (omega_ne 111 (omega arith), (omega_ne 119 (omega arith), decimal_no_tilde (suc number) l)))
  where
    omega_ne : (k : ℕ) → k < 126 → k ≢ 126
    omega_ne k l e = omega (arith, l, e)

abbrev last_text : List ℕ
last_text = codes "harmless"

last_free : NoTilde last_text
last_free = grind arith

-- the name of the gate with this number is that of the last, or of its number
pub data TellingName (n total number : ℕ) (name : List ℕ) : Type 0 where
  IsLast : suc number ≡ total → name ≡ marked_name last_text (tildes (suc n)) [] → TellingName n total number name
  IsRow : suc number ≢ total → name ≡ marked_name (row_text number) (tildes (suc n)) [] → TellingName n total number name

pub telling_is : (n total number : ℕ) → TellingName n total number (telling_name (tildes (suc n)) total number)
telling_is n total number = elim (cases_eq (suc number) total) [
  | inl e ↦ IsLast e (rw (eq-eqb (suc number) total e) refl)
  | inr ne ↦ IsRow ne (rw (ne_eqb (suc number) total ne) refl)
]

pub telling_tells : (n total j k : ℕ) → suc j < 2 ^ 64 → suc k < 2 ^ 64 → telling_name (tildes (suc n)) total j ≡ telling_name (tildes (suc n)) total k → j ≡ k
telling_tells n total j k jl kl e = by (telling_is n total j) (telling_is n total k)
  where
    by : TellingName n total j (telling_name (tildes (suc n)) total j) → TellingName n total k (telling_name (tildes (suc n)) total k) → j ≡ k
    by (IsLast a x) (IsLast b y) = omega (arith, a, b)
    by (IsLast a x) (IsRow b y) = absurd (differ (marked_tells n last_text (row_text k) [] [] last_free (text_free k kl) (sym x ∙ e ∙ y)).0)
      where
        differ : last_text ≡ row_text k → ⊥
        differ q = let b : 104 ≡ 114 = ap (λ (xs : List ℕ). get_or xs 0 0) q in omega (arith, b)
    by (IsRow a x) (IsLast b y) = absurd (differ (marked_tells n (row_text j) last_text [] [] (text_free j jl) last_free (sym x ∙ e ∙ y)).0)
      where
        differ : row_text j ≡ last_text → ⊥
        differ q = let b : 114 ≡ 104 = ap (λ (xs : List ℕ). get_or xs 0 0) q in omega (arith, b)
    by (IsRow a x) (IsRow b y) =
        let texts = (marked_tells n (row_text j) (row_text k) [] [] (text_free j jl) (text_free k kl) (sym x ∙ e ∙ y)).0 in
        let same : suc j ≡ suc k = decimal_injective (suc j) (suc k) jl kl (append_cancel_left (codes "row") (decimal (suc j)) (decimal (suc k)) texts) in
        omega (arith, same)

-- none of them is a name of the assumption's gates
pub telling_other : (n total number : ℕ) (own : List ℕ) → marked_name (codes "assume") (tildes (suc n)) own ≢ telling_name (tildes (suc n)) total number
telling_other n total number own e = by (telling_is n total number)
  where
    by : TellingName n total number (telling_name (tildes (suc n)) total number) → ⊥
    by (IsLast a x) = let b : 97 ≡ 104 = ap (λ (xs : List ℕ). get_or xs 0 0) (e ∙ x) in omega (arith, b)
    by (IsRow a x) = let b : 97 ≡ 114 = ap (λ (xs : List ℕ). get_or xs 0 0) (e ∙ x) in omega (arith, b)

pub telling_long : (n total number : ℕ) → suc n ≤ longest_run (telling_name (tildes (suc n)) total number)
telling_long n total number = by (telling_is n total number)
  where
    by : TellingName n total number (telling_name (tildes (suc n)) total number) → suc n ≤ longest_run (telling_name (tildes (suc n)) total number)
    by (IsLast a x) = let h = marked_long (suc n) last_text [] in let e = ap longest_run x in omega (arith, h, e)
    by (IsRow a x) = let h = marked_long (suc n) (row_text number) [] in let e = ap longest_run x in omega (arith, h, e)

-- ---- they may stand in a BLIF text

fit_byte : (b : ℕ) → 36 ≤ b → b ≤ 126 → IsBlifByte b
fit_byte b low high = (omega (arith, low), high, λ e. omega (arith, e, low))

pub assume_fits : All IsBlifByte (codes "assume")
assume_fits = All-from_recursion IsBlifByte (codes "assume") (fit_byte 97 (omega arith) (omega arith), (fit_byte 115 (omega arith) (omega arith), (fit_byte 115 (omega arith) (omega arith), (fit_byte 117 (omega arith) (omega arith), (fit_byte 109 (omega arith) (omega arith), (fit_byte 101 (omega arith) (omega arith), tt))))))

last_fits : All IsBlifByte last_text
last_fits = All-from_recursion IsBlifByte (codes "harmless") (fit_byte 104 (omega arith) (omega arith), (fit_byte 97 (omega arith) (omega arith), (fit_byte 114 (omega arith) (omega arith), (fit_byte 109 (omega arith) (omega arith), (fit_byte 108 (omega arith) (omega arith), (fit_byte 101 (omega arith) (omega arith), (fit_byte 115 (omega arith) (omega arith), (fit_byte 115 (omega arith) (omega arith), tt))))))))

row_fits : (number : ℕ) → suc number < 2 ^ 64 → All IsBlifByte (row_text number)
row_fits number l = All-append IsBlifByte (codes "row") (decimal (suc number)) (All-from_recursion IsBlifByte (codes "row") (fit_byte 114 (omega arith) (omega arith), (fit_byte 111 (omega arith) (omega arith), (fit_byte 119 (omega arith) (omega arith), tt)))) (decimal_fits (suc number) l)

not_empty : (text rest : List ℕ) → 0 < length text → text ++ rest ≢ []
not_empty [] rest some e = omega (arith, some)
not_empty (x ∷ text) rest some e = cc

pub marked_fits : (n : ℕ) (text own : List ℕ) → 0 < length text → All IsBlifByte text → All IsBlifByte own → IsBlifName (marked_name text (tildes n) own)
marked_fits n text own some first last = (
  not_empty text (tildes n ++ own) some,
  All-append IsBlifByte text (tildes n ++ own) first (All-append IsBlifByte (tildes n) own (tildes_fit n) last),
)

pub telling_fits : (n total number : ℕ) → suc number < 2 ^ 64 → IsBlifName (telling_name (tildes (suc n)) total number)
telling_fits n total number l = by (telling_is n total number)
  where
    by : TellingName n total number (telling_name (tildes (suc n)) total number) → IsBlifName (telling_name (tildes (suc n)) total number)
    by (IsLast a x) = subst IsBlifName (sym x) (marked_fits (suc n) last_text [] (omega arith) last_fits (All-nil IsBlifByte))
    by (IsRow a x) = subst IsBlifName (sym x) (marked_fits (suc n) (row_text number) [] (omega arith) (row_fits number l) (All-nil IsBlifByte))
