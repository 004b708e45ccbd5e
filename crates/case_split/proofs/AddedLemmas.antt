-- Lists of gates that go on.
use Rattle.std.proofs.Common.{◌≡◌, inl, inr, ℕ, ◌+◌, ◌*◌, ◌<◌, ◌≤◌, List, [], ◌∷◌, ◌++◌, length, get_or, All, sym, ap, ◌∙◌, refl, subst, arith}
use Rattle.std.proofs.Math.Nat.{mul-le-mul}
use Rattle.std.proofs.lemmas.Bool.{cases_lt}
use Rattle.std.proofs.lemmas.List.{append-nil, append_assoc, get_or_append_left, length-append}
use Rattle.cyc_base.specs.Names.{IsBlifName}
use Rattle.cyc_base.specs.declared.sig.Sig.{Sig}
use Rattle.cyc_base.specs.declared.trit.Trit.{Trit}
use Rattle.cover_logic.specs.Covers.{Cover}
use Rattle.cover_logic.specs.Extensions.{ext}
use Rattle.std.proofs.Common.{map}
use Rattle.netlist.specs.declared.parts.Gate.{Gate}
use Rattle.netlist.specs.Netlists.{no_gate, signal}
use Rattle.unroll.specs.Marks.{mark, copy_name}
use Rattle.case_split.specs.declared.operands.Operand.{Operand}
use Rattle.case_split.specs.declared.operands.Operand.TheVariants.{Constant, Wire}
use Rattle.case_split.specs.Operands.{Agrees, IsWithin, Tells}
use Rattle.netlist.specs.declared.parts.Parts.{Parts}
use Rattle.netlist.specs.Netlists.{count}
use Rattle.case_split.specs.Cofactors.{IsFolded}
use Rattle.case_split.specs.Added.{AreNew, IsAdded, IsAt, IsMore, IsNewGate, IsShared}
use Rattle.case_split.proofs.ListLemmas.{last_is}

pub more_none : (gates : List Gate) → IsMore gates gates 0
more_none gates = record { rest = []; is = sym (append-nil gates); few = omega arith }

pub more_trans : (a b c : List Gate) (m n : ℕ) → IsMore a b m → IsMore b c n → IsMore a c (m + n)
more_trans a b c m n h k = record {
  rest = h.rest ++ k.rest;
  is = k.is ∙ ap (λ xs. xs ++ k.rest) h.is ∙ append_assoc a h.rest k.rest;
  few = (let x = length-append h.rest k.rest in let y = h.few in let z = k.few in omega arith);
}

pub more_weaker : (a b : List Gate) (m n : ℕ) → m ≤ n → IsMore a b m → IsMore a b n
more_weaker a b m n l h = record { rest = h.rest; is = h.is; few = (let y = h.few in omega arith) }

pub more_length : (a b : List Gate) (m : ℕ) → IsMore a b m → (length a ≤ length b) × (length b ≤ length a + m)
more_length a b m h =
    let x = ap length h.is ∙ length-append a h.rest in
    let y = h.few in
    (omega arith, omega arith)

-- there is room for one part more
pub room_left : (first each n all : ℕ) (old mid : List Gate) → IsMore old mid (n * each) → n < all → first + length old + all * each ≤ 4294967295 → first + length mid + each ≤ 4294967295
room_left first each n all old mid h l room =
    let longer = (more_length old mid (n * each) h).1 in
    let next : n + 1 ≤ all = omega arith in
    let product = mul-le-mul next (let same : each ≤ each = omega arith in same) in
    let split : (n + 1) * each ≡ n * each + each = omega arith in
    omega arith

pub agrees_before : (f : Sig → Trit) (first : ℕ) (a b : List Gate) (m : ℕ) → IsMore a b m → Agrees f first b → Agrees f first a
agrees_before f first a b m h agree i l =
    let x = ap length h.is ∙ length-append a h.rest in
    let same : get_or b i no_gate ≡ get_or a i no_gate = ap (λ (gs : List Gate). get_or gs i no_gate) h.is ∙ get_or_append_left a h.rest no_gate i l in
    agree i (omega arith) ∙ ap (λ (g : Gate). ext g.cover (map f g.pins)) same

pub tells_more : (first : ℕ) (a b : List Gate) (m : ℕ) (cover : Cover) (os : List Operand) (o : Operand) → IsMore a b m → Tells first a cover os o → Tells first b cover os o
tells_more first a b m cover os o h tells f agree = tells f (agrees_before f first a b m h agree)

pub within_more : (low high : ℕ) (o : Operand) → low ≤ high → IsWithin low o → IsWithin high o
within_more low high (Constant b) l h = tt
within_more low high (Wire s) l h = omega arith

pub all_within_more : (low high : ℕ) (os : List Operand) → low ≤ high → All (IsWithin low) os → All (IsWithin high) os
all_within_more low high os l h i d k = within_more low high (get_or os i d) l (h i d k)

-- nothing is added
pub folded_added : (net : Parts) (cover : Cover) (os : List Operand) (gates : List Gate) (o : Operand) → IsFolded cover os o → All (IsWithin (count net + length gates)) os → AreNew net gates → IsAdded net cover os gates gates o
folded_added net cover os gates o is within are = record {
  tells = λ f agree. is.tells f;
  within = is.within (count net + length gates) within;
  more = more_weaker gates gates 0 1 (omega arith) (more_none gates);
  are = are;
}

-- ---- a gate of this cover and these pins

pub shared_there : (net : Parts) (cover : Cover) (pins : List Sig) (gates : List Gate) (place : ℕ) (s : Sig) → IsAt gates cover pins place → s ≡ signal (count net + place) → AreNew net gates → IsShared net cover pins gates gates s
shared_there net cover pins gates place s at is are = record {
  place = place;
  at = at;
  is = is;
  more = more_weaker gates gates 0 1 (omega arith) (more_none gates);
  are = are;
}

reads_below : (net : Parts) (low high i : ℕ) (gate : Gate) → low ≤ high → IsNewGate net low i gate → IsNewGate net high i gate
reads_below net low high i gate l h = record { named = h.named; pins = λ k d m. (let p = h.pins k d m in omega arith); counted = h.counted }

module _ (net : Parts) (cover : Cover) (pins : List Sig) (old : List Gate) (name : List ℕ) (fits : IsBlifName name) (low : All (λ s. s.0 < count net + length old) pins) (counted : length pins ≡ cover.pins) (are : AreNew net old) where
  abbrev pub new_gate : Gate
  new_gate = record { name = copy_name (mark net) (length old) name; pins = pins; cover = cover }

  abbrev longer : List Gate
  longer = old ++ new_gate ∷ []

  one_more : length longer ≡ length old + 1
  one_more = length-append old (new_gate ∷ [])

  at_last : (i : ℕ) → i ≡ length old → get_or longer i no_gate ≡ new_gate
  at_last i e = last_is old new_gate i no_gate (sym e)

  still_new : AreNew net longer
  still_new i l = elim (cases_lt i (length old)) [
    | inl before ↦
        subst (IsNewGate net (count net + length longer) i) (sym (get_or_append_left old (new_gate ∷ []) no_gate i before))
        (reads_below net (count net + length old) (count net + length longer) i (get_or old i no_gate) (let e = one_more in omega arith) (are i before))
    | inr after ↦
        let e = one_more in
        let here : i ≡ length old = omega (arith, e, l, after) in
        subst (IsNewGate net (count net + length longer) i) (sym (at_last i here))
        (record {
          named = record { own = name; fits = fits; is = ap (λ (n : ℕ). copy_name (mark net) n name) (sym here) };
          pins = λ k d m. (let p = low k d m in omega arith);
          counted = counted;
        })
  ]

  pub shared_new : (new : List Gate) (s : Sig) → new ≡ longer → s ≡ signal (count net + length old) → IsShared net cover pins old new s
  shared_new new s e is =
      subst (λ (gates : List Gate). IsShared net cover pins old gates s) (sym e)
      (record {
        place = length old;
        at = record { within = (let x = one_more in omega arith); cover_is = ap (λ (g : Gate). g.cover) (at_last (length old) refl); pins_are = ap (λ (g : Gate). g.pins) (at_last (length old) refl) };
        is = is;
        more = record { rest = new_gate ∷ []; is = refl; few = omega arith };
        are = still_new;
      })
