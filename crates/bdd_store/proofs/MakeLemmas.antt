-- What `make` leaves: a sound store, in which the earlier nodes keep their functions and one has the wanted function.
-- The entry is that of the function without a mark.
use Rattle.std.proofs.Common.{◌≡◌, ◌≢◌, ℕ, zero, suc, ◌+◌, ◌*◌, ◌<◌, ◌≤◌, Bool, true, false, position, ◌&&◌, if◌then◌else◌, List, [], ◌∷◌, ◌++◌, length, get_or, slice_get, Some, Contains, refl, sym, ap, subst, ◌∙◌, inl, inr, ◌⊎◌, arith, length-append}
use Rattle.bdd_store.proofs.Common.{length_push, slice_get-get_or, slice_get_within, same_Some, cases_lt, Node, Entry, Arena, index, is_marked, complemented, complemented_if, flipped, value_at, node_value, den, top_at, top_of, chosen, IsNodeOf, branch, IsSound, KeepsNodes}
use Rattle.std.proofs.lemmas.List.{append-nil}
use Rattle.std.proofs.lemmas.Option.{get_or_from_slice_get}
use Rattle.std.proofs.Math.Dec.{eqb}
use Rattle.std.proofs.lemmas.List.Elements.{Contains-get_or}
use Rattle.std.proofs.lemmas.List.Quantifiers.{position-Some}
use Rattle.bdd_store.specs.Arena.{choice}
use Rattle.bdd_store.specs.Soundness.{IsSoundEntry}
use Rattle.bdd_store.specs.Growth.{IsEntered, IsRefused, IsNewFunction}
use Rattle.bdd_store.proofs.NodeLemmas.{same_entry, flipped-twice, flipped-marks, flipped-own, index-complemented_if, is_marked-complemented_if, plain}
use Rattle.bdd_store.proofs.ValueLemmas.{branch_both, value_at-entry, slice_get-last, value_at-append, top_at-append, top_at-entry, node_value-complemented_if}
use Rattle.bdd_store.proofs.CanonicalLemmas.{early, IsCanonical-sound}

-- an entry of a longer list is there already or is the last
read_push : (es : List Entry) (e x : Entry) (p : ℕ) → slice_get (es ++ e ∷ []) p ≡ Some x → (slice_get es p ≡ Some x) ⊎ ((p ≡ length es) × (x ≡ e))
read_push [] e x (suc p) at = absurd (cc)
read_push [] e x zero at = inr (refl, sym (same_Some e x at))
read_push (y ∷ es) e x zero at = inl at
read_push (y ∷ es) e x (suc p) at = elim (read_push es e x p at) [ inl there ↦ inl there | inr last ↦ inr (ap suc last.0, last.1) ]

pub Contains-read : (es : List Entry) (x : Entry) (p : ℕ) → slice_get es p ≡ Some x → Contains es x
Contains-read es x p at = subst (λ (y : Entry). Contains es y) (get_or_from_slice_get es p x x at) (Contains-get_or es p x (slice_get_within es p x at))

pub read-Contains : (es : List Entry) (x : Entry) (has : Contains es x) → slice_get es has.0 ≡ Some x
read-Contains es x has = slice_get-get_or es has.0 x has.1 ∙ ap Some has.2

module _ {vars : ℕ} {es : List Entry} (sound : IsSound vars es) (e : Entry) (fits : IsSoundEntry vars es (length es) e) where
  IsSoundEntry-push : (p : ℕ) (x : Entry) → p ≤ length es → IsSoundEntry vars es p x → IsSoundEntry vars (es ++ e ∷ []) p x
  IsSoundEntry-push p x low s = grind (arith, top_at-append)

  -- a new entry, whose branches are there, leaves a sound store
  pub IsSound-push : (Contains es e → ⊥) → IsSound vars (es ++ e ∷ [])
  IsSound-push new = record {
    each = λ p x at. elim (read_push es e x p at) [
      | inl a ↦ IsSoundEntry-push p x (omega (arith, slice_get_within es p x a)) (sound.each p x a)
      | inr l ↦ subst (λ (y : Entry). IsSoundEntry vars (es ++ e ∷ []) p y) (sym l.1) (subst (λ k. IsSoundEntry vars (es ++ e ∷ []) k e) (sym l.0) (IsSoundEntry-push (length es) e (omega arith) fits))
    ];
    once = λ p q x at_p at_q. elim (read_push es e x p at_p) [
      | inl a ↦ elim (read_push es e x q at_q) [
        | inl b ↦ sound.once p q x a b
        | inr l ↦ absurd (new (subst (λ (y : Entry). Contains es y) l.1 (Contains-read es x p a)))
      ]
      | inr k ↦ elim (read_push es e x q at_q) [
        | inl b ↦ absurd (new (subst (λ (y : Entry). Contains es y) k.1 (Contains-read es x q b)))
        | inr l ↦ k.0 ∙ sym l.0
      ]
    ];
  }

abbrev pub with_entries : Arena → List Entry → Arena
with_entries a xs = record { vars = a.vars; limit = a.limit; entries = xs; roots = a.roots; answers = a.answers }

-- what is kept when entries go last
pub KeepsNodes-append : (a : Arena) (ys : List Entry) → IsSound a.vars a.entries → KeepsNodes a (with_entries a (a.entries ++ ys))
KeepsNodes-append a ys sound = grind (arith, length-append a.entries ys, value_at-append a.entries ys (early sound), early sound, top_at-append a.vars a.entries ys)

pub length-entered : (es new : List Entry) (limit : ℕ) (e : Entry) → length es ≤ limit → IsEntered es new limit e → (length new ≤ limit) × (length new ≤ length es + 1)
length-entered es new limit e room h = grind (arith, length_push)

-- ---- what `make` is asked, and what it leaves

pub record Asked (a : Arena) (var : ℕ) (lo hi : Node) : Type 0 where
  pub sound : IsSound a.vars a.entries
  pub apart : lo ≢ hi
  pub within : var < a.vars
  pub in_lo : IsNodeOf a lo
  pub in_hi : IsNodeOf a hi
  pub above_lo : var < top_of a lo
  pub above_hi : var < top_of a hi

-- the triple, or the one with both branches complemented
abbrev pub triple : ℕ → Node → Node → Bool → Entry
triple var lo hi mark = record { var = var; lo = complemented_if mark lo; hi = complemented_if mark hi }

-- the one of them without a mark at its high branch
abbrev pub normal : ℕ → Node → Node → Entry
normal var lo hi = triple var lo hi (is_marked hi)

module _ (a : Arena) (var : ℕ) (lo hi : Node) (q : Asked a var lo hi) where
  abbrev mark : Bool
  mark = is_marked hi

  abbrev entry : Entry
  entry = normal var lo hi

  entry-fits : IsSoundEntry a.vars a.entries (length a.entries) entry
  entry-fits = grind arith

  -- its branches have the functions of the wanted ones, or the complements
  branch_value : (bits : List Bool) (bit : Bool) → node_value a.entries (branch entry bit) bits ≡ flipped mark (if bit then den a hi bits else den a lo bits)
  branch_value bits bit = grind arith

  module _ (limit : ℕ) (new : List Entry) (adds : IsEntered a.entries new limit entry) where
    pub make-sound : IsSound a.vars new
    make-sound = grind (arith, IsSound-push, entry-fits)

    pub make-keeps : KeepsNodes a (with_entries a new)
    make-keeps = grind (arith, append-nil a.entries, KeepsNodes-append a [] q.sound, KeepsNodes-append a (entry ∷ []) q.sound)

    module _ (p : ℕ) (at : slice_get new p ≡ Some entry) (n : Node) (is : n.number ≡ 2 * p + 3) where
      abbrev made : Node
      made = complemented_if mark n

      here : index made ≡ suc p
      here = omega (arith, index-complemented_if mark n, (plain n p is).0)

      pub make-value : (bits : List Bool) → den (with_entries a new) made bits ≡ choice a var lo hi bits
      make-value bits =
          let next = chosen entry bits in
          let at_n : index n ≡ suc p = omega (arith, (plain n p is).0) in
          let unmarked : node_value new n bits ≡ value_at new (suc p) bits = rw ((plain n p is).1, at_n) refl in
          node_value-complemented_if mark new n bits
          ∙ ap (flipped mark) (unmarked
          ∙ value_at-entry new (early make-sound) bits p entry at
          ∙ make-keeps.function next bits (branch_both (λ m. IsNodeOf a m) entry (get_or bits var false) entry-fits.lo_earlier entry-fits.hi_earlier)
          ∙ branch_value bits (get_or bits var false))
          ∙ flipped-twice mark (choice a var lo hi bits)

      pub make-top : top_of (with_entries a new) made ≡ var
      make-top = ap (top_at a.vars new) here ∙ top_at-entry a.vars new p entry at

      -- a node that was not there is this one or its complement
      pub make-new_node : (m : Node) → IsNodeOf (with_entries a new) m → IsNodeOf a m ⊎ ((made ≡ m) ⊎ (made ≡ complemented m))
      make-new_node m in_m = grind (arith, cases_lt, read_push, Contains-read, same_entry, here, length_push)

  -- where the entry is not there, no node has the function
  pub make-new_function : (Contains a.entries entry → ⊥) → IsNewFunction a (choice a var lo hi)
  make-new_function absent n in_n same =
      let last : Node = record { number = 2 * length a.entries + 3 } in
      let limit = suc (length a.entries) in
      let new = a.entries ++ entry ∷ [] in
      let adds : IsEntered a.entries new limit entry = inr (refl, absent, omega arith) in
      let at = slice_get-last a.entries entry in
      let found = here limit new adds (length a.entries) at last refl in
      let one : n ≡ complemented_if mark last = IsCanonical-sound (with_entries a new) (make-sound limit new adds) n (complemented_if mark last) (omega (arith, length_push a.entries entry)) (omega (arith, found, length_push a.entries entry))
      (λ bits len. (make-keeps limit new adds).function n bits in_n ∙ same bits len ∙ sym (make-value limit new adds (length a.entries) at last refl bits)) in
      omega (arith, in_n, ap index one, found)

  -- the other triple is never there, since an entry of a sound store has no marked high branch
  pub refused-from : length a.entries ≡ a.limit → (Contains a.entries entry → ⊥) → IsRefused a var lo hi
  refused-from full absent = (q.apart, full, none false, none true)
    where
      none : (m : Bool) → Contains a.entries (triple var lo hi m) → ⊥
      none m has =
          let unmarked = (q.sound.each has.0 (triple var lo hi m) (read-Contains a.entries (triple var lo hi m) has)).unmarked in
          let is : m ≡ mark = flipped-marks m mark mark (sym (is_marked-complemented_if m hi) ∙ unmarked ∙ sym (flipped-own mark)) in
          absent (subst (λ b. Contains a.entries (triple var lo hi b)) is has)

  pub absent-from : IsRefused a var lo hi → Contains a.entries entry → ⊥
  absent-from refused = elim mark as (λ m. Contains a.entries (triple var lo hi m) → ⊥) [ true ↦ refused.3 | false ↦ refused.2 ]

-- what the derived `==` of entries computes
abbrev pub entry_eq : Entry → Entry → Bool
entry_eq x y = eqb x.var y.var && (eqb x.lo.number y.lo.number && eqb x.hi.number y.hi.number)

pub entry_eq-true : (x y : Entry) → entry_eq x y ≡ true → x ≡ y
entry_eq-true x y h = grind arith

-- where an entry is found, it stands
pub slice_get-position : (es : List Entry) (e : Entry) (i : ℕ) → Some i ≡ position (entry_eq e) es → slice_get es i ≡ Some e
slice_get-position es e i h = grind (arith, position-Some (entry_eq e) es i e, slice_get-get_or es i e, entry_eq-true e (get_or es i e))
