-- The laws of the gates that some values hold open.
use Rattle.std.proofs.Common.{◌≡◌, ◌⊎◌, inl, inr, ℕ, zero, suc, Bool, true, false, ◌||◌, List, [], ◌∷◌, get_or, refl, sym, ◌∙◌}
use Rattle.std.proofs.lemmas.Bool.{or_cases, or_left, or_right}
use Rattle.netlist.specs.Netlists.{gate_sig, is_marked}
use Rattle.explanations.specs.Held.{AreUnknownGates}
use Rattle.explanations.specs.Laws.{HeldStayUnknown, MoreHoldsOpen, union, UnionIsHeldOpen, GreatestHoldsOpen, VectorHoldsUnknown}
use Rattle.explanations.proofs.HeldLemmas.{held_with_more, held_stays_unknown, holds_open_with_more}
use Rattle.explanations.proofs.NeedLemmas.{vector_holding}

pub held_stay_unknown : HeldStayUnknown
held_stay_unknown net given more gates width above h = λ k d l.
    held_stays_unknown net given more h.marks h.held width above (gate_sig net (get_or gates k d)).0 (h.among k d l)

pub more_holds_open : MoreHoldsOpen
more_holds_open = holds_open_with_more

marked-union : (marks others : List Bool) (n : ℕ) → is_marked (union marks others) n ≡ (is_marked marks n || is_marked others n)
marked-union [] others n = refl
marked-union (m ∷ marks) [] n = sym (or_false (is_marked (m ∷ marks) n))
  where
    or_false : (b : Bool) → (b || false) ≡ b
    or_false true = refl
    or_false false = refl
marked-union (m ∷ marks) (o ∷ others) zero = refl
marked-union (m ∷ marks) (o ∷ others) (suc n) = marked-union marks others n

in_either : (marks others : List Bool) (n : ℕ) → is_marked (union marks others) n ≡ true → (is_marked marks n ≡ true) ⊎ (is_marked others n ≡ true)
in_either marks others n e = or_cases (is_marked marks n) (is_marked others n) (sym (marked-union marks others n) ∙ e)

pub union_is_held_open : UnionIsHeldOpen
union_is_held_open net known marks others h k = record {
  unknown = unknown;
  held = λ g l e.
      elim (in_either marks others (gate_sig net g).0 e) [
        | inl m ↦
            held_with_more net known marks (union marks others) g unknown
            (λ n is. marked-union marks others n ∙ or_left (is_marked marks n) (is_marked others n) is) (h.held g l m)
        | inr o ↦
            held_with_more net known others (union marks others) g unknown
            (λ n is. marked-union marks others n ∙ or_right (is_marked marks n) (is_marked others n) is) (k.held g l o)
      ];
}
  where
    unknown : AreUnknownGates net known (union marks others)
    unknown n e =
        elim (in_either marks others n e) [
          | inl m ↦ h.unknown n m
          | inr o ↦ k.unknown n o
        ]

pub greatest_holds_open : GreatestHoldsOpen
greatest_holds_open net given marks gates h = (
  λ open'. λ k d l. h.greatest open'.marks open'.held (gate_sig net (get_or gates k d)).0 (open'.among k d l),
  λ among. record { marks = marks; held = h.held; among = among },
)

pub vector_holds_unknown : VectorHoldsUnknown
vector_holds_unknown net v marks valid width all = (vector_holding net v marks valid width all).greatest
