-- Following rows finds gates, and a search that has passed all that it found has found all.
use Rattle.std.proofs.Common.{◌≡◌, ◌⊎◌, inl, inr, ℕ, zero, suc, ◌+◌, ◌<◌, ◌≤◌, Bool, true, false, List, [], ◌∷◌, ◌++◌, length, get_or, set, refl, ◌∙◌, subst, arith, Contains}
use Rattle.feedback_cuts.proofs.Common.{cases_Bool, cases_eq, cases_lt, get_or-set_same, get_or-set_other, length-set, get_or_append_left, get_or_default, get_or_past, Contains-append_left, Contains-push, Contains-push_cases, Search, Meeting, Connects, InRow, IsMarked, IsReady, Path, level_at, row_at, work_left, AnyGate}
use Rattle.std.specs.List.{All}
use Rattle.std.proofs.lemmas.Bool.{eq-eqb, ne_eqb}
use Rattle.std.proofs.lemmas.List.{length_push}
use Rattle.std.proofs.lemmas.List.Elements.{All-set}
use Rattle.cyc_base.proofs.ListLemmas.{Contains-nothing}
use Rattle.feedback_cuts.specs.Keeping.{HasEnded}
use Rattle.feedback_cuts.specs.Searching.{Follows, HasSearched, IsNew, IsPassed, IsSearching, Reaches, unmarked_count}
use Rattle.feedback_cuts.proofs.KeptLemmas.{of_within}
use Rattle.loops.proofs.Reading.{each_more}
use Rattle.loops.proofs.Walks.{all_any}

pub path-append : (R : ℕ → ℕ → Type 0) (a b c : ℕ) (via rest : List ℕ) → Path R a via b → Path R b rest c → Path R a (via ++ (b ∷ rest)) c
path-append R a b c [] rest h k = (h, k)
path-append R a b c (x ∷ via) rest h k = (h.0, path-append R x b c via rest h.1 k)

pub one_step : (rows : List (List ℕ)) (a b : ℕ) → InRow rows a b → Connects (InRow rows) AnyGate a b
one_step rows a b l = record { via = []; kind = tt; path = l }

module _ (rows : List (List ℕ)) (a b c : ℕ) where
  pub joined : Connects (InRow rows) AnyGate a b → Connects (InRow rows) AnyGate b c → Connects (InRow rows) AnyGate a c
  joined v w = grind (arith, all_any, path-append)

  -- a row's gate is reached where the gate before it is
  reaches_next : Reaches rows a b → InRow rows b c → Connects (InRow rows) AnyGate a c
  reaches_next r l = grind (arith, one_step rows a c, joined, one_step rows b c l)

module _ (rows : List (List ℕ)) (a b c : ℕ) where
  pub joined_reach : Connects (InRow rows) AnyGate a b → Reaches rows b c → Connects (InRow rows) AnyGate a c
  joined_reach v r = grind (arith, joined rows a b c v)

unmarked_set : (goal : ℕ) (marks : List ℕ) (x : ℕ) → x < length marks → ¬ IsMarked goal marks x → unmarked_count goal (set marks x (goal + 1)) + 1 ≡ unmarked_count goal marks
unmarked_set goal [] x l none = absurd (omega arith)
unmarked_set goal (m ∷ marks) zero l none = rw (eq-eqb (goal + 1) (goal + 1) refl, ne_eqb m (goal + 1) none) (omega arith)
unmarked_set goal (m ∷ marks) (suc x) l none = grind (arith, unmarked_set goal marks x, cases_Bool)

keeps_set : (goal : ℕ) (marks : List ℕ) (x y : ℕ) → x < length marks → IsMarked goal marks y → IsMarked goal (set marks x (goal + 1)) y
keeps_set goal marks x y l h = grind (arith, cases_eq, get_or-set_same, get_or-set_other)

only_set : (goal : ℕ) (marks : List ℕ) (x y : ℕ) → IsMarked goal (set marks x (goal + 1)) y → IsMarked goal marks y ⊎ (y ≡ x)
only_set goal marks x y h = grind (arith, cases_eq, get_or-set_other)

-- a gate with a mark has an entry
pub marked_within : (goal : ℕ) (marks : List ℕ) (x : ℕ) → IsMarked goal marks x → x < length marks
marked_within goal marks x m = grind (arith, cases_lt, get_or_past)

-- the next gate of a row
module _ (levels : List ℕ) (high goal : ℕ) (row marks found after more : List ℕ) (i n : ℕ) (is : (d : ℕ) → get_or row i d ≡ n) (f : Follows levels high goal row i marks after found more) where
  pub follows_skip : ¬ IsNew levels high goal after n → Follows levels high goal row (i + 1) marks after found more
  follows_skip old = record {
    size = f.size;
    bound = f.bound;
    longer = f.longer;
    same = f.same;
    keeps = f.keeps;
    marked = f.marked;
    each = each_more (λ x. level_at levels x ≤ high → IsMarked goal after x) row i n is
        (λ admitted.
        elim (cases_eq (get_or after n 0) (goal + 1)) [
          | inl marked ↦ marked
          | inr unmarked ↦ absurd (old (record { admitted = admitted; unmarked = unmarked }))
        ])
        f.each;
    only = f.only;
    falls = f.falls;
  }

  pub follows_push : i < length row → n < length after → IsNew levels high goal after n → Follows levels high goal row (i + 1) marks (set after n (goal + 1)) found (more ++ n ∷ [])
  follows_push il l new = record {
    size = length-set after n (goal + 1) ∙ f.size;
    bound = λ all. All-set (λ m. m ≤ goal + 1) after n (goal + 1) (omega arith) (f.bound all);
    longer = (let a = f.longer in let b = length_push more n in omega arith);
    same = λ k d kl. (let a = f.longer in get_or_append_left more (n ∷ []) d k (omega arith) ∙ f.same k d kl);
    keeps = λ x h. keeps_set goal after n x l (f.keeps x h);
    marked = λ x h.
        elim (only_set goal after n x h) [
          | inr e ↦ inr (rw e (Contains-push more n))
          | inl m ↦ elim (f.marked x m) [ inl old ↦ inl old | inr c ↦ inr (Contains-append_left more (n ∷ []) x c) ]
        ];
    each = each_more (λ x. level_at levels x ≤ high → IsMarked goal (set after n (goal + 1)) x) row i n is (λ admitted. here)
        (λ j d jl admitted. keeps_set goal after n (get_or row j d) l (f.each j d jl admitted));
    only = λ x c.
        elim (Contains-push_cases more n x c) [
          | inl there ↦
              elim (f.only x there) [ inl old ↦ inl old | inr w ↦ inr (w.0, keeps_set goal after n x l w.1) ]
          | inr e ↦ inr (rw (← e) ((i, il, is n), here))
        ];
    falls = (let a = f.falls in let b = unmarked_set goal after n l new.unmarked in let p = length_push more n in omega arith);
  }
    where
      here : IsMarked goal (set after n (goal + 1)) n
      here = get_or-set_same after n (goal + 1) 0 l

module _ (rows : List (List ℕ)) (levels : List ℕ) (high goal : ℕ) (row marks : List ℕ) where
  -- a search that has found the gates of its row
  pub begun : All (λ x. x < length levels) row → (after found : List ℕ) → Follows levels high goal row (length row) marks after [] found → IsSearching rows levels high goal row marks after found 0
  begun low after found f = record {
    size = f.size;
    bound = f.bound;
    marked = f.marked;
    reached = λ x c.
        elim (f.only x c) [
          | inl none ↦ absurd (Contains-nothing x none)
          | inr w ↦ record { within = of_within row (length levels) low x w.0; marked = w.1; start = x; listed = w.0; reach = inl refl }
        ];
    begins = λ x c admitted. subst (λ (n : ℕ). IsMarked goal after n) c.2 (f.each c.0 x c.1 (rw c.2 admitted));
    within = omega arith;
    passed = λ k z l. absurd (omega arith);
  }

  -- the gate that is passed next
  pub passes : (now found : List ℕ) (k : ℕ) → IsSearching rows levels high goal row marks now found k → (g : ℕ) (after more : List ℕ) → k < length found → get_or found k g ≡ g → All (λ x. x < length levels) (row_at rows g) →
      Follows levels high goal (row_at rows g) (length (row_at rows g)) now after found more → IsSearching rows levels high goal row marks after more (k + 1)
  passes now found k s g after more less is below f = record {
    size = f.size ∙ s.size;
    bound = λ all. f.bound (s.bound all);
    marked = λ x m.
        elim (f.marked x m) [
          | inl old ↦ elim (s.marked x old) [ inl first ↦ inl first | inr c ↦ inr (still x c) ]
          | inr c ↦ inr c
        ];
    reached = λ x c.
        elim (f.only x c) [
          | inl old ↦
              let r = s.reached x old in
              record { within = r.within; marked = f.keeps x r.marked; start = r.start; listed = r.listed; reach = r.reach }
          | inr w ↦
              let r = s.reached g (k, less, is) in
              record {
                within = of_within (row_at rows g) (length levels) below x w.0;
                marked = w.1;
                start = r.start;
                listed = r.listed;
                reach = inr (reaches_next rows r.start g x r.reach w.0);
              }
        ];
    begins = λ x c admitted. f.keeps x (s.begins x c admitted);
    within = (let a = f.longer in omega arith);
    passed = λ j z l. rw (f.same j z (omega arith)) (places j z l);
  }
    where
      still : (x : ℕ) → Contains found x → Contains more x
      still x c = (let a = f.longer in let l = c.1 in (c.0, omega arith, f.same c.0 x c.1 ∙ c.2))

      places : (j z : ℕ) → j < k + 1 → IsPassed rows levels high goal after (get_or found j z)
      places =
          each_more (IsPassed rows levels high goal after) found k g (λ d. get_or_default found k d g less ∙ is)
          (λ y c a. subst (λ (n : ℕ). IsMarked goal after n) c.2 (f.each c.0 y c.1 (rw c.2 a)))
          (λ j z l y c a. f.keeps y (s.passed j z l y c a))

-- less is still to be passed
pub work_falls : (levels : List ℕ) (high goal : ℕ) (row : List ℕ) (now after found more : List ℕ) (k : ℕ) → k < length found → Follows levels high goal row (length row) now after found more → work_left goal after more (k + 1) < work_left goal now found k
work_falls levels high goal row now after found more k less f = (let a = f.falls in let b = f.longer in omega arith)

-- what a search from one gate marks that gate reaches
pub spreads : (rows : List (List ℕ)) (levels : List ℕ) (high goal gate : ℕ) (others : List ℕ) (old new : Search) (met : Bool) → HasSearched rows levels high goal (gate ∷ []) others old new met → (x : ℕ) → IsMarked goal new.marks.items x → IsMarked goal old.marks.items x ⊎ Reaches rows gate x
spreads rows levels high goal gate others old new met h x m =
    elim (h.searching.marked x m) [
      | inl was ↦ inl was
      | inr c ↦
          let r = h.searching.reached x c in
          elim (Contains-push_cases [] gate r.start r.listed) [
            | inl none ↦ absurd (Contains-nothing r.start none)
            | inr e ↦ inr (rw (← e) at r.reach)
          ]
    ]

-- a search from what a row has, which its goal is before
module _ (readers sources : List (List ℕ)) (levels : List ℕ) (high goal : ℕ) (old new : Search) (ready : IsReady (length levels) goal old.marks.items) where
  none_marked : (x : ℕ) → ¬ IsMarked goal old.marks.items x
  none_marked x m = (let b = ready.bound x 0 (marked_within goal old.marks.items x m) in omega (arith, m))

  module _ (met : Bool) (h : HasSearched readers levels high goal (row_at readers goal) (row_at sources goal) old new met) where
    pub all_found : (x : ℕ) → IsMarked goal new.marks.items x → Contains new.found.items x
    all_found x m = elim (h.searching.marked x m) [ inl was ↦ absurd (none_marked x was) | inr c ↦ c ]

    pub found_from : (x : ℕ) → Contains new.found.items x → Connects (InRow readers) AnyGate goal x
    found_from x c = (let r = h.searching.reached x c in joined_reach readers goal r.start x (one_step readers goal r.start r.listed) r.reach)

    pub ready_next : IsReady (length levels) (goal + 1) new.marks.items
    ready_next = record { size = h.searching.size ∙ ready.size; bound = h.searching.bound (λ k z l. (let b = ready.bound k z l in omega arith)) }

  pub meets_at : HasSearched readers levels high goal (row_at readers goal) (row_at sources goal) old new true → Meeting readers sources goal
  meets_at h = record {
    gate = h.ends.gate;
    forth = found_from true h h.ends.gate (all_found true h h.ends.gate h.ends.marked);
    back = one_step sources goal h.ends.gate h.ends.listed;
  }

  pub ended : HasSearched readers levels high goal (row_at readers goal) (row_at sources goal) old new false → HasEnded readers levels high goal (row_at sources goal) new.found.items
  ended h = record {
    begins = λ x c a. all_found false h x (h.searching.begins x c a);
    closed = λ x y c r a. (let l = c.1 in let all = h.ends.0 in all_found false h y (h.searching.passed c.0 x (omega arith) y (rw c.2 r) a));
    apart = λ x c listed. (let r = h.searching.reached x c in h.ends.1 x listed r.marked);
  }
