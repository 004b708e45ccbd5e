-- Which indices a sweep marks: those of the roots, and of all that they lead to.
use Rattle.std.proofs.Common.{◌≡◌, ℕ, zero, suc, ◌+◌, ◌-◌, ◌<◌, ◌≤◌, Bool, true, false, List, ◌∷◌, length, get_or, set, slice_get, Option, Some, Contains, replicate, refl, sym, ap, subst, ◌∙◌, inl, inr, ◌⊎◌, arith, length-set, get_or-set_same, get_or-set_other, true≢false, add-one}
use Rattle.std.proofs.lemmas.List.{get_or_past}
use Rattle.bdd_store.proofs.Common.{cases_eq, cases_lt, same_Some, slice_get_within, slice_get-get_or, Node, Entry, index, root_in, is_marked_at, AreMarks}
use Rattle.slab.proofs.SlabLemmas.{Contains-cons, Contains-cons_cases, Contains-entries}
use Rattle.slab.specs.Slab.{Slab, entries}
use Rattle.bdd_store.specs.Sweeping.{HasBranch, LeadsTo}
use Rattle.bdd_store.specs.Sweeping.LeadsTo.{here, further}
use Rattle.bdd_store.specs.Renumbering.{KeepsMarks, MarksRoots, MarksWays}

-- ---- one mark more

marked-within : (marks : List Bool) (i : ℕ) → is_marked_at marks i ≡ true → i < length marks
marked-within marks i h = elim (cases_lt i (length marks)) [ inl l ↦ l | inr past ↦ absurd (true≢false (sym h ∙ get_or_past marks i false past)) ]

mark-keeps : (marks : List Bool) (j : ℕ) → KeepsMarks marks (set marks j true)
mark-keeps marks j i h = grind (arith, cases_eq, get_or-set_same, marked-within, get_or-set_other)

mark-only : (marks : List Bool) (j i : ℕ) → is_marked_at (set marks j true) i ≡ true → (i ≡ j) ⊎ (is_marked_at marks i ≡ true)
mark-only marks j i h = elim (cases_eq i j) [ inl same ↦ inl same | inr apart ↦ inr (rw (get_or-set_other marks j i true false apart) at h) ]

-- ---- the roots

-- all roots but those that are left are marked
pub record RootsAreMarked (roots : List (Option Node)) (left : List (ℕ × Node)) (old now : List Bool) : Type 0 where
  pub left_are : (key : ℕ) (n : Node) → Contains left (key, n) → root_in roots key ≡ Some n
  pub keeps : KeepsMarks old now
  pub each : (key : ℕ) (n : Node) → root_in roots key ≡ Some n → Contains left (key, n) ⊎ (is_marked_at now (index n) ≡ true)
  pub only : (i : ℕ) → is_marked_at now i ≡ true → (is_marked_at old i ≡ true) ⊎ ((key : ℕ) × (n : Node) × (root_in roots key ≡ Some n) × (index n ≡ i))

-- a root that is left
pub RootsAreMarked-first : (roots : List (Option Node)) (left rest : List (ℕ × Node)) (key : ℕ) (n : Node) (old now : List Bool) → left ≡ (key, n) ∷ rest → RootsAreMarked roots left old now → root_in roots key ≡ Some n
RootsAreMarked-first roots left rest key n old now at was = was.left_are key n (rw at (0, omega arith, refl))

pub RootsAreMarked-start : (roots : Slab Node) (left : List (ℕ × Node)) (marks : List Bool) → left ≡ entries roots → RootsAreMarked roots.slots left marks marks
RootsAreMarked-start roots left marks all = record {
  left_are = λ key n has. (Contains-entries roots key n).0 (rw all at has);
  keeps = λ i h. h;
  each = λ key n found. inl (rw all ((Contains-entries roots key n).1 found));
  only = λ i h. inl h;
}

pub RootsAreMarked-next : (roots : List (Option Node)) (left rest : List (ℕ × Node)) (key : ℕ) (n : Node) (old now : List Bool) → left ≡ (key, n) ∷ rest → index n < length now → RootsAreMarked roots left old now → RootsAreMarked roots rest old (set now (index n) true)
RootsAreMarked-next roots left rest key n old now at within was = record {
  left_are = λ k m has. was.left_are k m (rw at (Contains-cons (key, n) (k, m) rest has));
  keeps = λ i h. mark-keeps now (index n) i (was.keeps i h);
  each = λ k m found. elim (was.each k m found) [
    | inl has ↦ elim (Contains-cons_cases (key, n) (k, m) rest (subst (λ xs. Contains xs (k, m)) at has)) [
      | inl same ↦ inr (ap (λ (p : ℕ × Node). is_marked_at (set now (index n) true) (index p.1)) (sym same) ∙ get_or-set_same now (index n) true false within)
      | inr there ↦ inl there
    ]
    | inr marked ↦ inr (mark-keeps now (index n) (index m) marked)
  ];
  only = λ i h. elim (mark-only now (index n) i h) [
    | inl same ↦ inr (key, n, RootsAreMarked-first roots left rest key n old now at was, sym same)
    | inr before ↦ was.only i before
  ];
}

-- ---- branches

-- the branches of the marked entries from a position on are marked
pub record WaysAreMarked (es : List Entry) (old now : List Bool) (first : ℕ) : Type 0 where
  pub keeps : KeepsMarks old now
  pub closed : (p q : ℕ) → first ≤ p → is_marked_at now (suc p) ≡ true → HasBranch es p q → is_marked_at now (suc q) ≡ true
  pub only : (q : ℕ) → is_marked_at now (suc q) ≡ true → (p : ℕ) × (is_marked_at old (suc p) ≡ true) × LeadsTo es p q

branch-within : (es : List Entry) (p q : ℕ) → HasBranch es p q → p < length es
branch-within es p q has = slice_get_within es p has.0 has.1

pub WaysAreMarked-start : (es : List Entry) (marks : List Bool) (first : ℕ) → length es ≤ first → WaysAreMarked es marks marks first
WaysAreMarked-start es marks first past = record {
  keeps = λ i h. h;
  closed = λ p q from marked has. absurd (omega (arith, branch-within es p q has));
  only = λ q h. (q, h, here);
}

-- the entry before is marked, and its branches now are
pub WaysAreMarked-mark : (es : List Entry) (old now : List Bool) (p : ℕ) (e : Entry) → slice_get es p ≡ Some e → length now ≡ length es + 1 → p < length es → index e.lo ≤ p → index e.hi ≤ p → is_marked_at now (p + 1) ≡ true → WaysAreMarked es old now (p + 1) → WaysAreMarked es old (set (set now (index e.lo) true) (index e.hi) true) p
WaysAreMarked-mark es old now p e at long within low high marked was =
    let mid = set now (index e.lo) true in
    let new = set mid (index e.hi) true in
    let here_marked : is_marked_at now (suc p) ≡ true = rw add-one at marked in
    record {
      keeps = λ i h. mark-keeps mid (index e.hi) i (mark-keeps now (index e.lo) i (was.keeps i h));
      closed = λ k q from m has. elim (cases_lt p k) [
        | inl later ↦
            let before : is_marked_at now (suc k) ≡ true = sym (get_or-set_other mid (index e.hi) (suc k) true false (omega arith) ∙ get_or-set_other now (index e.lo) (suc k) true false (omega arith)) ∙ m in
            mark-keeps mid (index e.hi) (suc q) (mark-keeps now (index e.lo) (suc q) (was.closed k q (omega arith) before has))
        | inr now_it ↦
            let is : k ≡ p = omega arith in
            let entry : has.0 ≡ e = same_Some has.0 e (sym has.1 ∙ ap (slice_get es) is ∙ at) in
            elim has.2 [
              | inl lo ↦ let is_lo : suc q ≡ index e.lo = sym lo ∙ ap (λ (x : Entry). index x.lo) entry in
                  mark-keeps mid (index e.hi) (suc q) (rw is_lo (get_or-set_same now (index e.lo) true false (omega arith)))
              | inr hi ↦ let is_hi : suc q ≡ index e.hi = sym hi ∙ ap (λ (x : Entry). index x.hi) entry in
                  rw is_hi (get_or-set_same mid (index e.hi) true false (omega (arith, length-set now (index e.lo) true)))
            ]
      ];
      only = λ q h. elim (mark-only mid (index e.hi) (suc q) h) [
        | inl is_hi ↦ let from = was.only p here_marked in (from.0, from.1, further p q from.2 (e, at, inr (sym is_hi)))
        | inr h2 ↦ elim (mark-only now (index e.lo) (suc q) h2) [
          | inl is_lo ↦ let from = was.only p here_marked in (from.0, from.1, further p q from.2 (e, at, inl (sym is_lo)))
          | inr h3 ↦ was.only q h3
        ]
      ];
    }

-- the same as code reads it, which counts down to the entry
pub WaysAreMarked-read : (es : List Entry) (old now : List Bool) (i a b : ℕ) (d : Entry) → ((p : ℕ) (e : Entry) → slice_get es p ≡ Some e → (index e.lo ≤ p) × (index e.hi ≤ p)) → length now ≡ length es + 1 → 1 ≤ i → i ≤ length es → a ≡ index (get_or es (i - 1) d).lo → b ≡ index (get_or es (i - 1) d).hi → is_marked_at now (i - 1 + 1) ≡ true → WaysAreMarked es old now i → WaysAreMarked es old (set (set now a true) b true) (i - 1)
WaysAreMarked-read es old now i a b d earlier long some within a_is b_is marked was = grind (arith, slice_get-get_or es (i - 1) d, WaysAreMarked-mark es old now (i - 1) (get_or es (i - 1) d))

-- ---- both together

none_marked : (n i : ℕ) → is_marked_at (replicate n false) i ≡ false
none_marked zero i = refl
none_marked (suc n) zero = refl
none_marked (suc n) (suc i) = none_marked n i

-- at first the constants alone are marked
pub AreMarks-from : (roots : List (Option Node)) (es : List Entry) (first second marks : List Bool) → (length marks ≡ length es + 1) → first ≡ set (replicate (length es + 1) false) 0 true → MarksRoots roots first second → MarksWays es second marks → AreMarks roots es marks
AreMarks-from roots es first second marks long is by_roots by_ways = record {
  long = long;
  constants = by_ways.keeps 0 (by_roots.keeps 0 (rw (is, add-one (length es)) refl));
  entries = λ p. (
    λ marked. let from = by_ways.only p marked in elim (by_roots.only (suc from.0) from.1) [
      | inl before ↦ absurd (true≢false (sym before ∙ rw (is, add-one (length es)) (none_marked (length es) from.0)))
      | inr root ↦ record { key = root.0; node = root.1; first = from.0; root = root.2; entry = root.3; way = from.2 }
    ],
    λ reached. marked_along p reached.way (ap (is_marked_at second) (sym reached.entry) ∙ by_roots.each reached.key reached.node reached.root),
  );
}
  where
    marked_along : {q : ℕ} (p : ℕ) → LeadsTo es q p → is_marked_at second (suc q) ≡ true → is_marked_at marks (suc p) ≡ true
    marked_along {q} p here from = by_ways.keeps (suc q) from
    marked_along {q} p (further k r way step) from = by_ways.closed k p (marked_along k way from) step
