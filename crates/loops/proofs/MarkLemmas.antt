-- Marks while gates are marked from the last block to the first, and lists of marked gates.
use Rattle.std.proofs.Common.{◌≡◌, inl, inr, ◌⊎◌, ◌↔◌, ℕ, zero, suc, ◌+◌, ◌<◌, ◌≤◌, Bool, true, false, List, [], ◌∷◌, ◌++◌, length, get_or, replicate, Option, Some, refl, sym, ap, ◌∙◌, subst, arith, Contains, true≢false}
use Rattle.std.proofs.Math.ListN.{set}
use Rattle.std.specs.Prelude.{IfNone}
use Rattle.loops.proofs.Common.{cases_lt, cases_eq, get_or_append_left, get_or_default, get_or-set_other, get_or-set_same, length-set, Contains-append_left, Contains-get_or, Contains-push, Contains-push_cases, Sig, Parts, gate_at, gate_sig, Feeds, Blocks, AreBlocksOf, block_at, home_of, first_gate}
use Rattle.netlist.specs.Netlists.{IsNetlist, is_marked}
use Rattle.std.proofs.lemmas.List.{get_or_push, length_push}
use Rattle.loops.proofs.Told.{gate_home, home_gate}
use Rattle.loops.proofs.Walks.{leads-step}
use Rattle.loops.specs.Cones.{AddMarks, AreMarkedFrom, AreUpstreamMarks, IsConeOf, IsOnPin, IsNear, IsNearOne, IsWithMark, ListsMarked}
use Rattle.loops.specs.Walks.{IsUpstream}
use Rattle.loops.proofs.UpstreamLemmas.{upstream-trans, same-up, upstream-closed}

-- nothing is marked for want of a gate of the kind
pub add-none : (kind : ℕ → Type 0) (old : List Bool) → ((m : ℕ) → ¬ kind m) → AddMarks kind old old
add-none kind old none = record { width = refl; keeps = λ m is. is; adds = λ m k. absurd (none m k); only = λ m is. inl is }

-- the same marks, for what is said otherwise
pub add-same : (kind other : ℕ → Type 0) (old new : List Bool) → ((m : ℕ) → kind m → other m) → ((m : ℕ) → other m → kind m) → AddMarks kind old new → AddMarks other old new
add-same kind other old new to from are = grind arith

-- one kind after another
pub add-both : (first second both : ℕ → Type 0) (old mid new : List Bool) → ((m : ℕ) → first m → both m) → ((m : ℕ) → second m → both m) → ((m : ℕ) → both m → first m ⊎ second m) →
    AddMarks first old mid → AddMarks second mid new → AddMarks both old new
add-both first second both old mid new to_first to_second from one two = grind arith

-- one gate is marked
pub add-one : (marks : List Bool) (gate : ℕ) → gate < length marks → AddMarks (λ m. m ≡ gate) marks (set marks gate true)
add-one marks gate less = grind (arith, length-set marks gate true, cases_eq, get_or-set_same marks gate true false less, get_or-set_other marks gate)

module _ (net : Parts) (valid : IsNetlist net) (gate : ℕ) (less : gate < length net.gates) (pins : List Sig) (same : pins ≡ (gate_at net gate).pins) (k : ℕ) (d : Sig) (within : k < length pins) where
  at-pin : (m : ℕ) → IsOnPin net (k + 1) gate m → IsOnPin net k gate m ⊎ (get_or pins k d ≡ gate_sig net m)
  at-pin m on =
      elim (cases_lt on.feeds.pin.0 k) [
        | inl low ↦ inl (record { feeds = on.feeds; early = low })
        | inr high ↦
            let at : on.feeds.pin.0 ≡ k = omega (arith, on.early) in
            inr (get_or_default pins k d (gate_sig net m) within ∙ ap (λ (xs : List Sig). get_or xs k (gate_sig net m)) same ∙ ap (λ (n : ℕ). get_or (gate_at net gate).pins n (gate_sig net m)) (sym at) ∙ on.feeds.pin.2)
      ]

  on-more : (m : ℕ) → IsOnPin net k gate m → IsOnPin net (k + 1) gate m
  on-more m on = record { feeds = on.feeds; early = (let e = on.early in omega (arith, e)) }

  -- one pin more
  pub pin-more : (old marks new : List Bool) → AddMarks (IsOnPin net k gate) old marks → AddMarks (λ m. get_or pins k d ≡ gate_sig net m) marks new → AddMarks (IsOnPin net (k + 1) gate) old new
  pin-more old marks new one two =
      add-both (IsOnPin net k gate) (λ m. get_or pins k d ≡ gate_sig net m) (IsOnPin net (k + 1) gate) old marks new on-more
      (λ m is. record { feeds = drives m is; early = omega arith }) at-pin one two
    where
      drives : (m : ℕ) → get_or pins k d ≡ gate_sig net m → Feeds net m gate
      drives m is = grind (arith, get_or_default pins k (gate_sig net m) d within)

-- a signal that no gate drives, and one that a gate does
pub driver-none : (net : Parts) (s : Sig) (marks : List Bool) (driver : Option ℕ) → ((gate : ℕ) → ¬ (driver ≡ Some gate)) → IfNone driver (s.0 < first_gate net) → AddMarks (λ m. s ≡ gate_sig net m) marks marks
driver-none net s marks driver none low = grind arith

pub driver-marked : (net : Parts) (s : Sig) (marks : List Bool) (gate : ℕ) → s ≡ gate_sig net gate → gate < length marks → AddMarks (λ m. s ≡ gate_sig net m) marks (set marks gate true)
driver-marked net s marks gate is inside = grind (arith, add-same, add-one marks gate inside)

-- all pins
pub pins-marked : (net : Parts) (gate k : ℕ) (pins : List Sig) (old new : List Bool) → pins ≡ (gate_at net gate).pins → length pins ≤ k → AddMarks (IsOnPin net k gate) old new → AddMarks (λ m. Feeds net m gate) old new
pins-marked net gate k pins old new same all are = add-same (IsOnPin net k gate) (λ m. Feeds net m gate) old new (λ m on. on.feeds)
    (λ m feeds. record { feeds = feeds; early = (let l = feeds.pin.1 in let e = ap (λ (xs : List Sig). length xs) same in omega (arith, l, e, all)) }) are

pub near-marked : (net : Parts) (gate : ℕ) (marks new : List Bool) → gate < length marks → AddMarks (λ m. Feeds net m gate) (set marks gate true) new → AddMarks (IsNear net gate) marks new
near-marked net gate marks new less are = add-both (λ m. m ≡ gate) (λ m. Feeds net m gate) (IsNear net gate) marks (set marks gate true) new (λ m e. inl e) (λ m f. inr f) (λ m n. n) (add-one marks gate less) are

pub near-none : (net : Parts) (gates : List ℕ) (m : ℕ) → ¬ IsNearOne net gates 0 m
near-none net gates m near = let w = near.within in omega (arith, w)

module _ (net : Parts) (blocks : Blocks) (are : AreBlocksOf net blocks) (old : List Bool) where
  pub marked-more : (b : ℕ) (gates : List ℕ) (marks new : List Bool) → b < length blocks.list → gates ≡ (block_at blocks b).gates → AreMarkedFrom net blocks old (b + 1) marks → AddMarks (IsWithMark net gates marks) marks new → AreMarkedFrom net blocks old b new
  marked-more b gates marks new less same before added = record {
    width = added.width ∙ before.width;
    keeps = λ m is. added.keeps m (before.keeps m is);
    closed = λ m n feeds past is. elim (cases_lt b (home_of blocks n)) [
      | inl later ↦ elim (added.only n is) [
        | inl was ↦ added.keeps m (before.closed m n feeds (omega (arith, later)) was)
        | inr with ↦ absurd (let low = near-low n with.near in omega (arith, low, later))
      ]
      | inr early ↦
          let here : home_of blocks n ≡ b = omega (arith, early, past) in
          let c : Contains gates n = subst (λ (xs : List ℕ). Contains xs n) (sym same) (subst (λ (k : ℕ). Contains (block_at blocks k).gates n) here (home_gate net blocks are n feeds.reader)) in
          let near : IsNearOne net gates (length gates) m = record { place = c.0; within = c.1; near = inr (subst (Feeds net m) (sym (get_or_default gates c.0 0 n c.1 ∙ c.2)) feeds) } in
          elim (added.only n is) [
            | inl was ↦ added.adds m (record { mark = record { gate = n; among = c; marked = was }; near = near })
            | inr with ↦ added.adds m (record { mark = with.mark; near = near })
          ]
    ];
    only = λ m is. elim (added.only m is) [
      | inl was ↦ before.only m was
      | inr with ↦
          let mark = before.only with.mark.gate with.mark.marked in
          let h = member with.mark.gate with.mark.among in
          record {
            gate = mark.gate;
            marked = mark.marked;
            upstream = upstream-trans net m with.mark.gate mark.gate (near-up m with.near with.mark.gate h.0 h.1) mark.upstream;
          }
    ];
  }
    where
      member : (n : ℕ) → Contains gates n → (n < length net.gates) × (home_of blocks n ≡ b)
      member n c = gate_home net blocks are b n less (subst (λ (xs : List ℕ). Contains xs n) same c)

      at : (place : ℕ) → place < length gates → (get_or gates place 0 < length net.gates) × (home_of blocks (get_or gates place 0) ≡ b)
      at place l = member (get_or gates place 0) (Contains-get_or gates place 0 l)

      near-low : (n : ℕ) → IsNearOne net gates (length gates) n → home_of blocks n ≤ b
      near-low n near = by near.near
        where
          by : IsNear net (get_or gates near.place 0) n → home_of blocks n ≤ b
          by (inl e) = let h = at near.place near.within in let s = ap (home_of blocks) e ∙ h.1 in omega (arith, s)
          by (inr feeds) = let h = at near.place near.within in let a = are.after_reads n (get_or gates near.place 0) feeds in let s = h.1 in omega (arith, a, s)

      near-up : (m : ℕ) → IsNearOne net gates (length gates) m → (g : ℕ) → g < length net.gates → home_of blocks g ≡ b → IsUpstream net m g
      near-up m near g gl home = by near.near
        where
          h : (get_or gates near.place 0 < length net.gates) × (home_of blocks (get_or gates near.place 0) ≡ b)
          h = at near.place near.within

          up : IsUpstream net (get_or gates near.place 0) g
          up = same-up net blocks are (get_or gates near.place 0) g h.0 gl (h.1 ∙ sym home)

          by : IsNear net (get_or gates near.place 0) m → IsUpstream net m g
          by (inl e) = subst (λ (k : ℕ). IsUpstream net k g) (sym e) up
          by (inr feeds) = upstream-trans net m (get_or gates near.place 0) g (inr (leads-step net m (get_or gates near.place 0) feeds)) up

  pub marked-all : (marks : List Bool) → AreMarkedFrom net blocks old 0 marks → AreUpstreamMarks net old marks
  marked-all marks from = record {
    width = from.width;
    each = λ m less. (
      λ is. from.only m is,
      λ leads. upstream-closed net (λ n. is_marked marks n ≡ true) (λ a b feeds is. from.closed a b feeds (omega arith) is) m leads.gate leads.upstream (from.keeps leads.gate leads.marked),
    );
  }

-- ---- the gates upstream of some

-- one of the first k of these
pub record IsAmongFirst (gates : List ℕ) (k m : ℕ) : Type 0 where
  pub place : ℕ
  pub early : place < k
  pub within : place < length gates
  pub is : get_or gates place m ≡ m

pub unmarked : (width n : ℕ) → is_marked (replicate width false) n ≡ false
unmarked zero n = refl
unmarked (suc width) zero = refl
unmarked (suc width) (suc n) = unmarked width n

-- marked from these on, where nothing was
pub cone_marked : (net : Parts) (gates : List ℕ) (start marks new : List Bool) → ((n : ℕ) → is_marked start n ≡ false) → AddMarks (Contains gates) start marks → AreUpstreamMarks net marks new → IsConeOf net gates new
cone_marked net gates start marks new none adds are = grind arith

-- one gate's
pub cone_of_one : (net : Parts) (gate : ℕ) (marks : List Bool) → IsConeOf net (gate ∷ []) marks → (m : ℕ) → m < length net.gates → (is_marked marks m ≡ true) ↔ IsUpstream net m gate
cone_of_one net gate marks are m less = grind arith

-- ---- while marked gates are listed

pub listed-skip : (marks : List Bool) (n : ℕ) (gates : List ℕ) → is_marked marks n ≡ false → ListsMarked marks n gates → ListsMarked marks (n + 1) gates
listed-skip marks n gates unmarked are = record {
  rise = are.rise;
  each = λ m. (
    λ c. let h = (are.each m).0 c in ((let l = h.0 in omega (arith, l)), h.1),
    λ h. elim (cases_lt m n) [
      | inl low ↦ (are.each m).1 (low, h.1)
      | inr high ↦ absurd (let l = h.0 in let e : m ≡ n = omega (arith, l, high) in true≢false (sym h.1 ∙ ap (is_marked marks) e ∙ unmarked))
    ],
  );
}

pub listed-push : (marks : List Bool) (n : ℕ) (gates : List ℕ) → is_marked marks n ≡ true → ListsMarked marks n gates → ListsMarked marks (n + 1) (gates ++ n ∷ [])
listed-push marks n gates marked are =
    record {
      rise = λ i j l jl. elim (cases_lt j (length gates)) [
        | inl low ↦
            let a = get_or_append_left gates (n ∷ []) 0 i (omega (arith, l, low)) in
            omega (arith, are.rise i j l low, a, get_or_append_left gates (n ∷ []) 0 j low)
        | inr high ↦
            let at : length gates ≡ j = omega (arith, length_push gates n) in
            let b = get_or_push gates n 0 j (omega (arith, at)) in
            let il : i < length gates = omega (arith, l, at) in
            let h = (are.each (get_or gates i 0)).0 (Contains-get_or gates i 0 il) in
            omega (arith, h.0, get_or_append_left gates (n ∷ []) 0 i il, b)
      ];
      each = λ m. (
        λ c. elim (Contains-push_cases gates n m c) [
          | inl there ↦ let h = (are.each m).0 there in ((let l = h.0 in omega (arith, l)), h.1)
          | inr e ↦ (omega (arith, e), ap (is_marked marks) (sym e) ∙ marked)
        ],
        λ h. elim (cases_lt m n) [
          | inl low ↦ Contains-append_left gates (n ∷ []) m ((are.each m).1 (low, h.1))
          | inr high ↦ (let l = h.0 in let e : n ≡ m = omega (arith, l, high) in subst (Contains (gates ++ n ∷ [])) e (Contains-push gates n))
        ],
      );
    }
