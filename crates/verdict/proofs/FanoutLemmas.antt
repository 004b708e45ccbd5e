-- Marks while the fanout of gates is marked, from the first block to the last.
use Rattle.std.proofs.Common.{◌≡◌, ◌⊎◌, inl, inr, ℕ, ◌+◌, ◌<◌, ◌≤◌, Bool, true, List, [], ◌∷◌, length, get_or, sym, ◌∙◌, subst, arith, Contains}
use Rattle.verdict.proofs.Common.{cases_lt, Sig, Parts, Feeds, Blocks, AreBlocksOf, block_at, home_of, gate_home, home_gate, AddMarks, is_marked, AreFanoutMarks}
use Rattle.netlist.specs.Walks.{Walk}
use Rattle.loops.proofs.Walks.{leads-step}
use Rattle.loops.specs.Walks.{IsUpstream}
use Rattle.loops.proofs.UpstreamLemmas.{same-up, upstream-trans}
use Rattle.verdict.specs.Fanout.{LeadsFromMark, HasMarkedDriver, ReadsMark, IsReached, AreMarkedBefore}

-- ---- what holds of the gates and pins that were passed

-- none of the first pins is driven so
abbrev pub NoDriver : Parts → List Bool → List Sig → ℕ → Type 0
NoDriver net marks pins n = (k : ℕ) (d : Sig) → k < n → ¬ HasMarkedDriver net marks (get_or pins k d)

-- none of the first gates is marked, nor reads a marked one
abbrev pub NoneReached : Parts → List ℕ → List Bool → ℕ → Type 0
NoneReached net gates marks n = (k d : ℕ) → k < n → ((is_marked marks (get_or gates k d) ≡ true) ⊎ ReadsMark net marks (get_or gates k d)) → ⊥

-- ---- block by block

-- what has with each gate those that read it has what it leads to
pub walk-forward : (net : Parts) (P : ℕ → Type 0) → ((a b : ℕ) → Feeds net a b → P a → P b) → (m n : ℕ) (via : List ℕ) → Walk net m via n → P m → P n
walk-forward net P closed m n [] feeds first = closed m n feeds first
walk-forward net P closed m n (x ∷ via) walk first = walk-forward net P closed x n via walk.1 (closed m x walk.0 first)

pub fanout-closed : (net : Parts) (P : ℕ → Type 0) → ((a b : ℕ) → Feeds net a b → P a → P b) → (m n : ℕ) → IsUpstream net m n → P m → P n
fanout-closed net P closed m n h first = grind (arith, walk-forward)

module _ (net : Parts) (blocks : Blocks) (are : AreBlocksOf net blocks) (old : List Bool) where
  pub marked-more : (b : ℕ) (gates : List ℕ) (marks new : List Bool) → b < length blocks.list → gates ≡ (block_at blocks b).gates → AreMarkedBefore net blocks old b marks → AddMarks (IsReached net gates marks) marks new →
      AreMarkedBefore net blocks old (b + 1) new
  marked-more b gates marks new less same before added = record {
    width = added.width ∙ before.width;
    keeps = λ n is. added.keeps n (before.keeps n is);
    closed = λ m n feeds early is. elim (cases_lt (home_of blocks n) b) [
      | inl low ↦ elim (added.only m is) [
        | inl was ↦ added.keeps n (before.closed m n feeds low was)
        | inr reached ↦ absurd (let h = (member m reached.among).1 in let a = are.after_reads m n feeds in omega (arith, h, a, low))
      ]
      | inr high ↦
          let here : home_of blocks n ≡ b = omega (arith, early, high) in
          let c : Contains gates n = subst (λ (xs : List ℕ). Contains xs n) (sym same) (subst (λ (k : ℕ). Contains (block_at blocks k).gates n) here (home_gate net blocks are n feeds.reader)) in
          elim (added.only m is) [
            | inl was ↦ added.adds n (record { among = c; reached = record { gate = n; among = c; mark = inr (record { gate = m; feeds = feeds; marked = was }) } })
            | inr reached ↦ added.adds n (record { among = c; reached = reached.reached })
          ]
    ];
    only = λ n is. elim (added.only n is) [
      | inl was ↦ before.only n was
      | inr reached ↦
          let r = reached.reached in
          let from = member r.gate r.among in
          let to = member n reached.among in
          reached-by n r.gate (same-up net blocks are r.gate n from.0 to.0 (from.1 ∙ sym to.1)) r.mark
    ];
  }
    where
      member : (n : ℕ) → Contains gates n → (n < length net.gates) × (home_of blocks n ≡ b)
      member n c = gate_home net blocks are b n less (subst (λ (xs : List ℕ). Contains xs n) same c)

      reached-by : (n g : ℕ) → IsUpstream net g n → ((is_marked marks g ≡ true) ⊎ ReadsMark net marks g) → LeadsFromMark net old n
      reached-by n g up (inl marked) =
          let from = before.only g marked in
          record { gate = from.gate; marked = from.marked; upstream = upstream-trans net from.gate g n from.upstream up }
      reached-by n g up (inr reads) =
          let from = before.only reads.gate reads.marked in
          grind (arith, upstream-trans net from.gate reads.gate n from.upstream (upstream-trans net reads.gate g n (inr (leads-step net reads.gate g reads.feeds)) up), upstream-trans net reads.gate g n (inr (leads-step net reads.gate g reads.feeds)) up, leads-step net reads.gate g reads.feeds)

  pub marked-all : (b : ℕ) (marks : List Bool) → length blocks.list ≤ b → AreMarkedBefore net blocks old b marks → AreFanoutMarks net old marks
  marked-all b marks all before = record {
    width = before.width;
    each = λ n less. (
      λ is. before.only n is,
      λ leads. fanout-closed net (λ m. is_marked marks m ≡ true)
          (λ m k feeds is. before.closed m k feeds (let h = are.home k feeds.reader in omega (arith, h, all)) is)
          leads.gate n leads.upstream (before.keeps leads.gate leads.marked),
    );
  }
