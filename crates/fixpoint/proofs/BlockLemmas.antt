-- Block by block to the fixpoint of a netlist.
use Rattle.std.proofs.Common.{◌≡◌, inl, inr, ℕ, ◌+◌, ◌<◌, ◌≤◌, Bool, true, false, List, [], ◌∷◌, ◌++◌, length, map, get_or, sym, ap, ◌∙◌, subst, arith, Contains, true≢false}
use Rattle.fixpoint.proofs.Common.{IsLooped, Looped, cases_eq, All-push, All, Arena, KeepsNodes, ext, Rails, value_of, IsNetlist, gate_at, wire, fix, fix_gates, Feeds, Blocks, block_at, home_of, is_cut, first_gate, gate_of, value_in, gate_home, LoopSteps, Vectors, IsLoopAt, HasEachLoopOnce, rails_at, rails_read, IsGateSet, IsSolvedBelow}
use Rattle.std.specs.List.{AllPairs}
use Rattle.std.proofs.lemmas.Bool.{leb-true}
use Rattle.std.proofs.lemmas.List.{map_push}
use Rattle.std.proofs.lemmas.List.Elements.{All-contains_itself, Contains-append_left, Contains-push}
use Rattle.std.proofs.lemmas.List.Quantifiers.{all_pairs_push}
use Rattle.netlist.proofs.FixpointLemmas.{get_or-fix}
use Rattle.loops.specs.Walks.{AnyGate, Leads}
use Rattle.loops.proofs.Walks.{leads-step, leads-trans, leads-any}
use Rattle.fixpoint.proofs.SweepLemmas.{solved-set, solved-more, reads-given, reads-earlier, reads-each}
use Rattle.fixpoint.proofs.WireLemmas.{set-same}

-- ---- a block that is no loop

module _ (l : Looped) (valid : IsNetlist l.net) (l_is : IsLooped l) (n : ℕ) (less : n < length l.net.gates)
    (plain : (block_at l.blocks (home_of l.blocks n)).looped ≡ false) where
  no-walk : ¬ Leads l.net AnyGate n n
  no-walk leads = true≢false (sym ((l_is.blocks.looped n less).1 leads) ∙ plain)

  -- it is the gate alone
  alone : (m : ℕ) → m < length l.net.gates → home_of l.blocks m ≡ home_of l.blocks n → m ≡ n
  alone m inside home = grind (arith, no-walk, leads-trans l.net n m n)

  -- which reads gates of earlier blocks
  earlier : (g : ℕ) → Feeds l.net g n → home_of l.blocks g < home_of l.blocks n
  earlier g feeds = grind (arith, cases_eq (home_of l.blocks g) (home_of l.blocks n), no-walk, leads-step l.net n n, alone g feeds.source)

  no-cut : is_cut l.cut.wires n ≡ true → ⊥
  no-cut cut_wire = let leads = (l_is.cut.wires n).0 cut_wire in no-walk (leads-any l.net n n leads.via leads.walk)

  module _ (d : Arena) (v : Vectors) (before rails : List Rails) (solved : IsSolvedBelow l d v (home_of l.blocks n) before rails) where
    pub plain-reads : (bits : List Bool) → map (λ pin. value_of d (rails_read l.net l.cut before rails pin) bits) (gate_at l.net n).pins ≡ map (wire (fix l.net (v bits))) (gate_at l.net n).pins
    plain-reads bits =
        reads-each l valid n less d before rails bits (wire (fix l.net (v bits)))
        (reads-given l d v (home_of l.blocks n) before rails solved bits)
        (λ pin late feeds. reads-earlier l d v (home_of l.blocks n) before rails solved bits pin (leb-true (first_gate l.net) pin.0 late) feeds.source (earlier (gate_of l.net pin) feeds))

    pub plain-solved : (e : Arena) (after : List Rails) → KeepsNodes d e → IsGateSet l.net l.cut d e before rails after n → IsSolvedBelow l e v (home_of l.blocks n + 1) before after
    plain-solved e after keeps done =
        solved-more (solved-set n keeps (omega arith) solved done)
        (λ m bits inside home.
        subst (λ (p : ℕ). value_of e (rails_at after (first_gate l.net + p)) bits ≡ value_in (fix_gates l.net (v bits)) p) (sym (alone m inside home))
        (set-same e rails after (first_gate l.net + n) done.made done.is (omega (arith, less, solved.wires.width)) bits
        ∙ done.value bits ∙ ap (ext (gate_at l.net n).cover) (plain-reads bits) ∙ sym (get_or-fix l.net (v bits) n less)))
        (λ m bits inside home cut_wire. absurd (no-cut (subst (λ (p : ℕ). is_cut l.cut.wires p ≡ true) (alone m inside home) cut_wire)))

-- ---- the loops that were found

pub record HasLoopsBelow (blocks : Blocks) (b : ℕ) (loops : List LoopSteps) : Type 0 where
  pub only : All (λ found. IsLoopAt blocks found.block × (found.block < b)) loops
  pub each : (p : ℕ) → p < b → IsLoopAt blocks p → Contains (map (λ (found : LoopSteps). found.block) loops) p
  pub rise : AllPairs (λ x y. x.block < y.block) loops

pub loops-start : (blocks : Blocks) → HasLoopsBelow blocks 0 []
loops-start blocks = grind arith

pub loops-skip : (blocks : Blocks) (b : ℕ) (loops : List LoopSteps) → ¬ IsLoopAt blocks b → HasLoopsBelow blocks b loops → HasLoopsBelow blocks (b + 1) loops
loops-skip blocks b loops plain has = grind arith

pub loops-push : (blocks : Blocks) (b : ℕ) (loops : List LoopSteps) (found : LoopSteps) → IsLoopAt blocks b → found.block ≡ b → HasLoopsBelow blocks b loops → HasLoopsBelow blocks (b + 1) (loops ++ found ∷ [])
loops-push blocks b loops found loop is has = record {
  only = All-push (λ x. IsLoopAt blocks x.block × (x.block < b + 1)) loops found (λ k none less. let o = has.only k none less in (o.0, omega (arith, o.1))) (subst (IsLoopAt blocks) (sym is) loop, omega (arith, is));
  each = λ p less at. subst (λ (ns : List ℕ). Contains ns p) (sym (map_push (λ (x : LoopSteps). x.block) loops found)) (elim (cases_eq p b) [
    | inl same ↦ subst (Contains (map (λ (x : LoopSteps). x.block) loops ++ found.block ∷ [])) (is ∙ sym same) (Contains-push (map (λ (x : LoopSteps). x.block) loops) found.block)
    | inr other ↦ Contains-append_left (map (λ (x : LoopSteps). x.block) loops) (found.block ∷ []) p (has.each p (omega (arith, less, other)) at)
  ]);
  rise = all_pairs_push (λ x y. x.block < y.block) loops found has.rise (λ k none less. let o = has.only k none less in omega (arith, o.1, is));
}

pub loops-end : (blocks : Blocks) (b : ℕ) (loops : List LoopSteps) → length blocks.list ≤ b → HasLoopsBelow blocks b loops → HasEachLoopOnce blocks loops
loops-end blocks b loops all has = grind arith

-- a block has a gate, and all of its gates are at home there
pub gates-some : (l : Looped) → IsLooped l → (b : ℕ) → b < length l.blocks.list → (gates : List ℕ) → gates ≡ (block_at l.blocks b).gates → 0 < length gates
gates-some l l_is b within gates same = let filled = l_is.blocks.filled b within in omega (arith, filled, ap length same)

pub gates-home : (l : Looped) → IsLooped l → (b : ℕ) → b < length l.blocks.list → (gates : List ℕ) → gates ≡ (block_at l.blocks b).gates → All (λ n. (n < length l.net.gates) × (home_of l.blocks n ≡ b)) gates
gates-home l l_is b within gates same k none less = grind (arith, gate_home l.net l.blocks l_is.blocks b (get_or gates k none) within, All-contains_itself gates k none less)
