-- Gates grouped by the numbers of their components are the blocks of a netlist.
use Rattle.std.proofs.Common.{◌≡◌, ◌≢◌, inl, inr, ◌↔◌, ℕ, zero, suc, ◌+◌, ◌<◌, true, cond, eqb, List, [], ◌∷◌, ◌++◌, length, map, get_or, set, replicate, refl, ap, sym, ◌∙◌, subst, arith, true≢false, Contains, eq-eqb}
use Rattle.loops.proofs.Common.{range_with_len, cases_eq, eqb-true, length-map, get_or-set_same, get_or-set_other, length-set, length-range_with_len, get_or-range_with_len, AreComponentsOf, Parts, Feeds, Walk, Block, Leads, AnyGate, block_at, AreBlocksOf, block_of}
use Rattle.std.specs.List.{All, AllPairs}
use Rattle.std.proofs.lemmas.Bool.{ne_eqb}
use Rattle.std.proofs.lemmas.List.{get_or-map, same_lists, append-nil}
use Rattle.std.proofs.lemmas.List.FromFn.{get_or-map-range_with_len, length-map-range_with_len}
use Rattle.std.proofs.lemmas.List.Elements.{All-filter, filter_passes}
use Rattle.std.proofs.lemmas.List.Folds.{list_any_at}
use Rattle.std.proofs.lemmas.Map.Views.{Contains-from_any}
use Rattle.std.proofs.lemmas.List.Kept.{AllPairs-filter}
use Rattle.cyc_base.proofs.ListLemmas.{Contains-filter, Contains-range}
use Rattle.components.specs.declared.components.Components.{Components}
use Rattle.components.specs.Graphs.{Edge, Reaches}
use Rattle.netlist.specs.Orders.{gate_graph}
use Rattle.netlist.proofs.GraphLemmas.{length-gate_graph, feeds_edge, edge_feeds, walk_reaches, reaches_walk}
use Rattle.loops.specs.Walks.{SameBlock}
use Rattle.loops.specs.Blocks.{no_block}
use Rattle.loops.specs.Members.{members_below, members, is_loop}
use Rattle.loops.proofs.ListedLemmas.{kept_more}
use Rattle.loops.proofs.Walks.{leads-any, leads-step, leads-trans}

-- one more gate is a member of its number, and of no other
members-suc : (homes : List ℕ) (gate number : ℕ) → members_below homes (gate + 1) number ≡ members_below homes gate number ++ cond (eqb (get_or homes gate 0) number) (gate ∷ []) []
members-suc homes gate number = kept_more (λ n. eqb (get_or homes n 0) number) gate

members-yes : (homes : List ℕ) (gate number : ℕ) → get_or homes gate 0 ≡ number → members_below homes (gate + 1) number ≡ members_below homes gate number ++ gate ∷ []
members-yes homes gate number e = grind (arith, members-suc, eq-eqb)

members-no : (homes : List ℕ) (gate number : ℕ) → get_or homes gate 0 ≢ number → members_below homes (gate + 1) number ≡ members_below homes gate number
members-no homes gate number ne = grind (arith, members-suc, ne_eqb, append-nil)

pub grouped_none : (homes : List ℕ) (count : ℕ) → replicate count [] ≡ map (members_below homes 0) (range_with_len 0 count)
grouped_none homes count = none 0 count
  where
    none : (a n : ℕ) → replicate n [] ≡ map (members_below homes 0) (range_with_len a n)
    none a zero = refl
    none a (suc n) = ap (λ (rest : List (List ℕ)). [] ∷ rest) (none (a + 1) n)

pub length-grouped : (homes : List ℕ) (count gate : ℕ) (lists : List (List ℕ)) → lists ≡ map (members_below homes gate) (range_with_len 0 count) → length lists ≡ count
length-grouped homes count gate lists e = ap (λ (ls : List (List ℕ)). length ls) e ∙ length-map-range_with_len (members_below homes gate) 0 count

pub grouped_more : (homes : List ℕ) (lists : List (List ℕ)) (old : List ℕ) (count gate : ℕ) → get_or homes gate 0 < count →
    lists ≡ map (members_below homes gate) (range_with_len 0 count) → old ≡ get_or lists (get_or homes gate 0) old →
    set lists (get_or homes gate 0) (old ++ gate ∷ []) ≡ map (members_below homes (gate + 1)) (range_with_len 0 count)
grouped_more homes lists old count gate within e read = grind (arith, length-grouped, length-set, same_lists, length-map-range_with_len, get_or-map-range_with_len, cases_eq, get_or-set_same, members-yes, get_or-set_other, members-no)

module _ (homes : List ℕ) (number : ℕ) where
  is_member : (n : ℕ) → n < length homes → get_or homes n 0 ≡ number → Contains (members homes number) n
  is_member n l e = grind (arith, Contains-filter, eq-eqb, Contains-range)

  members_have : All (λ n. get_or homes n 0 ≡ number) (members homes number)
  members_have k d l = eqb-true (get_or homes (get_or (members homes number) k d) 0) number (filter_passes (λ m. eqb (get_or homes m 0) number) (range_with_len 0 (length homes)) k d l)

  pub members_within : All (λ n. n < length homes) (members homes number)
  members_within = All-filter (λ m. eqb (get_or homes m 0) number) (λ n. n < length homes) (range_with_len 0 (length homes)) (λ k d l.
      let len = length-range_with_len 0 (length homes) in
      let at = get_or-range_with_len 0 (length homes) k d (omega arith) in
      omega arith)

  members_rise : AllPairs (λ x y. x < y) (members homes number)
  members_rise = AllPairs-filter (λ x y. x < y) (λ m. eqb (get_or homes m 0) number) (range_with_len 0 (length homes)) (λ i j d l m.
      let len = length-range_with_len 0 (length homes) in
      let one = get_or-range_with_len 0 (length homes) i d (omega arith) in
      let two = get_or-range_with_len 0 (length homes) j d (omega arith) in
      omega arith)

alone_in : (g n : ℕ) → Contains (g ∷ []) n → g ≡ n
alone_in g n h = grind arith

-- the members of all numbers are gates
pub lists_within : (homes : List ℕ) (count len : ℕ) (lists : List (List ℕ)) → lists ≡ map (members homes) (range_with_len 0 count) → length homes ≡ len → All (All (λ n. n < len)) lists
lists_within homes count len lists e size k d l = grind (arith, length-grouped homes count (length homes) lists e, get_or-map-range_with_len (members homes) 0 count k k d, members_within homes k)

module _ (net : Parts) (found : Components) (are : AreComponentsOf (gate_graph net) found) where
  gates : length found.home ≡ length net.gates
  gates = are.nodes ∙ length-gate_graph net

  leads_of : (a b : ℕ) → Reaches (gate_graph net) b a → Leads net AnyGate a b
  leads_of a b reaches = (let walks = reaches_walk net b a reaches.via reaches.walk in leads-any net a b walks.via walks.walk)

  reaches_of : (a b : ℕ) → Leads net AnyGate a b → Reaches (gate_graph net) b a
  reaches_of a b leads = walk_reaches net a b leads.via leads.walk

  same_block : (a b : ℕ) → a < length net.gates → b < length net.gates → (get_or found.home a 0 ≡ get_or found.home b 0) ↔ SameBlock net a b
  same_block a b al bl = (to, from)
    where
      to : get_or found.home a 0 ≡ get_or found.home b 0 → SameBlock net a b
      to e = grind (arith, length-gate_graph, leads_of)

      from : SameBlock net a b → get_or found.home a 0 ≡ get_or found.home b 0
      from (inl e) = are.same a b (inl e)
      from (inr loop) = are.same a b (inr (reaches_of b a loop.back, reaches_of a b loop.there))

  module _ (n : ℕ) (l : n < length net.gates) where
    -- two gates of one component lead to each other
    twice : (m : ℕ) → m < length net.gates → m ≢ n → get_or found.home n 0 ≡ get_or found.home m 0 → Leads net AnyGate n n
    twice m ml apart e = grind (arith, length-gate_graph net, leads-trans net n m n, leads_of n m, leads_of m n)

    -- a loop reads itself within its component
    within : Leads net AnyGate n n → ((x : ℕ) → x < length net.gates → get_or found.home x 0 ≡ get_or found.home n 0 → x ≡ n) → Feeds net n n
    within leads alone = by_via leads.via leads.walk
      where
        by_via : (via : List ℕ) → Walk net n via n → Feeds net n n
        by_via [] walk = walk
        by_via (x ∷ via) walk =
            let same = are.same x n (inr (walk_reaches net n x [] walk.0, walk_reaches net x n via walk.1)) in
            subst (λ (y : ℕ). Feeds net n y) (alone x walk.0.reader same) walk.0

    to : (ms : List ℕ) → members found.home (get_or found.home n 0) ≡ ms → is_loop (gate_graph net) ms ≡ true → Leads net AnyGate n n
    to [] e h = absurd (true≢false (sym h))
    to (g ∷ []) e h =
        let count = gates in
        let len = length-gate_graph net in
        let only = alone_in g n (subst (λ (xs : List ℕ). Contains xs n) e (is_member found.home (get_or found.home n 0) n (omega arith) refl)) in
        let edge : Edge (gate_graph net) g g = record {
          source = omega arith;
          target = omega arith;
          listed = Contains-from_any {eq = λ a b. eqb b a} (λ x y t. sym (eqb-true y x t)) g (get_or (gate_graph net) g []) h;
        } in
        subst (λ (x : ℕ). Leads net AnyGate x x) only (leads-step net g g (edge_feeds net g g edge))
    to (g ∷ h ∷ ms) e is =
        let count = gates in
        let rise = subst (λ (xs : List ℕ). AllPairs (λ x y. x < y) xs) e (members_rise found.home (get_or found.home n 0)) 0 1 0 (omega arith) (omega arith) in
        let have = subst (λ (xs : List ℕ). All (λ m. get_or found.home m 0 ≡ get_or found.home n 0) xs) e (members_have found.home (get_or found.home n 0)) in
        let below = subst (λ (xs : List ℕ). All (λ m. m < length found.home) xs) e (members_within found.home (get_or found.home n 0)) in
        let first = below 0 0 (omega arith) in
        let second = below 1 0 (omega arith) in
        elim (cases_eq g n) [
          | inl same ↦ twice h (omega arith) (omega arith) (sym (have 1 0 (omega arith)))
          | inr apart ↦ twice g (omega arith) apart (sym (have 0 0 (omega arith)))
        ]

    from : (ms : List ℕ) → members found.home (get_or found.home n 0) ≡ ms → Leads net AnyGate n n → is_loop (gate_graph net) ms ≡ true
    from [] e leads = grind (arith, gates, is_member found.home (get_or found.home n 0) n)
    from (g ∷ []) e leads =
        let count = gates in
        let only = alone_in g n (subst (λ (xs : List ℕ). Contains xs n) e (is_member found.home (get_or found.home n 0) n (omega arith) refl)) in
        let feeds = within leads (λ x xl same. sym (alone_in g x (subst (λ (xs : List ℕ). Contains xs x) e (is_member found.home (get_or found.home n 0) x (omega arith) same))) ∙ only) in
        let listed = subst (λ (x : ℕ). Contains (get_or (gate_graph net) x []) x) (sym only) (feeds_edge net n n feeds).listed in
        list_any_at (λ read. eqb read g) (get_or (gate_graph net) g []) listed.0 g listed.1 (eq-eqb _ g listed.2)
    from (g ∷ h ∷ ms) e leads = refl

    looped : (is_loop (gate_graph net) (members found.home (get_or found.home n 0)) ≡ true) ↔ Leads net AnyGate n n
    looped = (to (members found.home (get_or found.home n 0)) refl, from (members found.home (get_or found.home n 0)) refl)

  pub are_blocks : AreBlocksOf net (record { list = map (block_of (gate_graph net)) (map (members found.home) (range_with_len 0 found.count)); home = found.home })
  are_blocks =
      let len = length-map (map (members found.home) (range_with_len 0 found.count)) (block_of (gate_graph net)) in
      let lists = length-map-range_with_len (members found.home) 0 found.count in
      let count = gates in
      record {
        homes = gates;
        home = λ n l. (let within = are.within n (let g = length-gate_graph net in omega arith) in omega arith);
        same = same_block;
        gates = λ b l. ap (λ (block : Block). block.gates) (block b (omega arith));
        filled = λ b l.
            let has = are.used b (omega arith) in
            let member = is_member found.home b has.node has.within has.is in
            rw (block b (omega arith)) (let within = member.1 in omega arith);
        after_reads = λ a b feeds. are.order b a (feeds_edge net a b feeds);
        looped = λ n l. (let within = are.within n (let g = length-gate_graph net in omega arith) in rw (block (get_or found.home n 0) within) (looped n l));
      }
    where
      block : (b : ℕ) → b < found.count →
          block_at (record { list = map (block_of (gate_graph net)) (map (members found.home) (range_with_len 0 found.count)); home = found.home }) b ≡ block_of (gate_graph net) (members found.home b)
      block b l =
          grind (arith, length-map-range_with_len (members found.home) 0 found.count, get_or-map (block_of (gate_graph net)) (map (members found.home) (range_with_len 0 found.count)) b [] no_block, get_or-map-range_with_len (members found.home) 0 found.count b b [] l)
