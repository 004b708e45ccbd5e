-- How a store grows: what is kept, which nodes are new, and how many.
use Rattle.std.proofs.Common.{◌≡◌, ◌≢◌, ℕ, zero, suc, ◌+◌, ◌-◌, ◌*◌, ◌<◌, ◌≤◌, Bool, true, false, not, List, [], ◌∷◌, ◌++◌, inl, inr, length, drop, refl, sym, ap, subst, ◌∙◌, arith}
use Rattle.std.proofs.lemmas.Map.Keys.{IsDistinct-cons}
use Rattle.bdd_store.proofs.Common.{AllByRecursion, Node, Arena, index, complemented, den, IsNodeOf, IsLawful, table, is_constant, nodes, IsPart, KeepsNodes, cases_lt}
use Rattle.std.specs.List.{IsDistinct}
use Rattle.std.specs.Set.{is_member}
use Rattle.std.proofs.Common.{Result, Ok, Err, IfOk, IsErrAnd, get_or, if◌then◌else◌, ◌⊎◌}
use Rattle.bdd_store.specs.Arena.{constant, choice}
use Rattle.bdd_store.specs.Soundness.{IsCanonical}
use Rattle.bdd_store.specs.declared.fault.StoreFault.{StoreFault}
use Rattle.bdd_store.specs.declared.fault.StoreFault.TheVariants.{Full, Memory}
use Rattle.bdd_store.specs.Growth.{IsNewFunction, IsPartAt, NewAreParts, IsRefusedPart, AddsAtMost, IsFullOnlyPast, Grows, AddsWithin, GrowsWithin, NoOtherCause}
use Rattle.std.proofs.lemmas.Bool.{false_from_ne_true}
use Rattle.std.proofs.Math.Bool.{not-not}
use Rattle.bdd_store.proofs.NodeLemmas.{index-complemented}
use Rattle.bdd_store.proofs.ValueLemmas.{node_value-complemented}
use Rattle.bdd_store.proofs.SubfunctionLemmas.{length-fixed, nodes-alike, IsPart-whole, IsPart-alike, IsPart-chain, alike-from_table, constant_value}
use Rattle.bdd_store.proofs.PigeonholeLemmas.{table_eq, counted, nodes-at_least, counted-part, tables_apart}

-- ---- what is kept

pub KeepsNodes-refl : (a : Arena) → KeepsNodes a a
KeepsNodes-refl a = record { vars = refl; limit = refl; more = omega arith; function = λ n bits h. refl; variable = λ n h. refl; roots = refl }

pub IsNodeOf-kept : {s t : Arena} → KeepsNodes s t → (n : Node) → IsNodeOf s n → IsNodeOf t n
IsNodeOf-kept k n h = omega (arith, k.more)

pub KeepsNodes-chain : {s t u : Arena} → KeepsNodes s t → KeepsNodes t u → KeepsNodes s u
KeepsNodes-chain k l = grind arith

-- ---- new nodes

-- what is so of a node and its complement is so of a part at it
pub IsPartAt-into : {vars wars : ℕ} {f g : List Bool → Bool} (s t : Arena) (n : Node) → ((m : Node) → index m ≡ index n → IsPart vars f (den s m) → IsPart wars g (den t m)) → IsPartAt vars f s n → IsPartAt wars g t n
IsPartAt-into s t n into h = grind arith

pub NewAreParts-chain : {s t u : Arena} {f : List Bool → Bool} → KeepsNodes s t → KeepsNodes t u → NewAreParts s t f → NewAreParts t u f → NewAreParts s u f
NewAreParts-chain {s} {t} {u} {f} k l one two = record {
  each = λ n in_n. elim (two.each n in_n) [
    | inl in_t ↦ elim (one.each n in_t) [ inl in_s ↦ inl in_s | inr part ↦ inr (IsPartAt-into t u n (λ m at here. IsPart-alike here (λ bits len. l.function m bits (omega (arith, at, in_t)))) part) ]
    | inr part ↦ inr (subst (λ v. IsPartAt v f u n) k.vars part)
  ];
}

pub NewAreParts-part : {s t : Arena} {f g : List Bool → Bool} → IsPart s.vars f g → NewAreParts s t g → NewAreParts s t f
NewAreParts-part {s} {t} part new = record { each = λ n in_n. elim (new.each n in_n) [ inl was ↦ inl was | inr p ↦ inr (IsPartAt-into t t n (λ m at here. IsPart-chain part here) p) ] }

-- the parts of a function are the complements of those of its complement
pub IsPart-complement : {vars : ℕ} {f g h : List Bool → Bool} (k : List Bool → Bool) → ((bits : List Bool) → length bits ≡ vars → f bits ≡ not (g bits)) → IsPart vars g h → ((bits : List Bool) → k bits ≡ not (h bits)) → IsPart vars f k
IsPart-complement {vars} k opposite part is = record { first = part.first; short = part.short; same = λ bits len. is bits ∙ ap not (part.same bits len) ∙ sym (opposite (part.first ++ drop (length part.first) bits) (length-fixed vars part.first bits part.short len)) }

pub NewAreParts-complement : {s t : Arena} {f g : List Bool → Bool} → ((bits : List Bool) → length bits ≡ s.vars → f bits ≡ not (g bits)) → NewAreParts s t g → NewAreParts s t f
NewAreParts-complement {s} {t} opposite new = record {
  each = λ n in_n. elim (new.each n in_n) [
    | inl was ↦ inl was
    | inr at ↦ elim at [
      | inl part ↦ inr (inr (IsPart-complement (den t (complemented n)) opposite part (λ bits. node_value-complemented t.entries n bits)))
      | inr part ↦ inr (inl (IsPart-complement (den t n) opposite part (λ bits. sym (not-not (den t n bits)) ∙ ap not (sym (node_value-complemented t.entries n bits)))))
    ]
  ];
}

pub IsRefusedPart-complement : {a : Arena} {f g : List Bool → Bool} → ((bits : List Bool) → length bits ≡ a.vars → f bits ≡ not (g bits)) → IsRefusedPart a g → IsRefusedPart a f
IsRefusedPart-complement {a} opposite r = record {
  full = r.full;
  part = λ bits. not (r.part bits);
  is_part = IsPart-complement (λ bits. not (r.part bits)) opposite r.is_part (λ bits. refl);
  absent = λ n in_n same. r.absent (complemented n) (omega (arith, in_n, index-complemented n)) (λ bits len. node_value-complemented a.entries n bits ∙ ap not (same bits len) ∙ not-not (r.part bits));
}

pub IsRefusedPart-part : {a : Arena} {f g : List Bool → Bool} → IsPart a.vars f g → IsRefusedPart a g → IsRefusedPart a f
IsRefusedPart-part part r = record { full = r.full; part = r.part; is_part = IsPart-chain part r.is_part; absent = r.absent }

-- what a call of `make` adds
pub NewAreParts-made : {E : Type 0} (s t : Arena) (f : List Bool → Bool) (r : Result Node E) → ((n : Node) → IsNodeOf t n → IsNodeOf s n ⊎ ((r ≡ Ok n) ⊎ (r ≡ Ok (complemented n)))) → IfOk r (λ n. (bits : List Bool) → den t n bits ≡ f bits) → NewAreParts s t f
NewAreParts-made s t f r one value = grind arith

-- a refused `make` lacks the node of its function
pub IsRefusedPart-made : (s t : Arena) (f : List Bool → Bool) → t ≡ s → length s.entries ≡ s.limit → IsNewFunction s f → IsRefusedPart t f
IsRefusedPart-made s t f e full absent = subst (λ (u : Arena). IsRefusedPart u f) (sym e) (record { full = full; part = f; is_part = IsPart-whole s.vars f; absent = absent })

-- a bit chooses between the constants
pub choice-bit : (s : Arena) (var : ℕ) (lo hi : Node) → ((bits : List Bool) → den s lo bits ≡ false) → ((bits : List Bool) → den s hi bits ≡ true) → (bits : List Bool) → choice s var lo hi bits ≡ get_or bits var false
choice-bit s var lo hi low high bits = elim (get_or bits var false) as (λ c. (if c then den s hi bits else den s lo bits) ≡ c) [ true ↦ high bits | false ↦ low bits ]

-- ---- how many

module _ (a : Arena) (canonical : IsCanonical a) (f : List Bool → Bool) where
  -- at each index the node that is a part, or its complement, where one of them is
  abbrev Picked : ℕ → Type 0
  Picked i = (m : Node) × (index m ≡ i)

  module _ (pick : (i : ℕ) → Picked i) where
    abbrev node_table : ℕ → List Bool
    node_table i = table a.vars (den a (pick i).0)

    -- the tables at so many indices from one on, the last first
    abbrev tables_from : ℕ → ℕ → List (List Bool)
    tables_from base zero = []
    tables_from base (suc k) = node_table (base + k) ∷ tables_from base k

    length-tables_from : (base k : ℕ) → length (tables_from base k) ≡ k
    length-tables_from base zero = refl
    length-tables_from base (suc k) = ap suc (length-tables_from base k)

    all_tables : (P : List Bool → Type 0) (base k : ℕ) → ((i : ℕ) → base ≤ i → i < base + k → P (node_table i)) → AllByRecursion P (tables_from base k)
    all_tables P base zero h = tt
    all_tables P base (suc k) h = (h (base + k) (omega arith) (omega arith), all_tables P base k (λ i low high. h i low (omega arith)))

    nodes_apart : (i j : ℕ) → i ≤ length a.entries → j ≤ length a.entries → i ≢ j → table_eq (node_table i) (node_table j) ≡ false
    nodes_apart i j in_i in_j ne = tables_apart a.vars (den a (pick i).0) (den a (pick j).0) (λ same. ne (sym (pick i).1 ∙ ap index (canonical (pick i).0 (pick j).0 (omega (arith, in_i, (pick i).1)) (omega (arith, in_j, (pick j).1)) same) ∙ (pick j).1))

    distinct_tables : (base k : ℕ) → base + k ≤ length a.entries + 1 → IsDistinct table_eq (tables_from base k)
    unfolding IsDistinct
    distinct_tables base zero h = tt
    distinct_tables base (suc k) h =
        IsDistinct-cons table_eq (node_table (base + k)) (tables_from base k)
        (all_tables (λ t. table_eq (node_table (base + k)) t ≡ false) base k (λ i low high. nodes_apart (base + k) i (omega arith) (omega arith) (omega arith)))
        (distinct_tables base k (omega arith))

  constant_index : (b : Bool) → index (constant b) ≡ 0
  constant_index b = grind arith

  -- the table of a function that no constant has is no constant table
  varies : (values : (b : Bool) (bits : List Bool) → den a (constant b) bits ≡ b) (g : List Bool → Bool) → ((b : Bool) → ((bits : List Bool) → length bits ≡ a.vars → den a (constant b) bits ≡ g bits) → ⊥) → is_constant (table a.vars g) ≡ false
  varies values g apart = false_from_ne_true _ (λ e.
      let v = constant_value a.vars g e in
      apart v.0 (λ bits len. values v.0 bits ∙ sym (alike-from_table a.vars g (λ x. v.0) v.1 bits len)))

  module _ (values : (b : Bool) (bits : List Bool) → den a (constant b) bits ≡ b) (old : Arena) (more : length old.entries ≤ length a.entries) (parts : (n : Node) → IsNodeOf a n → IsNodeOf old n ⊎ IsPartAt a.vars f a n) where
    abbrev base : ℕ
    base = length old.entries + 1

    abbrev added : ℕ
    added = length a.entries - length old.entries

    numbered : (i : ℕ) → Picked i
    numbered i = (record { number = 2 * i }, omega arith)

    -- an entry is counted by the one of its two functions that occurs
    abbrev IsFound : ℕ → Type 0
    IsFound i = (p : Picked i) × (base ≤ i → i < base + added → IsPart a.vars f (den a p.0))

    found : (i : ℕ) → IsFound i
    found i = elim (cases_lt (length a.entries) i) [
      | inl past ↦ (numbered i, λ l h. absurd (omega (arith, past, h, more)))
      | inr in_i ↦ elim (parts (numbered i).0 (omega (arith, (numbered i).1, in_i))) [
        | inl was ↦ (numbered i, λ l h. absurd (omega (arith, was, (numbered i).1, l)))
        | inr at ↦ elim at [
          | inl part ↦ (numbered i, λ l h. part)
          | inr part ↦ ((complemented (numbered i).0, index-complemented (numbered i).0 ∙ (numbered i).1), λ l h. part)
        ]
      ]
    ]

    abbrev pick : (i : ℕ) → Picked i
    pick i = (found i).0

    counted_node : (i : ℕ) → base ≤ i → i < base + added → is_member table_eq (counted a.vars f) (node_table pick i) ≡ true
    counted_node i low high =
        let n = (pick i).0 in
        let at : index n ≡ i = (pick i).1 in
        counted-part a.vars f (den a n) ((found i).1 low high) (varies values (den a n) (λ b same.
        let e = ap index (canonical (constant b) n (omega (arith, constant_index b)) (omega (arith, at, high, more)) same) in
        omega (arith, constant_index b, e, at, low)))

    -- each entry that was added is counted
    pub count-parts : length a.entries ≤ length old.entries + nodes a.vars f
    count-parts =
        let least = nodes-at_least a.vars f (tables_from pick base added) (distinct_tables pick base added (omega (arith, more))) (all_tables pick (λ t. is_member table_eq (counted a.vars f) t ≡ true) base added counted_node) in
        omega (arith, least, length-tables_from pick base added)

    -- and so is a part that no node stands for
    pub count-refused : (g : List Bool → Bool) → IsPart a.vars f g → IsNewFunction a g → length a.entries < length old.entries + nodes a.vars f
    count-refused g part absent =
        let apart : AllByRecursion (λ t. table_eq (table a.vars g) t ≡ false) (tables_from pick base added) = all_tables pick (λ t. table_eq (table a.vars g) t ≡ false) base added (λ i low high. tables_apart a.vars g (den a (pick i).0) (λ same. absent (pick i).0 (omega (arith, (pick i).1, high, more)) (λ bits len. sym (same bits len)))) in
        let here = counted-part a.vars f g part (varies values g (λ b same. absent (constant b) (omega (arith, constant_index b)) same)) in
        let least = nodes-at_least a.vars f (table a.vars g ∷ tables_from pick base added) (IsDistinct-cons table_eq (table a.vars g) (tables_from pick base added) apart (distinct_tables pick base added (omega (arith, more)))) (here, all_tables pick (λ t. is_member table_eq (counted a.vars f) t ≡ true) base added counted_node) in
        omega (arith, least, length-tables_from pick base added)

-- what an operation whose new nodes are parts adds
pub added-parts : (old new : Arena) (f : List Bool → Bool) → IsLawful new → KeepsNodes old new → NewAreParts old new f → AddsAtMost old new (nodes old.vars f)
added-parts old new f lawful kept parts = rw (← kept.vars) (count-parts new lawful.canonical f lawful.constants old kept.more (λ n in_n. rw kept.vars (parts.each n in_n)))

-- and when it is refused
pub refused-parts : (old new : Arena) (f : List Bool → Bool) → IsLawful new → KeepsNodes old new → NewAreParts old new f → IsRefusedPart new f → IsFullOnlyPast old new (nodes old.vars f)
refused-parts old new f lawful kept parts r =
    let past = count-refused new lawful.canonical f lawful.constants old kept.more (λ n in_n. rw kept.vars (parts.each n in_n)) r.part r.is_part r.absent in
    record { full = r.full; past = omega (arith, rw kept.vars at past, r.full) }

-- ---- what a call does, where so many nodes are its bound

refused_alike : {T U : Type 0} (r : Result T StoreFault) (q : Result U StoreFault) (e : StoreFault) → r ≡ Err e → IsErrAnd q (λ x. x ≡ e) → q ≡ Err Full → r ≡ Err Full
refused_alike r q e was is is_full = was ∙ ap {A = StoreFault} Err (sym (rw is_full at is))

module _ {T : Type 0} {s t : Arena} where
  -- a call whose new nodes are parts of a function, and which is refused where one of its parts has no node
  pub grows_by_parts : {r : Result T StoreFault} (f : List Bool → Bool) → IsLawful t → KeepsNodes s t → NewAreParts s t f → (r ≡ Err Full → IsRefusedPart t f) → Grows r s t (nodes s.vars f)
  grows_by_parts f lawful kept parts refused = record { keeps = kept; added = added-parts s t f lawful kept parts; full = λ e. refused-parts s t f lawful kept parts (refused e) }

  -- the same function in other words
  pub grows_alike : {r : Result T StoreFault} {f g : List Bool → Bool} → ((bits : List Bool) → f bits ≡ g bits) → Grows r s t (nodes s.vars f) → Grows r s t (nodes s.vars g)
  grows_alike {r = r} {f = f} {g = g} same h = subst (Grows r s t) (nodes-alike s.vars f g (λ bits len. same bits)) h

  -- more nodes than are made
  pub grows_more : {r : Result T StoreFault} {m n : ℕ} → m ≤ n → Grows r s t m → Grows r s t n
  grows_more less g = record { keeps = g.keeps; added = omega (arith, g.added, less); full = λ e. record { full = (g.full e).full; past = omega (arith, (g.full e).past, less) } }

  module _ {U : Type 0} {r : Result U StoreFault} {n : ℕ} where
    -- the refusal of a call is that of its caller
    pub grows_refused : {q : Result T StoreFault} {e : StoreFault} → r ≡ Err e → IsErrAnd q (λ x. x ≡ e) → Grows r s t n → Grows q s t n
    grows_refused {q = q} {e = e} was is g = record { keeps = g.keeps; added = g.added; full = λ is_full. g.full (refused_alike r q e was is is_full) }

    -- an answer is no refusal
    pub grows_answered : {x : T} → Grows r s t n → Grows (Ok x) s t n
    grows_answered g = record { keeps = g.keeps; added = g.added; full = λ e. absurd cc }

-- a call that was answered, and another after it
pub grows_then : {T U : Type 0} {r : Result T StoreFault} {q : Result U StoreFault} {s t u : Arena} {m n : ℕ} → Grows r s t m → Grows q t u n → Grows q s u (m + n)
grows_then first g = record { keeps = KeepsNodes-chain first.keeps g.keeps; added = omega (arith, first.added, g.added); full = λ e. record { full = (g.full e).full; past = omega (arith, first.added, (g.full e).past) } }

-- what a loop has done so far
abbrev pub HasGrownBy : Arena → Arena → ℕ → Type 0
HasGrownBy old new n = Grows {T = Unit} (Ok tt) old new n

-- ---- what a call adds, where w bounds so many functions

module _ {T : Type 0} {s t : Arena} {cause bounds : ℕ → Type 0} where
  -- more functions than are made
  pub adds_more : {r : Result T StoreFault} {m n : ℕ} → m ≤ n → AddsWithin r s t cause bounds m → AddsWithin r s t cause bounds n
  adds_more {m = m} {n = n} less a = grind arith

  module _ {r : Result T StoreFault} {count : ℕ} where
    -- narrower bounds
    pub adds_moved : {narrower : ℕ → Type 0} → ((w : ℕ) → narrower w → bounds w) → AddsWithin r s t cause bounds count → AddsWithin r s t cause narrower count
    adds_moved into a = record { added = λ w b. a.added w (into w b); full = λ w b e. a.full w (into w b) e }

    -- a wider cause
    pub adds_caused : {wider : ℕ → Type 0} → (cause s.limit → wider s.limit) → AddsWithin r s t cause bounds count → AddsWithin r s t wider bounds count
    adds_caused into a = record { added = a.added; full = λ w b e. elim (a.full w b e) [ inl other ↦ inl (into other) | inr past ↦ inr past ] }

  module _ {U : Type 0} {r : Result U StoreFault} {count : ℕ} where
    -- the refusal of a call is that of its caller
    pub adds_refused : {q : Result T StoreFault} {e : StoreFault} → r ≡ Err e → IsErrAnd q (λ x. x ≡ e) → AddsWithin r s t cause bounds count → AddsWithin q s t cause bounds count
    adds_refused {q = q} {e = e} was is a = record { added = a.added; full = λ w b is_full. a.full w b (refused_alike r q e was is is_full) }

    -- an answer and a lack of memory are no refusal
    pub adds_answered : {x : T} {other : ℕ → Type 0} → AddsWithin r s t cause bounds count → AddsWithin (Ok x) s t other bounds count
    adds_answered a = record { added = a.added; full = λ w b e. absurd cc }

    pub adds_memory : {other : ℕ → Type 0} → AddsWithin r s t cause bounds count → AddsWithin {T = T} (Err Memory) s t other bounds count
    adds_memory a = record { added = a.added; full = λ w b e. absurd cc }

    -- a sweep of the store in between leaves fewer
    pub adds_swept : {x : T} {u : Arena} {other : ℕ → Type 0} → length u.entries ≤ length t.entries → AddsWithin r s t cause bounds count → AddsWithin (Ok x) s u other bounds count
    adds_swept fewer a = record { added = λ w b. omega (arith, a.added w b, fewer); full = λ w b e. absurd cc }

-- a call that was answered, and another after it
pub adds_then : {T U : Type 0} {r : Result T StoreFault} {q : Result U StoreFault} {s t u : Arena} {before cause bounds : ℕ → Type 0} {m n : ℕ} → t.limit ≡ s.limit → AddsWithin r s t before bounds m → AddsWithin q t u cause bounds n → AddsWithin q s u cause bounds (m + n)
adds_then {cause = cause} limit first a = grind arith

-- ---- and where each node keeps its function too

-- a call that makes nothing
pub within_nothing : {T : Type 0} {r : Result T StoreFault} {s : Arena} {cause bounds : ℕ → Type 0} {count : ℕ} → (r ≡ Err Full → cause s.limit) → GrowsWithin r s s cause bounds count
within_nothing only = record { keeps = KeepsNodes-refl _; adds = record { added = λ w b. omega arith; full = λ w b e. inl (only e) } }

-- a call that makes so many nodes, which w bounds, and one that makes those of one function
pub within_each : {T : Type 0} {r : Result T StoreFault} {s t : Arena} {bounds : ℕ → Type 0} {n count : ℕ} → ((w : ℕ) → bounds w → n ≤ w * count) → Grows r s t n → GrowsWithin r s t NoOtherCause bounds count
within_each most g = grind arith

pub within_one : {T : Type 0} {r : Result T StoreFault} {s t : Arena} {bounds : ℕ → Type 0} {n : ℕ} → ((w : ℕ) → bounds w → n ≤ w) → Grows r s t n → GrowsWithin r s t NoOtherCause bounds 1
within_one most g = within_each {count = 1} (λ w b. omega (arith, most w b)) g

module _ {T : Type 0} {s t : Arena} {cause bounds : ℕ → Type 0} where
  pub within_more : {r : Result T StoreFault} {m n : ℕ} → m ≤ n → GrowsWithin r s t cause bounds m → GrowsWithin r s t cause bounds n
  within_more less g = record { keeps = g.keeps; adds = adds_more less g.adds }

  module _ {r : Result T StoreFault} {count : ℕ} where
    pub within_moved : {narrower : ℕ → Type 0} → ((w : ℕ) → narrower w → bounds w) → GrowsWithin r s t cause bounds count → GrowsWithin r s t cause narrower count
    within_moved into g = record { keeps = g.keeps; adds = adds_moved into g.adds }

    pub within_caused : {wider : ℕ → Type 0} → (cause s.limit → wider s.limit) → GrowsWithin r s t cause bounds count → GrowsWithin r s t wider bounds count
    within_caused into g = record { keeps = g.keeps; adds = adds_caused into g.adds }

  module _ {U : Type 0} {r : Result U StoreFault} {count : ℕ} where
    pub within_refused : {q : Result T StoreFault} {e : StoreFault} → r ≡ Err e → IsErrAnd q (λ x. x ≡ e) → GrowsWithin r s t cause bounds count → GrowsWithin q s t cause bounds count
    within_refused was is g = record { keeps = g.keeps; adds = adds_refused was is g.adds }

    pub within_answered : {x : T} {other : ℕ → Type 0} → GrowsWithin r s t cause bounds count → GrowsWithin (Ok x) s t other bounds count
    within_answered g = record { keeps = g.keeps; adds = adds_answered g.adds }

    pub within_memory : {other : ℕ → Type 0} → GrowsWithin r s t cause bounds count → GrowsWithin {T = T} (Err Memory) s t other bounds count
    within_memory g = record { keeps = g.keeps; adds = adds_memory g.adds }

-- a call without another cause is one with any
pub within_only : {T : Type 0} {r : Result T StoreFault} {s t : Arena} {cause bounds : ℕ → Type 0} {count : ℕ} → GrowsWithin r s t NoOtherCause bounds count → GrowsWithin r s t cause bounds count
within_only g = within_caused (λ (none : ⊥). absurd none) g

pub within_then : {T U : Type 0} {r : Result T StoreFault} {q : Result U StoreFault} {s t u : Arena} {before cause bounds : ℕ → Type 0} {m n : ℕ} → GrowsWithin r s t before bounds m → GrowsWithin q t u cause bounds n → GrowsWithin q s u cause bounds (m + n)
within_then first g = record { keeps = KeepsNodes-chain first.keeps g.keeps; adds = adds_then first.keeps.limit first.adds g.adds }

-- what a loop has done so far
abbrev pub HasGrown : Arena → Arena → (ℕ → Type 0) → ℕ → Type 0
HasGrown old new bounds count = GrowsWithin {T = Unit} (Ok tt) old new NoOtherCause bounds count

pub nothing_grown : {s : Arena} {bounds : ℕ → Type 0} {count : ℕ} → HasGrown s s bounds count
nothing_grown = record { keeps = KeepsNodes-refl _; adds = record { added = λ w b. omega arith; full = λ w b e. absurd cc } }
