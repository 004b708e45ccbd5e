-- The states that the inits permit, latch by latch.
use Rattle.std.proofs.Common.{◌≡◌, inl, inr, ℕ, zero, suc, ◌+◌, ◌-◌, ◌<◌, ◌≤◌, Bool, true, false, ◌&&◌, List, [], ◌∷◌, ◌++◌, length, map, replicate, take, drop, get_or, refl, sym, ap, ◌∙◌, arith}
use Rattle.diagram_decision.proofs.Common.{list_all, cases_lt, get_or-map, get_or-replicate, get_or_append_left, get_or_default, length-drop, length-map, Node, Arena, den, IsNodeOf, nodes, nodes-alike, by_variable, conjunction, X, bit, Rails, value_of, Latch, Parts, rails_at, columns, state_of, AreColumns, laid, order, order-is, BoundsStarts, starts, length-replicate}
use Rattle.std.specs.List.{AllPass, zip}
use Rattle.std.proofs.Math.Seq.{drop-nil}
use Rattle.std.proofs.lemmas.List.{drop_more, get_or-append-add, get_or-drop, length-take-le}
use Rattle.std.proofs.lemmas.List.Sums.{AllPass-from_list_all, list_all-from_AllPass}
use Rattle.std.proofs.lemmas.Slice.Zip.{get_or-zip, length-zip}
use Rattle.bdd_ops.proofs.PossibleLemmas.{by_variable-read}
use Rattle.cyc_base.proofs.TruthLemmas.{same_truth}
use Rattle.bdd_store.specs.Subfunctions.{IsPart}
use Rattle.netlist.specs.declared.parts.Init.{Init}
use Rattle.netlist.specs.declared.parts.Init.TheVariants as inits
use Rattle.refusals.specs.Refusals.{may_start}
use Rattle.fixpoint.proofs.LayoutLemmas.{variable_of}
use Rattle.diagram_decision.proofs.CareLemmas.{value_at-place}
use Rattle.diagram_decision.proofs.DecisionLemmas.{vector_of, length-vector_of, laid-vector_of}
use Rattle.diagram_decision.proofs.SizeLemmas.{nodes-part}

-- ---- columns

-- the inits of all columns: an input may have any value
abbrev pub inits_of : Parts → List Init
inits_of net = replicate (length net.inputs) inits.Either ++ map (λ (l : Latch). l.init) net.latches

-- the column may start with this value
abbrev pub may_start_at : Parts → ℕ → Bool → Bool
may_start_at net column b = may_start (get_or (inits_of net) column inits.Either) b

pub input-may : (net : Parts) (column : ℕ) (b : Bool) → column < length net.inputs → may_start_at net column b ≡ true
input-may net column b low =
    let free : List Init = replicate (length net.inputs) inits.Either in
    grind (arith, get_or_append_left free, length-replicate (length net.inputs) inits.Either, get_or-replicate (length net.inputs) column inits.Either inits.Either low)

pub latch-may : (net : Parts) (i : ℕ) (d : Latch) (b : Bool) → i < length net.latches → may_start_at net (length net.inputs + i) b ≡ may_start (get_or net.latches i d).init b
latch-may net i d b inside =
    let free : List Init = replicate (length net.inputs) inits.Either in
    grind (arith, length-replicate (length net.inputs) inits.Either, get_or-append-add free, get_or-map)

-- and so may each of these
abbrev pub all_may_start_at : Parts → List ℕ → List Bool → Bool
all_may_start_at net [] w = true
all_may_start_at net (c ∷ cs) [] = true
all_may_start_at net (c ∷ cs) (b ∷ w) = may_start_at net c b && all_may_start_at net cs w

-- the node stands for the columns of the variables from one on
pub record TellsLater (net : Parts) (a : Arena) (set : Node) (k : ℕ) : Type 0 where
  pub node : IsNodeOf a set
  pub value : (w : List Bool) → length w ≡ a.vars → den a set w ≡ all_may_start_at net (drop k (order net)) (drop k w)

-- one column, and those after it
pub next_column : (net : Parts) (w : List Bool) (m k : ℕ) → m ≡ k + 1 → k < columns net → length w ≡ columns net →
    all_may_start_at net (drop k (order net)) (drop k w) ≡ (may_start_at net (get_or (order net) k 0) (get_or w k false) && all_may_start_at net (drop m (order net)) (drop m w))
next_column net w m k m_is inside wide = grind (arith, drop_more (order net) k 0, order-is net, drop_more w k false)

-- the value of a variable's column
pub variable-bit : (net : Parts) (a : Arena) (rails : List Rails) (k : ℕ) (w : List Bool) → a.vars ≡ columns net → AreColumns a (order net) rails → k < columns net → length w ≡ a.vars →
    value_of a (rails_at rails (get_or (order net) k 0)) w ≡ bit (get_or w k false)
variable-bit net a rails k w vars are inside wide =
    let c : ℕ = get_or (order net) k 0 in
    let v : List Bool = vector_of net w in
    grind (arith, order-is net, length-vector_of net w, laid-vector_of net w, value_at-place a rails c w, get_or-map bit v c false X, by_variable-read (order net) v k)

-- ---- all columns are the state

by-columns : (net : Parts) (cs : List ℕ) (v : List Bool) → all_may_start_at net cs (by_variable cs v) ≡ list_all (λ c. may_start_at net c (get_or v c false)) cs
by-columns net [] v = refl
by-columns net (c ∷ cs) v = ap (λ t. may_start_at net c (get_or v c false) && t) (by-columns net cs v)

-- a column of a vector
abbrev starts_at : Parts → List Bool → ℕ → Bool
starts_at net v c = may_start_at net c (get_or v c false)

module _ (net : Parts) (v : List Bool) (wide : length v ≡ columns net) where
  -- those of the state, one after another
  state_pairs : List (Latch × Bool)
  state_pairs = zip net.latches (state_of net v)

  pair-is : (i : ℕ) (d : Latch × Bool) → i < length net.latches → may_start (get_or state_pairs i d).0.init (get_or state_pairs i d).1 ≡ starts_at net v (length net.inputs + i)
  unfolding state_pairs
  pair-is i d inside =
      let state : List Bool = state_of net v in
      grind (arith, length-drop (length net.inputs) v, get_or-zip net.latches state i d inside, latch-may net i d.0 (get_or state i d.1) inside, get_or_default state i d.1 false, get_or-drop (length net.inputs) v i false)

  columns-state : AllPass (starts_at net v) (order net) → starts net v ≡ true
  unfolding state_pairs
  columns-state all = list_all-from_AllPass (λ (p : Latch × Bool). may_start p.0.init p.1) state_pairs (λ i d inside.
      let low : i < length net.latches = omega (arith, inside, length-zip net.latches (state_of net v)) in
      let x = variable_of (columns net) (order net) (order-is net) (length net.inputs + i) (omega (arith, low)) in
      pair-is i d low ∙ ap (starts_at net v) (sym x.is) ∙ all x.number 0 (omega (arith, x.within, (order-is net).long)))

  state-column : starts net v ≡ true → (c : ℕ) → c < columns net → starts_at net v c ≡ true
  unfolding state_pairs
  state-column all c less = elim (cases_lt c (length net.inputs)) [
    | inl low ↦ input-may net c (get_or v c false) low
    | inr high ↦
        let i : ℕ = c - length net.inputs in
        let is : length net.inputs + i ≡ c = omega (arith, high) in
        let none : Latch × Bool = (record { name = []; from = record { 0 = 0 }; init = inits.Zero; clocked = false }, false) in
        let inside : i < length net.latches = omega (arith, less, high) in
        ap (starts_at net v) (sym is) ∙ sym (pair-is i none inside)
        ∙ AllPass-from_list_all (λ (p : Latch × Bool). may_start p.0.init p.1) state_pairs all i none (omega (arith, inside, wide, length-drop (length net.inputs) v, length-zip net.latches (state_of net v)))
  ]

  pub starts-laid : all_may_start_at net (order net) (laid net v) ≡ starts net v
  starts-laid =
      by-columns net (order net) v
      ∙ same_truth (list_all (starts_at net v) (order net)) (starts net v) (λ all. columns-state (AllPass-from_list_all (starts_at net v) (order net) all))
      (λ all. list_all-from_AllPass (starts_at net v) (order net) (λ k d inside.
      let low : k < columns net = omega (arith, inside, (order-is net).long) in
      state-column all (get_or (order net) k d) (rw (get_or_default (order net) k d 0 inside) ((order-is net).within k low))))

-- ---- the columns from one variable on are a part of all

-- a value that a column may start with
abbrev permitted : Init → Bool
permitted inits.Zero = false
permitted inits.One = true
permitted inits.Either = true

permitted-may : (init : Init) → may_start init (permitted init) ≡ true
permitted-may init = grind arith

abbrev permitted_at : Parts → ℕ → Bool
permitted_at net c = permitted (get_or (inits_of net) c inits.Either)

permitted_at-may : (net : Parts) (c : ℕ) → may_start_at net c (permitted_at net c) ≡ true
permitted_at-may net c = permitted-may (get_or (inits_of net) c inits.Either)

permitted-first : (net : Parts) (k : ℕ) (cs : List ℕ) (w : List Bool) → all_may_start_at net cs (map (permitted_at net) (take k cs) ++ drop k w) ≡ all_may_start_at net (drop k cs) (drop k w)
permitted-first net zero cs w = refl
permitted-first net (suc k) [] w = refl
permitted-first net (suc k) (c ∷ cs) [] =
    ap (λ t. t && all_may_start_at net cs (map (permitted_at net) (take k cs) ++ [])) (permitted_at-may net c)
    ∙ ap (λ (w : List Bool). all_may_start_at net cs (map (permitted_at net) (take k cs) ++ w)) (sym (drop-nil k))
    ∙ permitted-first net k cs []
    ∙ ap (all_may_start_at net (drop k cs)) (drop-nil k)
permitted-first net (suc k) (c ∷ cs) (b ∷ w) = grind (arith, permitted_at-may net c, permitted-first net k cs w)

later-part : (net : Parts) (k : ℕ) → k ≤ columns net → IsPart (columns net) (all_may_start_at net (order net)) (λ w. all_may_start_at net (drop k (order net)) (drop k w))
later-part net k few = grind (arith, length-map (take k (order net)) (permitted_at net), length-take-le k (order net), order-is net, permitted-first net k (order net))

-- so making it costs no more
pub later-nodes : (net : Parts) (s : Arena) (set one : Node) (k w : ℕ) → k ≤ columns net → s.vars ≡ columns net →
    ((v : List Bool) → length v ≡ s.vars → conjunction s one set v ≡ all_may_start_at net (drop k (order net)) (drop k v)) →
    BoundsStarts net w → nodes s.vars (conjunction s one set) ≤ w
later-nodes net s set one k w few vars both bounds = grind (arith, nodes-part (columns net) (all_may_start_at net (order net)), later-part net k few, starts-laid net, nodes-alike s.vars (conjunction s one set))
