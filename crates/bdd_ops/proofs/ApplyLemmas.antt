-- One step of an operation: from the answers to the cofactors to the answer to the operands.
use Rattle.std.proofs.Common.{◌≡◌, ℕ, ◌+◌, ◌<◌, ◌≤◌, ◌⊎◌, Bool, true, false, List, [], ◌∷◌, ◌++◌, length, drop, get_or, replicate, Result, Ok, IfOk, refl, sym, ap, subst, ◌∙◌, arith, append_assoc}
use Rattle.std.proofs.lemmas.List.{length-replicate, drop_at, get_or_at, length_push}
use Rattle.bdd_store.specs.declared.node.Node.{Node}
use Rattle.bdd_store.specs.Arena.{Arena, complemented, den, top_of, IsNodeOf, choice}
use Rattle.bdd_store.specs.Soundness.{IsLawful}
use Rattle.bdd_store.specs.Growth.{KeepsNodes, NewAreParts, IsNewFunction, IsRefusedPart}
use Rattle.bdd_store.specs.Subfunctions.{IsPart}
use Rattle.bdd_store.proofs.SubfunctionLemmas.{IsPart-whole, IsPart-alike}
use Rattle.bdd_store.proofs.GrowthLemmas.{IsNodeOf-kept, NewAreParts-made, NewAreParts-part, IsRefusedPart-made, IsRefusedPart-part}
use Rattle.bdd_ops.specs.declared.operands.Operation.{Operation}
use Rattle.bdd_ops.specs.declared.operands.Operands.{Operands}
use Rattle.bdd_ops.specs.declared.apply.Answered.{Answered}
use Rattle.bdd_ops.specs.Apply.{combine, value, AreNodesOf, IsBelow, IsAnswer, IsCofactor, AreCofactors, IsSplit, AreAnswered}

-- ---- what a store that keeps its nodes keeps

pub AreNodesOf-kept : {s t : Arena} {q : Operands} → KeepsNodes s t → AreNodesOf s q → AreNodesOf t q
AreNodesOf-kept {q = q} k h = record { a = IsNodeOf-kept k q.a h.a; b = IsNodeOf-kept k q.b h.b; c = IsNodeOf-kept k q.c h.c; d = IsNodeOf-kept k q.d h.d }

pub value-kept : {s t : Arena} (operation : Operation) (q : Operands) → KeepsNodes s t → AreNodesOf s q → (bits : List Bool) → value operation t q bits ≡ value operation s q bits
value-kept operation q k h bits = λ j. combine operation (k.function q.a bits h.a j) (k.function q.b bits h.b j) (k.function q.c bits h.c j) (k.function q.d bits h.d j)

pub IsBelow-kept : {s t : Arena} {q : Operands} {v : ℕ} → KeepsNodes s t → AreNodesOf s q → IsBelow t q v → IsBelow s q v
IsBelow-kept {q = q} k h b = grind arith

pub IsAnswer-kept : {operation : Operation} {s t : Arena} {q : Operands} {n : Node} → KeepsNodes s t → AreNodesOf s q → IsAnswer operation s q n → IsAnswer operation t q n
IsAnswer-kept {operation} {s} {t} {q} {n} k h a = grind arith

IsCofactor-kept : {s t : Arena} {n m : Node} {var : ℕ} {bit : Bool} → KeepsNodes s t → IsNodeOf s n → IsCofactor s n var bit m → IsCofactor t n var bit m
IsCofactor-kept {n = n} {m = m} k h c = grind arith

AreCofactors-kept : {s t : Arena} {q p : Operands} {var : ℕ} {bit : Bool} → KeepsNodes s t → AreNodesOf s q → AreCofactors s q var bit p → AreCofactors t q var bit p
AreCofactors-kept k h c = record { a = IsCofactor-kept k h.a c.a; b = IsCofactor-kept k h.b c.b; c = IsCofactor-kept k h.c c.c; d = IsCofactor-kept k h.d c.d }

pub IsSplit-kept : {s t : Arena} {q lo hi : Operands} {var : ℕ} → KeepsNodes s t → IsSplit s q var lo hi → IsSplit t q var lo hi
IsSplit-kept k h = record {
  nodes = AreNodesOf-kept k h.nodes;
  within = omega (arith, h.within, k.vars);
  most = λ v b. h.most v (IsBelow-kept k h.nodes b);
  low = AreCofactors-kept k h.nodes h.low;
  high = AreCofactors-kept k h.nodes h.high;
}

-- ---- cofactors

module _ (operation : Operation) (s : Arena) (q : Operands) (var : ℕ) (bit : Bool) (p : Operands) (of : AreCofactors s q var bit p) where
  pub AreNodesOf-cofactors : AreNodesOf s p
  AreNodesOf-cofactors = record { a = of.a.node; b = of.b.node; c = of.c.node; d = of.d.node }

  -- the cofactors' node reads later bits alone
  pub below_answer : var < s.vars → (n : Node) → IsAnswer operation s p n → var < top_of s n
  below_answer within n is = grind arith

  module _ (lawful : IsLawful s) (within : var < s.vars) where
    abbrev first : List Bool
    first = replicate var false ++ bit ∷ []

    length-first : length first ≡ var + 1
    length-first = omega (arith, length_push (replicate var false) bit, length-replicate var false)

    cofactor_value : (n m : Node) → IsCofactor s n var bit m → (bits : List Bool) → den s m bits ≡ den s n (first ++ drop (length first) bits)
    cofactor_value n m is bits =
        let rest = drop (length first) bits in
        let read : get_or (first ++ rest) var false ≡ bit = ap (λ l. get_or l var false) (append_assoc (replicate var false) (bit ∷ []) rest) ∙ get_or_at (replicate var false) bit rest false var (length-replicate var false) in
        sym (is.function (first ++ rest) read
        ∙ lawful.support m (length first) (first ++ rest) bits is.node (omega (arith, is.lower, length-first)) (drop_at first rest (length first) refl))

    -- the cofactors' function is the operands' with its first bits fixed
    pub IsPart-cofactors : IsPart s.vars (value operation s q) (value operation s p)
    IsPart-cofactors = grind (arith, length-first, cofactor_value q.a p.a of.a, cofactor_value q.b p.b of.b, cofactor_value q.c p.c of.c, cofactor_value q.d p.d of.d)

-- ---- the made node

module _ (operation : Operation) (s : Arena) (answered : Answered) (are : AreAnswered operation s answered) where
  abbrev made : List Bool → Bool
  made = choice s answered.var answered.low answered.high

  pub low_below : answered.var < top_of s answered.low
  low_below = below_answer operation s answered.asked answered.var false are.0 are.2.low are.2.within answered.low are.3

  pub high_below : answered.var < top_of s answered.high
  high_below = below_answer operation s answered.asked answered.var true are.1 are.2.high are.2.within answered.high are.4

  -- Shannon's expansion
  pub made-value : (bits : List Bool) → made bits ≡ value operation s answered.asked bits
  made-value bits = grind arith

  IsPart-made : IsPart s.vars (value operation s answered.asked) made
  IsPart-made = IsPart-alike (IsPart-whole s.vars (value operation s answered.asked)) (λ bits len. made-value bits)

  module _ (t : Arena) (keeps : KeepsNodes s t) where
    -- the made node answers the operands
    pub IsAnswer-made : (n : Node) → IsNodeOf t n → ((bits : List Bool) → den t n bits ≡ made bits) → answered.var ≤ top_of t n → IsAnswer operation t answered.asked n
    IsAnswer-made n node function top = record {
      node = node;
      function = λ bits. function bits ∙ made-value bits ∙ sym (value-kept operation answered.asked keeps are.2.nodes bits);
      top = λ v w b. omega (arith, are.2.most v (IsBelow-kept keeps are.2.nodes b), top);
    }

  pub NewAreParts-close : {E : Type 0} (t : Arena) (r : Result Node E) → ((n : Node) → IsNodeOf t n → IsNodeOf s n ⊎ ((r ≡ Ok n) ⊎ (r ≡ Ok (complemented n)))) → IfOk r (λ n. (bits : List Bool) → den t n bits ≡ made bits) → NewAreParts s t (value operation s answered.asked)
  NewAreParts-close t r one function = NewAreParts-part IsPart-made (NewAreParts-made s t made r one function)

  pub IsRefusedPart-close : (t : Arena) → t ≡ s → length s.entries ≡ s.limit → IsNewFunction s made → IsRefusedPart t (value operation s answered.asked)
  IsRefusedPart-close t e full absent = IsRefusedPart-part (subst (λ (u : Arena). IsPart u.vars (value operation s answered.asked) made) (sym e) IsPart-made) (IsRefusedPart-made s t made e full absent)
