-- Marks of gates, signal by signal.
use Rattle.std.proofs.Common.{◌≡◌, ℕ, ◌+◌, ◌<◌, ◌≤◌, Bool, true, false, List, [], ◌∷◌, ◌++◌, length, map, take, get_or, replicate, sym, ap, ◌∙◌, subst, arith}
use Rattle.diagram_decision.proofs.Common.{take_all, get_or-map, get_or-replicate, length-map, Sig, Latch, Parts, gate_sigs, AreMarksOf, length-replicate}
use Rattle.std.proofs.lemmas.List.{append_assoc, take_more}
use Rattle.refusals.proofs.ObservedLemmas.{gate_among}

pub marks-more : (net : Parts) (before xs : List Sig) (i : ℕ) (d : Sig) (marks : List Bool) → i < length xs → AreMarksOf net ((before ++ take i xs) ++ get_or xs i d ∷ []) marks →
    AreMarksOf net (before ++ take (i + 1) xs) marks
marks-more net before xs i d marks inside is = grind (arith, append_assoc before (take i xs) (get_or xs i d ∷ []), take_more xs i d inside)

pub marks-end : (net : Parts) (before xs : List Sig) (n : ℕ) (marks : List Bool) → length xs ≤ n → AreMarksOf net (before ++ take n xs) marks → AreMarksOf net (before ++ xs) marks
marks-end net before xs n marks all is = subst (λ ys. AreMarksOf net ys marks) (ap (λ (ys : List Sig). before ++ ys) (take_all n xs all)) is

-- a latch more
pub source-more : (net : Parts) (before : List Sig) (i : ℕ) (d : Latch) (s : Sig) (marks : List Bool) → i < length net.latches → s ≡ (get_or net.latches i d).from →
    AreMarksOf net ((before ++ take i (map (λ (l : Latch). l.from) net.latches)) ++ s ∷ []) marks →
    AreMarksOf net (before ++ take (i + 1) (map (λ (l : Latch). l.from) net.latches)) marks
source-more net before i d s marks inside at is =
    let sources : List Sig = map (λ (l : Latch). l.from) net.latches in
    let same : s ≡ get_or sources i s = at ∙ sym (get_or-map (λ (l : Latch). l.from) net.latches i d s inside) in
    marks-more net before sources i s marks (let l = length-map net.latches (λ (l : Latch). l.from) in omega (arith, l, inside))
    (subst (λ (t : Sig). AreMarksOf net ((before ++ take i sources) ++ t ∷ []) marks) same is)

-- all gates marked, and none
pub all-marked : (net : Parts) → AreMarksOf net (gate_sigs net) (replicate (length net.gates) true)
all-marked net = record {
  width = length-replicate (length net.gates) true;
  each = λ k inside. get_or-replicate (length net.gates) k true false inside ∙ sym (gate_among net k inside);
}

pub none-marked : (net : Parts) → AreMarksOf net [] (replicate (length net.gates) false)
none-marked net = record {
  width = length-replicate (length net.gates) false;
  each = λ k inside. get_or-replicate (length net.gates) k false false inside;
}
