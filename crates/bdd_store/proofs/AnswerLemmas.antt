-- Answers to choices: what is there after one is kept.
use Rattle.std.proofs.Common.{◌≡◌, true, ◌⊎◌, Contains, refl, ap, subst, eq-eqb, arith}
use Rattle.bdd_store.proofs.Common.{Node}
use Rattle.std.proofs.lemmas.Bool.{and_from}
use Rattle.std.specs.Cmp.{IsEquivalence}
use Rattle.cyc_base.proofs.TruthLemmas.{same_truth}
use Rattle.bdd_store.specs.declared.node.Choice.{Choice}
use Rattle.bdd_store.specs.Arena.{same_choice}
use Rattle.lru.specs.LruCache.{LruCache, put_entries}
use Rattle.lru.proofs.CallerLemmas.{Contains-put_entries}

pub same_choice-true : (x y : Choice) → same_choice x y ≡ true → x ≡ y
same_choice-true x y h = grind arith

pub same_choice-self : (x : Choice) → same_choice x x ≡ true
same_choice-self x = and_from _ _ (eq-eqb x.a.number x.a.number refl) (and_from _ _ (eq-eqb x.b.number x.b.number refl) (eq-eqb x.c.number x.c.number refl))

turned : (x y : Choice) → same_choice x y ≡ true → same_choice y x ≡ true
turned x y h = subst (λ (z : Choice). same_choice z x ≡ true) (same_choice-true x y h) (same_choice-self x)

pub same_choice-laws : IsEquivalence same_choice
same_choice-laws = record {
  refl = same_choice-self;
  symm = λ x y. same_truth (same_choice x y) (same_choice y x) (turned x y) (turned y x);
  congr = λ x y z h. ap (λ (w : Choice). same_choice w z) (same_choice-true x y h);
}

-- what is there was there, or is the answer that was kept
pub kept_or_there : (cache : LruCache Choice Node) (choice x : Choice) (n m : Node) → Contains (put_entries same_choice cache choice n) (x, m) → ((x ≡ choice) × (m ≡ n)) ⊎ Contains cache.entries (x, m)
kept_or_there cache choice x n m has = grind (arith, Contains-put_entries same_choice cache choice n (x, m) has, same_choice-true choice x)
