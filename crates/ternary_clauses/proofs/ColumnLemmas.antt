-- Column after column is added.
use Rattle.std.proofs.Common.{◌≡◌, ℕ, ◌+◌, Bool, true, false, List, [], ◌∷◌, ◌++◌, length, take, get_or, refl, sym, ap, ◌∙◌, arith, append_assoc}
use Rattle.ternary_clauses.proofs.Common.{length_push, All-nil, All-push, bit, bits, Formula, Rails, says, IsModel, IsFormula, HasModelFrom, Reads, ReadsAll, AreWithin, value_read, SaysColumns, take_more, TakesValue, HasNewRails}
use Rattle.std.proofs.lemmas.List.{length-take-le, map-append, take_all}
use Rattle.std.proofs.lemmas.Slice.Zip.{all_zipped_more}
use Rattle.ternary_clauses.specs.Columns.{vector_read, HasVector}
use Rattle.ternary_clauses.proofs.ReadingLemmas.{ReadsAll-more, All-within-more}
use Rattle.clause_formulas.proofs.GrowthLemmas.{Grows-refl, Grows-chain, model-here}
use Rattle.ternary_clauses.proofs.NodeLemmas.{known-bit, known-read}

pub columns-none : (f : Formula) → IsFormula f → SaysColumns f f [] 0
columns-none f formula = record {
  grows = Grows-refl f formula;
  within = All-nil (AreWithin f.variables);
  size = refl;
  known = All-nil (λ (r : Rails). r.known ≡ 0);
  sound = λ m h. tt;
  complete = λ m v len h wide. by m v len h wide;
}
  where
    by : (m v : List Bool) → length m ≡ f.variables → IsModel m f → length v ≡ 0 → HasVector f [] m v
    by m [] len h wide = let has : HasModelFrom f m = model-here f m len h in record { more = has.more; width = has.width; model = has.model; reads = tt }
    by m (b ∷ v) len h wide = absurd (omega (arith, wide))

module _ (old mid new : Formula) (rails : List Rails) (k : ℕ) (r : Rails) (was : SaysColumns old mid rails k) (made : HasNewRails mid new true r) where
  column-complete : (m v : List Bool) → length m ≡ old.variables → IsModel m old → length v ≡ k + 1 → HasVector new (rails ++ r ∷ []) m v
  column-complete m v len h wide =
      let b = get_or v k false in
      let split : take k v ++ get_or v k false ∷ [] ≡ v = sym (take_more v k false (omega (arith, wide))) ∙ take_all (k + 1) v (omega (arith, wide)) in
      let had : HasVector mid rails m (take k v) = was.complete m (take k v) len h (length-take-le k v (omega (arith, wide))) in
      let long = m ++ had.more in
      let has : TakesValue new r (m ++ had.more) (bit b) = made.takes long (bit b) (λ e. sym (known-bit b)) had.width had.model in
      let before : ReadsAll (long ++ has.more) rails (bits (take k v)) = ReadsAll-more long has.more rails (bits (take k v)) (rw had.width was.within) had.reads in
      let all : ReadsAll (long ++ has.more) (rails ++ r ∷ []) (bits (take k v) ++ bit b ∷ []) = all_zipped_more (Reads (long ++ has.more)) rails (bits (take k v)) r (bit b) before has.reads in
      let whole : bits (take k v) ++ bit b ∷ [] ≡ bits v = sym (map-append bit (take k v) (b ∷ [])) ∙ ap bits split in
      grind (arith, append_assoc m had.more has.more)

  pub column-step : SaysColumns old new (rails ++ r ∷ []) (k + 1)
  column-step = record {
    grows = Grows-chain was.grows made.grows;
    within = All-push (AreWithin new.variables) rails r (All-within-more mid.variables new.variables rails made.grows.more was.within) made.own.within;
    size = (let x = was.size in let y = length_push rails r in omega (arith, x, y));
    known = All-push (λ (q : Rails). q.known ≡ 0) rails r was.known (made.known refl);
    sound = λ m h.
        let column : Reads m r (bit (says m r.one)) = known-read m r (value_read m r) (made.grows.formula.truth m h) (made.known refl) (made.own.reads m h) in
        simp map-append (all_zipped_more (Reads m) rails (bits (vector_read m rails)) r (bit (says m r.one)) (was.sound m (made.grows.sound m h)) column);
    complete = column-complete;
  }
