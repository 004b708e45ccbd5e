-- What probes hear over several calls.
use Rattle.std.proofs.Common.{◌<◌, ◌+◌, ℕ, List, [], ◌∷◌, ◌++◌, length, take, get_or, arith}
use Rattle.std.proofs.lemmas.List.{append_assoc, append-nil, take_all, take_more}
use Rattle.netlist.specs.declared.parts.Parts.{Parts}
use Rattle.delay_core.specs.declared.change.Change.{Change}
use Rattle.commands.specs.declared.kind.Kind.{Kind}
use Rattle.probes.specs.Hearing.{Hears, HearsPrefix, EachHears, EachHearsPrefix}
use Rattle.probes.proofs.SliceLemmas.{zip_same, zip_as}

module _ {P : Type 0} (kind : P → Kind) (heard : P → List Change) (text : P → List Change → Parts → List ℕ) (wanted : Kind) where
  pub hears_none : (p : P) → Hears kind heard text wanted [] p p
  hears_none p = grind (arith, append-nil (heard p))

  hears_both : (xs ys : List Change) (a b c : P) → Hears kind heard text wanted xs a b → Hears kind heard text wanted ys b c → Hears kind heard text wanted (xs ++ ys) a c
  hears_both xs ys a b c first second = grind (arith, append_assoc (heard a) xs ys)

  -- changes so far, and the next one
  pub hears_more : (changes : List Change) (i : ℕ) (d : Change) (a b c : P) → i < length changes → Hears kind heard text wanted (take i changes) a b → Hears kind heard text wanted (get_or changes i d ∷ []) b c → Hears kind heard text wanted (take (i + 1) changes) a c
  hears_more changes i d a b c short before next = rw (take_more changes i d short) (hears_both (take i changes) (get_or changes i d ∷ []) a b c before next)

  pub prefix_none : (changes : List Change) (a b : P) → Hears kind heard text wanted [] a b → HearsPrefix kind heard text wanted changes a b
  prefix_none changes a b none = record { count = 0; part = none }

  pub prefix_part : (changes : List Change) (count : ℕ) (a b c : P) → Hears kind heard text wanted (take count changes) a b → Hears kind heard text wanted [] b c → HearsPrefix kind heard text wanted changes a c
  prefix_part changes count a b c first none = record { count = count; part = rw (append-nil (take count changes)) at (hears_both (take count changes) [] a b c first none) }

  pub prefix_whole : (changes : List Change) (a b : P) → Hears kind heard text wanted changes a b → HearsPrefix kind heard text wanted changes a b
  prefix_whole changes a b whole = record { count = length changes; part = rw (take_all (length changes) changes (omega arith)) whole }

  pub each_none : (ps : List P) → EachHears kind heard text wanted [] ps ps
  each_none ps = zip_same (Hears kind heard text wanted []) hears_none ps

  pub each_prefix_none : (changes : List Change) (ps : List P) → EachHearsPrefix kind heard text wanted changes ps ps
  each_prefix_none changes ps = zip_same (HearsPrefix kind heard text wanted changes) (λ p. prefix_none changes p p (hears_none p)) ps

  pub each_whole : (changes : List Change) (old now : List P) → EachHears kind heard text wanted changes old now → EachHearsPrefix kind heard text wanted changes old now
  each_whole changes = zip_as (Hears kind heard text wanted changes) (HearsPrefix kind heard text wanted changes) (prefix_whole changes)
