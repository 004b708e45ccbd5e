-- What probes that heard nothing before show of the changes that they were told.
use Rattle.std.proofs.Common.{◌≡◌, ◌<◌, ℕ, suc, true, List, [], ◌∷◌, ◌++◌, length, get_or, All, refl, ap₂, arith}
use Rattle.std.proofs.lemmas.List.Elements.{AllZip-get_or, length_all_zip}
use Rattle.netlist.specs.declared.parts.Parts.{Parts}
use Rattle.netlist.specs.Netlists.{count}
use Rattle.delay_core.specs.declared.change.Change.{Change}
use Rattle.commands.specs.declared.kind.Kind.{Kind}
use Rattle.probes.specs.Hearing.{Hears, EachHears}
use Rattle.probes.specs.Showing.{same_kind, text_of_kind, shown_texts, texts_of}

module _ {P : Type 0} (kind : P → Kind) (heard : P → List Change) (text : P → List Change → Parts → List ℕ) (wanted : Kind) (changes : List Change) where
  heard_these : (old new : P) → heard old ≡ [] → Hears kind heard text wanted changes old new → same_kind (kind new) wanted ≡ true → heard new ≡ changes
  heard_these old new none hears is = grind arith

  shows : (net : Parts) (old new : P) → heard old ≡ [] → Hears kind heard text wanted changes old new →
      text_of_kind kind text wanted net (heard new) new ≡ text_of_kind kind text wanted net changes old
  shows net old new none hears = grind arith

  pub all_show : (net : Parts) (olds news : List P) → All (λ (p : P). heard p ≡ []) olds → EachHears kind heard text wanted changes olds news →
      shown_texts kind heard text wanted net news ≡ texts_of kind text wanted net changes olds
  all_show net [] [] none hears = refl
  all_show net [] (new ∷ news) none hears = absurd hears
  all_show net (old ∷ olds) [] none hears = absurd hears
  all_show net (old ∷ olds) (new ∷ news) none hears =
      ap₂ (λ (xs ys : List ℕ). xs ++ ys) (shows net old new (none 0 old (omega arith)) hears.0)
      (all_show net olds news (λ k d short. none (suc k) d (omega (arith, short))) hears.1)

  pub all_can_show : (net : Parts) (olds news : List P) → All (λ (p : P). heard p ≡ []) olds → EachHears kind heard text wanted changes olds news →
      All (λ (c : Change). c.sig.0 < count net) changes →
      All (λ (p : P). same_kind (kind p) wanted ≡ true → All (λ (c : Change). c.sig.0 < count net) (heard p)) news
  all_can_show net olds news none hears known =
      λ k d short is.
      let same_length : length olds ≡ length news = length_all_zip (Hears kind heard text wanted changes) olds news hears in
      let there : k < length olds = omega (arith, short, same_length) in
      let each = AllZip-get_or (Hears kind heard text wanted changes) olds news k d d hears there in
      rw (heard_these (get_or olds k d) (get_or news k d) (none k d there) each is) known
