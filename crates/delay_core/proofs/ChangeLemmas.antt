-- Changes that a log keeps, one after another.
use Rattle.std.proofs.Common.{◌≡◌, ◌<◌, ◌≤◌, ◌+◌, ℕ, List, [], ◌∷◌, ◌++◌, drop, Option, ap, sym, ◌∙◌, arith}
use Rattle.std.specs.List.{cons_option, filter_map}
use Rattle.std.proofs.lemmas.List.{append_assoc, append-nil, drop_all, drop_more}
use Rattle.netlist.specs.Netlists.{signal}
use Rattle.delay_core.proofs.Common.{PlayState, range_with_len, length-range_with_len, get_or-range_with_len}
use Rattle.delay_core.specs.declared.change.Change.{Change}
use Rattle.delay_core.specs.Changes.{logged}
use Rattle.delay_core.specs.Plays.{opening_change}

pub logged_none : (log : Option (List Change)) → logged log [] ≡ log
logged_none log = grind (arith, append-nil)

logged_both : (log : Option (List Change)) (first second : List Change) → logged (logged log first) second ≡ logged log (first ++ second)
logged_both log first second = grind (arith, append_assoc)

-- all changes are those that a log has and those that are left, also after some of these
module _ (start log next : Option (List Change)) (all left piece rest : List Change) where
  pub logged_more : left ≡ piece ++ rest → next ≡ logged log piece → logged start all ≡ logged log left → logged start all ≡ logged next rest
  logged_more is kept before = grind (arith, logged_both log piece rest)

pub logged_all : (start log : Option (List Change)) (all left : List Change) → left ≡ [] → logged start all ≡ logged log left → log ≡ logged start all
logged_all start log all left none before = sym (before ∙ ap (logged log) none ∙ logged_none log)

pub option_first : (change : Option Change) (rest : List Change) → cons_option change rest ≡ cons_option change [] ++ rest
option_first change rest = grind arith

-- the signals from one on
pub openings_left : (play : PlayState) (count n : ℕ) → n < count →
    filter_map (λ m. opening_change play (signal m)) (drop n (range_with_len 0 count))
    ≡ cons_option (opening_change play (signal n)) [] ++ filter_map (λ m. opening_change play (signal m)) (drop (n + 1) (range_with_len 0 count))
openings_left play count n short =
    ap (filter_map (λ m. opening_change play (signal m)))
    (drop_more (range_with_len 0 count) n 0 (omega (arith, length-range_with_len 0 count))
    ∙ ap (λ m. m ∷ drop (n + 1) (range_with_len 0 count)) (get_or-range_with_len 0 count n 0 short ∙ omega arith))
    ∙ option_first (opening_change play (signal n)) _

pub openings_done : (play : PlayState) (count n : ℕ) → count ≤ n → filter_map (λ m. opening_change play (signal m)) (drop n (range_with_len 0 count)) ≡ []
openings_done play count n far = grind (arith, drop_all n (range_with_len 0 count), length-range_with_len 0 count)
