-- The lines of loops, one after another.
use Rattle.std.proofs.Common.{◌≡◌, ℕ, ◌+◌, Bool, List, [], ◌∷◌, ◌++◌, length, take, filter, get_or, codes, refl, sym, ap, ◌∙◌, arith, append-nil}
use Rattle.std.proofs.lemmas.List.{length-append, take_all, take_more}
use Rattle.std.proofs.lemmas.List.Concat.{flat_map-append}
use Rattle.std.specs.Iterator.{Yields, YieldsFirstBy}
use Rattle.report.proofs.Common.{flat_map, if◌then◌else◌, Ok, Err, IsErr, Option, Result, SinkCall, IsAppended, appended_item, appended_in_item, appended_items, over, appended_equal, Parts, loops_of, comes_at, loop_seen, loops_left, loop_line, loop_lines}
use Rattle.std.specs.Prelude.{Some}
use Rattle.loops.specs.Listed.{first_gates}
use Rattle.loops.proofs.ListLemmas.{all_came}
use Rattle.loops.specs.Numbered.{Listed, IsLoopOf, listed_loops, numbered}
use Rattle.loops.specs.declared.loop_list.ListedLoop.{ListedLoop}
use Rattle.loops.specs.declared.loop_list.LoopList.{LoopList}
use Rattle.report.specs.LoopTexts.{numbered_loops, each_loop}

-- the texts of the items that pass a test
pub kept_texts : {X : Type 0} (p : X → Bool) (f : X → List ℕ) (xs : List X) → flat_map f (filter p xs) ≡ flat_map (λ x. if p x then f x else []) xs
kept_texts p f [] = refl
kept_texts p f (x ∷ xs) = grind (arith, kept_texts p f xs)

-- the lines of a loop
pub lines_are : (net : Parts) (l : Listed) → IsLoopOf net l
    → loop_lines net l.number l.first ≡ loop_line net l.number (codes " gates") l.gates ++ loop_line net l.number (codes " cut") (filter (loops_of net).cut l.gates)
lines_are net l is = ap (λ (gates : List ℕ). loop_line net l.number (codes " gates") gates ++ loop_line net l.number (codes " cut") (filter (loops_of net).cut gates)) (sym is.gates)

-- ---- loops one after another

-- what is told of a loop
abbrev pub told_of : (ℕ → ℕ → List ℕ) → Listed → List ℕ
told_of text l = text l.number l.first

-- the texts of all loops are those of the list
pub each_is : (text : ℕ → ℕ → List ℕ) (net : Parts) → flat_map (told_of text) (listed_loops net) ≡ each_loop text net
each_is text net = from 1 (first_gates net)
  where
    from : (k : ℕ) (gates : List ℕ) → flat_map (told_of text) (numbered net k gates) ≡ numbered_loops text k gates
    from k [] = refl
    from k (gate ∷ gates) = ap (λ rest. text k gate ++ rest) (from (k + 1) gates)

-- the texts of the loops that came
abbrev pub told_first : (ℕ → ℕ → List ℕ) → Parts → ℕ → List ℕ
told_first text net n = flat_map (told_of text) (take n (listed_loops net))

module _ (text : ℕ → ℕ → List ℕ) (net : Parts) (s t u : LoopList) (came : List ListedLoop) (all : loops_left s ≡ listed_loops net) (yielded : Yields (YieldsFirstBy loop_seen loops_left) s came t) where
  -- one more loop
  pub one_more : (x : ListedLoop) → YieldsFirstBy loop_seen loops_left t (Some x) u
      → told_first text net (length (came ++ x ∷ [])) ≡ told_first text net (length came) ++ text x.number x.first
  one_more x next =
      let at = comes_at net s t u came x all yielded next in
      let wide = length-append came (x ∷ []) in
      let grown : length (came ++ x ∷ []) ≡ length came + 1 = omega (arith, wide) in
      grind (arith, take_more (listed_loops net) (length came) (loop_seen x) at.inside, flat_map-append (told_of text) (take (length came) (listed_loops net)) (get_or (listed_loops net) (length came) (loop_seen x) ∷ []), append-nil (text x.number x.first))

  -- all loops
  pub whole_told : loops_left t ≡ [] → told_first text net (length came) ≡ each_loop text net
  whole_told none = ap (flat_map (told_of text)) (take_all (length came) (listed_loops net) (all_came net s t came all yielded none)) ∙ each_is text net

  -- the text of one more
  pub told_more : {T U E : Type 0} (x : ListedLoop) (a b c : Option (List ℕ)) (i j k : ℕ) (done : T) (put : U) → YieldsFirstBy loop_seen loops_left t (Some x) u
      → IsAppended {T = T} {E = E} (told_first text net (length came)) (over a b i j) (Ok done)
      → IsAppended {T = U} {E = E} (text x.number x.first) (over b c j k) (Ok put)
      → IsAppended {T = T} {E = E} (told_first text net (length (came ++ x ∷ []))) (over a c i k) (Ok done)
  told_more x a b c i j k done put next first second =
      let at = comes_at net s t u came x all yielded next in
      let wide = length-append came (x ∷ []) in
      let grown : length (came ++ x ∷ []) ≡ length came + 1 = omega (arith, wide) in
      appended_equal _ _ _ _ (ap (told_first text net) grown)
      (appended_item (told_of text) (listed_loops net) (length came) (loop_seen x) a b c i j k done put at.inside at.is first second)

  -- a text that is cut off
  pub told_cut : {T U E : Type 0} (x : ListedLoop) (a b c : Option (List ℕ)) (i j k : ℕ) (done : T) (e : E) (r : Result T E) → YieldsFirstBy loop_seen loops_left t (Some x) u
      → IsAppended {T = T} {E = E} (told_first text net (length came)) (over a b i j) (Ok done)
      → IsAppended {T = U} {E = E} (text x.number x.first) (over b c j k) (Err e) → IsErr r
      → IsAppended (each_loop text net) (over a c i k) r
  told_cut x a b c i j k done e r next first second err =
      let at = comes_at net s t u came x all yielded next in
      appended_equal _ _ _ _ (sym (each_is text net))
      (appended_in_item (told_of text) (listed_loops net) (length came) (loop_seen x) a b c i j k done e r at.inside at.is first second err)

  -- the texts of all
  pub told_all : {T E : Type 0} (sink : SinkCall) (done : T) → loops_left t ≡ [] → IsAppended {T = T} {E = E} (told_first text net (length came)) sink (Ok done)
      → IsAppended {T = T} {E = E} (each_loop text net) sink (Ok done)
  told_all sink done none told =
      appended_equal _ _ _ _ (sym (each_is text net)) (appended_items (told_of text) (listed_loops net) (length came) sink done (all_came net s t came all yielded none) told)
