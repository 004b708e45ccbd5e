-- Ways along rows are joined, and landmarks go on from a gate that is entered.
use Rattle.std.proofs.Common.{◌≡◌, ◌⊎◌, ◌<◌, ◌+◌, ◌^◌, inl, inr, ℕ, Bool, List, [], ◌∷◌, length, sym, ◌∙◌, arith}
use Rattle.feedback_cuts.proofs.Common.{Landmark, Search, Meeting, ReadsBack, InRow, IsMarked, IsReady, Meets, Path, row_at}
use Rattle.feedback_cuts.specs.Landmarks.{IsLandmark, Passes}
use Rattle.feedback_cuts.specs.Searching.{HasSearched, Reaches}
use Rattle.feedback_cuts.proofs.SearchLemmas.{joined_reach, marked_within, one_step, spreads}

module _ (rows : List (List ℕ)) (a b c : ℕ) where
  pub reaches_join : Reaches rows a b → Reaches rows b c → Reaches rows a c
  reaches_join r s =
      elim r [ inl e ↦ rw e s | inr v ↦ inr (joined_reach rows a b c v s) ]

-- rows that keep their gates keep their ways
module _ (rows more : List (List ℕ)) (keeps : (x y : ℕ) → InRow rows x y → InRow more x y) where
  path_kept : (a b : ℕ) (via : List ℕ) → Path (InRow rows) a via b → Path (InRow more) a via b
  path_kept a b [] l = keeps a b l
  path_kept a b (x ∷ via) p = (keeps a x p.0, path_kept x b via p.1)

  reaches_kept : (a b : ℕ) → Reaches rows a b → Reaches more a b
  reaches_kept a b r = grind (arith, path_kept)

  pub landmark_kept : (gates : ℕ) (landmark : Landmark) → IsLandmark rows gates landmark → IsLandmark more gates landmark
  landmark_kept gates landmark is = grind (arith, reaches_kept)

-- what is marked once a search went on from a gate
abbrev Extends : List (List ℕ) → List (List ℕ) → ℕ → ℕ → List ℕ → List ℕ → Type 0
Extends from to goal gate old new =
    (x : ℕ) → IsMarked goal new x → IsMarked goal old x ⊎ (Meets goal (row_at from gate) old × Reaches to gate x)

-- a landmark goes on, ahead and behind it
pub gone_on : (readers sources : List (List ℕ)) (gate gates h : ℕ) (ahead behind more_ahead more_behind : Search) → ReadsBack readers sources gate → IsLandmark readers gates (record { gate = h; ahead = ahead; behind = behind }) →
    length more_ahead.marks.items ≡ length ahead.marks.items → Extends sources readers h gate ahead.marks.items more_ahead.marks.items →
    length more_behind.marks.items ≡ length behind.marks.items → Extends readers sources h gate behind.marks.items more_behind.marks.items →
    IsLandmark readers gates (record { gate = h; ahead = more_ahead; behind = more_behind })
gone_on readers sources gate gates h ahead behind more_ahead more_behind back is ahead_size reached behind_size reaching = record {
  fits = is.fits;
  ahead_size = ahead_size ∙ is.ahead_size;
  behind_size = behind_size ∙ is.behind_size;
  ahead = λ x m.
      elim (reached x m) [ inl old ↦ is.ahead x old | inr w ↦ reaches_join readers h gate x (to_gate w.0) w.1 ];
  behind = λ x m.
      elim (reaching x m) [ inl old ↦ is.behind x old | inr w ↦ reaches_join readers x gate h (turned x w.1) (from_gate w.0) ];
}
  where
    turned : (x : ℕ) → Reaches sources gate x → Reaches readers x gate
    turned x r = elim r [ inl e ↦ inl (sym e) | inr w ↦ inr (back x w) ]

    to_gate : Meets h (row_at sources gate) ahead.marks.items → Reaches readers h gate
    to_gate m = reaches_join readers h m.gate gate (is.ahead m.gate m.marked) (inr (back m.gate (one_step sources gate m.gate m.listed)))

    from_gate : Meets h (row_at readers gate) behind.marks.items → Reaches readers gate h
    from_gate m = inr (joined_reach readers gate m.gate h (one_step readers gate m.gate m.listed) (is.behind m.gate m.marked))

-- a landmark at a gate
pub at_gate : (readers sources : List (List ℕ)) (levels : List ℕ) (high gate gates : ℕ) (ahead more_ahead behind more_behind : Search) (met met_behind : Bool) → gate + 1 < 2 ^ 32 → ReadsBack readers sources gate → IsReady gates 0 ahead.marks.items → IsReady gates 0 behind.marks.items →
    HasSearched readers levels high gate (gate ∷ []) [] ahead more_ahead met → HasSearched sources levels high gate (gate ∷ []) [] behind more_behind met_behind → IsLandmark readers gates (record { gate = gate; ahead = more_ahead; behind = more_behind })
at_gate readers sources levels high gate gates ahead more_ahead behind more_behind met met_behind fits back ready ready_behind forth aft = record {
  fits = fits;
  ahead_size = forth.searching.size ∙ ready.size;
  behind_size = aft.searching.size ∙ ready_behind.size;
  ahead = λ x m.
      elim (spreads readers levels high gate gate [] ahead more_ahead met forth x m) [ inl old ↦ absurd (unmarked gate gates ahead.marks.items x ready old) | inr r ↦ r ];
  behind = λ x m.
      elim (spreads sources levels high gate gate [] behind more_behind met_behind aft x m) [
        | inl old ↦ absurd (unmarked gate gates behind.marks.items x ready_behind old)
        | inr r ↦ elim r [ inl e ↦ inl (sym e) | inr w ↦ inr (back x w) ]
      ];
}
  where
    unmarked : (goal width : ℕ) (marks : List ℕ) (x : ℕ) → IsReady width 0 marks → ¬ IsMarked goal marks x
    unmarked goal width marks x fresh m = (let b = fresh.bound x 0 (marked_within goal marks x m) in omega (arith, m))

-- both rows of a gate meet where a landmark is passed
pub passed_meet : (readers sources : List (List ℕ)) (n : ℕ) → Passes readers (row_at readers n) (row_at sources n) → Meeting readers sources n
passed_meet readers sources n p =
    grind (arith, joined_reach readers n p.first p.last (one_step readers n p.first p.begins) (reaches_join readers p.first p.landmark p.last p.before p.after), one_step readers n p.first p.begins, reaches_join readers p.first p.landmark p.last p.before p.after, one_step sources n p.last p.ends)
