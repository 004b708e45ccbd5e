-- A gate closes a walk, or is entered between what it reads and what reads it.
use Rattle.std.proofs.Common.{◌↔◌, ◌<◌, ◌+◌, ℕ, true, false, List, length, set, get_or, refl, ap, inl, arith, sym, ◌∙◌, true≢false}
use Rattle.feedback_cuts.proofs.Common.{get_or-set_same, length-set, HasParted, HaveGainedPins, IsKept, IsLoopPin, InRow, IsFree, gate_at}
use Rattle.feedback_cuts.proofs.CutLemmas.{closes, entered, found_free, left_out, parted, reads_back, row_laid, search_left_out, stays_open}
use Rattle.feedback_cuts.proofs.KeptLemmas.{gained_rows, kept_links, landmarks_as, own_row, ready_as}
use Rattle.feedback_cuts.proofs.LandmarkLemmas.{landmark_kept, passed_meet}
use Rattle.feedback_cuts.proofs.cuts.CutSearch.enter.Goals as goal
use Rattle.feedback_cuts.proofs.cuts.CutSearch.enter.Goals.{In_ok-insert, In_ok-row, Then-branch}

-- the row of what the gate reads is laid
is_laid : (c : In_ok-row) → IsKept (IsLoopPin c.args.grouped.now.net c.args.grouped.now.blocks) c.args.cut.now c.args.gate c.args.self.now.kept.readers.items (set c.args.self.now.kept.sources.items c.args.gate c.in_ok-row.row) c.args.self.now.kept.levels.items × ((x : ℕ) → InRow (set c.args.self.now.kept.sources.items c.args.gate c.in_ok-row.row) c.args.gate x ↔ (IsLoopPin c.args.grouped.now.net c.args.grouped.now.blocks x c.args.gate × IsFree c.args.cut.now c.args.gate x))
is_laid c =
    row_laid (IsLoopPin c.args.grouped.now.net c.args.grouped.now.blocks) c.args.cut.now c.args.gate (omega (arith, c.requires.gate, c.requires.cut)) c.args.self.now.kept.readers.items c.args.self.now.kept.sources.items c.args.self.now.kept.levels.items c.in_ok-row.row c.requires.search.kept
    (own_row c.args.grouped.now.net c.args.grouped.now.blocks c.args.cut.now c.args.gate c.in_ok-row.row c.in_ok-row.ensures)

-- the rows of the gate's sources have gained it
gains : (c : In_ok-insert) → HaveGainedPins c.args.grouped.now.net c.args.grouped.now.blocks c.args.gate (length (gate_at c.args.grouped.now.net c.args.gate).pins) c.args.self.now.kept.readers.items c.insert.new.self.readers.items
gains c = rw c.in_ok-part.ensures.readers at c.in_ok-insert.ensures.readers

-- both rows of the gate meet
is_met : (c : Then-branch) → HasParted c.args.self.now.kept.readers.items (set c.args.self.now.kept.sources.items c.args.gate c.in_ok-row.row) c.args.gate c.args.self.now.kept.levels.items c.part.new.kept.levels.items true
is_met c = rw c.if-branch.true at c.in_ok-part.ensures.parted

-- the gate is entered
is_entered : (c : In_ok-insert) → IsKept (IsLoopPin c.args.grouped.now.net c.args.grouped.now.blocks) (set c.args.cut.now c.args.gate false) (c.args.gate + 1) c.insert.new.self.readers.items c.insert.new.self.sources.items c.insert.new.self.levels.items
is_entered c =
    let R = IsLoopPin c.args.grouped.now.net c.args.grouped.now.blocks in
    let n = c.args.gate in
    let l : n < length c.args.cut.now = omega (arith, c.requires.gate, c.requires.cut) in
    let laid = row_laid R c.args.cut.now n l c.args.self.now.kept.readers.items c.args.self.now.kept.sources.items c.args.self.now.kept.levels.items c.in_ok-row.row c.requires.search.kept
    (own_row c.args.grouped.now.net c.args.grouped.now.blocks c.args.cut.now n c.in_ok-row.row c.in_ok-row.ensures) in
    let sources : List (List ℕ) = set c.args.self.now.kept.sources.items n c.in_ok-row.row in
    let levels = c.part.new.kept.levels.items in
    let apart = parted R c.args.cut.now n l c.args.self.now.kept.readers.items sources c.args.self.now.kept.levels.items laid.0 laid.1 levels (rw c.if-branch.false at c.in_ok-part.ensures.parted) in
    let placed = rw (c.in_ok-part.ensures.readers, c.in_ok-part.ensures.sources) at c.in_ok-insert.ensures.placed in
    let gained = rw (c.in_ok-part.ensures.readers, c.in_ok-part.ensures.sources) at c.in_ok-insert.ensures.sources in
    let pins = gains c in
    entered R c.args.cut.now n l c.args.self.now.kept.readers.items sources c.args.self.now.kept.levels.items laid.0 laid.1 levels apart c.insert.new.self.levels.items c.insert.new.self.readers.items c.insert.new.self.sources.items
    (λ h. true≢false (sym (c.reads_itself.ensures.1 h) ∙ c.if-reads_itself.false)) placed pins.size
    (gained_rows c.args.grouped.now.net c.args.grouped.now.blocks n c.args.self.now.kept.readers.items c.insert.new.self.readers.items pins) gained

pub returns-then-reads_itself-clause-search : goal.returns-then-reads_itself-clause-search
returns-then-reads_itself-clause-search c = grind (arith, search_left_out (IsLoopPin c.args.grouped.now.net c.args.grouped.now.blocks) c.args.cut.now c.args.gate)

pub links-requires : goal.links-requires
links-requires c =
    grind (arith, is_laid (goal.at.links-requires c).In_ok-row, kept_links (IsLoopPin c.args.grouped.now.net c.args.grouped.now.blocks) c.args.cut.now c.args.gate c.args.self.now.kept.readers.items (set c.args.self.now.kept.sources.items c.args.gate c.in_ok-row.row) c.args.self.now.kept.levels.items)

pub returns-then-is_closed-clause-leads : goal.returns-then-is_closed-clause-leads
returns-then-is_closed-clause-leads c =
    let l : c.args.gate < length c.args.cut.now = omega (arith, c.requires.gate, c.requires.cut) in
    let laid = is_laid (goal.at.returns-then-is_closed-clause-leads c).In_ok-row in
    let sources : List (List ℕ) = set c.args.self.now.kept.sources.items c.args.gate c.in_ok-row.row in
    let passed = rw (c.links.ensures.readers, c.links.ensures.sources) at (c.is_closed.ensures c.if-is_closed.true) in
    (λ e. closes (IsLoopPin c.args.grouped.now.net c.args.grouped.now.blocks) c.args.cut.now c.args.gate l c.args.self.now.kept.readers.items sources c.args.self.now.kept.levels.items laid.0 laid.1 (passed_meet c.args.self.now.kept.readers.items sources c.args.gate passed), λ k. refl)

pub returns-then-is_closed-clause-search : goal.returns-then-is_closed-clause-search
returns-then-is_closed-clause-search c =
    let laid = is_laid (goal.at.returns-then-is_closed-clause-search c).In_ok-row in
    search_left_out (IsLoopPin c.args.grouped.now.net c.args.grouped.now.blocks) c.args.cut.now c.args.gate (omega (arith, c.requires.gate, c.requires.cut)) c.args.self.now _ c.requires.search
    laid.0 refl refl refl

pub learn-requires-clause-within : goal.learn-requires-clause-within
learn-requires-clause-within c =
    let l : c.args.gate < length c.args.cut.now = omega (arith, c.requires.gate, c.requires.cut) in
    let laid = is_laid (goal.at.learn-requires-clause-within c).In_ok-row in
    let sources : List (List ℕ) = set c.args.self.now.kept.sources.items c.args.gate c.in_ok-row.row in
    let met = is_met (goal.at.learn-requires-clause-within c).Then-branch in
    let same = ap (λ (xs : List ℕ). length xs) (c.links-then-branch.ensures.levels ∙ met.1) in
    let kept = laid.0 in
    λ x found.
    (let free = found_free (IsLoopPin c.args.grouped.now.net c.args.grouped.now.blocks) c.args.cut.now c.args.gate l c.args.self.now.kept.readers.items sources c.args.self.now.kept.levels.items laid.0 laid.1 x (c.in_ok-part.ensures.found x found) in
    let before = free.before in
    omega (arith, l, same, kept.levels_size))

pub learn-requires-clause-back : goal.learn-requires-clause-back
learn-requires-clause-back c =
    let l : c.args.gate < length c.args.cut.now = omega (arith, c.requires.gate, c.requires.cut) in
    let laid = is_laid (goal.at.learn-requires-clause-back c).In_ok-row in
    let sources : List (List ℕ) = set c.args.self.now.kept.sources.items c.args.gate c.in_ok-row.row in
    λ x found.
    rw (c.links-then-branch.ensures.readers, c.links-then-branch.ensures.sources, c.in_ok-part.ensures.readers, c.in_ok-part.ensures.sources)
    (reads_back (IsLoopPin c.args.grouped.now.net c.args.grouped.now.blocks) c.args.cut.now c.args.gate c.args.self.now.kept.readers.items sources c.args.self.now.kept.levels.items laid.0 x
    (found_free (IsLoopPin c.args.grouped.now.net c.args.grouped.now.blocks) c.args.cut.now c.args.gate l c.args.self.now.kept.readers.items sources c.args.self.now.kept.levels.items laid.0 laid.1 x (c.in_ok-part.ensures.found x found)))

pub returns-then-branch-clause-leads : goal.returns-then-branch-clause-leads
returns-then-branch-clause-leads c =
    let l : c.args.gate < length c.args.cut.now = omega (arith, c.requires.gate, c.requires.cut) in
    let laid = is_laid (goal.at.returns-then-branch-clause-leads c).In_ok-row in
    let sources : List (List ℕ) = set c.args.self.now.kept.sources.items c.args.gate c.in_ok-row.row in
    let met = is_met (goal.at.returns-then-branch-clause-leads c).Then-branch in
    (λ e. closes (IsLoopPin c.args.grouped.now.net c.args.grouped.now.blocks) c.args.cut.now c.args.gate l c.args.self.now.kept.readers.items sources c.args.self.now.kept.levels.items laid.0 laid.1 met.0, λ k. refl)

pub returns-then-branch-clause-search : goal.returns-then-branch-clause-search
returns-then-branch-clause-search c =
    let l : c.args.gate < length c.args.cut.now = omega (arith, c.requires.gate, c.requires.cut) in
    let laid = is_laid (goal.at.returns-then-branch-clause-search c).In_ok-row in
    let sources : List (List ℕ) = set c.args.self.now.kept.sources.items c.args.gate c.in_ok-row.row in
    let met = is_met (goal.at.returns-then-branch-clause-search c).Then-branch in
    let links = c.links-then-branch.result in
    let kept = laid.0 in
    let same = ap (λ (xs : List ℕ). length xs) (c.links-then-branch.ensures.levels ∙ met.1) in
    let width = length-set c.args.cut.now c.args.gate true in
    record {
      kept = rw (c.in_ok-part.ensures.readers, c.in_ok-part.ensures.sources, met.1)
          (left_out (IsLoopPin c.args.grouped.now.net c.args.grouped.now.blocks) c.args.cut.now c.args.gate l c.args.self.now.kept.readers.items sources c.args.self.now.kept.levels.items laid.0);
      ready = ready_as (length c.args.self.now.kept.levels.items) (length (set c.args.cut.now c.args.gate true)) (c.args.gate + 1) c.part.new.search.marks.items (omega (arith, width, kept.levels_size)) c.in_ok-part.ensures.ready;
      landmarks = landmarks_as links.readers.now c.part.new.kept.readers.items (length links.levels.now) (length (set c.args.cut.now c.args.gate true)) c.learn.new.self.list.items
          (sym c.links-then-branch.ensures.readers) (omega (arith, width, same, kept.levels_size)) c.in_ok-learn.ensures;
    }

pub insert-requires-clause-apart : goal.insert-requires-clause-apart
insert-requires-clause-apart c =
    let n = c.args.gate in
    let l : n < length c.args.cut.now = omega (arith, c.requires.gate, c.requires.cut) in
    let laid = is_laid (goal.at.insert-requires-clause-apart c).In_ok-row in
    let sources : List (List ℕ) = set c.args.self.now.kept.sources.items n c.in_ok-row.row in
    let levels = c.part.new.kept.levels.items in
    let apart = parted (IsLoopPin c.args.grouped.now.net c.args.grouped.now.blocks) c.args.cut.now n l c.args.self.now.kept.readers.items sources c.args.self.now.kept.levels.items laid.0 laid.1 levels (rw c.if-branch.false at c.in_ok-part.ensures.parted) in
    grind arith

pub links-requires-2 : goal.links-requires-2
links-requires-2 c =
    let width = length-set c.args.cut.now c.args.gate false in
    kept_links (IsLoopPin c.args.grouped.now.net c.args.grouped.now.blocks) (set c.args.cut.now c.args.gate false) (c.args.gate + 1) c.insert.new.self.readers.items c.insert.new.self.sources.items c.insert.new.self.levels.items
    (omega (arith, width, c.requires.gate, c.requires.cut)) (is_entered (goal.at.links-requires-2 c).In_ok-insert)

pub extend-requires-clause-back : goal.extend-requires-clause-back
extend-requires-clause-back c =
    let n = c.args.gate in
    grind (arith, is_entered (goal.at.extend-requires-clause-back c).In_ok-insert, get_or-set_same c.args.cut.now n false false, reads_back (IsLoopPin c.args.grouped.now.net c.args.grouped.now.blocks) (set c.args.cut.now n false) (n + 1) c.insert.new.self.readers.items c.insert.new.self.sources.items c.insert.new.self.levels.items)

pub extend-requires-clause-landmarks : goal.extend-requires-clause-landmarks
extend-requires-clause-landmarks c =
    let n = c.args.gate in
    let kept = is_entered (goal.at.extend-requires-clause-landmarks c).In_ok-insert in
    let gain = gained_rows c.args.grouped.now.net c.args.grouped.now.blocks n c.args.self.now.kept.readers.items c.insert.new.self.readers.items (gains (goal.at.extend-requires-clause-landmarks c).In_ok-insert) in
    let width = length-set c.args.cut.now n false in
    let same = ap (λ (xs : List ℕ). length xs) c.links-2.ensures.levels in
    landmarks_as c.insert.new.self.readers.items c.links-2.result.readers.now (length c.args.cut.now) (length c.links-2.result.levels.now) c.args.self.now.landmarks.list.items
    c.links-2.ensures.readers (omega (arith, width, same, kept.levels_size))
    (λ k d kl. landmark_kept c.args.self.now.kept.readers.items c.insert.new.self.readers.items (λ x y old. (gain x y).1 (inl old)) (length c.args.cut.now) (get_or c.args.self.now.landmarks.list.items k d) (c.requires.search.landmarks k d kl))

pub returns-clause-leads : goal.returns-clause-leads
returns-clause-leads c =
    let n = c.args.gate in
    let l : n < length c.args.cut.now = omega (arith, c.requires.gate, c.requires.cut) in
    let laid = is_laid (goal.at.returns-clause-leads c).In_ok-row in
    let sources : List (List ℕ) = set c.args.self.now.kept.sources.items n c.in_ok-row.row in
    let levels = c.part.new.kept.levels.items in
    let apart = parted (IsLoopPin c.args.grouped.now.net c.args.grouped.now.blocks) c.args.cut.now n l c.args.self.now.kept.readers.items sources c.args.self.now.kept.levels.items laid.0 laid.1 levels (rw c.if-branch.false at c.in_ok-part.ensures.parted) in (
      λ e. absurd (true≢false (sym e)),
      λ k. absurd (stays_open (IsLoopPin c.args.grouped.now.net c.args.grouped.now.blocks) c.args.cut.now n l c.args.self.now.kept.readers.items sources c.args.self.now.kept.levels.items laid.0 laid.1 levels apart
          (λ h. true≢false (sym (c.reads_itself.ensures.1 h) ∙ c.if-reads_itself.false)) k),
    )

pub returns-clause-search : goal.returns-clause-search
returns-clause-search c =
    let n = c.args.gate in
    let kept = is_entered (goal.at.returns-clause-search c).In_ok-insert in
    let before = c.requires.search.kept in
    let width = length-set c.args.cut.now n false in
    let same = ap (λ (xs : List ℕ). length xs) c.links-2.ensures.levels in
    record {
      kept = kept;
      ready = ready_as (length c.args.self.now.kept.levels.items) (length (set c.args.cut.now n false)) (n + 1) c.part.new.search.marks.items (omega (arith, width, before.levels_size)) c.in_ok-part.ensures.ready;
      landmarks = landmarks_as c.links-2.result.readers.now c.insert.new.self.readers.items (length c.links-2.result.levels.now) (length (set c.args.cut.now n false)) c.extend.new.self.list.items
          (sym c.links-2.ensures.readers) (omega (arith, width, same, kept.levels_size)) c.in_ok-extend.ensures;
    }
