use Rattle.std.proofs.Common.{◌≡◌, ◌<◌, ◌+◌, ◌-◌, ℕ, List, true, false, inl, inr, length, get_or, ap, sym, ◌∙◌, arith}
use Rattle.std.proofs.lemmas.Bool.{cases_lt, not-true, not-false}
use Rattle.std.proofs.lemmas.List.{take_more}
use Rattle.std.proofs.lemmas.List.Elements.{All-get_or}
use Rattle.netlist.specs.Netlists.{signal, gate_sig, count}
use Rattle.delay_core.specs.declared.change.Change.{Change}
use Rattle.probes.specs.Tables.{has_turn}
use Rattle.probes.proofs.TallyLemmas.{tally_opening, tally_first, tally_given, tally_glitch, tick_below}
use Rattle.probes.proofs.glitches.enter_change.Goals as goal

abbrev no_change : Change
no_change = record { at = 0; tick = 0; round = 0; sig = signal 0; value = false }

pub returns-then-change-eq0 : goal.returns-then-change-eq0
returns-then-change-eq0 c =
    rw (take_more c.args.changes.now c.args.i no_change c.requires.place)
    (tally_opening _ _ _ _ _ _ _ c.requires.entered c.if-change-eq0.true)

pub returns-then-branch : goal.returns-then-branch
returns-then-branch c =
    let change : Change = get_or c.args.changes.now c.args.i no_change in
    let first : has_turn c.args.tally.now.turns.keys change.sig change.tick ≡ false =
    not-true (has_turn c.args.tally.now.turns.keys change.sig change.tick) (sym c.in_ok-enter.ensures.first ∙ c.if-branch.true) in
    rw (take_more c.args.changes.now c.args.i no_change c.requires.place)
    (tally_first _ _ _ _ _ _ _ c.requires.entered (omega (arith, c.if-change-eq0.false)) _ c.in_ok-enter.ensures.entered first)

pub returns : goal.returns
returns c =
    let changes : List Change = c.args.changes.now in
    let change : Change = get_or changes c.args.i no_change in
    let columns : ℕ = length c.args.net.now.inputs + length c.args.net.now.latches in
    let again : has_turn c.args.tally.now.turns.keys change.sig change.tick ≡ true =
    not-false (has_turn c.args.tally.now.turns.keys change.sig change.tick) (sym c.in_ok-enter.ensures.first ∙ c.if-branch.false) in
    let round : 0 < change.round = omega (arith, c.if-change-eq0.false) in
    let there : change.sig.0 < count c.args.net.now = All-get_or (λ (x : Change). x.sig.0 < count c.args.net.now) changes c.args.i no_change c.requires.place c.requires.signals in
    elim (cases_lt change.sig.0 columns) [
      | inl given ↦
          rw (take_more changes c.args.i no_change c.requires.place, c.count_glitch.ensures.given given)
          (tally_given _ _ _ _ _ _ _ c.requires.entered round _ c.in_ok-enter.ensures.entered given)
      | inr far ↦
          let k : ℕ = change.sig.0 - columns in
          let is : change.sig ≡ gate_sig c.args.net.now k = ap (λ (n : ℕ). signal n) (omega (arith, far)) in
          let counted = c.count_glitch.ensures.counted k is in
          rw (take_more changes c.args.i no_change c.requires.place, c.count_glitch.ensures.turns, counted.0, counted.1)
          (tally_glitch _ _ _ _ _ _ _ c.requires.entered round _ c.in_ok-enter.ensures.entered k again is
          (omega (arith, there, far)) (tick_below changes c.args.i no_change c.requires.place))
    ]
