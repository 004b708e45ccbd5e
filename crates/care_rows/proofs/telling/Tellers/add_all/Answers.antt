use Rattle.std.proofs.Common.{◌∙◌}
use Rattle.care_rows.proofs.TellerLemmas.{added_all, last_room}
use Rattle.care_rows.proofs.telling.Tellers.add_all.Goals as goal

pub add_last-requires-clause-room : goal.add_last-requires-clause-room
add_last-requires-clause-room c =
    let self = c.args.self.now in
    last_room self.mark.now self.total self.base c.args.places.now c.args.rows.now c.args.conditions.items c.deref.result.now c.requires.total (c.deref.ensures.value ∙ c.in_ok-add_rows.ensures.outputs)

pub returns : goal.returns
returns c =
    let self = c.args.self.now in
    added_all self.mark.now self.total self.base c.args.places.now c.args.rows.now c.args.conditions.items c.deref.result.now c.requires.total (c.deref.ensures.value ∙ c.in_ok-add_rows.ensures.outputs)
    c.args.gates.now.items c.add_rows.new.gates.items c.add_last.new.gates.items c.in_ok-add_rows.ensures.gates c.in_ok-add_last.ensures
