use Rattle.care_rows.proofs.TellerLemmas.{told-start}
use Rattle.care_rows.proofs.telling.Tellers.add_rows.Goals as goal

pub loop-row-init : goal.loop-row-init
loop-row-init c = told-start c.args.self.now.mark.now c.args.self.now.total c.args.self.now.base c.args.places.now c.args.rows.now c.args.gates.now.items c.args.outputs.now.items
