use Rattle.std.proofs.Common.{rules, sym, ◌∙◌}
use Rattle.std.proofs.lemmas.Fn.{filter_same}
use Rattle.dual_rail.proofs.LiveLemmas.{any_contained, any_kept}
use Rattle.dual_rail.proofs.live.keep.Goals as goal

pub returns-then-is_contained_in_any : goal.returns-then-is_contained_in_any
returns-then-is_contained_in_any c = any_contained c.args.rows.now c.args.pin c.args.kept.now.items c.args.row (rw c.deref.ensures.value at (sym c.is_contained_in_any.ensures ∙ c.if-is_contained_in_any.true))

pub returns : goal.returns
returns c = any_kept c.args.rows.now c.args.pin c.args.kept.now.items c.retain.new.self.items c.push.new.self.items c.args.row (filter_same _ _ _ (λ x b f' k. search rules) _ _ c.retain.ensures.filtered) c.in_ok-push.ensures.items
