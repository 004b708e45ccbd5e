use Rattle.std.proofs.Common.{rules}
use Rattle.std.proofs.lemmas.List.Elements.{filter_from_retain}
use Rattle.cover_logic.specs.Partial.{is_unknown}
use Rattle.cover_logic.proofs.extend.unknown_pins.Goals as goal

pub returns : goal.returns
returns c = filter_from_retain _ is_unknown (λ p x b q r. search rules) _ _ _ c.retain.ensures.filtered
