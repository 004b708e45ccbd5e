-- How clauses see commands.
use Rattle.std.specs.Prelude.{ℕ, option_copied, option_map}
use Rattle.std.specs.declared.option.Option.{Option}
use Rattle.commands.specs.declared.command.Cells.{Cells}
use Rattle.commands.specs.declared.cases.Cases.{Cases}
use Rattle.commands.specs.declared.command.Command.{Command}
use Rattle.commands.specs.declared.command.Command.TheVariants.{Decide, Assume, Equal, Flat, Loops, Sim, Delays, Demo, Help, HelpOn, Version}
use Rattle.commands.specs.declared.command.Options.{Options}
use Rattle.commands.specs.declared.command.Rounds.{Rounds}
use Rattle.commands.specs.declared.purpose.Making.{Making}
use Rattle.commands.specs.declared.purpose.Making.TheVariants.{Rewrite, Aiger, Explain, Demonstrate}
use Rattle.commands.specs.declared.purpose.Purpose.{Purpose}
use Rattle.commands.specs.declared.purpose.Purpose.TheVariants.{Tell, Make}
use Rattle.commands.specs.declared.purpose.Telling.{Telling}
use Rattle.commands.specs.declared.purpose.Telling.TheVariants.{Judge, Storm}
use Rattle.commands.specs.declared.wishes.Wishes.{Wishes}
use Rattle.commands.specs.Words as asked

abbrev pub options_seen : Options → asked.Options
options_seen options = record { care = option_copied options.care; nodes = options.nodes; observe = options.observe }

abbrev pub cells_seen : Cells → ℕ
cells_seen cells = cells.number

abbrev pub split_seen : Option Cases → Option ℕ
split_seen split = option_map (λ cases. cases.number) split

abbrev pub wishes_seen : Wishes → asked.Wishes
wishes_seen wishes = record { options = options_seen wishes.options; flag = wishes.flag; cases = wishes.cases }

abbrev pub rounds_seen : Rounds → ℕ
rounds_seen rounds = rounds.number

abbrev pub telling_seen : Telling → asked.Purpose
telling_seen Judge = asked.Judges
telling_seen (Storm rounds) = asked.Storms (rounds_seen rounds)

abbrev pub making_seen : Making → asked.Purpose
making_seen (Rewrite split) = asked.Rewrites (split_seen split)
making_seen (Aiger encoding split) = asked.WritesGraph encoding (split_seen split)
making_seen (Explain form) = asked.Explains form
making_seen (Demonstrate cells) = asked.Demonstrates (cells_seen cells)

abbrev pub purpose_seen : Purpose → asked.Purpose
purpose_seen (Tell telling) = telling_seen telling
purpose_seen (Make making) = making_seen making

abbrev pub command_seen : Command → asked.Command
command_seen (Decide netlist options purpose) = asked.Decide netlist.now (options_seen options) (purpose_seen purpose)
command_seen (Assume netlist options) = asked.Assume netlist.now (options_seen options)
command_seen (Equal first second options) = asked.Equal first.now second.now (options_seen options)
command_seen (Flat netlist) = asked.Flat netlist.now
command_seen (Loops netlist form) = asked.Loops netlist.now form
command_seen (Sim netlist vectors) = asked.Sim netlist.now vectors.now
command_seen (Delays netlist vectors schedule probe) = asked.Delays netlist.now vectors.now schedule.now probe
command_seen (Demo cells) = asked.Demo (cells_seen cells)
command_seen Help = asked.Help
command_seen (HelpOn topic) = asked.HelpOn topic
command_seen Version = asked.Version
