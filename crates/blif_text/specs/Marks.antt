-- A mark that is kept in half the memory.
use Rattle.blif_text.specs.declared.marks.Mark.{Mark}
use Rattle.blif_text.specs.declared.marks.ShortMark.{ShortMark}

abbrev pub mark_of : ShortMark → Mark
mark_of short = record { number = short.number; end = short.end }
