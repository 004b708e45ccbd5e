-- What a shelf's refusal is to the reader of a whole file.
use Rattle.cyc_io.specs.declared.shelf.ShelfFault.{ShelfFault}
use Rattle.cyc_io.specs.declared.shelf.ShelfFault.TheVariants as shelf
use Rattle.cyc_io.specs.declared.shelf.ReadFault.{ReadFault}
use Rattle.cyc_io.specs.declared.shelf.ReadFault.TheVariants as read

abbrev pub fault_of : ShelfFault → ReadFault
fault_of shelf.Failed = read.Fault
fault_of shelf.Memory = read.Memory

-- want of memory
abbrev pub no_memory : ReadFault
no_memory = read.Memory

abbrev pub shelf_memory : ShelfFault
shelf_memory = shelf.Memory

abbrev pub shelf_failed : ShelfFault
shelf_failed = shelf.Failed
