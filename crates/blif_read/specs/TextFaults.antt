-- The faults of the lines as faults of the text.
use Rattle.blif_text.specs.declared.fault.TextFault.{TextFault}
use Rattle.blif_text.specs.declared.fault.TextFault.TheVariants.{BadByte as BadByteIn, Memory as NoMemory}
use Rattle.blif_read.specs.declared.fault.BlifFault.{BlifFault}
use Rattle.blif_read.specs.declared.fault.BlifFault.TheVariants.{BadByte, Memory}

abbrev pub of_text : TextFault → BlifFault
of_text (BadByteIn line) = BadByte line
of_text NoMemory = Memory
