-- The reader, as its progress.
use Rattle.std.specs.Prelude.{[], None, option_map}
use Rattle.blif_read.specs.declared.reader.ModelReader.{ModelReader}
use Rattle.blif_read.specs.Running.{Progress}
use Rattle.blif_read.specs.Progress.{seen}

abbrev pub progress_of : ModelReader → Progress
progress_of reader = record {
  done = reader.ended.items;
  in_progress = option_map seen reader.in_progress;
  names = reader.names.keys;
}

abbrev pub start : Progress
start = record { done = []; in_progress = None; names = [] }
