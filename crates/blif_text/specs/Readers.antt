-- A reader, seen as its state.
use Rattle.blif_text.specs.Reading.{State}
use Rattle.blif_text.specs.declared.reader.Reader.{Reader}

abbrev pub state_of : Reader → State
state_of r = record {
  done = r.buffer.done;
  words = r.buffer.words;
  run = r.buffer.run;
  first = r.first;
  number = r.number;
  comment = r.comment;
}
