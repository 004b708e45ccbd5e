-- What a sink of a whole text holds.
use Rattle.std.specs.Prelude.{ℕ, List}
use Rattle.cyc_io.specs.declared.text.TextSink.{TextSink}

abbrev pub text_bytes : TextSink → List ℕ
text_bytes sink = sink.bytes.items
