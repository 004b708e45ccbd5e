-- What the reader holds, as the definitions see it.
use Rattle.std.specs.Prelude.{None}
use Rattle.blif_read.specs.declared.open_model.OpenModel as held
use Rattle.blif_read.specs.Running.{OpenModel, ended}

abbrev pub seen : held.OpenModel → OpenModel
seen m = record {
  model = record {
    name = m.name;
    inputs = m.inputs.items;
    outputs = m.outputs.items;
    clocks = m.clocks.items;
    body = m.body.items;
  };
  gate = m.gate;
}

abbrev pub without_gate : OpenModel → OpenModel
without_gate open_model = record { model = ended open_model; gate = None }
