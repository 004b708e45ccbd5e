-- What a netlist has of one with its interface: care models, care vectors, and what it tells.
use Rattle.std.proofs.Common.{◌≡◌, ℕ, ◌++◌, Bool, List, length, map, Some, None, ap, ap₂, ◌∙◌, sym, subst, arith}
use Rattle.std.proofs.lemmas.List.{length-map}
use Rattle.std.specs.Prelude.{IfSome, position}
use Rattle.std.specs.Str.{bytes_eq}
use Rattle.std.specs.declared.option.Option.{Option}
use Rattle.cyc_base.specs.Values.{bits}
use Rattle.cyc_base.proofs.OrderLemmas.{EachBelow-trans}
use Rattle.netlist.specs.Netlists.{columns}
use Rattle.netlist.specs.declared.parts.Latch.{Latch}
use Rattle.netlist.specs.declared.parts.Parts.{Parts}
use Rattle.netlist.specs.Fixpoint.{outs, next}
use Rattle.care_sets.specs.declared.model.CareModel.{CareModel}
use Rattle.care_sets.specs.Binding.{IsBoundTo, IsCareOf}
use Rattle.care_sets.specs.Care.{CareSet, column_names, IsCareVector}
use Rattle.schedules.specs.Accepted.{TellsAsMuch}
use Rattle.unroll.specs.Laws.{KeepsInterface}

pub keeps_through : (net split other : Parts) → KeepsInterface net split → KeepsInterface split other → KeepsInterface net other
keeps_through net split other first second = record {
  inputs = first.inputs ∙ second.inputs;
  latches = first.latches ∙ second.latches;
  inits = first.inits ∙ second.inits;
  outputs = first.outputs ∙ second.outputs;
  clock = first.clock ∙ second.clock;
}

module _ (net split : Parts) (keeps : KeepsInterface net split) where
  names_kept : column_names split ≡ column_names net
  names_kept = sym (ap₂ (λ (inputs latches : List (List ℕ)). inputs ++ latches) keeps.inputs keeps.latches)

  bound_kept : (first : ℕ) (model : CareModel) → IsBoundTo net first model → IsBoundTo split first model
  bound_kept first model is = record {
    start = is.start;
    names = record {
      named = subst (λ (names : List (List ℕ)). map Some model.columns ≡ map (λ name. position (bytes_eq name) names) model.net.inputs) (sym names_kept) is.names.named;
    };
    late = is.late;
  }

  some_kept : (first : ℕ) (model : Option CareModel) → IfSome model (IsBoundTo net first) → IfSome model (IsBoundTo split first)
  some_kept first None is = tt
  some_kept first (Some model) is = bound_kept first model is

  -- so care models that are the netlist's are those of the other one
  pub care_kept : (care : CareSet) → IsCareOf net care → IsCareOf split care
  care_kept care is = record {
    assume = some_kept 0 care.assume is.assume;
    invariant =
        subst (λ (first : ℕ). IfSome care.invariant (IsBoundTo split first)) (ap length keeps.inputs)
        (some_kept (length net.inputs) care.invariant is.invariant);
  }

  columns_kept : columns split ≡ columns net
  columns_kept =
      let inputs = ap length keeps.inputs in
      let names = ap length keeps.latches in
      let own = length-map net.latches (λ (latch : Latch). latch.name) in
      let others = length-map split.latches (λ (latch : Latch). latch.name) in
      omega (arith, inputs, names, own, others)

  -- and so are its care vectors
  vector_kept : (care : CareSet) (v : List Bool) → IsCareVector net care v → IsCareVector split care v
  vector_kept care v counts = grind (arith, columns_kept, keeps.inputs)

  -- what tells as much as the split netlist does tells as much as the netlist
  pub tells_through : (other : Parts) (care : CareSet) → TellsAsMuch net split care → TellsAsMuch split other care → TellsAsMuch net other care
  tells_through other care first last = record {
    outputs = λ v counts. EachBelow-trans (outs net (bits v)) (outs split (bits v)) (outs other (bits v)) (first.outputs v counts) (last.outputs v (vector_kept care v counts));
    loads = λ v counts. EachBelow-trans (next net (bits v)) (next split (bits v)) (next other (bits v)) (first.loads v counts) (last.loads v (vector_kept care v counts));
  }
