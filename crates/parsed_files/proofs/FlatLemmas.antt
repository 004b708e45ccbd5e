-- A flat netlist has the inputs of its top and the latches of its lines, and there are limits to both.
use Rattle.std.proofs.Common.{◌≡◌, inl, inr, ℕ, ◌≤◌, List, [], length, Option, Some, None, Result, Ok, Err, refl, ap, ◌∙◌, arith}
use Rattle.std.proofs.lemmas.Bool.{cases_lt}
use Rattle.std.proofs.lemmas.List.{get_or_past, length-map}
use Rattle.cyc_base.specs.declared.limits.TheConstants.{MAX_DEPTH, MAX_FLAT_ITEMS}
use Rattle.netlist.specs.declared.parts.Parts.{Parts}
use Rattle.blif_read.specs.Reads.{reads}
use Rattle.blif_read.specs.declared.models.BlifModel.{BlifModel}
use Rattle.blif_read.proofs.FlattenLemmas.{few_inputs}
use Rattle.flatten.specs.declared.fault.FlatFault.{FlatFault}
use Rattle.flatten.specs.Flat.{flat, linked_lines, flat_from}
use Rattle.flatten.specs.Instances.{find_model, model_at, no_model}
use Rattle.flatten.specs.Linking.{latch_with, link_fault, netlist_by, signal_list, sig_of}
use Rattle.flatten.specs.Walk.{FlatLines, events, flat_lines}
use Rattle.flatten.specs.Wires.{mark_of}
use Rattle.flatten.proofs.Stepping.{few_lines}

-- what a netlist has of its top and of the lines that were linked
record IsLinked (top : BlifModel) (all : Result FlatLines FlatFault) (net : Parts) : Type 0 where
  pub lines : FlatLines
  pub are : all ≡ Ok lines
  pub inputs : length net.inputs ≡ length top.inputs
  pub latches : length net.latches ≡ length lines.latches

is_linked : (top : BlifModel) (all : Result FlatLines FlatFault) (net : Parts) → linked_lines top all ≡ Ok net → IsLinked top all net
is_linked top all net e = grind (arith, length-map)

few : (text : List ℕ) (models : List BlifModel) (i : ℕ) → reads text ≡ Ok models → length (model_at models i).inputs ≤ length text
few text models i are = grind (arith, cases_lt i (length models), few_inputs text models are i no_model, get_or_past models i no_model)

-- at most as many inputs as its text has bytes, and at most as many latches as a flat netlist may have
pub record HasFewColumns (text : List ℕ) (net : Parts) : Type 0 where
  pub inputs : length net.inputs ≤ length text
  pub latches : length net.latches ≤ MAX_FLAT_ITEMS

pub flat_has_few_columns : (text : List ℕ) (models : List BlifModel) (top : List ℕ) (net : Parts) → reads text ≡ Ok models → flat models top ≡ Ok net
    → HasFewColumns text net
flat_has_few_columns text models top net are e = by (find_model models top) e
  where
    by : (found : Option ℕ) → flat_from MAX_DEPTH MAX_FLAT_ITEMS models top found ≡ Ok net → HasFewColumns text net
    by None is = absurd (cc)
    by (Some i) is =
        let model = model_at models i in
        grind (arith, is_linked model (flat_lines MAX_DEPTH MAX_FLAT_ITEMS models i) net is, few text models i are, few_lines MAX_FLAT_ITEMS (events MAX_DEPTH MAX_DEPTH models model.name (mark_of models) [] 1 model.body))
