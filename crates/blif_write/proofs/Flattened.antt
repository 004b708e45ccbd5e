-- The model of a written netlist flattens to its lines, since no instance stands in it.
use Rattle.std.proofs.Common.{◌≡◌, ℕ, ◌+◌, ◌≤◌, List, [], ◌∷◌, ◌++◌, length, map, refl, ap, ◌∙◌, arith, false}
use Rattle.blif_write.proofs.Common.{length-map, Parts, BlifModel, GateLine, LatchLine, list_any}
use Rattle.netlist.specs.declared.parts.Gate as gates
use Rattle.netlist.specs.declared.parts.Latch as latches
use Rattle.blif_read.specs.declared.models.Item.{Item}
use Rattle.blif_read.specs.declared.models.Item.TheVariants as item
use Rattle.flatten.specs.Instances.{model_at}
use Rattle.flatten.specs.Walk.{FlatLines}
use Rattle.flatten.specs.Alone.{is_part, own_lines, flat_alone}
use Rattle.flatten.specs.Flat.{flat_at}
use Rattle.flatten.specs.Linking.{linked}
use Rattle.flatten.proofs.OwnLines.{is_flat_alone, alone_fits}
use Rattle.blif_write.proofs.Said.{latch_of_text, gate_of_text, model_of_text}
use Rattle.std.proofs.lemmas.List.{length-append}

-- The lines of its body are the latches and the gates.

abbrev lines_with : List LatchLine → List GateLine → FlatLines
lines_with ls gs = record { latches = ls; gates = gs }

abbrev pub lines_of_text : Parts → FlatLines
lines_of_text net = lines_with (map (latch_of_text net) net.latches) (map (gate_of_text net) net.gates)

module _ (net : Parts) where
  abbrev body_with : List latches.Latch → List gates.Gate → List Item
  body_with ls gs = map (λ l. item.Latch (latch_of_text net l)) ls ++ map (λ g. item.Gate (gate_of_text net g)) gs

  no_parts : (ls : List latches.Latch) (gs : List gates.Gate) → list_any is_part (body_with ls gs) ≡ false
  no_parts [] [] = refl
  no_parts [] (g ∷ gs) = no_parts [] gs
  no_parts (l ∷ ls) gs = no_parts ls gs

  lines_are : (ls : List latches.Latch) (gs : List gates.Gate) → own_lines (body_with ls gs) ≡ lines_with (map (latch_of_text net) ls) (map (gate_of_text net) gs)
  lines_are [] [] = refl
  lines_are [] (g ∷ gs) = ap (λ (lines : FlatLines). lines_with lines.latches (gate_of_text net g ∷ lines.gates)) (lines_are [] gs)
  lines_are (l ∷ ls) gs = ap (λ (lines : FlatLines). lines_with (latch_of_text net l ∷ lines.latches) lines.gates) (lines_are ls gs)

  -- wherever its model stands among others
  pub lines_flat : (depth limit : ℕ) (models : List BlifModel) (i : ℕ) → model_at models i ≡ model_of_text net
      → length net.latches + length net.gates ≤ limit → flat_at depth limit models i ≡ linked (model_of_text net) (lines_of_text net)
  lines_flat depth limit models i is few =
      let latch_items = map (λ (l : latches.Latch). item.Latch (latch_of_text net l)) net.latches in
      let gate_items = map (λ (g : gates.Gate). item.Gate (gate_of_text net g)) net.gates in
      let n = length-append latch_items gate_items in
      let l = length-map net.latches (λ (l : latches.Latch). item.Latch (latch_of_text net l)) in
      let g = length-map net.gates (λ (g : gates.Gate). item.Gate (gate_of_text net g)) in
      is_flat_alone depth limit models i (ap (λ (model : BlifModel). list_any is_part model.body) is ∙ no_parts net.latches net.gates)
      ∙ ap (flat_alone limit) is
      ∙ alone_fits limit (model_of_text net) (omega (arith, n, l, g, few))
      ∙ ap (linked (model_of_text net)) (lines_are net.latches net.gates)
