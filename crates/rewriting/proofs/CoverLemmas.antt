-- An unrolled netlist has the covers of the netlist.
use Rattle.std.proofs.Common.{inl, inr, ℕ, Bool, true, false, [], ◌∷◌, ◌++◌, length, map, refl, subst, sym, arith}
use Rattle.std.proofs.lemmas.Bool.{cases_lt}
use Rattle.std.proofs.lemmas.List.{get_or_past}
use Rattle.std.proofs.lemmas.List.Elements.{All-append, All-cons, All-map, All-nil}
use Rattle.std.specs.Prelude.{All, if◌then◌else◌}
use Rattle.std.specs.List.{range_with_len}
use Rattle.cover_logic.specs.Covers.{IsCover}
use Rattle.netlist.specs.declared.parts.Gate.{Gate}
use Rattle.netlist.specs.declared.parts.Parts.{Parts}
use Rattle.netlist.specs.Netlists.{gate_at, no_gate}
use Rattle.loops.specs.Cuts.{Loops}
use Rattle.blif_write.specs.Laws.{HasCovers}
use Rattle.unroll.specs.Marks.{mark}
use Rattle.unroll.specs.Unrolled.{Copy, copies, copy_gate, kept_gate, constants, has_loop, zero_gate, unrolled}

-- a cover without pins and rows
none_is_cover : IsCover no_gate.cover
none_is_cover = record { pins = omega arith; width = λ k d inside. absurd (omega (arith, inside)); plane = λ e. refl }

abbrev HasCover : Gate → Type 0
HasCover gate = IsCover gate.cover

gate_has_cover : (net : Parts) → HasCovers net → (n : ℕ) → HasCover (gate_at net n)
gate_has_cover net have n = grind (arith, cases_lt n (length net.gates), get_or_past net.gates n no_gate, none_is_cover)

constants_have_covers : (net : Parts) (loops : Loops) → All HasCover (constants net loops)
constants_have_covers net loops = grind arith

pub unrolled_has_covers : (net : Parts) (loops : Loops) (m : ℕ → ℕ) → HasCovers net → HasCovers (unrolled net loops m)
unrolled_has_covers net loops m have =
    All-append HasCover (constants net loops) (map (copy_gate net loops m) (copies net loops m) ++ map (kept_gate net loops m) (range_with_len 0 (length net.gates)))
    (constants_have_covers net loops)
    (All-append HasCover (map (copy_gate net loops m) (copies net loops m)) (map (kept_gate net loops m) (range_with_len 0 (length net.gates)))
    (All-map HasCover (copy_gate net loops m) (copies net loops m) (λ k (copy : Copy) inside. gate_has_cover net have _))
    (All-map HasCover (kept_gate net loops m) (range_with_len 0 (length net.gates)) (λ k n inside. gate_has_cover net have _)))
