-- A box shows what the probe shows that was put into it.
use Rattle.std.proofs.Common.{◌≡◌, sym, subst}
use mir.Syntax.{Dict}
use denote.Param.Table.{Table, Entry}
use denote.Param.Object.{Made, read_made}
use Rattle.commands.specs.declared.kind.Kind.{Kind}
use Rattle.probes.specs.declared.probe.Probe.{Ghosts}
use Rattle.probes.specs.Kinds.{IsNewOfKind}

pub in_box : (T : Table Ghosts Dict) (e : Entry Ghosts Dict) (at : T.I) → e ≡ T.entry at → (wanted : Kind) {i : T.I} {y : (T.entry i).0.Denot} {x : e.0.Denot}
    → Made (λ j. (T.entry j).0.coded.code) e.0.coded.code at i y x → IsNewOfKind (e.1.kind x) (e.1.heard x) (e.1.text x) wanted
    → IsNewOfKind ((T.entry i).1.kind y) ((T.entry i).1.heard y) ((T.entry i).1.text y) wanted
in_box T e at same wanted {i} {y} {x} made new =
    subst (λ (P : Type 0). P) (sym (read_made T e at same (Type 0) (λ j v. IsNewOfKind (j.1.kind v) (j.1.heard v) (j.1.text v) wanted) i y x made)) new
