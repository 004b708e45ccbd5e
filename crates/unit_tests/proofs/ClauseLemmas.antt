-- All gates of a netlist are wanted, and none is said to be never unknown. Rails that are read as X are rails.
use Rattle.std.proofs.Common.{◌≡◌, Bool, true, false, List, length, replicate, get_or, sym, ◌∙◌, arith, true≢false}
use Rattle.std.proofs.lemmas.List.{get_or-replicate}
use Rattle.cyc_base.specs.declared.trit.Trit.TheVariants.{X}
use Rattle.netlist.specs.declared.parts.Parts.{Parts}
use Rattle.netlist.specs.Netlists.{gate_at, no_gate, IsNetlist}
use Rattle.loops.specs.Sweeps.{gate_of}
use Rattle.clause_formulas.specs.declared.formula.Formula.{Formula}
use Rattle.ternary_clauses.specs.declared.rails.Rails.{Rails}
use Rattle.ternary_clauses.specs.Encoding.{IsClosed, AreNeverUnknown}
use Rattle.clause_formulas.specs.Formulas.{IsModel}
use Rattle.ternary_clauses.specs.Rails.{AreRailsOf, AreWithin, Reads}
use Rattle.ternary_clauses.proofs.NodeLemmas.{Reads-own}

pub all_closed : (net : Parts) (wanted : List Bool) → IsNetlist net → wanted ≡ replicate (length net.gates) true → IsClosed net wanted
all_closed net wanted valid is n want k d less high =
    let inside = valid.pins n no_gate want.within k d less in
    rw is (get_or-replicate (length net.gates) (gate_of net (get_or (gate_at net n).pins k d)) true false (omega (arith, inside, high)))

pub none_never : (net : Parts) (wanted never : List Bool) → never ≡ replicate (length net.gates) false → AreNeverUnknown net wanted never
none_never net wanted never is v width n want marked =
    let unmarked : get_or never n false ≡ false = rw is (get_or-replicate (length net.gates) n false false want.within) in
    absurd (true≢false (sym marked ∙ unmarked))

pub unknown_own : (f : Formula) (r : Rails) → AreWithin f.variables r → ((m : List Bool) → IsModel m f → Reads m r X) → AreRailsOf f r
unknown_own f r within reads = record {
  within = within;
  reads = λ m h. Reads-own m r X (reads m h);
}
