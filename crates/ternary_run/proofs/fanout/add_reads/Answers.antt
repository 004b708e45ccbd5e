use Rattle.std.proofs.Common.{◌≡◌, ◌++◌, ◌+◌, ◌<◌, [], ◌∷◌, ℕ, List, length, take, get_or, append_assoc, append-nil, sym, arith}
use Rattle.std.proofs.lemmas.List.{map_push, take_all, take_more}
use Rattle.cyc_base.specs.declared.sig.Sig.{Sig}
use Rattle.ternary_run.specs.declared.fanout.Read.{Read}
use Rattle.ternary_run.specs.Reading.{reads_of_pins}
use Rattle.ternary_run.proofs.fanout.add_reads.Goals as goal

one_more : (gate : ℕ) (old now : List Read) (pins : List Sig) (i : ℕ) (d : Sig) → i < length pins → now ≡ old ++ reads_of_pins gate (take i pins) →
    now ++ record { signal = get_or pins i d; gate = gate } ∷ [] ≡ old ++ reads_of_pins gate (take (i + 1) pins)
one_more gate old now pins i d within so_far = grind (arith, append_assoc old (reads_of_pins gate (take i pins)), map_push, take_more pins i d within)

pub loop-pin-init : goal.loop-pin-init
loop-pin-init c = sym (append-nil c.args.reads.now.items)

pub loop-pin-preserved : goal.loop-pin-preserved
loop-pin-preserved c = grind (arith, one_more)

pub returns : goal.returns
returns c = grind (arith, take_all)
