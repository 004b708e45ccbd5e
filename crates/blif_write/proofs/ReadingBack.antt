-- Written netlists read back.
use Rattle.std.proofs.Common.{◌≡◌, ◌≢◌, ◌+◌, ◌<◌, ◌≤◌, ℕ, true, List, [], ◌∷◌, ◌++◌, length, map, get_or, refl, sym, ap, ◌∙◌, append-nil, Ok, arith}
use Rattle.cyc_base.specs.declared.limits.TheConstants.{MAX_DEPTH, MAX_FLAT_ITEMS}
use Rattle.blif_write.proofs.Common.{All, IfSome, bytes_eq, flat_map, All-head, All-tail, Option, Clock, BlifModel, Parts, IsNetlist, IsClockName, numbered, lines_of}
use Rattle.std.specs.List.{IsDistinct}
use Rattle.std.proofs.lemmas.List.Elements.{All-nil, All-cons, All-append}
use Rattle.std.proofs.lemmas.Bool.{false_from_ne_true}
use Rattle.cyc_base.proofs.NameLemmas.{bytes_eq-true}
use Rattle.blif_text.proofs.WrittenLines.{IsLine}
use Rattle.blif_read.specs.Models.{models}
use Rattle.blif_read.specs.Statements.{statement}
use Rattle.blif_read.specs.Reads.{reads, reads_lines, unless_fault, if_any}
use Rattle.flatten.specs.Flat.{flat_within, flat_from}
use Rattle.blif_write.specs.Written.{written, models_written}
use Rattle.blif_write.specs.Laws.{HasCovers, IsSmall, ReadsBack, WrittenReadsBack, EachReadsBack, WrittenModelsReadBack}
use Rattle.blif_write.proofs.LineLemmas.{all_lines, models_written_is}
use Rattle.blif_write.proofs.ReadLines.{written_lines}
use Rattle.blif_write.proofs.Faultless.{IsWhole, HasWholeGates, no_fault}
use Rattle.blif_write.proofs.Said.{IsNamed, IsSayable, model_of_text, models_are}
use Rattle.blif_write.proofs.Flattened.{lines_flat}
use Rattle.blif_write.proofs.Linked.{lines_link}
use Rattle.blif_write.proofs.Named.{lines_named}
use Rattle.blif_write.proofs.Found.{names_of, names_apart, model_names, model_found, model_there}

whole_gates : (net : Parts) → IsNetlist net → HasCovers net → HasWholeGates net
whole_gates net valid covers = λ k d l. record { cover = covers k d l; width = valid.pin_counts k d l }

clock_is_named : (net : Parts) (clock : Option Clock) → IfSome clock (λ clock. IsClockName net clock.name) → IsNamed clock
clock_is_named net clock is = grind (arith, false_from_ne_true, bytes_eq-true)

all_named : (nets : List Parts) → All IsNetlist nets → All IsLine (all_lines nets)
all_named [] valid = All-nil IsLine
all_named (net ∷ nets) valid =
    All-append IsLine (lines_of net) (all_lines nets) (lines_named net (All-head IsNetlist net nets valid)) (all_named nets (All-tail IsNetlist net nets valid))

some_read : (nets : List Parts) → nets ≢ [] → if_any (map model_of_text nets) ≡ Ok (map model_of_text nets)
some_read [] some = absurd (some refl)
some_read (net ∷ nets) some = refl

read_again : (nets : List Parts) → All IsNetlist nets → All HasCovers nets → nets ≢ [] → IsDistinct bytes_eq (names_of nets)
    → reads (models_written nets) ≡ Ok (map model_of_text nets)
read_again nets valid covers some apart =
    let whole : All HasWholeGates nets = λ k d l. whole_gates (get_or nets k d) (valid k d l) (covers k d l) in
    let sayable : All IsSayable nets = λ k d l. record { whole = whole k d l; named = clock_is_named (get_or nets k d) (get_or nets k d).clock (valid k d l).clock } in
    ap reads (models_written_is nets)
    ∙ ap reads_lines (written_lines (all_lines nets) true (all_named nets valid))
    ∙ ap (λ fault. unless_fault fault (models (map statement (numbered 1 (all_lines nets))))) (no_fault nets whole apart)
    ∙ ap if_any (models_are nets sayable)
    ∙ some_read nets some

flat_again : (depth limit : ℕ) (nets : List Parts) (i : ℕ) (d : Parts) → IsDistinct bytes_eq (names_of nets) → i < length nets → IsNetlist (get_or nets i d)
    → length (get_or nets i d).latches + length (get_or nets i d).gates ≤ limit
    → flat_within depth limit (map model_of_text nets) (get_or nets i d).name ≡ Ok (get_or nets i d)
flat_again depth limit nets i d apart l valid small =
    let net = get_or nets i d in
    let read = map model_of_text nets in
    ap (flat_from depth limit read net.name) (model_found nets i d apart l)
    ∙ lines_flat net depth limit read i (model_there nets i d l) small
    ∙ lines_link net valid

pub each_reads_back : WrittenModelsReadBack
each_reads_back nets valid covers fit =
    let apart = names_apart nets fit.names_differ in
    record {
      models = map model_of_text nets;
      named = model_names nets;
      read = read_again nets valid covers fit.some apart;
      flat = λ k d l. flat_again MAX_DEPTH MAX_FLAT_ITEMS nets k d apart l (valid k d l) (fit.small k d l);
    }

one : (P : Parts → Type 0) (net : Parts) → P net → All P (net ∷ [])
one P net is = All-cons P net [] is (All-nil P)

filled : (net : Parts) (nets : List Parts) → (net ∷ nets) ≢ []
filled net nets e = cc

-- the same of a text of one
pub reads_back : WrittenReadsBack
reads_back net valid covers small =
    let nets : List Parts = net ∷ [] in
    let apart = names_apart nets (λ i j d before l. absurd (omega (arith, before, l))) in
    record {
      model = model_of_text net;
      named = refl;
      read = ap reads (sym (append-nil (written net))) ∙ read_again nets (one IsNetlist net valid) (one HasCovers net covers) (filled net []) apart;
      flat = flat_again MAX_DEPTH MAX_FLAT_ITEMS nets 0 net apart (omega arith) valid small;
    }
