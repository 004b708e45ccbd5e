-- The dump of a run shows what its changes tell.
use Rattle.std.proofs.Common.{◌≡◌, ◌<◌, ◌≤◌, ◌+◌, ◌^◌, ℕ, zero, suc, Bool, true, not, nat_lt, List, [], ◌∷◌, ◌++◌, length, map, filter, codes, None, refl, ap, sym, ◌∙◌, arith}
use Rattle.probes.proofs.Common.{fold, flat_map, list_all, range_with_len, eq-eqb, ne_eqb, lt-ltb, and_parts, and_from, not-true, append_assoc, append-nil, list_all-append, Sig, count, signal, Change, signal_name, value_after, code, variable_line, head_text, value_line, timed_lines, is_first, first_changes, later_changes, lines_from, Shown, read_line}
use Rattle.std.specs.List.{zip}
use Rattle.std.proofs.lemmas.List.{length-append, length-map, length-reverse}
use Rattle.std.proofs.lemmas.List.Elements.{filter-append}
use Rattle.std.proofs.lemmas.List.Sums.{fold-append, list_all-from_AllPass}
use Rattle.cyc_base.specs.Names.{IsBlifName}
use Rattle.netlist.specs.declared.parts.Parts.{Parts}
use Rattle.netlist.specs.Netlists.{IsNetlist, signal_names, driven_names}
use Rattle.delay_core.specs.declared.plan.RoundPlan.{RoundPlan}
use Rattle.delay_core.specs.declared.plan.Schedule.{Schedule}
use Rattle.delay_core.specs.Plays.{PlayState}
use Rattle.delay_core.specs.Plans.{after_plans, first_opened}
use Rattle.delay_core.specs.Changes.{openings, round_changes, later_changes as ticks_changes, changes}
use Rattle.probes.specs.Values.{last_value, after_ticks, history_of}
use Rattle.probes.proofs.TimeLemmas.{openings_pass, rounds_pass, ticks_pass, rounds_grow, ticks_grow}
use Rattle.probes.proofs.ValueLemmas.{changes_tell}
use Rattle.probes.specs.Dumps.{vcd_text}
use Rattle.probes.specs.Reading.{nothing_shown, shown_value, DumpsShowValues}
use Rattle.probes.proofs.LineLemmas.{is_plain, code_is_plain, piece_then, firsts_read, timed_read}

-- ---- names stay on their lines

name_is_plain : (name : List ℕ) → IsBlifName name → is_plain name ≡ true
name_is_plain name blif = grind (arith, list_all-from_AllPass, ne_eqb)

signal_is_plain : (net : Parts) → IsNetlist net → (n : ℕ) → n < count net → is_plain (signal_name net (signal n)) ≡ true
signal_is_plain net valid n short =
    let size : length (signal_names net) ≡ count net =
    length-append net.inputs (driven_names net)
    ∙ omega (arith, length-append (map (λ latch. latch.name) net.latches) (map (λ gate. gate.name) net.gates), length-map net.latches (λ latch. latch.name), length-map net.gates (λ gate. gate.name)) in
    name_is_plain (signal_name net (signal n)) (valid.names n [] (omega (arith, short, size)))

module _ (s : Sig) (at : ℕ) (net : Parts) (valid : IsNetlist net) where
  variable_reads : (n : ℕ) (shown : Shown) (rest : List ℕ) → n < count net →
      fold (read_line s at) shown (lines_from [] (variable_line net n ++ rest)) ≡ fold (read_line s at) shown (lines_from [] rest)
  variable_reads n shown rest short =
      let name : List ℕ = signal_name net (signal n) in
      grind (arith, piece_then (codes "$var wire 1 ") (code n) (codes " " ++ (name ++ codes " $end\n")) rest (code_is_plain n), code_is_plain n, piece_then ((codes "$var wire 1 " ++ code n) ++ codes " ") name (codes " $end\n") rest (signal_is_plain net valid n short), signal_is_plain net valid n short)

  variables_read : (a n : ℕ) (shown : Shown) (rest : List ℕ) → a + n ≤ count net →
      fold (read_line s at) shown (lines_from [] (flat_map (variable_line net) (range_with_len a n) ++ rest)) ≡ fold (read_line s at) shown (lines_from [] rest)
  variables_read a zero shown rest few = refl
  variables_read a (suc n) shown rest few =
      let more : List ℕ = flat_map (variable_line net) (range_with_len (a + 1) n) in
      grind (arith, append_assoc (variable_line net a) more rest, variable_reads a shown (more ++ rest), variables_read (a + 1) n shown rest)

  head_reads : (rest : List ℕ) → fold (read_line s at) nothing_shown (lines_from [] (head_text net ++ rest)) ≡ fold (read_line s at) nothing_shown (lines_from [] rest)
  head_reads rest =
      let variables : List ℕ = flat_map (variable_line net) (range_with_len 0 (count net)) in
      let last : List ℕ = codes "$upscope $end\n$enddefinitions $end\n#0\n$dumpvars\n" in
      grind (arith, piece_then (codes "$scope module ") net.name (codes " $end\n" ++ (variables ++ last)) rest (name_is_plain net.name valid.name), name_is_plain net.name valid.name, append_assoc variables last rest, variables_read 0 (count net) nothing_shown (last ++ rest))

  -- a dump shows what the first changes tell, and the later ones after them
  pub dump_reads : (told : List Change) → list_all is_first (first_changes told) ≡ true → list_all (λ c. nat_lt c.at (2 ^ 64)) (later_changes told) ≡ true →
      shown_value (vcd_text told net) s at ≡ fold (value_after s at) (fold (value_after s at) None (first_changes told)) (later_changes told)
  dump_reads told first small = grind (arith, head_reads (flat_map value_line (first_changes told) ++ (codes "$end\n" ++ timed_lines 0 (later_changes told))), firsts_read s, timed_read s)

-- ---- the first changes and the later ones of a run

keep_all : (p : Change → Bool) (xs : List Change) → list_all p xs ≡ true → filter p xs ≡ xs
keep_all p [] all = refl
keep_all p (x ∷ xs) all = grind (arith, and_parts (p x) (list_all p xs) all, keep_all p xs)

keep_none : (p : Change → Bool) (xs : List Change) → list_all (λ x. not (p x)) xs ≡ true → filter p xs ≡ []
keep_none p [] none = refl
keep_none p (x ∷ xs) none = grind (arith, and_parts, not-true, keep_none p xs)

later_of_first : (xs : List Change) → list_all is_first xs ≡ true → later_changes xs ≡ []
later_of_first [] all = refl
later_of_first (x ∷ xs) all = grind (arith, and_parts (is_first x) (list_all is_first xs) all, later_of_first xs)

run_shows : (net : Parts) (valid : IsNetlist net) (schedule : Schedule) (inputs : List Bool) (vectors : List (List Bool)) (plans : List (List RoundPlan)) → schedule.ticks ≡ plans →
    length schedule.ticks ≡ length (inputs ∷ vectors) →
    length (history_of net schedule (zip (inputs ∷ vectors) schedule.ticks)) < length schedule.past + 2 ^ 64 →
    (s : Sig) (at : ℕ) →
    shown_value (vcd_text (changes net schedule (inputs ∷ vectors)) net) s at ≡ last_value (changes net schedule (inputs ∷ vectors)) s at
run_shows net valid schedule inputs vectors [] is ticks fits s at = grind arith
run_shows net valid schedule inputs vectors (rounds ∷ plans) is ticks fits s at =
    let opened : PlayState = first_opened net schedule inputs in
    let played : PlayState = after_plans opened rounds in
    let grown = rounds_grow opened rounds in
    let whole = ticks_grow played (zip vectors plans) in
    let end : length (after_ticks played (zip vectors plans)).history < length schedule.past + 2 ^ 64 = rw is at fits in
    let past : opened.past ≡ length schedule.past = length-reverse schedule.past in
    let head : List Change = openings opened in
    let rest : List Change = round_changes opened rounds ++ ticks_changes played (zip vectors plans) in
    let first : list_all is_first head ≡ true = openings_pass is_first 0 1 (λ c low few. eq-eqb c.at 0 (omega (arith, few))) opened (omega arith) (omega arith) in
    let later : list_all (λ c. not (is_first c)) rest ≡ true =
    list_all-append (λ c. not (is_first c)) (round_changes opened rounds) (ticks_changes played (zip vectors plans))
    ∙ and_from (list_all (λ c. not (is_first c)) (round_changes opened rounds)) (list_all (λ c. not (is_first c)) (ticks_changes played (zip vectors plans)))
    (rounds_pass (λ c. not (is_first c)) 1 (2 ^ 64) (λ c low few. ap not (ne_eqb c.at 0 (λ e. omega (arith, e, low)))) opened rounds (omega arith) (omega (arith, end, whole.longer, past)))
    (ticks_pass (λ c. not (is_first c)) 1 (2 ^ 64) (λ c low few. ap not (ne_eqb c.at 0 (λ e. omega (arith, e, low)))) played (zip vectors plans) (omega (arith, grown.longer, grown.past)) (omega (arith, end, grown.past, past))) in
    let small : list_all (λ c. nat_lt c.at (2 ^ 64)) rest ≡ true =
    list_all-append (λ c. nat_lt c.at (2 ^ 64)) (round_changes opened rounds) (ticks_changes played (zip vectors plans))
    ∙ and_from (list_all (λ c. nat_lt c.at (2 ^ 64)) (round_changes opened rounds)) (list_all (λ c. nat_lt c.at (2 ^ 64)) (ticks_changes played (zip vectors plans)))
    (rounds_pass (λ c. nat_lt c.at (2 ^ 64)) 1 (2 ^ 64) (λ c low few. lt-ltb c.at (2 ^ 64) few) opened rounds (omega arith) (omega (arith, end, whole.longer, past)))
    (ticks_pass (λ c. nat_lt c.at (2 ^ 64)) 1 (2 ^ 64) (λ c low few. lt-ltb c.at (2 ^ 64) few) played (zip vectors plans) (omega (arith, grown.longer, grown.past)) (omega (arith, end, grown.past, past))) in
    let told : changes net schedule (inputs ∷ vectors) ≡ head ++ rest =
    rw is (append_assoc head (round_changes opened rounds) (ticks_changes played (zip vectors plans))) in
    let firsts : first_changes (head ++ rest) ≡ head =
    filter-append is_first head rest ∙ rw (keep_all is_first head first, keep_none is_first rest later) (append-nil head) in
    let laters : later_changes (head ++ rest) ≡ rest =
    filter-append (λ c. not (is_first c)) head rest ∙ rw (later_of_first head first, keep_all (λ c. not (is_first c)) rest later) refl in
    rw told
    (dump_reads s at net valid (head ++ rest) (rw firsts first) (rw laters small)
    ∙ rw (firsts, laters) (sym (fold-append (value_after s at) None head rest)))

pub dumps_show : DumpsShowValues
dumps_show net schedule [] valid latches gates fit ticks some fits s at short = absurd (omega (arith, some))
dumps_show net schedule (inputs ∷ vectors) valid latches gates fit ticks some fits s at short = grind (arith, run_shows net valid schedule inputs vectors schedule.ticks, changes_tell net schedule (inputs ∷ vectors) latches gates fit ticks some s)
