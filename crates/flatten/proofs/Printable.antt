-- What the walk prints may stand in a BLIF text, and each gate has as many pins as its cover.
use Rattle.std.proofs.Common.{ℕ, suc, ◌+◌, ◌<◌, List, [], ◌∷◌, ◌++◌, length, ◌∙◌, All, arith}
use Rattle.flatten.proofs.Common.{length-map, All-nil, All-cons, All-head, All-append, All-push, decimal, bytes_eq, longest_run_of, tildes, mark_of, wire_names, BlifModel, PartLine, Item, Part, Level, model_at, resolved, bound, gate_by, latch_by, passed_line, passed_part, PassesPart, IsPrintedGate, IsPrintedLatch, no_model, All-map, All-weaker, own_gates, own_latches}
use Rattle.cyc_base.specs.Names.{IsBlifByte, IsBlifName}
use Rattle.cyc_base.proofs.BlifLemmas.{tildes_fit, decimal_fits}
use Rattle.blif_read.specs.Flattening.{IsSoundItem, IsSoundModel, CanBeFlattened}
use Rattle.flatten.specs.declared.walk.Walk.{Walk}
use Rattle.flatten.specs.Levels.{IsBegun, PassesLine}
use Rattle.flatten.specs.Printable.{IsPrintedPair, IsPrintedLevel, IsPrinted}
use Rattle.std.proofs.lemmas.List.Elements.{All-drop, All-get_or}
use Rattle.flatten.proofs.OwnLines.{own_lines_printed}
use Rattle.flatten.proofs.Waiting.{StandsAt}
use Rattle.std.proofs.lemmas.Map.Entries.{All-lookup}

append_name : (prefix name : List ℕ) → All IsBlifByte prefix → IsBlifName name → IsBlifName (prefix ++ name)
append_name [] name p n = n
append_name (x ∷ prefix) name p n = ((λ e. cc), All-append IsBlifByte (x ∷ prefix) name p n.1)

pub resolved_fits : (prefix : List ℕ) (table : List (List ℕ × List ℕ)) (name : List ℕ) → All IsBlifByte prefix → All IsPrintedPair table → IsBlifName name → IsBlifName (resolved prefix table name)
resolved_fits prefix table name p t n = grind (arith, All-lookup IsBlifName (bytes_eq name) table t, append_name prefix name p n)

bound_fits : (prefix : List ℕ) (table pairs : List (List ℕ × List ℕ)) → All IsBlifByte prefix → All IsPrintedPair table → All (λ p. IsBlifName p.0 × IsBlifName p.1) pairs → All IsPrintedPair (bound prefix table pairs)
bound_fits prefix table pairs p t h =
    All-map IsPrintedPair (λ (x : List ℕ × List ℕ). (x.0, resolved prefix table x.1)) pairs
    (All-weaker (λ (x : List ℕ × List ℕ). IsBlifName x.0 × IsBlifName x.1) (λ (x : List ℕ × List ℕ). IsBlifName (resolved prefix table x.1)) (λ x n. resolved_fits prefix table x.1 p t n.1) pairs h)

pub sound_model : (models : List BlifModel) (i : ℕ) → CanBeFlattened models → i < length models → IsSoundModel (model_at models i)
sound_model models i can l = All-get_or IsSoundModel models i no_model l can.sound

-- the item at which a level stands is sound
item_sound : (models : List BlifModel) (l : Level) (x : Item) → CanBeFlattened models → l.model < length models → StandsAt models l x → IsSoundItem x
item_sound models l x can w e =
    All-head IsSoundItem x _ (rw e at (All-drop IsSoundItem l.next (model_at models l.model).body (sound_model models l.model can w).body))

module _ (models : List BlifModel) (can : CanBeFlattened models) (old new : Walk) (l : Level) (within : l.model < length models) (here : IsPrintedLevel l) (p : IsPrinted old) where
  pub printed_line : (x : Item) → StandsAt models l x → PassesLine old l x new → IsPrinted new
  printed_line x e h =
      let prefix = l.scope.prefix in
      let table = l.scope.table.entries in
      let line = own_lines_printed (x ∷ []) (All-cons IsSoundItem x [] (item_sound models l x can within e) (All-nil IsSoundItem)) in
      let latches =
      All-map IsPrintedLatch (latch_by prefix table) (own_latches (x ∷ []))
      (All-weaker IsPrintedLatch (λ y. IsPrintedLatch (latch_by prefix table y)) (λ y n. resolved_fits prefix table y.output here.prefix here.table n) (own_latches (x ∷ [])) line.latches) in
      let gates =
      All-map IsPrintedGate (gate_by prefix table) (own_gates (x ∷ []))
      (All-weaker IsPrintedGate (λ g. IsPrintedGate (gate_by prefix table g)) (λ g s. record {
        output = resolved_fits prefix table g.output here.prefix here.table s.output;
        width = length-map g.pins (resolved prefix table) ∙ s.width;
      }) (own_gates (x ∷ [])) line.gates) in
      record {
        levels = rw h.levels (All-push IsPrintedLevel old.levels.items (passed_line l) p.levels (record { prefix = here.prefix; table = here.table }));
        latches = rw h.latches (All-append IsPrintedLatch old.latches.items _ p.latches latches);
        gates = rw h.gates (All-append IsPrintedGate old.gates.items _ p.gates gates);
      }

  pub printed_part : (depth : ℕ) (x : PartLine) → StandsAt models l (Part x) → PassesPart depth models (mark_of models) old l x new → IsPrinted new
  printed_part depth x e h =
      let n = suc (longest_run_of (wire_names models)) in
      let s = item_sound models l (Part x) can within e in
      let i = h.enters.inside in
      let prefix = All-append IsBlifByte (decimal (l.parts + 1)) (tildes n) (decimal_fits (l.parts + 1) h.number) (tildes_fit n) in
      let inner : IsPrintedLevel h.inner = record {
        prefix = rw i.prefix (All-append IsBlifByte l.scope.prefix (decimal (l.parts + 1) ++ tildes n) here.prefix prefix);
        table = rw i.table (bound_fits l.scope.prefix l.scope.table.entries x.pairs here.prefix here.table s.pairs);
      } in
      let levels = All-push IsPrintedLevel old.levels.items (passed_part l) p.levels (record { prefix = here.prefix; table = here.table }) in
      record {
        levels = rw h.enters.levels (All-push IsPrintedLevel (old.levels.items ++ (passed_part l ∷ [])) h.inner levels inner);
        latches = rw h.latches p.latches;
        gates = rw h.gates p.gates;
      }

pub printed_begun : (i limit : ℕ) (walk : Walk) → IsBegun i limit walk → IsPrinted walk
printed_begun i limit walk b = grind arith
