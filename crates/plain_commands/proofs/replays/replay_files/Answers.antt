use Rattle.std.proofs.Common.{◌≡◌, Bool, List, length, refl, sym, subst, ◌∙◌}
use Rattle.std.specs.Prelude.{All}
use Rattle.plain_commands.proofs.Common.{err_from_is_err_and, known, end_of, no_memory, stop_outcome}
use Rattle.plain_commands.proofs.HearLemmas.{files_hear}
use Rattle.plain_commands.proofs.ReplayLemmas.{files_replay, found_lacks, netlist_replays, vectors_stop}
use Rattle.plain_commands.proofs.TickLemmas.{known_width}
use Rattle.plain_commands.proofs.replays.replay_files.Goals as goal

pub returns-in_err-found-clause-comes : goal.returns-in_err-found-clause-comes
returns-in_err-found-clause-comes g c =
    let q = err_from_is_err_and c.from_residual-in_err-found.result c.from_residual-in_err-found.ensures.1 in
    let replay = c.args.replay.now in
    let net = c.in_ok-net.net in
    let end = stop_outcome c.in_err-found.field-0.0 in
    rw (q.1, q.2)
    (netlist_replays _ replay.probe replay.recorded.now replay.netlist.now replay.vectors.now net _ _ _ _ _ end c.read_netlist.ensures.same c.in_ok-net.ensures.good
    (vectors_stop _ replay.probe replay.recorded.now replay.vectors.now net _ _ _ end c.in_err-found.ensures.bad))

pub returns-in_err-inputs-clause-comes : goal.returns-in_err-inputs-clause-comes
returns-in_err-inputs-clause-comes g c =
    let q = err_from_is_err_and c.from_residual-in_err-inputs.result c.from_residual-in_err-inputs.ensures.1 in
    let replay = c.args.replay.now in
    let net = c.in_ok-net.net in
    let found = c.in_ok-found.found.items in
    rw (q.1, q.2)
    (files_replay _ replay.probe replay.recorded.now replay.netlist.now replay.vectors.now net found (known found) _ _ _ _ _ _ _ no_memory
    c.read_netlist.ensures.same c.read_vector_file.ensures.same c.in_ok-net.ensures.good c.in_ok-found.ensures.good refl
    (found_lacks _ replay.probe replay.recorded.now net (known found) _ _))

pub play_file-requires-clause-inputs : goal.play_file-requires-clause-inputs
play_file-requires-clause-inputs g c =
    let net = c.in_ok-net.net in
    let found = c.in_ok-found.found.items in
    let same : c.deref-2.result.now ≡ known found = c.deref-2.ensures.value ∙ (rw c.deref.ensures.value at c.in_ok-inputs.ensures) in
    let P : List (List Bool) → Type 0 = λ vectors. All (λ (inputs : List Bool). length inputs ≡ length net.inputs) vectors in
    subst P (sym same) (known_width (length net.inputs) found c.in_ok-found.ensures.width)

pub returns-clause-comes : goal.returns-clause-comes
returns-clause-comes g c =
    let replay = c.args.replay.now in
    let found = c.in_ok-found.found.items in
    let same : c.deref-2.result.now ≡ known found = c.deref-2.ensures.value ∙ (rw c.deref.ensures.value at c.in_ok-inputs.ensures) in
    files_replay _ replay.probe replay.recorded.now replay.netlist.now replay.vectors.now c.in_ok-net.net found c.deref-2.result.now _ _ _ _ _ _ _ (end_of c.play_file.result)
    c.read_netlist.ensures.same c.read_vector_file.ensures.same c.in_ok-net.ensures.good c.in_ok-found.ensures.good same c.play_file.ensures.comes

pub returns-clause-heard : goal.returns-clause-heard
returns-clause-heard g c =
    let replay = c.args.replay.now in
    let found = c.in_ok-found.found.items in
    let same : c.deref-2.result.now ≡ known found = c.deref-2.ensures.value ∙ (rw c.deref.ensures.value at c.in_ok-inputs.ensures) in
    files_hear _ _ _ replay.probe _ _ replay.recorded.now replay.netlist.now replay.vectors.now c.in_ok-net.net found c.deref-2.result.now _ _ _ _ _ _ _
    c.read_netlist.ensures.same c.read_vector_file.ensures.same c.in_ok-net.ensures.good c.in_ok-found.ensures.good same c.play_file.ensures.heard
