use Rattle.std.proofs.Common.{◌≡◌, ◌∷◌, [], Bool, List, length, All, ap, sym, ◌∙◌, arith}
use Rattle.std.proofs.lemmas.Grind.{reverse_onto}
use Rattle.delay_core.proofs.Common.{All-head, All-tail, newest, Told}
use Rattle.delay_core.proofs.opening.timeline_of.Goals as goal

pub of-requires-2 : goal.of-requires-2
of-requires-2 c = grind arith

pub push_all-requires : goal.push_all-requires
push_all-requires c =
    let all : All (λ (m : List Bool). length m ≡ length c.args.opening.now) (c.in-Some.first.now ∷ c.in-Some.rest.now) =
    rw c.in-Some.ensures.cases.0 at c.requires.past in
    let head = All-head (λ (m : List Bool). length m ≡ length c.args.opening.now) c.in-Some.first.now c.in-Some.rest.now all in
    let tail = All-tail (λ (m : List Bool). length m ≡ length c.args.opening.now) c.in-Some.first.now c.in-Some.rest.now all in
    let width : length (newest c.in_ok-timeline.timeline.history) ≡ length c.in-Some.first.now =
    ap (λ (t : Told). length (newest t.history)) c.in_ok-timeline.ensures ∙ ap (λ (m : List Bool). length m) c.items.ensures in
    λ k d l. tail k d l ∙ sym head ∙ sym width

pub push_whole-requires : goal.push_whole-requires
push_whole-requires c = grind arith

pub returns : goal.returns
returns c = grind (arith, reverse_onto c.in-Some.rest.now c.in-Some.first.now [])
