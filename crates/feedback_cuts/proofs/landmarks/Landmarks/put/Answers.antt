-- A landmark replaces another one, or is added.
use Rattle.std.proofs.lemmas.List.Elements.{All-push, All-set}
use Rattle.feedback_cuts.specs.Landmarks.{IsLandmark}
use Rattle.feedback_cuts.proofs.landmarks.Landmarks.put.Goals as goal
use Rattle.feedback_cuts.proofs.landmarks.Landmarks.put.Goals.{then-self-len, else-self-len+in_ok-push}

pub returns : goal.returns
returns c =
    λ readers gates is all.
    elim c.if-self-len.branch [
      | then-self-len w ↦
          rw w.self-is
          (All-set (IsLandmark readers gates) c.args.self.now.list.items c.args.self.now.next c.args.landmark is all)
      | else-self-len+in_ok-push w ↦
          rw (w.self-is, w.in_ok-push.ensures.items)
          (All-push (IsLandmark readers gates) c.args.self.now.list.items c.args.landmark all is)
    ]
