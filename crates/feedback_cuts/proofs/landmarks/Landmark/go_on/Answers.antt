use Rattle.std.proofs.Common.{length}
use Rattle.feedback_cuts.proofs.LandmarkLemmas.{gone_on}
use Rattle.feedback_cuts.proofs.landmarks.Landmark.go_on.Goals as goal

pub returns : goal.returns
returns c =
    gone_on c.args.links.readers.now c.args.links.sources.now c.args.gate (length c.args.links.levels.now) c.args.self.now.gate c.args.self.now.ahead c.args.self.now.behind _ _ c.requires.back c.requires.landmark
    c.in_ok-extend.ensures.size c.in_ok-extend.ensures.marked c.in_ok-extend-2.ensures.size c.in_ok-extend-2.ensures.marked
