-- Accepted netlists are harmless.
use Rattle.schedules.proofs.RunLemmas.{netlists_settle}
use Rattle.schedules.specs.Harmless.{AcceptedIsHarmless}
use Rattle.schedules.proofs.CareLemmas.{care_is_kept, observed_settle, runs_follow_fix}

pub accepted_is_harmless : AcceptedIsHarmless
accepted_is_harmless net care what valid accepts = record {
  accepts = accepts;
  keeps_care = λ run is within. care_is_kept net care what run accepts is within;
  observed_settle = λ run is within. observed_settle net care what run accepts is within;
  settles = netlists_settle net care;
  follows = λ run is within k d less. runs_follow_fix net care what run accepts is within k d less valid;
}
