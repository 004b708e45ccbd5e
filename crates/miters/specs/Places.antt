-- What is told of a place at which two netlists differ.
use Rattle.std.specs.Prelude.{Bool, List}
use Rattle.miters.specs.declared.answer.Answer.{Answer}
use Rattle.miters.specs.declared.answer.Answer.TheVariants as answers
use Rattle.miters.specs.declared.placing.Place.{Place}
use Rattle.miters.specs.declared.placing.Place.TheVariants as places

abbrev pub answer_at : List Bool → Place → Answer
answer_at v (places.Output at) = answers.Output v at
answer_at v (places.Latch at) = answers.Latch v at
