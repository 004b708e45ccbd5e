use Rattle.benchmarks.proofs.questions.put_question_of.Goals as goal

pub known_gates-requires-clause-settled : goal.known_gates-requires-clause-settled
known_gates-requires-clause-settled g c = rw (c.deref.ensures.value) c.in_ok-settled.ensures.settled
