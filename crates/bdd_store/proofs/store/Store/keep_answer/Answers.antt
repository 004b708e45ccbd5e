use Rattle.lru.proofs.CallerLemmas.{lookup-put_entries}
use Rattle.bdd_store.specs.Arena.{same_choice}
use Rattle.bdd_store.proofs.AnswerLemmas.{same_choice-laws, kept_or_there}
use Rattle.bdd_store.proofs.store.Store.keep_answer.Goals as goal

pub returns-clause-kept : goal.returns-clause-kept
returns-clause-kept c = rw c.in_ok-put.ensures.entries (lookup-put_entries same_choice c.self.inside.answers c.args.choice c.args.n same_choice-laws)

pub returns-clause-others : goal.returns-clause-others
returns-clause-others c x m has = rw (← c.self.view_is) (kept_or_there c.self.inside.answers c.args.choice x c.args.n m (rw c.in_ok-put.ensures.entries at has))
