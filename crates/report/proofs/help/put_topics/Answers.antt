use Rattle.std.proofs.Common.{arith}
use Rattle.report.proofs.Common.{topic_text, appended_none, appended_copied, appended_in_copied, appended_items}
use Rattle.report.proofs.help.put_topics.Goals as goal

pub loop-topic-init : goal.loop-topic-init
loop-topic-init g c = appended_none _ _ _

pub loop-topic-preserved : goal.loop-topic-preserved
loop-topic-preserved g c = appended_copied topic_text c.args.topics.now c.loop-topic.topic-index _ _ _ _ _ _ _ _ _ (omega arith) c.loop-topic.invariant c.in_ok-put_topic.ensures

pub returns-in_err-put_topic : goal.returns-in_err-put_topic
returns-in_err-put_topic g c = appended_in_copied topic_text c.args.topics.now c.loop-topic.topic-index _ _ _ _ _ _ _ _ _ _ (omega arith) c.loop-topic.invariant c.in_err-put_topic.ensures c.from_residual.ensures.0

pub returns : goal.returns
returns g c = appended_items topic_text c.args.topics.now c.loop-topic.topic-index _ _ (omega arith) c.loop-topic.invariant
