use Rattle.ct_log.proofs.HeadReads.{start_within, start_counts, start_numbered}
use Rattle.ct_log.proofs.log.Log.open.Goals as goal

pub at_rest-flow-requires-clause-place : goal.at_rest-flow-requires-clause-place
at_rest-flow-requires-clause-place g c = start_within c.in-Ok.head.start c.in-Ok.ensures.start

pub at_rest-flow-requires-clause-first : goal.at_rest-flow-requires-clause-first
at_rest-flow-requires-clause-first g c = start_counts c.in-Ok.head.start c.in-Ok.ensures.start

pub at_rest-flow-requires-clause-last : goal.at_rest-flow-requires-clause-last
at_rest-flow-requires-clause-last g c = start_numbered c.in-Ok.head.start c.in-Ok.ensures.start
