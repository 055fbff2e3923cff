use Rattle.std.proofs.Common.{subst}
use Rattle.ct_tree.specs.Schedules.{MayMark}
use Rattle.ct_tree.proofs.program.turn.Goals as goal

pub returns-in-Put-clause-happens : goal.returns-in-Put-clause-happens
returns-in-Put-clause-happens g c = rw c.in-Put.is c.turn_put.ensures.happens

pub returns-in-Put-clause-stepped : goal.returns-in-Put-clause-stepped
returns-in-Put-clause-stepped g c = rw c.in-Put.is c.turn_put.ensures.stepped

pub returns-in-Put-clause-counted : goal.returns-in-Put-clause-counted
returns-in-Put-clause-counted g c = rw c.in-Put.is c.turn_put.ensures.counted

pub returns-in-Put-clause-come : goal.returns-in-Put-clause-come
returns-in-Put-clause-come g c = rw c.in-Put.is c.turn_put.ensures.come

pub turn_put-requires-clause-mark : goal.turn_put-requires-clause-mark
turn_put-requires-clause-mark g c = subst (MayMark (g.N.Nodes.allows c.args.nodes.now)) c.in-Put.is c.requires.mark

pub returns-in-Take-clause-happens : goal.returns-in-Take-clause-happens
returns-in-Take-clause-happens g c = rw c.in-Take.is c.turn_take.ensures.happens

pub returns-in-Take-clause-stepped : goal.returns-in-Take-clause-stepped
returns-in-Take-clause-stepped g c = rw c.in-Take.is c.turn_take.ensures.stepped

pub returns-in-Take-clause-counted : goal.returns-in-Take-clause-counted
returns-in-Take-clause-counted g c = rw c.in-Take.is c.turn_take.ensures.counted

pub returns-in-Take-clause-come : goal.returns-in-Take-clause-come
returns-in-Take-clause-come g c = rw c.in-Take.is c.turn_take.ensures.come

pub turn_take-requires-clause-mark : goal.turn_take-requires-clause-mark
turn_take-requires-clause-mark g c = subst (MayMark (g.N.Nodes.allows c.args.nodes.now)) c.in-Take.is c.requires.mark

pub returns-in-Search-clause-happens : goal.returns-in-Search-clause-happens
returns-in-Search-clause-happens g c = rw c.in-Search.is c.turn_search.ensures.happens

pub returns-in-Search-clause-stepped : goal.returns-in-Search-clause-stepped
returns-in-Search-clause-stepped g c = rw c.in-Search.is c.turn_search.ensures.stepped

pub returns-in-Search-clause-counted : goal.returns-in-Search-clause-counted
returns-in-Search-clause-counted g c = rw c.in-Search.is c.turn_search.ensures.counted

pub returns-in-Search-clause-come : goal.returns-in-Search-clause-come
returns-in-Search-clause-come g c = rw c.in-Search.is c.turn_search.ensures.come
