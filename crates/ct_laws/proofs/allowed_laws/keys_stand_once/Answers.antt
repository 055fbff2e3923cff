use Rattle.ct_laws.proofs.Keys.{own_keys_once}
use Rattle.ct_laws.proofs.Allowed.{HasKeysOnce-in_order}
use Rattle.ct_laws.proofs.allowed_laws.keys_stand_once.Goals as goal

pub returns-clause-test : goal.returns-clause-test
returns-clause-test c = own_keys_once

pub returns-clause-order : goal.returns-clause-order
returns-clause-order c = HasKeysOnce-in_order
