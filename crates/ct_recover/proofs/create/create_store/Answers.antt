use Rattle.std.proofs.Common.{◌∙◌, arith}
use Rattle.ct_recover.proofs.Creations.{none_or_made}
use Rattle.ct_recover.proofs.create.create_store.Goals as goal

pub returns-in-Ok-clause-pairs : goal.returns-in-Ok-clause-pairs
returns-in-Ok-clause-pairs g c = λ p_tells tells more p l left_p left_l.
    none_or_made c.args.id.now p l c.requires.id (c.in_default.ensures.stable p_tells p left_p ∙ c.in_default.ensures.made p_tells)
    ((c.make_store_log.ensures.left tells (omega (arith, more, c.has_open_header.ensures.calls))).left l left_l)

pub returns-in-Err-make_store_log-clause-pairs : goal.returns-in-Err-make_store_log-clause-pairs
returns-in-Err-make_store_log-clause-pairs g c = λ p_tells tells more p l left_p left_l.
    none_or_made c.args.id.now p l c.requires.id (c.in_default.ensures.stable p_tells p left_p ∙ c.in_default.ensures.made p_tells)
    ((c.make_store_log.ensures.left tells (omega (arith, more, c.has_open_header.ensures.calls))).left l left_l)
