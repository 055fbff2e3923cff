use Rattle.std.specs.Slice.Iter.{iter_rest}
use Rattle.std.specs.Iterator.Adapters.{rev_source}
use Rattle.ct_key.proofs.PartLemmas.{added_last, room_for_last, added_all}
use Rattle.ct_key.proofs.parts.add_reversed.Goals as goal

pub push_within-requires : goal.push_within-requires
push_within-requires c =
    room_for_last c.args.desc _ _ _ c.in-Some.byte.now _ c.args.into.now c.args.bytes.now c.in-Some.ensures.steps c.loop-byte.invariant.added c.requires

pub loop-byte-preserved : goal.loop-byte-preserved
loop-byte-preserved c =
    let added = added_last c.args.desc c.loop-byte.into _ (iter_rest (rev_source c.next.new.self)) c.in-Some.byte.now _ c.in-Some.ensures.steps c.loop-byte.invariant.added in
    record { can = tt; ends = tt; added = rw (c.push_within.ensures, c.byte_in_order.ensures) added }

pub returns : goal.returns
returns c = added_all c.args.desc _ _ _ c.in-None.ensures.steps.0 c.loop-byte.invariant.added
