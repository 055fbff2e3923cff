use Rattle.std.proofs.Common.{◌∙◌}
use Rattle.ct_model.proofs.KeysRead.{reads_each}
use Rattle.ct_model.proofs.Kept.{taken_stored}
use Rattle.ct_model.proofs.keys.is_key_taken.Goals as goal

pub is_taken_among-requires : goal.is_taken_among-requires
is_taken_among-requires c = rw c.as_slice-indexes.ensures (reads_each c.args.file.now _ c.requires.stored.fitting c.requires.len)

pub returns : goal.returns
returns c = c.is_taken_among.ensures ∙ rw (c.as_slice-indexes.ensures, c.as_slice.ensures.value) (taken_stored c.args.file.now c.args.cache.now c.args.num c.args.image.now c.requires.stored)
