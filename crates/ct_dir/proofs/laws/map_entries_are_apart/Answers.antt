use Rattle.ct_dir.proofs.Entries.{entry_at-with_block_other}
use Rattle.ct_dir.proofs.laws.map_entries_are_apart.Goals as goal

pub returns : goal.returns
returns c = entry_at-with_block_other
