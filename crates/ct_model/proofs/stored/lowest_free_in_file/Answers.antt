use Rattle.std.proofs.Common.{◌≤◌, arith}
use Rattle.ct_definitions.specs.Validity.{least_len}
use Rattle.ct_model.proofs.FullBlocks.{AreFull-longer}
use Rattle.ct_model.proofs.stored.lowest_free_in_file.Goals as goal

pub lowest_free_from-requires-clause-full : goal.lowest_free_from-requires-clause-full
lowest_free_from-requires-clause-full c = λ num least below image same. absurd (omega arith)

pub lowest_free_from-requires-2-clause-full : goal.lowest_free_from-requires-2-clause-full
lowest_free_from-requires-2-clause-full c =
    let longer : least_len c.args.file.now.def.kind ≤ c.args.len = rw (← c.least_len.ensures) c.if-len-least_len.false in
    rw c.as_slice-rows.ensures (AreFull-longer c.args.cache.now.full_below (least_len c.args.file.now.def.kind) c.args.len c.args.file.now.records longer c.requires.stored.full)
