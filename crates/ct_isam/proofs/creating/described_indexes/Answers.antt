use Rattle.std.proofs.Common.{◌≡◌, false, sym, ap, ◌∙◌, arith, map}
use Rattle.std.specs.List.{list_all}
use Rattle.ct_definitions.specs.Validity.{is_valid_index}
use Rattle.ct_line.specs.declared.call.NewIndex.{NewIndex}
use Rattle.ct_isam.specs.Calls.{described_index}
use Rattle.ct_isam.specs.Making.{ForEachLeast}
use Rattle.ct_isam.proofs.Described.{not_all, too_great_by}
use Rattle.ct_isam.proofs.creating.described_indexes.Goals as goal

pub returns-in-Err-clause-err : goal.returns-in-Err-clause-err
returns-in-Err-clause-err c =
    let item : NewIndex = c.index-item.result in
    too_great_by c.in-Err.why (ForEachLeast (λ least. is_valid_index least (described_index item) ≡ false))
    (ForEachLeast (λ least. list_all (is_valid_index least) (map described_index c.args.indexes.now) ≡ false))
    (λ fails least short. not_all described_index (is_valid_index least) c.args.indexes.now c.loop-index.index-index item (omega arith)
    (ap (λ (x : NewIndex). is_valid_index least (described_index x)) (sym c.index-item.is) ∙ fails least short)) c.in-Err.ensures.err
