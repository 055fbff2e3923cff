use Rattle.std.proofs.Common.{◌≡◌, length, take, sum_by}
use Rattle.ct_tool.proofs.check.record_count.Given as goal

abbrev pub invariant-loop-file : goal.invariant-loop-file
invariant-loop-file l = l.count ≡ sum_by (λ file. length file.records) (take l.file-index l.files)
