use Rattle.std.proofs.Common.{◌≡◌, ℕ, List, Result, Ok, Err, ap}
use Rattle.ct_text.specs.declared.word.Word.{Word}
use Rattle.ct_text.specs.declared.splitting.SplitFault.{SplitFault}
use Rattle.ct_text.specs.declared.splitting.SplitFault.TheVariants as faults
use Rattle.ct_text.specs.Words.{HasWords, IsFirstFault, Splits, OrMemory}
use Rattle.ct_text.proofs.Unique.{one_reading, no_fault, one_fault}
use Rattle.ct_text.proofs.splitting.split.Goals as goal

only_words : (line : List ℕ) (result : Result (List Word) SplitFault) → Splits line result → (words : List Word) → HasWords 0 line words → OrMemory result (result ≡ Ok words)
only_words line (Ok found) h words k = ap (λ (w : List Word). Ok w) (one_reading 0 line found words h k)
only_words line (Err (faults.Bad at)) h words k = absurd (no_fault 0 at line words k h)
only_words line (Err faults.Memory) h words k = tt

only_fault : (line : List ℕ) (result : Result (List Word) SplitFault) → Splits line result → (at : ℕ) → IsFirstFault line at → OrMemory result (result ≡ Err (faults.Bad at))
only_fault line (Ok found) h at k = absurd (no_fault 0 at line found h k)
only_fault line (Err (faults.Bad place)) h at k = ap (λ (n : ℕ). Err (faults.Bad n)) (one_fault line place at h k)
only_fault line (Err faults.Memory) h at k = tt

pub returns-clause-words : goal.returns-clause-words
returns-clause-words c = only_words c.args.line.now c.split_words.result c.split_words.ensures

pub returns-clause-fault : goal.returns-clause-fault
returns-clause-fault c = only_fault c.args.line.now c.split_words.result c.split_words.ensures
