-- A store that was just made is kept.
use Rattle.std.proofs.Common.{◌≡◌, ◌≤◌, ℕ, List, [], length, Bool, IsTrue, refl, sym, ◌∙◌, arith}
use Rattle.std.proofs.lemmas.List.{append-nil}
use Rattle.ct_disk.specs.Disk.{Only}
use Rattle.ct_log.specs.Front.{front}
use Rattle.ct_log.proofs.Fronts.{length-front}
use Rattle.ct_yard.specs.Telling.{Telling}
use Rattle.ct_yard.specs.Kept.{empty_directory}
use Rattle.ct_yard.specs.LogTexts.{HasTransactions}
use Rattle.ct_recover.specs.Creating.{empty_log}
use Rattle.ct_recover.proofs.Creations.{empty_has}
use Rattle.ct_tool.specs.Runs.{IsMade}

pub made : {P L : Type 0} (pages_disk : Telling P) (log_disk : Telling L) (id : List ℕ) (pages : P) (log : L) → length id ≤ 16
    → (IsTrue pages_disk.tells → pages_disk.content pages ≡ empty_directory) → (IsTrue pages_disk.tells → Only (pages_disk.content pages) (pages_disk.may_leave pages))
    → (IsTrue log_disk.tells → log_disk.content log ≡ empty_log id) → (IsTrue log_disk.tells → Only (log_disk.content log) (log_disk.may_leave log))
    → IsMade pages_disk log_disk id pages log
made pages_disk log_disk id pages log short directory stable empty log_stable = record {
  directory = directory;
  empty = empty;
  kept = λ p_told told p l left_p left_l. (
    0,
    omega arith,
    omega arith,
    record { directory = stable p_told p left_p ∙ directory p_told; has = empty_has id l short (log_stable told l left_l ∙ empty told) },
  );
}
