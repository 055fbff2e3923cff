-- What a line's words ask for is what reading the line answers.
use Rattle.std.proofs.Common.{ℕ, ◌≤◌, List, Result, Ok, Err, length, inr}
use Rattle.ct_text.specs.declared.word.Word.{Word}
use Rattle.ct_text.specs.Words.{HasWords}
use Rattle.ct_line.specs.declared.call.Call.{Call}
use Rattle.ct_line.specs.declared.reading.Reading.TheVariants.{Command}
use Rattle.ct_line.specs.declared.line.LineFault.{LineFault}
use Rattle.ct_line.specs.declared.line.LineFault.TheVariants as faults
use Rattle.ct_line.specs.Grammar.{call_of, place_of_missing, Gives, IsRead}

pub answers : (line : List ℕ) (words : List Word) (result : Result Call LineFault) → length line ≤ 16384 → HasWords 0 line words
    → Gives result (call_of (place_of_missing line words) Command words) → IsRead line result
answers line words (Ok call) short has gives = (short, (words, has, gives))
answers line words (Err (faults.Bad at)) short has gives = inr (short, inr (words, has, gives))
answers line words (Err faults.Memory) short has gives = tt
