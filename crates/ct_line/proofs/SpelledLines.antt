-- A line that is read as a call spells it, and a line that spells a call is read as that.
use Rattle.std.proofs.Common.{◌≡◌, ℕ, ◌≤◌, List, Result, Ok, Err, IfOk, length, sym, ◌∙◌}
use Rattle.ct_text.specs.declared.word.Word.{Word}
use Rattle.ct_text.specs.Words.{HasWords}
use Rattle.ct_line.specs.declared.call.Call.{Call}
use Rattle.ct_line.specs.declared.reading.Reading.TheVariants.{Command}
use Rattle.ct_line.specs.declared.line.LineFault.{LineFault}
use Rattle.ct_line.specs.declared.line.LineFault.TheVariants as faults
use Rattle.ct_line.specs.Grammar.{call_of, place_of_missing, Gives}
use Rattle.ct_line.specs.Calls.{SpellsCall, OrMemory}
use Rattle.ct_line.proofs.Back.{read_back}
use Rattle.ct_line.proofs.Spelled.{spelled}

pub spells : (line : List ℕ) (words : List Word) (result : Result Call LineFault) → length line ≤ 16384 → HasWords 0 line words
    → Gives result (call_of (place_of_missing line words) Command words) → IfOk result (SpellsCall line)
spells line words (Ok call) short has gives = (short, words, has, read_back call words (place_of_missing line words) gives)
spells line words (Err fault) short has gives = tt

asked : (line : List ℕ) (words : List Word) (call : Call) → ((others : List Word) → HasWords 0 line others → words ≡ others) → SpellsCall line call → call_of (place_of_missing line words) Command words ≡ Ok call
asked line words call only s = spelled call words (place_of_missing line words) (rw (only s.1 s.2) s.3)

pub is_answered : (line : List ℕ) (words : List Word) (result : Result Call LineFault) → ((others : List Word) → HasWords 0 line others → words ≡ others)
    → Gives result (call_of (place_of_missing line words) Command words) → (call : Call) → SpellsCall line call → OrMemory result (result ≡ Ok call)
is_answered line words (Ok known) only gives call s = let e = sym gives ∙ asked line words call only s in cc
is_answered line words (Err (faults.Bad at)) only gives call s = absurd (let e = asked line words call only s in cc)
is_answered line words (Err faults.Memory) only gives call s = tt
