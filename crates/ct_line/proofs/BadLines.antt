-- A line leaves the grammar at one place at most.
use Rattle.std.proofs.Common.{◌≡◌, ℕ, ◌≤◌, List, Result, Ok, Err, inl, inr, length, sym, arith, ◌∙◌}
use Rattle.ct_text.specs.declared.word.Word.{Word}
use Rattle.ct_text.specs.Words as texts
use Rattle.ct_text.specs.Words.{HasWords, IsFirstFault}
use Rattle.ct_text.specs.declared.splitting.SplitFault.{SplitFault}
use Rattle.ct_text.specs.declared.splitting.SplitFault.TheVariants as splits
use Rattle.ct_line.specs.declared.call.Call.{Call}
use Rattle.ct_line.specs.declared.reading.Reading.TheVariants.{Command}
use Rattle.ct_line.specs.declared.line.LineFault.{LineFault}
use Rattle.ct_line.specs.declared.line.LineFault.TheVariants as faults
use Rattle.ct_line.specs.Grammar.{call_of, place_of_missing, Asks, Gives, IsBadAt}
use Rattle.ct_line.specs.Calls.{OrMemory}

abbrev split_err : ℕ → Result (List Word) SplitFault
split_err place = Err (splits.Bad place)

no_words : (place : ℕ) (words : List Word) → split_err place ≡ Ok words → ⊥
no_words place words e = absurd cc

one_place : (place other : ℕ) → split_err place ≡ split_err other → place ≡ other
one_place place other e = cc

pub unsplit : (line : List ℕ) (fault : SplitFault) (place at : ℕ) → fault ≡ splits.Bad place → length line ≤ 16384 → ((words : List Word) → HasWords 0 line words → texts.OrMemory (Err fault) (Err fault ≡ Ok words))
    → ((other : ℕ) → IsFirstFault line other → texts.OrMemory (Err fault) (Err fault ≡ split_err other)) → IsBadAt line at → place ≡ at
unsplit line (splits.Bad known) place at e short words one (inl b) = absurd (let long = b.0 in omega arith)
unsplit line (splits.Bad known) place at e short words one (inr b) =
    let same : known ≡ place = cc in
    elim b.1 [ inl f ↦ sym same ∙ one_place known at (one at f) | inr asks ↦ absurd (no_words known asks.0 (words asks.0 asks.1)) ]
unsplit line splits.Memory place at e short words one b = absurd cc

asks_one : (line : List ℕ) (words : List Word) (at : ℕ) → ((others : List Word) → HasWords 0 line others → words ≡ others) → Asks line (Err at) → call_of (place_of_missing line words) Command words ≡ Err at
asks_one line words at only asks = rw (only asks.0 asks.1) asks.2

is_refused : (result : Result Call LineFault) (asked : Result Call ℕ) (at : ℕ) → Gives result asked → asked ≡ Err at → OrMemory result (result ≡ Err (faults.Bad at))
is_refused (Ok call) asked at gives e = absurd (let same = sym gives ∙ e in cc)
is_refused (Err (faults.Bad place)) asked at gives e = let same = sym gives ∙ e in cc
is_refused (Err faults.Memory) asked at gives e = tt

pub misfit : (line : List ℕ) (words : List Word) (result : Result Call LineFault) → length line ≤ 16384 → ((others : List Word) → HasWords 0 line others → words ≡ others) → ((other : ℕ) → IsFirstFault line other → ⊥)
    → Gives result (call_of (place_of_missing line words) Command words) → (at : ℕ) → IsBadAt line at → OrMemory result (result ≡ Err (faults.Bad at))
misfit line words result short only no_fault gives at (inl b) = absurd (let long = b.0 in omega arith)
misfit line words result short only no_fault gives at (inr b) =
    elim b.1 [
      | inl fault ↦ absurd (no_fault at fault)
      | inr asks ↦ is_refused result (call_of (place_of_missing line words) Command words) at gives (asks_one line words at only asks)
    ]
