-- The table of the commands.
use Rattle.std.specs.Prelude.{◌≡◌, ◌≢◌, ℕ, ◌-◌, ◌^◌, ◌≤◌, nat_le, List, [], ◌∷◌, length, Bool, false, not, ◌&&◌, ◌==◌, IsTrue, ◌⊎◌, Option, Some, None, codes}
use Rattle.std.specs.Fmt.{decimal}
use Rattle.ct_definitions.specs.Validity.{is_name}
use Rattle.ct_words.specs.declared.commands.Command.{Command}
use Rattle.ct_words.specs.declared.commands.Command.TheVariants.{Create, Exec, Check, Unbuilt}

-- the word begins with a hyphen
abbrev pub is_option : List ℕ → Bool
is_option [] = false
is_option (first ∷ word) = first == 45

-- the word names a device of the shelf
abbrev pub is_shelf_name : List ℕ → Bool
is_shelf_name word = is_name word && not (is_option word)

-- the word is a store's id: such a name of at most 16 bytes
abbrev pub is_id : List ℕ → Bool
is_id word = is_shelf_name word && nat_le (length word) 16

-- the word is the decimal form of a number from `least` to `most`
abbrev pub IsNumberWithin : ℕ → ℕ → List ℕ → Type 0
IsNumberWithin least most word = (number : ℕ) × (least ≤ number) × (number ≤ most) × (word ≡ decimal number)

-- the word is the decimal form of a number below 2 ^ 64
abbrev pub IsNumber : List ℕ → Type 0
IsNumber word = IsNumberWithin 0 (2 ^ 64 - 1) word

-- `create id`
abbrev pub IsCreate : List ℕ → List ℕ → Type 0
IsCreate verb word = (verb ≡ codes "create") × IsTrue (is_id word)

-- `ctrdmp name` and `ctfdmp name`
abbrev pub TakesOne : List ℕ → List ℕ → Type 0
TakesOne verb word = ((verb ≡ codes "ctrdmp") ⊎ (verb ≡ codes "ctfdmp")) × IsTrue (is_shelf_name word)

-- `ctfdmp name upto`
abbrev pub TakesTwo : List ℕ → List ℕ → List ℕ → Type 0
TakesTwo verb name upto = (verb ≡ codes "ctfdmp") × IsTrue (is_shelf_name name) × IsNumber upto

-- `work number sessions lines`
abbrev pub TakesThree : List ℕ → List ℕ → List ℕ → List ℕ → Type 0
TakesThree verb number sessions lines = (verb ≡ codes "work") × IsNumber number × IsNumberWithin 1 64 sessions × IsNumberWithin 0 1_000_000 lines

-- the words make a store
abbrev pub AskCreate : List (List ℕ) → Type 0
AskCreate [] = ⊥
AskCreate (verb ∷ []) = ⊥
AskCreate (verb ∷ word ∷ []) = IsCreate verb word
AskCreate (verb ∷ word ∷ more ∷ words) = ⊥

-- the words are a command that is not built yet
abbrev pub AskOther : List (List ℕ) → Type 0
AskOther [] = ⊥
AskOther (verb ∷ []) = verb ≡ codes "play"
AskOther (verb ∷ word ∷ []) = TakesOne verb word
AskOther (verb ∷ name ∷ upto ∷ []) = TakesTwo verb name upto
AskOther (verb ∷ number ∷ sessions ∷ lines ∷ []) = TakesThree verb number sessions lines
AskOther (verb ∷ number ∷ sessions ∷ lines ∷ more ∷ words) = ⊥

-- the words ask for this command, or for none
abbrev pub Asks : List (List ℕ) → Option Command → Type 0
Asks words (Some Create) = AskCreate words
Asks words (Some Exec) = words ≡ codes "exec" ∷ []
Asks words (Some Check) = words ≡ codes "check" ∷ []
Asks words (Some Unbuilt) = AskOther words
Asks words None = ¬ AskCreate words × (words ≢ codes "exec" ∷ []) × (words ≢ codes "check" ∷ []) × ¬ AskOther words
