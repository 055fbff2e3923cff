-- What a stop may leave of a store, and that it keeps each acknowledged transaction.
use Rattle.std.specs.Prelude.{◌≡◌, ◌≤◌, ◌+◌, ℕ, List, [], ◌∷◌, ◌++◌, replicate}
use Rattle.ct_definitions.specs.Histories.{History, IsHistory, last_number}
use Rattle.ct_log.specs.Heads.{IsFront}
use Rattle.ct_log.specs.declared.head.Head.{Head}
use Rattle.ct_yard.specs.LogTexts.{HasTransactions, up_to_number}

-- the directory page of a store without files: kind 1, no file, no index, and behind its header of 128 bytes the page count 1
abbrev pub empty_directory : List ℕ
empty_directory = 1 ∷ 0 ∷ 255 ∷ 255 ∷ 255 ∷ 255 ∷ replicate 122 0 ++ 1 ∷ replicate 3967 0

-- A log with this head and front begins the history: the empty state and the number where reading starts.
pub record Founds (head : Head) (front : List ℕ) (history : History) : Type 0 where
  pub is_front : IsFront head front
  pub base : history.base ≡ []
  pub base_number : history.base_number ≡ head.start.last
  pub defined : IsHistory history

-- Opening these images of the page device and the log device gives the state after the history up to a number.
pub record Recovers (front : List ℕ) (history : History) (number : ℕ) (pages log : List ℕ) : Type 0 where
  pub directory : pages ≡ empty_directory
  pub has : HasTransactions front (up_to_number history number) log

-- Each pair of images recovers the history up to a number, which is at least `least`.
abbrev pub Kept : (List ℕ → Type 0) → (List ℕ → Type 0) → List ℕ → History → ℕ → Type 0
Kept page_images log_images front history least = (pages log : List ℕ) → page_images pages → log_images log
    → (number : ℕ) × (least ≤ number) × (number ≤ last_number history) × Recovers front history number pages log
