-- What a log holds: commits in chunks, up to the first gate that is not open.
use Rattle.std.specs.Prelude.{◌≡◌, ◌≤◌, ◌<◌, ◌-◌, ◌^◌, ℕ, List, ◌++◌, length, map, flat_map, take, All}
use Rattle.ct_definitions.specs.declared.change.Transaction.{Transaction}
use Rattle.ct_definitions.specs.Histories.{History, last_number}
use Rattle.ct_group.specs.Commit.{commit_text}
use Rattle.ct_group.specs.Groups.{FitsTransaction}
use Rattle.ct_log.specs.Chunks.{chunks_text, EndsAfter, IsShort}

-- the commits of these transactions, one behind the other
abbrev pub groups_text : List Transaction → List ℕ
groups_text transactions = flat_map commit_text transactions

-- a log's front, and behind it chunks of these transactions
abbrev pub log_text : List ℕ → List (List Transaction) → List ℕ
log_text front chunks = front ++ chunks_text (map groups_text chunks)

-- The transactions stand in these chunks, and the fields of chunks and commits hold them.
pub record InChunks (transactions : List Transaction) (chunks : List (List Transaction)) : Type 0 where
  pub joined : flat_map (λ chunk. chunk) chunks ≡ transactions
  pub short : All IsShort (map groups_text chunks)
  pub fit : All FitsTransaction transactions

-- The text is that of a log with this front and these transactions.
pub record IsTextOf (front : List ℕ) (transactions : List Transaction) (text : List ℕ) : Type 0 where
  pub chunks : List (List Transaction)
  pub in_chunks : InChunks transactions chunks
  pub is : text ≡ log_text front chunks

-- The bytes are a log with this front and these transactions, up to the first gate that is not open.
pub record HasTransactions (front : List ℕ) (transactions : List Transaction) (bytes : List ℕ) : Type 0 where
  pub text : List ℕ
  pub is_text : IsTextOf front transactions text
  -- a log ends at 2^62
  pub within : length text < 2 ^ 62
  pub ends : EndsAfter text bytes

-- the transactions of a history up to a number
abbrev pub up_to_number : History → ℕ → List Transaction
up_to_number history number = take (number - history.base_number) history.transactions

-- The bytes are a log of the history up to a number, which is at least `least`.
pub record HoldsPrefix (front : List ℕ) (history : History) (least : ℕ) (bytes : List ℕ) : Type 0 where
  pub number : ℕ
  pub from_least : least ≤ number
  pub within : number ≤ last_number history
  pub has : HasTransactions front (up_to_number history number) bytes
