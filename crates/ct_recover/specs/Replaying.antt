-- What replaying the groups and the chunks of a log makes of a state.
use Rattle.std.specs.Prelude.{◌≡◌, ◌≢◌, ◌≤◌, ◌<◌, ◌⊎◌, ◌+◌, ◌^◌, ℕ, min, List, [], ◌++◌, length, map, flat_map, drop, All, Bool, true, false, IsTrue, Result, Ok, Err}
use Rattle.ct_definitions.specs.declared.change.Transaction.{Transaction}
use Rattle.ct_definitions.specs.Changes.{State}
use Rattle.ct_definitions.specs.Histories.{after_changes, after_transactions, allows_all, are_defined}
use Rattle.ct_group.specs.Commit.{commit_text}
use Rattle.ct_group.specs.Groups.{FitsTransaction}
use Rattle.ct_log.specs.Chunks.{chunks_text, BeginsWithChunk, IsShort}
use Rattle.ct_log.specs.Reading.{nothing, chunk, damage, found_in}
use Rattle.ct_yard.specs.LogTexts.{groups_text}
use Rattle.ct_recover.specs.declared.fault.OpenFault.{OpenFault}
use Rattle.ct_recover.specs.declared.fault.OpenFault.TheVariants.{NotEmpty, Undone, BadLog, Device, Memory}
use Rattle.ct_recover.specs.declared.replay.Replay.{Replay}

-- no number is above its last value, and ordinals begin at 1
pub record IsWithin (replay : Replay) : Type 0 where
  pub number : replay.number ≤ 2 ^ 63
  pub first : 0 < replay.ordinal
  pub ordinal : replay.ordinal ≤ 2 ^ 63
  pub place : replay.place ≤ 2 ^ 62

-- The bytes begin with the commit of a transaction with this number, which takes so many of them.
pub record BeginsWithCommit (number : ℕ) (bytes : List ℕ) (t : Transaction) (size : ℕ) : Type 0 where
  pub fits : FitsTransaction t
  pub numbered : t.number ≡ number
  pub taken : size ≡ length (commit_text t)
  pub within : size ≤ length bytes
  pub parts : bytes ≡ commit_text t ++ drop size bytes

-- They begin with no commit of a transaction with this number.
abbrev pub BeginsWithNone : ℕ → List ℕ → Type 0
BeginsWithNone number bytes = (t : Transaction) (more : List ℕ) → FitsTransaction t → bytes ≡ commit_text t ++ more → t.number ≡ number → ⊥

-- They begin with no commit of a transaction that comes next after this state and this number.
abbrev pub HasNoNext : State → ℕ → List ℕ → Type 0
HasNoNext state last bytes = (t : Transaction) (more : List ℕ) → FitsTransaction t → bytes ≡ commit_text t ++ more → t.number ≡ last + 1 → allows_all state t.changes ≡ true → ⊥

-- the ordinal after so many groups, which stops at its last value
abbrev pub ordinal_after : ℕ → ℕ → ℕ
ordinal_after ordinal count = min (ordinal + count) (2 ^ 63)

-- The commit with which the bytes begin is replayed.
pub record ReplaysCommit (bytes : List ℕ) (size : ℕ) (old new : Replay) : Type 0 where
  pub t : Transaction
  pub begins : BeginsWithCommit (old.number + 1) bytes t size
  pub allowed : allows_all old.state t.changes ≡ true
  pub state : new.state ≡ after_changes old.state t.changes
  pub number : new.number ≡ old.number + 1
  pub ordinal : new.ordinal ≡ ordinal_after old.ordinal 1

-- what a replay of the group at a place in a chunk's groups answers, and what it leaves
abbrev pub ReplaysGroup : List ℕ → ℕ → Result ℕ OpenFault → Replay → Replay → Type 0
ReplaysGroup groups at (Ok next) old new = (size : ℕ) × (next ≡ at + size) × ReplaysCommit (drop at groups) size old new
ReplaysGroup groups at (Err (BadLog place)) old new = (place ≡ old.place + 5 + at) × HasNoNext old.state old.number (drop at groups)
ReplaysGroup groups at (Err Memory) old new = Unit {0}
ReplaysGroup groups at (Err Device) old new = ⊥
ReplaysGroup groups at (Err NotEmpty) old new = ⊥
ReplaysGroup groups at (Err Undone) old new = ⊥

-- The transactions are replayed, one after the other.
pub record Replays (transactions : List Transaction) (old new : Replay) : Type 0 where
  pub fit : All FitsTransaction transactions
  pub defined : are_defined old.state old.number transactions ≡ true
  pub state : new.state ≡ after_transactions old.state transactions
  pub number : new.number ≡ old.number + length transactions
  pub ordinal : new.ordinal ≡ ordinal_after old.ordinal (length transactions)

-- Some of the groups can be replayed, and then comes what is no next commit.
pub record HasStop (groups : List ℕ) (old : Replay) (at : ℕ) : Type 0 where
  pub first : List Transaction
  pub tail : List ℕ
  pub fit : All FitsTransaction first
  pub parts : groups ≡ groups_text first ++ tail
  pub defined : are_defined old.state old.number first ≡ true
  pub some : tail ≢ []
  pub none : HasNoNext (after_transactions old.state first) (old.number + length first) tail
  pub here : at ≡ old.place + 5 + length (groups_text first)

-- what a replay of a chunk's groups answers, and what it leaves
abbrev pub ReplaysGroups : List ℕ → Result Unit OpenFault → Replay → Replay → Type 0
ReplaysGroups groups (Ok _) old new = (ts : List Transaction) × (groups ≡ groups_text ts) × Replays ts old new
ReplaysGroups groups (Err (BadLog place)) old new = HasStop groups old place
ReplaysGroups groups (Err Memory) old new = Unit {0}
ReplaysGroups groups (Err Device) old new = ⊥
ReplaysGroups groups (Err NotEmpty) old new = ⊥
ReplaysGroups groups (Err Undone) old new = ⊥

-- The bytes, where they are told, begin with an open chunk, whose groups are replayed.
pub record ReplaysOneChunk (tells : Bool) (bytes : List ℕ) (old new : Replay) : Type 0 where
  pub transactions : List Transaction
  pub replays : Replays transactions old new
  pub begins : IsTrue tells → BeginsWithChunk (groups_text transactions) bytes
  pub place : IsTrue tells → new.place ≡ old.place + 5 + length (groups_text transactions)

-- The chunk with which the bytes begin is cut by their end, or one of its groups is no next commit.
abbrev pub IsStopped : List ℕ → Replay → ℕ → Type 0
IsStopped bytes old place = ((found_in bytes ≡ damage) × (place ≡ old.place)) ⊎ ((groups : List ℕ) × (found_in bytes ≡ chunk groups) × HasStop groups old place)

-- what a replay of the chunk with which the bytes begin answers, and what it leaves
abbrev pub ReplaysChunk : Bool → List ℕ → Result Bool OpenFault → Replay → Replay → Type 0
ReplaysChunk tells bytes (Ok true) old new = ReplaysOneChunk tells bytes old new
ReplaysChunk tells bytes (Ok false) old new = (IsTrue tells → found_in bytes ≡ nothing) × (new ≡ old)
ReplaysChunk tells bytes (Err (BadLog place)) old new = IsTrue tells → IsStopped bytes old place
ReplaysChunk tells bytes (Err Memory) old new = Unit {0}
ReplaysChunk tells bytes (Err Device) old new = Unit {0}
ReplaysChunk tells bytes (Err NotEmpty) old new = ⊥
ReplaysChunk tells bytes (Err Undone) old new = ⊥

-- The chunks from one place of the bytes to another hold these transactions, which are replayed.
pub record ReplaysTo (tells : Bool) (bytes : List ℕ) (old new : Replay) : Type 0 where
  pub chunks : List (List Transaction)
  pub replays : Replays (flat_map (λ chunk. chunk) chunks) old new
  pub short : IsTrue tells → All IsShort (map groups_text chunks)
  pub place : IsTrue tells → new.place ≡ old.place + length (chunks_text (map groups_text chunks))
  pub parts : IsTrue tells → drop old.place bytes ≡ chunks_text (map groups_text chunks) ++ drop new.place bytes

-- the place of the first damage, behind chunks that are replayed
pub record StopsAt (bytes : List ℕ) (old : Replay) (place : ℕ) : Type 0 where
  pub last : Replay
  pub up_to : ReplaysTo true bytes old last
  pub stopped : IsStopped (drop last.place bytes) last place

-- what a replay of all chunks from a place of the bytes on answers, and what it leaves
abbrev pub ReplaysLog : Bool → List ℕ → Result Unit OpenFault → Replay → Replay → Type 0
ReplaysLog tells bytes (Ok _) old new = ReplaysTo tells bytes old new × (IsTrue tells → found_in (drop new.place bytes) ≡ nothing)
ReplaysLog tells bytes (Err (BadLog place)) old new = IsTrue tells → StopsAt bytes old place
ReplaysLog tells bytes (Err Memory) old new = Unit {0}
ReplaysLog tells bytes (Err Device) old new = Unit {0}
ReplaysLog tells bytes (Err NotEmpty) old new = ⊥
ReplaysLog tells bytes (Err Undone) old new = ⊥
