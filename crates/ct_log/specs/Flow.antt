-- How the facts of a log in memory change.
use Rattle.std.specs.Prelude.{◌≡◌, ◌+◌, ◌^◌, ◌&&◌, ℕ, Bool, List, [], ◌++◌, length, nat_lt, Result, Ok, Err}
use Rattle.ct_disk.specs.declared.fault.DiskError.{DiskError}
use Rattle.ct_log.specs.Chunks.{chunk_size}
use Rattle.ct_log.specs.declared.flow.Flow.{Flow}
use Rattle.ct_log.specs.declared.stage.Stage.{Stage}
use Rattle.ct_log.specs.declared.stage.Stage.TheVariants.{Idle, Written, Stable, Opened}
use Rattle.ct_log.specs.declared.stage.FlushAt.{FlushAt}
use Rattle.ct_log.specs.declared.stage.FlushAt.TheVariants.{Body, Sync, Gate, Done}

-- a group of n bytes may still be added: the chunk stays below 2^32 bytes, the log within 2^62, and there is an ordinal left
abbrev pub has_room : Flow → ℕ → Bool
has_room flow n =
    nat_lt (length flow.waiting + n) (2 ^ 32)
    && nat_lt (flow.end + chunk_size flow.taken + 5 + length flow.waiting + n) (2 ^ 62)
    && nat_lt flow.next (2 ^ 63)

-- of the groups that wait and those under way, the ones that a step at this stage is about
abbrev pub groups_at : Stage → List ℕ → List ℕ → List ℕ
groups_at Idle waiting taken = waiting
groups_at Written waiting taken = taken
groups_at Stable waiting taken = taken
groups_at Opened waiting taken = taken

-- the groups that the next step of a flush is about
abbrev pub in_flush : Flow → List ℕ
in_flush flow = groups_at flow.stage flow.waiting flow.taken

-- no chunk is under way and no group waits, and each group before the next is durable
pub record IsAtRest (flow : Flow) : Type 0 where
  pub stage : flow.stage ≡ Idle
  pub taken : flow.taken ≡ []
  pub waiting : flow.waiting ≡ []
  pub durable : flow.durable + 1 ≡ flow.next

-- nothing has changed
pub record SameFlow (old new : Flow) : Type 0 where
  pub end : new.end ≡ old.end
  pub stage : new.stage ≡ old.stage
  pub taken : new.taken ≡ old.taken
  pub waiting : new.waiting ≡ old.waiting
  pub durable : new.durable ≡ old.durable
  pub taken_up_to : new.taken_up_to ≡ old.taken_up_to
  pub next : new.next ≡ old.next

-- a group waits behind those that did, under the next ordinal
pub record Queued (group : List ℕ) (old new : Flow) : Type 0 where
  pub waiting : new.waiting ≡ old.waiting ++ group
  pub next : new.next ≡ old.next + 1
  pub end : new.end ≡ old.end
  pub stage : new.stage ≡ old.stage
  pub taken : new.taken ≡ old.taken
  pub durable : new.durable ≡ old.durable
  pub taken_up_to : new.taken_up_to ≡ old.taken_up_to

-- all groups that waited are now those of the chunk under way
pub record Took (old new : Flow) : Type 0 where
  pub was : old.stage ≡ Idle
  pub stage : new.stage ≡ Written
  pub taken : new.taken ≡ old.waiting
  pub waiting : new.waiting ≡ []
  pub taken_up_to : new.taken_up_to + 1 ≡ old.next
  pub end : new.end ≡ old.end
  pub durable : new.durable ≡ old.durable
  pub next : new.next ≡ old.next

-- the chunk under way has come from one stage to another
pub record MovedOn (from to : Stage) (old new : Flow) : Type 0 where
  pub was : old.stage ≡ from
  pub stage : new.stage ≡ to
  pub taken : new.taken ≡ old.taken
  pub waiting : new.waiting ≡ old.waiting
  pub taken_up_to : new.taken_up_to ≡ old.taken_up_to
  pub end : new.end ≡ old.end
  pub durable : new.durable ≡ old.durable
  pub next : new.next ≡ old.next

-- the chunk under way is part of the log
pub record Ended (old new : Flow) : Type 0 where
  pub was : old.stage ≡ Opened
  pub stage : new.stage ≡ Idle
  pub end : new.end ≡ old.end + 5 + length old.taken
  pub durable : new.durable ≡ old.taken_up_to
  pub taken : new.taken ≡ []
  pub waiting : new.waiting ≡ old.waiting
  pub taken_up_to : new.taken_up_to ≡ old.taken_up_to
  pub next : new.next ≡ old.next

-- a step of a flush, by its answer
abbrev pub Stepped : Result FlushAt DiskError → Flow → Flow → Type 0
Stepped (Ok Body) old new = Took old new
Stepped (Ok Sync) old new = MovedOn Written Stable old new
Stepped (Ok Gate) old new = MovedOn Stable Opened old new
Stepped (Ok Done) old new = Ended old new
Stepped (Err _) old new = SameFlow old new
