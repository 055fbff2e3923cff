-- What a disk in memory has gone through, and what a crash may leave of it.
use Rattle.std.specs.Prelude.{◌≡◌, ◌≤◌, ◌+◌, ◌⊎◌, ℕ, Bool, true, false, List, [], ◌∷◌, length, fold}
use Rattle.ct_disk.specs.Disk.{overlaid, resized, Torn, Bent}
use Rattle.ct_disk.specs.declared.history.Change.{Change}
use Rattle.ct_disk.specs.declared.history.Change.TheVariants.{Write, Cut}
use Rattle.ct_disk.specs.declared.history.Entry.{Entry}

-- bytes that were put at a place, of a write that asked for more by a number of bytes; a length that was given; a sync
pub data Event : Type 0 where
  wrote : ℕ → List ℕ → ℕ → Event
  cut_to : ℕ → Event
  synced : Event

-- what a read gives after these events, the last of which stands first
abbrev pub shown : List Event → List ℕ
shown [] = []
shown (wrote at put missing ∷ past) = overlaid (shown past) at put
shown (cut_to len ∷ past) = resized (shown past) len
shown (synced ∷ past) = shown past

-- what a read gave at the last of these syncs
abbrev pub stable : List Event → List ℕ
stable [] = []
stable (wrote at put missing ∷ past) = stable past
stable (cut_to len ∷ past) = stable past
stable (synced ∷ past) = shown past

-- a crash after these events may leave these bytes
abbrev pub Leaves : List Event → List ℕ → Type 0
Leaves [] c = c ≡ []
Leaves (wrote at put missing ∷ past) c = (d : List ℕ) × Leaves past d × Torn at (length put + missing) d c
Leaves (cut_to len ∷ past) c = (d : List ℕ) × Leaves past d × Bent len d c
Leaves (synced ∷ past) c = c ≡ shown past

-- a crash after the first n of these events, or after more of them, may have left these bytes
abbrev pub LeavesSince : ℕ → List Event → List ℕ → Type 0
LeavesSince n [] c = Leaves [] c
LeavesSince n (event ∷ past) c = Leaves (event ∷ past) c ⊎ ((n ≤ length past) × LeavesSince n past c)

-- a sync, behind these events
abbrev pub after_sync : Bool → List Event → List Event
after_sync true past = synced ∷ past
after_sync false past = past

-- the event that a change is
abbrev pub event_of : Change → Event
event_of (Write put) = wrote put.at put.bytes put.missing
event_of (Cut len) = cut_to len

-- the events up to this entry's
abbrev pub noted : List Event → Entry → List Event
noted past entry = event_of entry.change ∷ after_sync entry.after_sync past

-- the events that these entries tell, and a sync at their end
abbrev pub history : List Entry → Bool → List Event
history entries is_synced = after_sync is_synced (fold noted [] entries)

-- the events after a sync: with nothing unsynced it adds none
abbrev pub Syncs : List Event → List Event → Type 0
Syncs old new = (new ≡ synced ∷ old) ⊎ ((past : List Event) × (old ≡ synced ∷ past) × (new ≡ old))
