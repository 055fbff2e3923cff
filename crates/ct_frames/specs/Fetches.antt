-- What a fetch leaves of the frames and of the device, by its answer.
use Rattle.std.specs.Prelude.{◌≡◌, ℕ, List, true, false, Option, None, IsSome, Result, Ok, Err}
use Rattle.ct_disk.specs.Disk.{raised}
use Rattle.ct_frames.specs.declared.fault.Fetched.{Fetched}
use Rattle.ct_frames.specs.declared.fault.Fetched.TheVariants.{Here, Moved}
use Rattle.ct_frames.specs.declared.fault.FrameFault.{FrameFault}
use Rattle.ct_frames.specs.declared.fault.FrameFault.TheVariants.{Fault, BadPage, Memory}
use Rattle.ct_frames.specs.declared.table.FrameTable.{FrameTable}
use Rattle.ct_frames.specs.Tables.{frame_at, SameFrames, Puts, clean}
use Rattle.ct_page.specs.Headers.{has_header}

-- the page was read in the header grammar, and has a frame with what was read
pub record Brings (IsRead : List ℕ → Type 0) (page : ℕ) (old new : FrameTable) : Type 0 where
  pub bytes : List ℕ
  pub read : IsRead bytes
  pub header : has_header bytes ≡ true
  pub puts : Puts page (clean bytes) old new

-- the page was read outside the header grammar
pub record ReadsBad (IsRead : List ℕ → Type 0) : Type 0 where
  pub bytes : List ℕ
  pub read : IsRead bytes
  pub header : has_header bytes ≡ false

-- Whether the page was here, and the frames after the fetch, by its answer. Here comes where the page was here and nowhere else.
abbrev pub Fetches : Result Fetched FrameFault → (List ℕ → Type 0) → ℕ → FrameTable → FrameTable → Type 0
Fetches (Ok Here) IsRead page old new = IsSome (frame_at page old) × SameFrames old new
Fetches (Ok Moved) IsRead page old new = (frame_at page old ≡ None) × Brings IsRead page old new
Fetches (Err (BadPage bad)) IsRead page old new = (frame_at page old ≡ None) × (bad ≡ page) × ReadsBad IsRead × SameFrames old new
Fetches (Err Fault) IsRead page old new = (frame_at page old ≡ None) × SameFrames old new
Fetches (Err Memory) IsRead page old new = (frame_at page old ≡ None) × SameFrames old new

-- the device was called once, and this count of its calls has risen by one, where the answer needs a call; else the device is as it was
abbrev pub CallsFor : {D : Type 0} → Result Fetched FrameFault → (D → ℕ) → D → D → Type 0
CallsFor (Ok Here) count old new = new ≡ old
CallsFor (Ok Moved) count old new = count new ≡ raised (count old)
CallsFor (Err (BadPage _)) count old new = count new ≡ raised (count old)
CallsFor (Err Fault) count old new = count new ≡ raised (count old)
CallsFor (Err Memory) count old new = new ≡ old
