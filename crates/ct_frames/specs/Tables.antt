-- A table of frames as a finite map from the number of a page.
use Rattle.std.specs.Prelude.{◌≡◌, ℕ, ◌≤◌, ◌==◌, min, nat_eq, if◌then◌else◌, List, replicate, Option, Some, None, option_map, option_and_then, IfSome}
use Rattle.std.specs.HashMap.{get}
use Rattle.ct_frames.specs.declared.frame.Frame.{Frame}
use Rattle.ct_frames.specs.declared.table.FrameTable.{FrameTable}
use Rattle.ct_page.specs.Headers.{with_position}

-- the frame of a page
abbrev pub frame_at : ℕ → FrameTable → Option Frame
frame_at page table = option_map (λ boxed. boxed.value) (get nat_eq table.frames page)

-- the bytes of a page that is here
abbrev pub bytes_at : ℕ → FrameTable → Option (List ℕ)
bytes_at page table = option_map (λ frame. frame.bytes) (frame_at page table)

-- the least position of a page's images that are not written and synced since
abbrev pub dirty_at : ℕ → FrameTable → Option ℕ
dirty_at page table = option_and_then (λ frame. frame.dirty_since) (frame_at page table)

-- both have the same frames
abbrev pub SameFrames : FrameTable → FrameTable → Type 0
SameFrames old new = (page : ℕ) → frame_at page new ≡ frame_at page old

-- the new table has this frame for the page, and of every other page what the old one had
abbrev pub Puts : ℕ → Frame → FrameTable → FrameTable → Type 0
Puts page frame old new = (other : ℕ) → frame_at other new ≡ (if page == other then Some frame else frame_at other old)

-- a frame of zeros, as on the device
abbrev pub blank : Frame
blank = record { bytes = replicate 4096 0; dirty_since = None }

-- a frame with these bytes, as on the device
abbrev pub clean : List ℕ → Frame
clean bytes = record { bytes = bytes; dirty_since = None }

-- the least position that is not written and synced, once there is an image at this position
abbrev pub first_since : Option ℕ → ℕ → ℕ
first_since None position = position
first_since (Some first) position = min first position

-- the frame of a page after an image: its bytes with its position in the header, and no longer as on the device
abbrev pub after_image : Option ℕ → List ℕ → ℕ → Frame
after_image dirty_since bytes position = record {
  bytes = with_position position bytes;
  dirty_since = Some (first_since dirty_since position);
}

-- each image of each page is written and synced
abbrev pub IsClean : FrameTable → Type 0
IsClean table = (page : ℕ) → dirty_at page table ≡ None

-- a page has an image at this position that is not written and synced since, and none has one at a lesser position
pub record IsLeast (table : FrameTable) (position : ℕ) : Type 0 where
  pub page : ℕ
  pub has : dirty_at page table ≡ Some position
  pub least : (other : ℕ) → IfSome (dirty_at other table) (λ first. position ≤ first)
