-- What a page is: as a device has it, and after images.
use Rattle.std.specs.Prelude.{◌≡◌, ℕ, ◌≤◌, ◌*◌, ◌-◌, ◌==◌, Bool, IsTrue, if◌then◌else◌, List, ◌++◌, length, take, drop, replicate, reverse, fold, find, Option, Some, option_and_then, IfSome, Result, Ok, Err}
use Rattle.std.specs.Option.{option_map_or}
use Rattle.ct_frames.specs.declared.fault.FrameFault.{FrameFault}
use Rattle.ct_frames.specs.declared.image.Image.{Image}
use Rattle.ct_frames.specs.declared.frame.Frame.{Frame}
use Rattle.ct_frames.specs.declared.table.FrameTable.{FrameTable}
use Rattle.ct_frames.specs.Tables.{frame_at, after_image}
use Rattle.ct_page.specs.Headers.{with_position}

-- a page of a device with this content: the bytes past its end are zero
abbrev pub page_in : List ℕ → ℕ → List ℕ
page_in content page = take 4096 (drop (4096 * page) content ++ replicate 4096 0)

-- these bytes were read as a page of a device of this size and, where it tells one, of this content
pub record IsPageRead (tells : Bool) (content : List ℕ) (size page : ℕ) (bytes : List ℕ) : Type 0 where
  pub read : IsTrue tells → bytes ≡ page_in content page
  pub past : let left = size - 4096 * page in drop left bytes ≡ replicate (4096 - left) 0

-- the image of a page: its number, its bytes, and the position of its group
pub record PageImage : Type 0 where
  pub page : ℕ
  pub bytes : List ℕ
  pub position : ℕ

-- the image of a page with these bytes, at this position
abbrev pub an_image : ℕ → List ℕ → ℕ → PageImage
an_image page bytes position = record { page = page; bytes = bytes; position = position }

-- an image, by its value
abbrev pub image_of : Image → PageImage
image_of image = an_image image.page image.bytes.now image.position

-- the bytes of an image, with its position in the header
abbrev pub placed : PageImage → List ℕ
placed image = with_position image.position image.bytes

-- the last image of a page among these
abbrev pub last_image : List PageImage → ℕ → Option PageImage
last_image images page = find (λ image. image.page == page) (reverse images)

-- a page after images: the bytes of its last image, with its position in the header, or the page of the base
abbrev pub page_at : (ℕ → List ℕ) → List PageImage → ℕ → List ℕ
page_at base images page = option_map_or placed (last_image images page) (base page)

-- each frame that is here has its page after these images
abbrev pub ArePages : (ℕ → List ℕ) → List PageImage → FrameTable → Type 0
ArePages base images table = (page : ℕ) → IfSome (frame_at page table) (λ frame. frame.bytes ≡ page_at base images page)

-- the frame of a page once an image was placed
abbrev pub frame_after : ℕ → Option Frame → PageImage → Option Frame
frame_after page frame image = if image.page == page then Some (after_image (option_and_then (λ frame. frame.dirty_since) frame) image.bytes image.position) else frame

-- the new table has the frames of the old one once these images were placed, one after the other
abbrev pub PlacesAll : List PageImage → FrameTable → FrameTable → Type 0
PlacesAll images old new = (page : ℕ) → frame_at page new ≡ fold (frame_after page) (frame_at page old) images

-- what is placed of these images, by the answer: all of them, or a first part
abbrev pub ReplaysAll : Result Unit FrameFault → List PageImage → FrameTable → FrameTable → Type 0
ReplaysAll (Ok _) images old new = PlacesAll images old new
ReplaysAll (Err _) images old new = (count : ℕ) × (count ≤ length images) × PlacesAll (take count images) old new
