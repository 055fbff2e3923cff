-- Images that are placed one after the other.
use Rattle.std.proofs.Common.{◌≡◌, ℕ, Bool, List, [], ◌∷◌, ◌++◌, ◌==◌, ◌+◌, ◌<◌, true, false, length, get_or, take, map, add-one, subst, if◌then◌else◌, Option, Some, None, refl, sym, ap, ◌∙◌, inl, inr, append_assoc}
use Rattle.std.specs.Prelude.{fold, option_and_then, IfSome}
use Rattle.std.proofs.lemmas.Bool.{cases_eq, ne_eqb, eq-eqb, cond-true, cond-false}
use Rattle.std.proofs.lemmas.List.{take-map, map-append, append-nil}
use Rattle.std.proofs.Math.Seq.{take-suc}
use Rattle.std.specs.Option.{option_map_or}
use Rattle.std.proofs.lemmas.List.Sums.{fold-append}
use Rattle.ct_frames.specs.declared.frame.Frame.{Frame}
use Rattle.ct_frames.specs.declared.image.Image.{Image}
use Rattle.ct_frames.specs.declared.table.FrameTable.{FrameTable}
use Rattle.ct_frames.specs.Tables.{frame_at, dirty_at, SameFrames, Puts, after_image, clean}
use Rattle.ct_frames.specs.Pages.{PageImage, an_image, image_of, PlacesAll, ArePages, frame_after, page_at, placed}
use Rattle.ct_frames.proofs.PageLaws.{page_at-append}

-- the frame of a page once an image was put
one_more : (image : PageImage) (table : FrameTable) (page : ℕ)
    → (if image.page == page then Some (after_image (dirty_at image.page table) image.bytes image.position) else frame_at page table) ≡ frame_after page (frame_at page table) image
one_more image table page = elim (cases_eq image.page page) [
  | inl same ↦ ap (λ other. if image.page == page then Some (after_image (dirty_at other table) image.bytes image.position) else frame_at page table) same
  | inr apart ↦ (let shut = ne_eqb image.page page apart in
      cond-false (image.page == page) (Some (after_image (dirty_at image.page table) image.bytes image.position)) (frame_at page table) shut
      ∙ sym (cond-false (image.page == page) (Some (after_image (dirty_at page table) image.bytes image.position)) (frame_at page table) shut))
]

-- images, and one more
pub PlacesAll-more : (images : List PageImage) (image : PageImage) (old mid new : FrameTable) → PlacesAll images old mid
    → Puts image.page (after_image (dirty_at image.page mid) image.bytes image.position) mid new → PlacesAll (images ++ image ∷ []) old new
PlacesAll-more images image old mid new placed_all puts = λ page.
    puts page ∙ one_more image mid page ∙ ap (λ frame. frame_after page frame image) (placed_all page)
    ∙ sym (fold-append (frame_after page) (frame_at page old) images (image ∷ []))

-- the next of some images
pub PlacesAll-next : (images : List Image) (i : ℕ) (none : Image) (old mid new : FrameTable) → i < length images → PlacesAll (take i (map image_of images)) old mid
    → (let image = get_or images i none in Puts image.page (after_image (dirty_at image.page mid) image.bytes.now image.position) mid new) → PlacesAll (take (i + 1) (map image_of images)) old new
PlacesAll-next images i none old mid new within placed_all puts =
    let image = get_or images i none in
    let more : take (i + 1) (map image_of images) ≡ take i (map image_of images) ++ image_of image ∷ [] =
    take-map image_of (i + 1) images ∙ ap (λ k. map image_of (take k images)) (add-one i) ∙ ap (map image_of) (take-suc images i none within)
    ∙ map-append image_of (take i images) (image ∷ []) ∙ ap (λ l. l ++ image_of image ∷ []) (sym (take-map image_of i images)) in
    subst (λ l. PlacesAll l old new) (sym more) (PlacesAll-more (take i (map image_of images)) (image_of image) old mid new placed_all puts)

-- the frame of a page has the page after these images
abbrev IsPage : (ℕ → List ℕ) → List PageImage → ℕ → Option Frame → Type 0
IsPage base images page frame = IfSome frame (λ one. one.bytes ≡ page_at base images page)

-- with one image more
IsPage-more : (base : ℕ → List ℕ) (images : List PageImage) (page : ℕ) (frame : Option Frame) (image : PageImage) → IsPage base images page frame → IsPage base (images ++ image ∷ []) page (frame_after page frame image)
IsPage-more base images page frame image is =
    let dirty = option_and_then (λ one. one.dirty_since) frame in
    subst (λ bytes. IfSome (frame_after page frame image) (λ one. one.bytes ≡ bytes)) (sym (page_at-append base images (image ∷ []) page))
    (elim (image.page == page) as (λ same. IfSome (if same then Some (after_image dirty image.bytes image.position) else frame) (λ one. one.bytes ≡ option_map_or placed (if same then Some image else None) (page_at base images page))) [
      | true ↦ refl
      | false ↦ is
    ])

-- with images more
IsPage-places : (base : ℕ → List ℕ) (before images : List PageImage) (page : ℕ) (frame : Option Frame) → IsPage base before page frame → IsPage base (before ++ images) page (fold (frame_after page) frame images)
IsPage-places base before [] page frame is = subst (λ images. IsPage base images page frame) (sym (append-nil before)) is
IsPage-places base before (image ∷ images) page frame is =
    subst (λ all. IsPage base all page (fold (frame_after page) frame (image ∷ images))) (append_assoc before (image ∷ []) images)
    (IsPage-places base (before ++ image ∷ []) images page (frame_after page frame image) (IsPage-more base before page frame image is))

-- once images were placed, each frame that is here has its page after them
pub ArePages-places : (base : ℕ → List ℕ) (before images : List PageImage) (old new : FrameTable) → ArePages base before old → PlacesAll images old new → ArePages base (before ++ images) new
ArePages-places base before images old new are placed_all = λ page.
    subst (λ frame. IsPage base (before ++ images) page frame) (sym (placed_all page)) (IsPage-places base before images page (frame_at page old) (are page))
