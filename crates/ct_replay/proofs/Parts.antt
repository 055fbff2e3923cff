-- The images of a first part of some groups.
use Rattle.std.proofs.Common.{◌≡◌, ℕ, zero, suc, ◌+◌, ◌<◌, List, [], ◌∷◌, ◌++◌, length, take, get_or, sym, ap, ◌∙◌, subst, append_assoc, add-one}
use native.Mathlib.Omega.{arith}
use Rattle.std.proofs.lemmas.List.{append-nil}
use Rattle.ct_group.specs.declared.group.Group.{Group}
use Rattle.ct_frames.specs.Pages.{PageImage, ArePages, PlacesAll}
use Rattle.ct_frames.specs.declared.table.FrameTable.{FrameTable}
use Rattle.ct_replay.specs.Images.{images_in, images_from}

-- the images of a first part, and those of the next group
images_from-suc : (position : ℕ) (groups : List Group) (i : ℕ) (none : Group) → i < length groups
    → images_from position (take (suc i) groups) ≡ images_from position (take i groups) ++ images_in (position + i) (get_or groups i none)
images_from-suc position [] i none within = absurd (omega (arith, within))
images_from-suc position (one ∷ more) zero none within = append-nil (images_in position one) ∙ ap (λ at. images_in at one) (omega arith)
images_from-suc position (one ∷ more) (suc i) none within =
    ap (λ rest. images_in position one ++ rest) (images_from-suc (suc position) more i none (omega (arith, within)))
    ∙ sym (append_assoc (images_in position one) (images_from (suc position) (take i more)) (images_in (suc position + i) (get_or more i none)))
    ∙ ap (λ at. (images_in position one ++ images_from (suc position) (take i more)) ++ images_in at (get_or more i none)) (omega arith)

images_from-next : (position : ℕ) (groups : List Group) (i : ℕ) (one : Group) → i < length groups → one ≡ get_or groups i one
    → images_from position (take (i + 1) groups) ≡ images_from position (take i groups) ++ images_in (position + i) one
images_from-next position groups i one within is =
    ap (λ k. images_from position (take k groups)) (add-one i) ∙ images_from-suc position groups i one within
    ∙ ap (λ group. images_from position (take i groups) ++ images_in (position + i) group) (sym is)

-- placed up to a group, and that group's
pub PlacesAll-next : (position : ℕ) (groups : List Group) (i : ℕ) (one : Group) (old new : FrameTable) → i < length groups → one ≡ get_or groups i one
    → PlacesAll (images_from position (take i groups) ++ images_in (position + i) one) old new → PlacesAll (images_from position (take (i + 1) groups)) old new
PlacesAll-next position groups i one old new within is placed = subst (λ images. PlacesAll images old new) (sym (images_from-next position groups i one within is)) placed

pub ArePages-next : (base : ℕ → List ℕ) (before : List PageImage) (position : ℕ) (groups : List Group) (i : ℕ) (one : Group) (table : FrameTable) → i < length groups → one ≡ get_or groups i one
    → ArePages base ((before ++ images_from position (take i groups)) ++ images_in (position + i) one) table → ArePages base (before ++ images_from position (take (i + 1) groups)) table
ArePages-next base before position groups i one table within is are =
    subst (λ images. ArePages base images table) (append_assoc before (images_from position (take i groups)) (images_in (position + i) one) ∙ ap (λ images. before ++ images) (sym (images_from-next position groups i one within is))) are
