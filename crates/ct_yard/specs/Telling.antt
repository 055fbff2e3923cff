-- What a device tells contracts, as one value.
use Rattle.std.specs.Prelude.{ℕ, List, Bool}

-- whether it tells, how often it has failed, what a read gives, and the images that a crash may leave now and may have left since an earlier moment
pub record Telling (D : Type 0) : Type 1 where
  pub tells : Bool
  pub faults : D → ℕ
  pub content : D → List ℕ
  pub may_leave : D → List ℕ → Type 0
  pub left_since : D → D → List ℕ → Type 0

-- the same, of the members of `Disk` in their order
abbrev pub telling : {D : Type 0} → Bool → (D → ℕ) → (D → List ℕ) → (D → List ℕ → Type 0) → (D → D → List ℕ → Type 0) → Telling D
telling tells faults content may_leave left_since = record { tells = tells; faults = faults; content = content; may_leave = may_leave; left_since = left_since }

-- the same device, told of where this is so
abbrev pub told_where : {D : Type 0} → Bool → Telling D → Telling D
told_where founded disk = record disk { tells = founded }
