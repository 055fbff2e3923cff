-- What an open file is as a disk, apart from its bytes.
use Rattle.std.specs.Prelude.{◌≡◌, ℕ, Bool, false, IsTrue, IsErr, Result}

-- its length by its own calls, the greatest that it may get, whether a sync has failed, how many calls were made, how many of them read, and how often one failed
pub record OpenFile : Type 0 where
  pub size : ℕ
  pub limit : ℕ
  pub is_lost : Bool
  pub reads : ℕ
  pub calls : ℕ
  pub faults : ℕ

-- no call was made
pub record IsFresh (file : OpenFile) : Type 0 where
  pub is_lost : file.is_lost ≡ false
  pub reads : file.reads ≡ 0
  pub calls : file.calls ≡ 0
  pub faults : file.faults ≡ 0

-- a call on a file of which a sync has failed: it fails, and so does each later one
pub record StaysLost {T E : Type 0} (old new : OpenFile) (result : Result T E) : Type 0 where
  pub fails : IsTrue old.is_lost → IsErr result
  pub later : IsTrue old.is_lost → IsTrue new.is_lost
