-- What the calls of a disk do to its content, what a crash may leave of them, and how its counts go.
use Rattle.std.specs.Prelude.{◌≡◌, ◌<◌, ◌≤◌, ◌+◌, ◌-◌, ◌^◌, ◌⊎◌, ℕ, min, max, List, ◌++◌, length, take, drop, replicate, slice_index, Result, Ok, Err, OnErr, IsErrOf}
use Rattle.ct_disk.specs.declared.fault.DiskError.{DiskError}
use Rattle.ct_disk.specs.declared.fault.DiskError.TheVariants.{Fault, Memory}

-- these bytes over what stands at this place, behind zeros where the old end comes before it
abbrev pub overlaid : List ℕ → ℕ → List ℕ → List ℕ
overlaid old at bytes = take at old ++ replicate (at - length old) 0 ++ bytes ++ drop (at + length bytes) old

-- cut to this length, or lengthened to it with zeros
abbrev pub resized : List ℕ → ℕ → List ℕ
resized old len = take len old ++ replicate (len - length old) 0

-- what any part of a write of n bytes may leave: the bytes outside its range are as they were, and what it adds may be any bytes
pub record Torn (at n : ℕ) (old new : List ℕ) : Type 0 where
  pub no_shorter : length old ≤ length new
  pub no_longer : length new ≤ max (length old) (at + n)
  pub before : (k : ℕ) → k < length old → k < at → slice_index new k ≡ slice_index old k
  pub behind : (k : ℕ) → k < length old → at + n ≤ k → slice_index new k ≡ slice_index old k

-- what any part of a cut may leave: a length between the old one and the new one, and below both the bytes as they were
pub record Bent (len : ℕ) (old new : List ℕ) : Type 0 where
  pub no_shorter : min (length old) len ≤ length new
  pub no_longer : length new ≤ max (length old) len
  pub front : (k : ℕ) → k < length old → k < len → slice_index new k ≡ slice_index old k

-- the content after a write, by its answer
abbrev pub Written : Result Unit DiskError → ℕ → List ℕ → List ℕ → List ℕ → Type 0
Written (Ok _) at bytes old new = new ≡ overlaid old at bytes
Written (Err Fault) at bytes old new = Torn at (length bytes) old new
Written (Err Memory) at bytes old new = new ≡ old

-- the content after a cut, by its answer
abbrev pub Resized : Result Unit DiskError → ℕ → List ℕ → List ℕ → Type 0
Resized (Ok _) len old new = new ≡ resized old len
Resized (Err Fault) len old new = Bent len old new
Resized (Err Memory) len old new = new ≡ old

-- the size after a write of n bytes, by its answer
abbrev pub SizedByWrite : Result Unit DiskError → ℕ → ℕ → ℕ → ℕ → Type 0
SizedByWrite (Ok _) at n old new = new ≡ max old (at + n)
SizedByWrite (Err Fault) at n old new = (old ≤ new) × (new ≤ max old (at + n))
SizedByWrite (Err Memory) at n old new = new ≡ old

-- the size after a cut, by its answer
abbrev pub SizedByCut : Result Unit DiskError → ℕ → ℕ → ℕ → Type 0
SizedByCut (Ok _) len old new = new ≡ len
SizedByCut (Err Fault) len old new = (new ≡ old) ⊎ (new ≡ len)
SizedByCut (Err Memory) len old new = new ≡ old

-- what a write does to an image that a crash before it might have left, by its answer
abbrev pub by_write : Result Unit DiskError → ℕ → ℕ → List ℕ → List ℕ → Type 0
by_write (Ok _) at n old new = Torn at n old new
by_write (Err Fault) at n old new = Torn at n old new
by_write (Err Memory) at n old new = new ≡ old

-- what a cut does to an image that a crash before it might have left, by its answer
abbrev pub by_cut : Result Unit DiskError → ℕ → List ℕ → List ℕ → Type 0
by_cut (Ok _) len old new = Bent len old new
by_cut (Err Fault) len old new = Bent len old new
by_cut (Err Memory) len old new = new ≡ old

-- what a call that changes nothing does to an image
abbrev pub unchanged : List ℕ → List ℕ → Type 0
unchanged old new = new ≡ old

-- one of the images, after a step
abbrev pub OneAfter : (List ℕ → Type 0) → (List ℕ → List ℕ → Type 0) → List ℕ → Type 0
OneAfter images step c = (d : List ℕ) × images d × step d c

-- what two calls do to an image, one after the other
abbrev pub Then : (List ℕ → List ℕ → Type 0) → (List ℕ → List ℕ → Type 0) → List ℕ → List ℕ → Type 0
Then first second old new = (mid : List ℕ) × first old mid × second mid new

-- One call: each image that a crash may leave after it or may have left during it is one from before it, after a step.
pub record GoesOn {D : Type 0} (may_leave : D → List ℕ → Type 0) (left_since : D → D → List ℕ → Type 0) (step : List ℕ → List ℕ → Type 0) (old new : D) : Type 0 where
  pub now : (c : List ℕ) → may_leave new c → OneAfter (may_leave old) step c
  -- for a run that began earlier
  pub past : (from : D) (c : List ℕ) → left_since from new c → left_since from old c ⊎ OneAfter (may_leave old) step c

-- A run of any calls: each image that a crash may have left since its start has P.
pub record LeavesOnly {D : Type 0} (left_since : D → D → List ℕ → Type 0) (P : List ℕ → Type 0) (old new : D) : Type 0 where
  pub each : (c : List ℕ) → left_since old new c → P c
  -- for a run that began earlier
  pub before : (from : D) (c : List ℕ) → left_since from new c → left_since from old c ⊎ P c

-- each of the images has P
abbrev pub AllImages : (List ℕ → Type 0) → (List ℕ → Type 0) → Type 0
AllImages P images = (c : List ℕ) → images c → P c

-- a crash leaves this and nothing else
abbrev pub Only : List ℕ → (List ℕ → Type 0) → Type 0
Only content images = (c : List ℕ) → images c → c ≡ content

-- a count after one more, which stops at the last number of 64 bits
abbrev pub raised : ℕ → ℕ
raised n = min (n + 1) (2 ^ 64 - 1)

-- the count has risen, or stands at its end
abbrev pub Rose : ℕ → ℕ → Type 0
Rose before now = raised before ≤ now

-- a call that can only fail by the disk: it fails only where the count of faults has risen
pub record CountsFault {T E : Type 0} (before now : ℕ) (result : Result T E) : Type 0 where
  pub later : before ≤ now
  pub fault : OnErr result (Rose before now)

-- a call that answers Fault does so only where the count of faults has risen
pub record HasCause {T : Type 0} (before now : ℕ) (result : Result T DiskError) : Type 0 where
  pub later : before ≤ now
  pub fault : IsErrOf result Fault → Rose before now
