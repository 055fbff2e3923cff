-- How the crash clauses of calls made one after another compose.
use Rattle.std.proofs.Common.{inl, inr, ℕ, List, Result, Ok, Err, refl, sym, subst, arith}
use Rattle.ct_disk.specs.Disk.{Torn, Bent, GoesOn, OneAfter, Then, LeavesOnly, AllImages, unchanged, by_write, by_cut}
use Rattle.ct_disk.specs.declared.fault.DiskError.{DiskError}
use Rattle.ct_disk.specs.declared.fault.DiskError.TheVariants.{Fault, Memory}

-- no part of a write may have happened
pub Torn-same : (at n : ℕ) (c : List ℕ) → Torn at n c c
Torn-same at n c = record {
  no_shorter = omega arith;
  no_longer = omega arith;
  before = λ k within below. refl;
  behind = λ k within above. refl;
}

-- no part of a cut may have happened
pub Bent-same : (len : ℕ) (c : List ℕ) → Bent len c c
Bent-same len c = record {
  no_shorter = omega arith;
  no_longer = omega arith;
  front = λ k within below. refl;
}

-- a write leaves what some part of it leaves, whatever it answers
pub Torn-by_write : (result : Result Unit DiskError) (at n : ℕ) (d c : List ℕ) → by_write result at n d c → Torn at n d c
Torn-by_write (Ok _) at n d c step = step
Torn-by_write (Err Fault) at n d c step = step
Torn-by_write (Err Memory) at n d c step = let P : List ℕ → Type 0 = λ x. Torn at n d x in subst P (sym step) (Torn-same at n d)

-- a cut leaves what some part of it leaves, whatever it answers
pub Bent-by_cut : (result : Result Unit DiskError) (len : ℕ) (d c : List ℕ) → by_cut result len d c → Bent len d c
Bent-by_cut (Ok _) len d c step = step
Bent-by_cut (Err Fault) len d c step = step
Bent-by_cut (Err Memory) len d c step = let P : List ℕ → Type 0 = λ x. Bent len d x in subst P (sym step) (Bent-same len d)

-- a step may be read as a wider one
pub GoesOn-wider : {D : Type 0} (may_leave : D → List ℕ → Type 0) (left_since : D → D → List ℕ → Type 0) (step wide : List ℕ → List ℕ → Type 0) (old new : D) → ((d c : List ℕ) → step d c → wide d c) → GoesOn may_leave left_since step old new → GoesOn may_leave left_since wide old new
GoesOn-wider may_leave left_since step wide old new widen goes = record {
  now = λ c left. widened c (goes.now c left);
  past = λ from c left. elim (goes.past from c left) [ inl earlier ↦ inl earlier | inr one ↦ inr (widened c one) ];
}
  where
    widened : (c : List ℕ) → OneAfter (may_leave old) step c → OneAfter (may_leave old) wide c
    widened c one = (one.0, one.1, widen one.0 c one.2)

-- one call after another, of which the second may do nothing to an image
pub GoesOn-then : {D : Type 0} (may_leave : D → List ℕ → Type 0) (left_since : D → D → List ℕ → Type 0) (step next : List ℕ → List ℕ → Type 0) (old mid new : D) → ((c : List ℕ) → next c c) → GoesOn may_leave left_since step old mid → GoesOn may_leave left_since next mid new → GoesOn may_leave left_since (Then step next) old new
GoesOn-then may_leave left_since step next old mid new stays first second = record {
  now = λ c left. both c (second.now c left);
  past = λ from c left. elim (second.past from c left) [ inl earlier ↦ elim (first.past from c earlier) [ inl before ↦ inl before | inr one ↦ inr (alone c one) ] | inr one ↦ inr (both c one) ];
}
  where
    both : (c : List ℕ) → OneAfter (may_leave mid) next c → OneAfter (may_leave old) (Then step next) c
    both c one = let before = first.now one.0 one.1 in (before.0, before.1, (one.0, before.2, one.2))

    alone : (c : List ℕ) → OneAfter (may_leave old) step c → OneAfter (may_leave old) (Then step next) c
    alone c one = (one.0, one.1, (c, one.2, stays c))

-- a call that changes nothing, after another
pub GoesOn-then_unchanged : {D : Type 0} (may_leave : D → List ℕ → Type 0) (left_since : D → D → List ℕ → Type 0) (step : List ℕ → List ℕ → Type 0) (old mid new : D) → GoesOn may_leave left_since step old mid → GoesOn may_leave left_since unchanged mid new → GoesOn may_leave left_since step old new
GoesOn-then_unchanged may_leave left_since step old mid new first second = record {
  now = λ c left. before c (second.now c left);
  past = λ from c left. elim (second.past from c left) [ inl earlier ↦ first.past from c earlier | inr one ↦ inr (before c one) ];
}
  where
    before : (c : List ℕ) → OneAfter (may_leave mid) unchanged c → OneAfter (may_leave old) step c
    before c one = let P : List ℕ → Type 0 = λ x. OneAfter (may_leave old) step x in subst P (sym one.2) (first.now one.0 one.1)

-- what a call leaves where each image before it had P
pub AllImages-step : {D : Type 0} (may_leave : D → List ℕ → Type 0) (left_since : D → D → List ℕ → Type 0) (step : List ℕ → List ℕ → Type 0) (old new : D) (P Q : List ℕ → Type 0) → AllImages P (may_leave old) → ((d c : List ℕ) → P d → step d c → Q c) → GoesOn may_leave left_since step old new → AllImages Q (may_leave new)
AllImages-step may_leave left_since step old new P Q all leads goes c left = let one = goes.now c left in leads one.0 c (all one.0 one.1) one.2

-- what a run of no calls leaves
pub LeavesOnly-start : {D : Type 0} (may_leave : D → List ℕ → Type 0) (left_since : D → D → List ℕ → Type 0) (P : List ℕ → Type 0) (disk : D) → ((c : List ℕ) → left_since disk disk c → may_leave disk c) → AllImages P (may_leave disk) → LeavesOnly left_since P disk disk
LeavesOnly-start may_leave left_since P disk only_now all = record {
  each = λ c left. all c (only_now c left);
  before = λ from c left. inl left;
}

-- what a run leaves after one more call
pub LeavesOnly-step : {D : Type 0} (may_leave : D → List ℕ → Type 0) (left_since : D → D → List ℕ → Type 0) (step : List ℕ → List ℕ → Type 0) (P Q : List ℕ → Type 0) (old mid new : D) → LeavesOnly left_since P old mid → AllImages Q (may_leave mid) → ((d c : List ℕ) → Q d → step d c → P c) → GoesOn may_leave left_since step mid new → LeavesOnly left_since P old new
LeavesOnly-step may_leave left_since step P Q old mid new run all leads goes = record {
  each = λ c left. elim (goes.past old c left) [ inl earlier ↦ run.each c earlier | inr one ↦ led c one ];
  before = λ from c left. elim (goes.past from c left) [ inl earlier ↦ run.before from c earlier | inr one ↦ inr (led c one) ];
}
  where
    led : (c : List ℕ) → OneAfter (may_leave mid) step c → P c
    led c one = leads one.0 c (all one.0 one.1) one.2

-- what one run leaves after another
pub LeavesOnly-join : {D : Type 0} (left_since : D → D → List ℕ → Type 0) (P : List ℕ → Type 0) (old mid new : D) → LeavesOnly left_since P old mid → LeavesOnly left_since P mid new → LeavesOnly left_since P old new
LeavesOnly-join left_since P old mid new first second = record {
  each = λ c left. elim (second.before old c left) [ inl earlier ↦ first.each c earlier | inr had ↦ had ];
  before = λ from c left. elim (second.before from c left) [ inl earlier ↦ first.before from c earlier | inr had ↦ inr had ];
}

-- what a run leaves may be said more widely
pub LeavesOnly-wider : {D : Type 0} (left_since : D → D → List ℕ → Type 0) (P Q : List ℕ → Type 0) (old new : D) → ((c : List ℕ) → P c → Q c) → LeavesOnly left_since P old new → LeavesOnly left_since Q old new
LeavesOnly-wider left_since P Q old new widen run = record {
  each = λ c left. widen c (run.each c left);
  before = λ from c left. elim (run.before from c left) [ inl earlier ↦ inl earlier | inr had ↦ inr (widen c had) ];
}
