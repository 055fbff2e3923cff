-- How the calls of a disk with a history go on.
use Rattle.std.proofs.Common.{◌≡◌, ◌⊎◌, inl, inr, ℕ, List, ◌∷◌, length, refl, subst}
use Rattle.ct_disk.specs.Disk.{GoesOn, OneAfter, unchanged}
use Rattle.ct_disk.specs.History.{Event, synced, shown, Leaves, LeavesSince, Syncs}
use Rattle.ct_disk.specs.HistoryLaws.{Leaves-shown}
use Rattle.ct_disk.specs.MemDisk.{history_of, MayLeave, LeftSince}
use Rattle.ct_disk.specs.declared.mem_disk.MemDisk.{MemDisk}

-- a call that adds an event
pub GoesOn-event : {D : Type 0} (history : D → List Event) (step : List ℕ → List ℕ → Type 0) (old new : D) (event : Event) → history new ≡ event ∷ history old → ((c : List ℕ) → Leaves (event ∷ history old) c → OneAfter (Leaves (history old)) step c) → GoesOn (λ d c. Leaves (history d) c) (λ from d c. LeavesSince (length (history from)) (history d) c) step old new
GoesOn-event {D = D} history step old new event added stepped = record {
  now = λ c left. stepped c (let P : List Event → Type 0 = λ events. Leaves events c in subst P added left);
  past = λ from c left. earlier from c (let P : List Event → Type 0 = λ events. LeavesSince (length (history from)) events c in subst P added left);
}
  where
    earlier : (from : D) (c : List ℕ) → LeavesSince (length (history from)) (event ∷ history old) c → LeavesSince (length (history from)) (history old) c ⊎ OneAfter (Leaves (history old)) step c
    earlier from c (inl left) = inr (stepped c left)
    earlier from c (inr before) = inl before.1

-- a call that adds none
pub GoesOn-same : {D : Type 0} (history : D → List Event) (step : List ℕ → List ℕ → Type 0) (old new : D) → history new ≡ history old → ((c : List ℕ) → step c c) → GoesOn (λ d c. Leaves (history d) c) (λ from d c. LeavesSince (length (history from)) (history d) c) step old new
GoesOn-same history step old new same stays = record {
  now = λ c left. (c, (let P : List Event → Type 0 = λ events. Leaves events c in subst P same left), stays c);
  past = λ from c left. inl (let P : List Event → Type 0 = λ events. LeavesSince (length (history from)) events c in subst P same left);
}

-- a sync that succeeds
pub GoesOn_syncs : (old new : MemDisk) → Syncs (history_of old) (history_of new) → GoesOn MayLeave LeftSince unchanged old new
GoesOn_syncs old new (inl added) = GoesOn-event history_of unchanged old new synced added (λ c left. (shown (history_of old), Leaves-shown (history_of old), left))
GoesOn_syncs old new (inr none) = GoesOn-same history_of unchanged old new none.2 (λ c. refl)
