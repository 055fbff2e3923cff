-- The steps of a flush on a device, by what its calls ensure.
use Rattle.std.proofs.Common.{◌≡◌, IsErr, inl, ◌+◌, ℕ, List, [], ◌∷◌, ◌++◌, length, take, Result, Ok, Err, refl, sym, ap, ◌∙◌, subst, arith, length-append}
use Rattle.ct_disk.specs.Disk.{Torn, overlaid, Written, by_write, GoesOn, OneAfter, Only, LeavesOnly, unchanged}
use Rattle.ct_disk.specs.declared.fault.DiskError.{DiskError}
use Rattle.ct_disk.proofs.Moments.{Torn-by_write}
use Rattle.ct_log.specs.Chunks.{open_chunk, chunk_body, EndsAfter}
use Rattle.ct_log.specs.Flow.{Took, MovedOn, Ended}
use Rattle.ct_log.specs.Log.{IsLog, durable_text, text_after}
use Rattle.ct_log.specs.declared.stage.FlushAt.{FlushAt}
use Rattle.ct_log.specs.Stages.{LeftAt, ReadAt, Stands}
use Rattle.ct_log.specs.declared.flow.Flow.{Flow}
use Rattle.ct_log.specs.declared.log.Log.{Log}
use Rattle.ct_log.specs.declared.stage.Stage.{Stage}
use Rattle.ct_log.specs.declared.stage.Stage.TheVariants as AtStage
use Rattle.ct_log.specs.declared.stage.Stage.TheVariants.{Idle, Stable, Opened}
use Rattle.ct_log.proofs.Steps.{length_front, front_is, ends_failed, body_written, gate_written, body_failed, length-open_chunk, chunk_ended, ends_chunk, body_stands, one_call}

-- the text before the gate has its length
pub read_length : (stage : Stage) (n : ℕ) (groups c : List ℕ) → ReadAt stage (take n c) groups c → length (take n c) ≡ n
read_length Idle n groups c ends = length_front n ends.gate c ends.behind ends.parts
read_length AtStage.Written n groups c read = length_front n read.0 c (chunk_body groups ++ (read.2).behind) (read.2).parts
read_length Stable n groups c read = length_front n read.0 c (chunk_body groups ++ (read.1).behind) (read.1).parts
read_length Opened n groups c body = length_front n 1 c (chunk_body groups ++ body.behind) body.parts

-- what a crash may leave stands for the text, or for that and the chunk
pub left_stands : (stage : Stage) (text groups c : List ℕ) → LeftAt stage text groups c → Stands text groups c
left_stands Idle text groups c ends = inl ends
left_stands AtStage.Written text groups c ends = inl ends
left_stands Stable text groups c body = body_stands body.0 text groups c body.1
left_stands Opened text groups c body = body_stands body.0 text groups c body.1

-- and so does what a read gives
pub read_stands : (stage : Stage) (text groups c : List ℕ) → ReadAt stage text groups c → Stands text groups c
read_stands Idle text groups c ends = inl ends
read_stands AtStage.Written text groups c read = body_stands read.0 text groups c read.2
read_stands Stable text groups c body = body_stands body.0 text groups c body.1
read_stands Opened text groups c body = body_stands 1 text groups c body

-- a step that fails leaves the text
pub text_failed : (result : Result FlushAt DiskError) (text groups : List ℕ) → IsErr result → text_after result text groups ≡ text
text_failed (Ok at) text groups failed = cc
text_failed (Err error) text groups failed = refl

-- facts by stage, at equal values
shifted : (F : Stage → List ℕ → List ℕ → List ℕ → Type 0) (s s' : Stage) (t t' g g' c : List ℕ) → s ≡ s' → t ≡ t' → g ≡ g' → F s' t' g' c → F s t g c
shifted F s s' t t' g g' c same_stage same_text same_groups fact =
    let P : Stage → Type 0 = λ x. F x t g c in
    let Q : List ℕ → Type 0 = λ x. F s' x g c in
    let R : List ℕ → Type 0 = λ x. F s' t' x c in
    subst P (sym same_stage) (subst Q (sym same_text) (subst R (sym same_groups) fact))

module _ {D : Type 0} (content : D → List ℕ) (may_leave : D → List ℕ → Type 0) where
  pub is_log : (log : Log D) (stage : Stage) (text groups : List ℕ) → log.flow.stage ≡ stage → log.flow.taken ≡ groups → durable_text content log ≡ text
      → ReadAt stage text groups (content log.device) → ((c : List ℕ) → may_leave log.device c → LeftAt stage text groups c) → IsLog content may_leave log
  is_log log stage text groups at_stage taken same read left = record {
    read = shifted ReadAt log.flow.stage stage (durable_text content log) text log.flow.taken groups (content log.device) at_stage same taken read;
    left = λ c now. shifted LeftAt log.flow.stage stage (durable_text content log) text log.flow.taken groups c at_stage same taken (left c now);
  }

  pub read_at : (log : Log D) (stage : Stage) → IsLog content may_leave log → log.flow.stage ≡ stage → ReadAt stage (durable_text content log) log.flow.taken (content log.device)
  read_at log stage is at_stage = let P : Stage → Type 0 = λ s. ReadAt s (durable_text content log) log.flow.taken (content log.device) in subst P at_stage is.read

  pub left_at : (log : Log D) (stage : Stage) → IsLog content may_leave log → log.flow.stage ≡ stage → (c : List ℕ) → may_leave log.device c → LeftAt stage (durable_text content log) log.flow.taken c
  left_at log stage is at_stage c now = let P : Stage → Type 0 = λ s. LeftAt s (durable_text content log) log.flow.taken c in subst P at_stage (is.left c now)

  pub length-text : (log : Log D) → IsLog content may_leave log → length (durable_text content log) ≡ log.flow.end
  length-text log is = read_length log.flow.stage log.flow.end log.flow.taken (content log.device) is.read

  -- a log whose text is followed by the gate alone
  pub begun : (log : Log D) (text : List ℕ) → length text ≡ log.flow.end → log.flow.stage ≡ Idle → content log.device ≡ text ++ 0 ∷ [] → Only (content log.device) (may_leave log.device)
      → IsLog content may_leave log × (durable_text content log ≡ text)
  begun log text long stage is only =
      let P : List ℕ → Type 0 = λ c. EndsAfter text c in
      let ends : P (content log.device) = record { gate = 0; behind = []; is_closed = omega arith; parts = is } in
      let same = front_is log.flow.end text (0 ∷ []) (content log.device) long is in
      (is_log log Idle text log.flow.taken stage refl same ends (λ c now. subst P (sym (only c now)) ends), same)

  -- the text where the bytes still begin with it
  same_text : (old new : Log D) (rest : List ℕ) → IsLog content may_leave old → new.flow.end ≡ old.flow.end → content new.device ≡ durable_text content old ++ rest → durable_text content new ≡ durable_text content old
  same_text old new rest is end parts =
      ap (λ n. take n (content new.device)) end ∙ front_is old.flow.end (durable_text content old) rest (content new.device) (length-text old is) parts

  -- the body is written
  pub body_put : (old new : Log D) → IsLog content may_leave old → Took old.flow new.flow
      → content new.device ≡ overlaid (content old.device) (old.flow.end + 1) (chunk_body old.flow.waiting)
      → ((c : List ℕ) → may_leave new.device c → EndsAfter (durable_text content old) c)
      → IsLog content may_leave new × (durable_text content new ≡ durable_text content old)
  body_put old new is took put left =
      let text = durable_text content old in
      let long = length-text old is in
      let read = body_written text old.flow.waiting (content old.device) (content new.device) (old.flow.end + 1) (omega arith) (read_at old Idle is took.was) put in
      let same = same_text old new (read.0 ∷ (chunk_body old.flow.waiting ++ (read.2).behind)) is took.end (read.2).parts in
      (is_log new AtStage.Written text old.flow.waiting took.stage took.taken same read left, same)

  -- the body is not written, or not all of it
  pub body_not_put : (old new : Log D) (at : ℕ) → at ≡ old.flow.end + 1 → (error : DiskError) (put : List ℕ) → IsLog content may_leave old → old.flow.stage ≡ Idle → new.flow ≡ old.flow
      → Written (Err error) at put (content old.device) (content new.device)
      → ((c : List ℕ) → may_leave new.device c → EndsAfter (durable_text content old) c)
      → IsLog content may_leave new × (durable_text content new ≡ durable_text content old)
  body_not_put old new at place error put is stage flow written left =
      let text = durable_text content old in
      let long = length-text old is in
      let ends = ends_failed error text put (content old.device) (content new.device) at (omega arith) (read_at old Idle is stage) written in
      let same = same_text old new (ends.gate ∷ ends.behind) is (ap (λ (f : Flow). f.end) flow) ends.parts in
      (is_log new Idle text old.flow.taken (ap (λ (f : Flow). f.stage) flow ∙ stage) (ap (λ (f : Flow). f.taken) flow) same ends left, same)

  -- the body is stable
  pub body_synced : (old new : Log D) → IsLog content may_leave old → MovedOn AtStage.Written Stable old.flow new.flow → content new.device ≡ content old.device
      → Only (content old.device) (may_leave new.device) → IsLog content may_leave new × (durable_text content new ≡ durable_text content old)
  body_synced old new is moved content_same only =
      let text = durable_text content old in
      let read = read_at old AtStage.Written is moved.was in
      let same = same_text old new (read.0 ∷ (chunk_body old.flow.taken ++ (read.2).behind)) is moved.end (content_same ∙ (read.2).parts) in
      let P : List ℕ → Type 0 = λ c. LeftAt Stable text old.flow.taken c in
      let here : P (content old.device) = (read.0, read.2) in
      (is_log new Stable text old.flow.taken moved.stage moved.taken same (subst P (sym content_same) here) (λ c now. subst P (sym (only c now)) here), same)

  -- the gate is written
  pub gate_put : (old new : Log D) → IsLog content may_leave old → MovedOn Stable Opened old.flow new.flow
      → content new.device ≡ overlaid (content old.device) old.flow.end (1 ∷ [])
      → ((c : List ℕ) → may_leave new.device c → LeftAt Stable (durable_text content old) old.flow.taken c)
      → IsLog content may_leave new × (durable_text content new ≡ durable_text content old)
  gate_put old new is moved put left =
      let text = durable_text content old in
      let long = length-text old is in
      let was = read_at old Stable is moved.was in
      let read = gate_written was.0 text old.flow.taken (content old.device) (content new.device) old.flow.end (sym long) was.1 put in
      let same = same_text old new (1 ∷ (chunk_body old.flow.taken ++ read.behind)) is moved.end read.parts in
      (is_log new Opened text old.flow.taken moved.stage moved.taken same read left, same)

  -- the gate is not written, or any byte in its place
  pub gate_not_put : (old new : Log D) (at : ℕ) → at ≡ old.flow.end → (error : DiskError) → IsLog content may_leave old → old.flow.stage ≡ Stable → new.flow ≡ old.flow
      → Written (Err error) at (1 ∷ []) (content old.device) (content new.device)
      → ((c : List ℕ) → may_leave new.device c → LeftAt Stable (durable_text content old) old.flow.taken c)
      → IsLog content may_leave new × (durable_text content new ≡ durable_text content old)
  gate_not_put old new at place error is stage flow written left =
      let text = durable_text content old in
      let long = length-text old is in
      let was = read_at old Stable is stage in
      let read = body_failed error was.0 text old.flow.taken (content old.device) (content new.device) at (place ∙ sym long) was.1 written in
      let same = same_text old new (read.0 ∷ (chunk_body old.flow.taken ++ (read.1).behind)) is (ap (λ (f : Flow). f.end) flow) (read.1).parts in
      (is_log new Stable text old.flow.taken (ap (λ (f : Flow). f.stage) flow ∙ stage) (ap (λ (f : Flow). f.taken) flow) same read left, same)

  -- the gate is stable, and the text is longer by the chunk
  pub gate_synced : (old new : Log D) → IsLog content may_leave old → Ended old.flow new.flow → content new.device ≡ content old.device
      → Only (content old.device) (may_leave new.device) → IsLog content may_leave new × (durable_text content new ≡ durable_text content old ++ open_chunk old.flow.taken)
  gate_synced old new is ended content_same only =
      let text = durable_text content old in
      let chunk = open_chunk old.flow.taken in
      let long = length-text old is in
      let body = read_at old Opened is ended.was in
      let whole = chunk_ended text old.flow.taken (content old.device) body in
      let longer : length (text ++ chunk) ≡ new.flow.end = omega (arith, long, ended.end, length-append text chunk, length-open_chunk old.flow.taken) in
      let same : durable_text content new ≡ text ++ chunk = front_is new.flow.end (text ++ chunk) (0 ∷ whole.0) (content new.device) longer (content_same ∙ whole.1) in
      let P : List ℕ → Type 0 = λ c. EndsAfter (text ++ chunk) c in
      let here : P (content old.device) = ends_chunk text old.flow.taken (content old.device) body in
      (is_log new Idle (text ++ chunk) [] ended.stage ended.taken same (subst P (sym content_same) here) (λ c now. subst P (sym (only c now)) here), same)

module _ {D : Type 0} (may_leave : D → List ℕ → Type 0) (left_since : D → D → List ℕ → Type 0) (old new : D) (stage : Stage) (text groups : List ℕ)
    (left : (c : List ℕ) → may_leave old c → LeftAt stage text groups c) where
  -- what a write leaves of what a torn one keeps
  pub left_by_write : (result : Result Unit DiskError) (at n : ℕ) → ((d c : List ℕ) → LeftAt stage text groups d → Torn at n d c → LeftAt stage text groups c)
      → (c : List ℕ) → OneAfter (may_leave old) (by_write result at n) c → LeftAt stage text groups c
  left_by_write result at n keeps c one = keeps one.0 c (left one.0 one.1) (Torn-by_write result at n one.0 c one.2)

  -- what a sync leaves while it goes on
  pub left_by_sync : (c : List ℕ) → OneAfter (may_leave old) unchanged c → LeftAt stage text groups c
  left_by_sync c one = let P : List ℕ → Type 0 = λ l. LeftAt stage text groups l in subst P (sym one.2) (left one.0 one.1)

  -- a call leaves the text, or that and the chunk, at any moment
  pub stands_through : (step : List ℕ → List ℕ → Type 0) → GoesOn may_leave left_since step old new → ((c : List ℕ) → left_since old old c → may_leave old c)
      → ((c : List ℕ) → OneAfter (may_leave old) step c → LeftAt stage text groups c) → LeavesOnly left_since (Stands text groups) old new
  stands_through step goes only_now after =
      one_call may_leave left_since step old new (Stands text groups) goes only_now
      (λ c now. left_stands stage text groups c (left c now))
      (λ c one. left_stands stage text groups c (after c one))
