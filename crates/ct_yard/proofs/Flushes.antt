-- The four steps of a flush, one after the other.
use Rattle.std.proofs.Common.{◌≡◌, ◌≤◌, ◌+◌, ◌⊎◌, inl, inr, Some, ℕ, List, [], ◌++◌, length, Bool, IsTrue, Result, Ok, Err, refl, sym, ap, ap₂, ◌∙◌, subst, arith}
use Rattle.ct_disk.specs.Disk.{Rose, HasCause, LeavesOnly}
use Rattle.ct_disk.specs.declared.fault.DiskError.{DiskError}
use Rattle.ct_disk.specs.declared.fault.DiskError.TheVariants.{Fault, Memory}
use Rattle.ct_log.specs.Chunks.{open_chunk}
use Rattle.ct_log.specs.Flow.{Took, MovedOn, Ended, Stepped, in_flush, groups_at}
use Rattle.ct_log.specs.Log.{IsLog, durable_text, text_after}
use Rattle.ct_log.specs.Stages.{Stands}
use Rattle.ct_log.specs.declared.log.Log.{Log}
use Rattle.ct_log.specs.declared.stage.FlushAt.{FlushAt}
use Rattle.ct_log.specs.declared.stage.FlushAt.TheVariants.{Body, Sync, Gate, Done}
use Rattle.ct_log.specs.declared.stage.Stage.{Stage}
use Rattle.ct_log.specs.declared.stage.Stage.TheVariants.{Idle, Written, Stable, Opened}
use Rattle.ct_disk.proofs.Moments.{LeavesOnly-join, LeavesOnly-wider}
use Rattle.ct_log.proofs.Flushes.{left_at, left_stands}
use Rattle.ct_yard.specs.Telling.{Telling}
use Rattle.ct_yard.specs.Flushing.{halt_cause, IsFlushed, IsBroken, Flushes}
use Rattle.ct_disk.specs.declared.turn.HaltCause.TheVariants.{Write, Memory as NoRoom}
use Rattle.ct_yard.specs.declared.yard.Yard.{Yard}
use Rattle.ct_yard.specs.Machine.{HasHaltCause}
use Rattle.ct_yard.specs.Writes.{IsStopped}

-- what a step ensures
pub record Step {L : Type 0} (disk : Telling L) (result : Result FlushAt DiskError) (old new : Log L) : Type 0 where
  pub flow : Stepped result old.flow new.flow
  pub log : IsTrue disk.tells → IsLog disk.content disk.may_leave old → IsLog disk.content disk.may_leave new
  pub text : IsTrue disk.tells → IsLog disk.content disk.may_leave old → durable_text disk.content new ≡ text_after result (durable_text disk.content old) (in_flush old.flow)
  pub any_moment : IsTrue disk.tells → IsLog disk.content disk.may_leave old → LeavesOnly disk.left_since (Stands (durable_text disk.content old) (in_flush old.flow)) old.device new.device
  pub cause : HasCause (disk.faults old.device) (disk.faults new.device) result

-- the groups that waited are under way, at this stage
pub record IsUnderWay {L : Type 0} (disk : Telling L) (stage : Stage) (old new : Log L) : Type 0 where
  pub at : new.flow.stage ≡ stage
  pub taken : new.flow.taken ≡ old.flow.waiting
  pub waiting : new.flow.waiting ≡ []
  pub up_to : new.flow.taken_up_to + 1 ≡ old.flow.next
  pub end : new.flow.end ≡ old.flow.end
  pub next : new.flow.next ≡ old.flow.next
  pub log : IsTrue disk.tells → IsLog disk.content disk.may_leave old → IsLog disk.content disk.may_leave new
  pub text : IsTrue disk.tells → IsLog disk.content disk.may_leave old → durable_text disk.content new ≡ durable_text disk.content old
  pub moments : IsTrue disk.tells → IsLog disk.content disk.may_leave old → LeavesOnly disk.left_since (Stands (durable_text disk.content old) old.flow.waiting) old.device new.device
  pub faults : disk.faults old.device ≤ disk.faults new.device

-- two stages are never one
differ : {A : Type 0} (stage a b : Stage) → stage ≡ a → stage ≡ b → (a ≡ b → ⊥) → A
differ stage a b at also other = absurd (other (sym at ∙ also))

module _ {L : Type 0} (disk : Telling L) where
  -- what a step leaves, told by what the whole flush is about
  step_moments : (result : Result FlushAt DiskError) (stage : Stage) (old mid new : Log L) → IsUnderWay disk stage old mid → Step disk result mid new
      → in_flush mid.flow ≡ old.flow.waiting → IsTrue disk.tells → IsLog disk.content disk.may_leave old → LeavesOnly disk.left_since (Stands (durable_text disk.content old) old.flow.waiting) old.device new.device
  step_moments result stage old mid new way step same told is =
      LeavesOnly-join disk.left_since (Stands (durable_text disk.content old) old.flow.waiting) old.device mid.device new.device (way.moments told is)
      (LeavesOnly-wider disk.left_since (Stands (durable_text disk.content mid) (in_flush mid.flow)) (Stands (durable_text disk.content old) old.flow.waiting) mid.device new.device
      (λ c stands. subst (λ (t : List ℕ). Stands t old.flow.waiting c) (way.text told is) (subst (λ (g : List ℕ). Stands (durable_text disk.content mid) g c) same stands))
      (step.any_moment told (way.log told is)))

  -- at these stages a flush is about the groups that were taken
  about_taken : (stage : Stage) (old mid : Log L) → IsUnderWay disk stage old mid → groups_at stage mid.flow.waiting mid.flow.taken ≡ mid.flow.taken → in_flush mid.flow ≡ old.flow.waiting
  about_taken stage old mid way same = ap (λ s. groups_at s mid.flow.waiting mid.flow.taken) way.at ∙ same ∙ way.taken

  -- one step further
  further : (at : FlushAt) (from to : Stage) (old mid new : Log L) → IsUnderWay disk from old mid → Step disk (Ok at) mid new → MovedOn from to mid.flow new.flow
      → groups_at from mid.flow.waiting mid.flow.taken ≡ mid.flow.taken → text_after (Ok at) (durable_text disk.content mid) (in_flush mid.flow) ≡ durable_text disk.content mid
      → IsUnderWay disk to old new
  further at from to old mid new way step moved about same = record {
    at = moved.stage;
    taken = moved.taken ∙ way.taken;
    waiting = moved.waiting ∙ way.waiting;
    up_to = ap (λ n. n + 1) moved.taken_up_to ∙ way.up_to;
    end = moved.end ∙ way.end;
    next = moved.next ∙ way.next;
    log = λ told is. step.log told (way.log told is);
    text = λ told is. step.text told (way.log told is) ∙ same ∙ way.text told is;
    moments = step_moments (Ok at) from old mid new way step (about_taken from old mid way about);
    faults = omega (arith, way.faults, (step.cause).later);
  }

  pub first : (at : FlushAt) (old new : Log L) → old.flow.stage ≡ Idle → Step disk (Ok at) old new → IsUnderWay disk Written old new
  first Body old new idle step =
      let took : Took old.flow new.flow = step.flow in
      record { at = took.stage; taken = took.taken; waiting = took.waiting; up_to = took.taken_up_to; end = took.end; next = took.next; log = step.log; text = step.text; moments = λ told is. subst (λ (g : List ℕ). LeavesOnly disk.left_since (Stands (durable_text disk.content old) g) old.device new.device) (ap (λ s. groups_at s old.flow.waiting old.flow.taken) idle) (step.any_moment told is); faults = (step.cause).later }
  first Sync old new idle step = let moved : MovedOn Written Stable old.flow new.flow = step.flow in differ old.flow.stage Idle Written idle moved.was (λ e. cc e)
  first Gate old new idle step = let moved : MovedOn Stable Opened old.flow new.flow = step.flow in differ old.flow.stage Idle Stable idle moved.was (λ e. cc e)
  first Done old new idle step = let ended : Ended old.flow new.flow = step.flow in differ old.flow.stage Idle Opened idle ended.was (λ e. cc e)

  pub second : (at : FlushAt) (old mid new : Log L) → IsUnderWay disk Written old mid → Step disk (Ok at) mid new → IsUnderWay disk Stable old new
  second Body old mid new way step = let took : Took mid.flow new.flow = step.flow in differ mid.flow.stage Written Idle way.at took.was (λ e. cc e)
  second Sync old mid new way step = further Sync Written Stable old mid new way step step.flow refl refl
  second Gate old mid new way step = let moved : MovedOn Stable Opened mid.flow new.flow = step.flow in differ mid.flow.stage Written Stable way.at moved.was (λ e. cc e)
  second Done old mid new way step = let ended : Ended mid.flow new.flow = step.flow in differ mid.flow.stage Written Opened way.at ended.was (λ e. cc e)

  pub third : (at : FlushAt) (old mid new : Log L) → IsUnderWay disk Stable old mid → Step disk (Ok at) mid new → IsUnderWay disk Opened old new
  third Body old mid new way step = let took : Took mid.flow new.flow = step.flow in differ mid.flow.stage Stable Idle way.at took.was (λ e. cc e)
  third Sync old mid new way step = let moved : MovedOn Written Stable mid.flow new.flow = step.flow in differ mid.flow.stage Stable Written way.at moved.was (λ e. cc e)
  third Gate old mid new way step = further Gate Stable Opened old mid new way step step.flow refl refl
  third Done old mid new way step = let ended : Ended mid.flow new.flow = step.flow in differ mid.flow.stage Stable Opened way.at ended.was (λ e. cc e)

  pub fourth : (at : FlushAt) (old mid new : Log L) → IsUnderWay disk Opened old mid → Step disk (Ok at) mid new → IsFlushed disk old new
  fourth Body old mid new way step = let took : Took mid.flow new.flow = step.flow in differ mid.flow.stage Opened Idle way.at took.was (λ e. cc e)
  fourth Sync old mid new way step = let moved : MovedOn Written Stable mid.flow new.flow = step.flow in differ mid.flow.stage Opened Written way.at moved.was (λ e. cc e)
  fourth Gate old mid new way step = let moved : MovedOn Stable Opened mid.flow new.flow = step.flow in differ mid.flow.stage Opened Stable way.at moved.was (λ e. cc e)
  fourth Done old mid new way step =
      let ended : Ended mid.flow new.flow = step.flow in
      let about = about_taken Opened old mid way refl in
      record {
        at_rest = record { stage = ended.stage; taken = ended.taken; waiting = ended.waiting ∙ way.waiting; durable = ap (λ n. n + 1) ended.durable ∙ way.up_to ∙ sym (ended.next ∙ way.next) };
        next = ended.next ∙ way.next;
        end = ended.end ∙ ap₂ (λ n (groups : List ℕ). n + 5 + length groups) way.end way.taken;
        log = λ told is. step.log told (way.log told is);
        text = λ told is. step.text told (way.log told is) ∙ ap₂ (λ (text groups : List ℕ). text ++ open_chunk groups) (way.text told is) about;
        moments = step_moments (Ok Done) Opened old mid new way step about;
        faults = omega (arith, way.faults, (step.cause).later);
      }

  -- a failure with the chunk under way is a cause to halt
  cause_of : (error : DiskError) (old mid new : Log L) → disk.faults old.device ≤ disk.faults mid.device → HasCause {T = FlushAt} (disk.faults mid.device) (disk.faults new.device) (Err error) → HasHaltCause (halt_cause error) (disk.faults old.device) (disk.faults new.device)
  cause_of Fault old mid new before cause = let rose : Rose (disk.faults mid.device) (disk.faults new.device) = cause.fault refl in omega (arith, rose, before)
  cause_of Memory old mid new before cause = omega (arith, before, cause.later)

  -- a step that failed before any was made
  pub failed_first : (error : DiskError) (old new : Log L) → old.flow.stage ≡ Idle → old.flow.taken ≡ [] → Step disk (Err error) old new → IsBroken disk error old new
  failed_first error old new idle none step =
      let about : in_flush old.flow ≡ old.flow.waiting = ap (λ s. groups_at s old.flow.waiting old.flow.taken) idle in
      record {
        log = step.log;
        stands = λ told is c now.
            let left = left_at disk.content disk.may_leave new Idle (step.log told is) ((step.flow).stage ∙ idle) c now in
            subst (λ (t : List ℕ). Stands t old.flow.waiting c) (step.text told is) (inl left);
        moments = λ told is. subst (λ (g : List ℕ). LeavesOnly disk.left_since (Stands (durable_text disk.content old) g) old.device new.device) about (step.any_moment told is);
        end = (step.flow).end;
        cause = cause_of error old old new (omega arith) step.cause;
      }

  -- and then a crash leaves the log with that chunk or without it
  failed : (error : DiskError) (stage : Stage) (old mid new : Log L) → IsUnderWay disk stage old mid → Step disk (Err error) mid new
      → groups_at stage mid.flow.waiting mid.flow.taken ≡ mid.flow.taken → IsBroken disk error old new
  failed error stage old mid new way step same = record {
    log = λ told is. step.log told (way.log told is);
    stands = λ told is c now.
        let stands = left_stands new.flow.stage (durable_text disk.content new) new.flow.taken c ((step.log told (way.log told is)).left c now) in
        let text : durable_text disk.content new ≡ durable_text disk.content old = step.text told (way.log told is) ∙ way.text told is in
        let taken : new.flow.taken ≡ old.flow.waiting = (step.flow).taken ∙ way.taken in
        subst (λ (t : List ℕ). Stands t old.flow.waiting c) text (subst (λ (g : List ℕ). Stands (durable_text disk.content new) g c) taken stands);
    moments = step_moments (Err error) stage old mid new way step (about_taken stage old mid way same);
    end = (step.flow).end ∙ way.end;
    cause = cause_of error old mid new way.faults step.cause;
  }

  pub failed_at_once : (result : Result Unit DiskError) (error other : DiskError) (old new : Log L) → result ≡ Err other → other ≡ error → old.flow.stage ≡ Idle → old.flow.taken ≡ []
      → Step disk (Err error) old new → Flushes disk result old new
  failed_at_once result error other old new is same idle none step =
      subst (λ (r : Result Unit DiskError). Flushes disk r old new) (sym (is ∙ ap (λ (e : DiskError). Err e) same)) (failed_first error old new idle none step)

  pub failed_last : (result : Result Unit DiskError) (error other : DiskError) (stage : Stage) (old mid new : Log L) → result ≡ Err other → other ≡ error
      → IsUnderWay disk stage old mid → Step disk (Err error) mid new
      → groups_at stage mid.flow.waiting mid.flow.taken ≡ mid.flow.taken → Flushes disk result old new
  failed_last result error other stage old mid new is same way step about =
      subst (λ (r : Result Unit DiskError). Flushes disk r old new) (sym (is ∙ ap (λ (e : DiskError). Err e) same)) (failed error stage old mid new way step about)

  -- a flush that failed stops the yard whose group waited
  pub broken_stops : {P : Type 0} (error : DiskError) (group : List ℕ) (old new : Yard P L) (mid : Log L) → mid.device ≡ old.log.device → durable_text disk.content mid ≡ durable_text disk.content old.log
      → mid.flow.waiting ≡ group → mid.flow.end ≡ old.log.flow.end → (IsTrue disk.tells → IsLog disk.content disk.may_leave old.log → IsLog disk.content disk.may_leave mid)
      → IsBroken disk error mid new.log → new.pages ≡ old.pages → new.halt ≡ Some (halt_cause error) → new.front ≡ old.front + 1
      → IsStopped disk group (halt_cause error) old new
  broken_stops error group old new mid device text waiting end log broken pages halt front =
      let shifted : (c : List ℕ) → Stands (durable_text disk.content mid) mid.flow.waiting c → Stands (durable_text disk.content old.log) group c =
      λ c is. subst (λ (t : List ℕ). Stands t group c) text (subst (λ (g : List ℕ). Stands (durable_text disk.content mid) g c) waiting is) in
      record {
        pages = pages;
        halt = halt;
        front = front;
        end = broken.end ∙ end;
        kind = kind_of error;
        log = λ told is. broken.log told (log told is);
        stands = λ told is c now. shifted c (broken.stands told (log told is) c now);
        moments = λ told is. LeavesOnly-wider disk.left_since (Stands (durable_text disk.content mid) mid.flow.waiting) (Stands (durable_text disk.content old.log) group) old.log.device new.log.device shifted
            (subst (λ (d : L). LeavesOnly disk.left_since (Stands (durable_text disk.content mid) mid.flow.waiting) d new.log.device) device (broken.moments told (log told is)));
        why = subst (λ (d : L). HasHaltCause (halt_cause error) (disk.faults d) (disk.faults new.log.device)) device broken.cause;
      }
    where
      kind_of : (error : DiskError) → (halt_cause error ≡ Write) ⊎ (halt_cause error ≡ NoRoom)
      kind_of Fault = inl refl
      kind_of Memory = inr refl
