-- What a commit makes of the machine that a yard stands for, by how far it has come.
use Rattle.std.proofs.Common.{◌≡◌, ◌≤◌, ◌<◌, ◌+◌, ◌^◌, ◌⊎◌, inl, inr, ℕ, List, [], ◌∷◌, ◌++◌, length, Bool, true, false, ◌&&◌, ◌||◌, IsTrue, Some, None, Result, Ok, Err, refl, sym, ap, ap₂, ◌∙◌, subst, arith, length-append}
use Rattle.std.specs.Prelude.{nat_lt}
use Rattle.std.proofs.lemmas.Bool.{ltb-true, lt-ltb}
use Rattle.ct_definitions.specs.declared.change.Change.{Change}
use Rattle.ct_definitions.specs.declared.change.Transaction.{Transaction}
use Rattle.ct_definitions.specs.Changes.{State, allows}
use Rattle.ct_definitions.specs.Histories.{History, IsHistory, after, after_changes, allows_all, last_number}
use Rattle.ct_disk.specs.Disk.{AllImages, LeavesOnly}
use Rattle.ct_disk.proofs.Moments.{LeavesOnly-wider}
use Rattle.ct_laws.proofs.Histories.{after-push, last_number-push, IsHistory-push}
use Rattle.ct_disk.specs.declared.turn.HaltCause.{HaltCause}
use Rattle.ct_disk.specs.declared.turn.HaltCause.TheVariants.{Write, Memory as NoRoom, Limit}
use Rattle.ct_group.specs.Commit.{commit_text}
use Rattle.ct_group.specs.Groups.{FitsTransaction}
use Rattle.ct_log.specs.Chunks.{open_chunk, chunk_size, EndsAfter, IsShort}
use Rattle.ct_log.specs.Flow.{has_room as has_room_in, IsAtRest}
use Rattle.ct_log.specs.Log.{IsLog, durable_text}
use Rattle.ct_log.specs.Stages.{Stands}
use Rattle.ct_log.specs.declared.flow.Flow.{Flow}
use Rattle.ct_log.specs.declared.log.Log.{Log}
use Rattle.ct_log.specs.declared.stage.Stage.TheVariants.{Idle}
use Rattle.ct_log.proofs.Flushes.{left_at, length-text}
use Rattle.ct_log.proofs.Steps.{length-open_chunk}
use Rattle.ct_yard.specs.Telling.{Telling, told_where}
use Rattle.ct_yard.specs.declared.yard.CommitFault.{CommitFault}
use Rattle.ct_yard.specs.declared.yard.CommitFault.TheVariants.{Memory, Halted}
use Rattle.ct_yard.specs.declared.yard.Yard.{Yard}
use Rattle.ct_yard.specs.Machine.{Machine, opened_machine, next_transaction, with_change, group_size, has_room, halted_history, HasHaltCause, FitsRoom, Commits}
use Rattle.ct_yard.specs.LogTexts.{IsTextOf, HoldsPrefix}
use Rattle.ct_yard.specs.Writes.{of_one, has_room_for, IsWritten, IsRefused, IsStopped, Writes, IsPerformed, Performs}
use Rattle.ct_yard.specs.Yards.{StandsFor, KeptThrough}
use Rattle.ct_yard.proofs.LogTexts.{text_more, whole_held, either_held}

-- what is written where the log tells its content is so where the yard is founded
pub narrower : {P L : Type 0} (founded : Bool) (disk : Telling L) (group : List ℕ) (result : Result Unit CommitFault) (old new : Yard P L)
    → (IsTrue founded → IsTrue disk.tells) → Writes disk group result old new → Writes (told_where founded disk) group result old new
narrower founded disk group (Ok _) old new told is = record {
  pages = is.pages;
  state = is.state;
  halt = is.halt;
  front = is.front;
  at_rest = is.at_rest;
  end = is.end;
  next = is.next;
  log = λ here. is.log (told here);
  text = λ here. is.text (told here);
  moments = λ here. is.moments (told here);
  faults = is.faults;
}
narrower founded disk group (Err Memory) old new told is = record {
  pages = is.pages;
  state = is.state;
  halt = is.halt;
  front = is.front;
  device = is.device;
  at_rest = is.at_rest;
  end = is.end;
  next = is.next;
  log = λ here. is.log (told here);
  text = is.text;
}
narrower founded disk group (Err (Halted cause)) old new told is = record {
  pages = is.pages;
  halt = is.halt;
  front = is.front;
  end = is.end;
  kind = is.kind;
  log = λ here. is.log (told here);
  stands = λ here. is.stands (told here);
  moments = λ here. is.moments (told here);
  why = is.why;
}

-- a history with one transaction more is another one
is_longer : (history : History) (change : Change) → with_change history change ≡ history → ⊥
is_longer history change same =
    let lengths : length (history.transactions ++ next_transaction history change ∷ []) ≡ length history.transactions = ap (λ (h : History). length h.transactions) same in
    omega (arith, lengths, length-append history.transactions (next_transaction history change ∷ []))

-- a yard whose log is at rest and holds a history stands for it
pub assembled : {P L : Type 0} (founded : Bool) (disk : Telling L) (new : Yard P L) (front : List ℕ) (history : History)
    → new.halt ≡ None → IsAtRest new.log.flow → IsHistory history → new.front ≡ last_number history → new.state ≡ after history
    → (IsTrue founded → IsLog disk.content disk.may_leave new.log) → (IsTrue founded → IsTextOf front history.transactions (durable_text disk.content new.log)) → (IsTrue founded → new.log.flow.end < 2 ^ 62)
    → StandsFor founded disk front (opened_machine history (disk.faults new.log.device) new.log.flow.end new.log.flow.next) new
assembled founded disk new front history runs rest defined numbered state log text small = record {
  halt = runs;
  number = numbered;
  state = λ _. state;
  faults = refl;
  end = refl;
  next = λ _. refl;
  history = defined;
  acknowledged = λ _. refl;
  log = log;
  text = λ told _. text told;
  left = λ told c now. whole_held front history (durable_text disk.content new.log) c (last_number history) (omega arith) (text told) (omega (arith, small told, length-text disk.content disk.may_leave new.log (log told))) (left_at disk.content disk.may_leave new.log Idle (log told) rest.stage c now);
}

module _ {P L : Type 0} (founded : Bool) (disk : Telling L)
    (old : Yard P L) (change : Change) (t : Transaction) (group front : List ℕ) (machine : Machine)
    (running : old.halt ≡ None) (made : t ≡ of_one (old.front + 1) change) (text : group ≡ commit_text t)
    (stands : StandsFor founded disk front machine old) where
  is_running : machine.halt ≡ None
  is_running = sym stands.halt ∙ running

  same_transaction : t ≡ next_transaction machine.history change
  same_transaction = made ∙ ap (λ n. of_one (n + 1) change) stands.number

  same_group : group ≡ commit_text (next_transaction machine.history change)
  same_group = text ∙ ap commit_text same_transaction

  same_size : length group ≡ group_size machine change
  same_size = ap (λ (l : List ℕ). length l) same_group

  -- the yard has room where the machine has
  same_room : has_room_for old (length group) ≡ has_room machine change
  same_room =
      ap (λ n. nat_lt n (2 ^ 63) && nat_lt old.log.flow.next (2 ^ 63) && nat_lt (old.log.flow.end + 5 + length group) (2 ^ 62)) stands.number
      ∙ ap (λ n. nat_lt (last_number machine.history) (2 ^ 63) && nat_lt n (2 ^ 63) && nat_lt (old.log.flow.end + 5 + length group) (2 ^ 62)) (stands.next is_running)
      ∙ ap₂ (λ n k. nat_lt (last_number machine.history) (2 ^ 63) && nat_lt machine.next (2 ^ 63) && nat_lt (n + 5 + k) (2 ^ 62)) stands.end same_size

  -- there was no room, and the store halts with nothing else changed
  pub full : (new : Yard P L) → has_room_for old (length group) ≡ false → new.halt ≡ Some Limit → new.log ≡ old.log → new.front ≡ old.front
      → (then : Machine) × Commits machine change (Err (Halted Limit)) then × StandsFor founded disk front then new
      × KeptThrough founded disk front machine old.log.device then new.log.device
  full new none halted same_log same_front = (
    record { history = machine.history; acknowledged = machine.acknowledged; halt = Some Limit; faults = machine.faults; end = machine.end; next = machine.next },
    record { room = sym same_room ∙ none; history = refl; acknowledged = refl; halt = refl; cause = omega arith },
    record {
      halt = halted;
      number = same_front ∙ stands.number;
      state = λ runs. let no : ⊥ = cc runs in absurd no;
      faults = ap (λ (l : Log L). disk.faults l.device) same_log ∙ stands.faults;
      end = ap (λ (l : Log L). l.flow.end) same_log ∙ stands.end;
      next = λ runs. let no : ⊥ = cc runs in absurd no;
      history = stands.history;
      acknowledged = λ runs. let no : ⊥ = cc runs in absurd no;
      log = λ told. subst (λ (l : Log L). IsLog disk.content disk.may_leave l) (sym same_log) (stands.log told);
      text = λ told runs. let no : ⊥ = cc runs in absurd no;
      left = λ told. subst (λ (l : Log L). (c : List ℕ) → disk.may_leave l.device c → HoldsPrefix front machine.history machine.acknowledged c) (sym same_log) (stands.left told);
    },
    record { idle = λ _. ap (λ (l : Log L). l.device) same_log; moments = inl (ap (λ (l : Log L). l.device) same_log) },
  )

  module _ (mid : Yard P L) (fits : t.number ≤ 2 ^ 63 → FitsTransaction t) (short : length group ≤ 8000) (allowed : allows old.state change ≡ true)
      (room : has_room_for old (length group) ≡ true) where
    abbrev here : History
    here = with_change machine.history change

    abbrev next : Transaction
    next = next_transaction machine.history change

    has_room_here : has_room machine change ≡ true
    has_room_here = sym same_room ∙ room

    below_last : old.front < 2 ^ 63
    below_last = ltb-true old.front (2 ^ 63) (first_of (nat_lt old.front (2 ^ 63)) (nat_lt old.log.flow.next (2 ^ 63)) (nat_lt (old.log.flow.end + 5 + length group) (2 ^ 62)) room)
      where
        first_of : (a b c : Bool) → (a && b && c) ≡ true → a ≡ true
        first_of true b c h = refl
        first_of false b c h = h

    -- the log ends within its limit, with the group too
    end_below : old.log.flow.end + 5 + length group < 2 ^ 62
    end_below = ltb-true (old.log.flow.end + 5 + length group) (2 ^ 62) (last_of (nat_lt old.front (2 ^ 63)) (nat_lt old.log.flow.next (2 ^ 63)) (nat_lt (old.log.flow.end + 5 + length group) (2 ^ 62)) room)
      where
        last_of : (a b c : Bool) → (a && b && c) ≡ true → c ≡ true
        last_of true true c h = h
        last_of true false c h = let none : ⊥ = cc h in absurd none
        last_of false b c h = let none : ⊥ = cc h in absurd none

    longer_below : IsTrue founded → length (durable_text disk.content old.log ++ open_chunk group) < 2 ^ 62
    longer_below told = omega (arith, end_below, length-text disk.content disk.may_leave old.log (stands.log told), length-append (durable_text disk.content old.log) (open_chunk group), length-open_chunk group)

    fits_here : FitsTransaction next
    fits_here =
        let number : t.number ≡ old.front + 1 = ap (λ (x : Transaction). x.number) made in
        subst (λ (x : Transaction). FitsTransaction x) same_transaction (fits (omega (arith, number, below_last)))

    short_here : IsShort (commit_text next)
    short_here = subst (λ (l : List ℕ). IsShort l) same_group (omega (arith, short))

    defined : IsHistory here
    defined = IsHistory-push machine.history next stands.history refl
        (ap (λ (s : State). allows s change && true) (sym (stands.state is_running)) ∙ ap (λ (b : Bool). b && true) allowed)

    one_more : old.front + 1 ≡ last_number here
    one_more = ap (λ n. n + 1) stands.number ∙ sym (last_number-push machine.history next)

    known : machine.acknowledged ≡ last_number machine.history
    known = stands.acknowledged is_running

    -- the text with the group is that of the longer history
    longer : IsTrue founded → IsTextOf front here.transactions (durable_text disk.content old.log ++ open_chunk group)
    longer told = subst (λ (g : List ℕ). IsTextOf front here.transactions (durable_text disk.content old.log ++ open_chunk g)) (sym same_group)
        (text_more front machine.history.transactions next (durable_text disk.content old.log) fits_here short_here (stands.text told is_running))

    -- whatever stands for the text or the longer one is kept
    either : IsTrue founded → (c : List ℕ) → Stands (durable_text disk.content old.log) group c → HoldsPrefix front here machine.acknowledged c
    either told c is = either_held front machine.history change (durable_text disk.content old.log) group c machine.acknowledged (omega (arith, known)) (stands.text told is_running) (longer told) (longer_below told) is

    through : (IsTrue founded → IsLog disk.content disk.may_leave old.log → LeavesOnly disk.left_since (Stands (durable_text disk.content old.log) group) old.log.device mid.log.device)
        → IsTrue founded → LeavesOnly disk.left_since (HoldsPrefix front here machine.acknowledged) old.log.device mid.log.device
    through moments told = LeavesOnly-wider disk.left_since (Stands (durable_text disk.content old.log) group) (HoldsPrefix front here machine.acknowledged) old.log.device mid.log.device (either told) (moments told (stands.log told))

    -- the group is in the log, and a crash leaves it there
    written_text : IsWritten (told_where founded disk) group old mid → IsTrue founded → IsTextOf front here.transactions (durable_text disk.content mid.log)
    written_text written told = subst (λ (l : List ℕ). IsTextOf front here.transactions l) (sym (written.text told (stands.log told))) (longer told)

    written_left : IsWritten (told_where founded disk) group old mid → (least : ℕ) → least ≤ last_number here → IsTrue founded → (c : List ℕ) → disk.may_leave mid.log.device c → HoldsPrefix front here least c
    written_left written least from told c now = whole_held front here (durable_text disk.content mid.log) c least from (written_text written told) (omega (arith, end_below, written.end, length-text disk.content disk.may_leave mid.log (written.log told (stands.log told))))
        (left_at disk.content disk.may_leave mid.log Idle (written.log told (stands.log told)) (written.at_rest).stage c now)

    acknowledged_within : machine.acknowledged ≤ last_number here
    acknowledged_within = omega (arith, known, last_number-push machine.history next)

    done : (number : ℕ) (new : Yard P L) → IsWritten (told_where founded disk) group old mid → new.log ≡ mid.log → new.front ≡ mid.front → IsPerformed t number mid new
        → (then : Machine) × Commits machine change (Ok number) then × StandsFor founded disk front then new
        × KeptThrough founded disk front machine old.log.device then new.log.device
    done number new written same_log same_front performed =
        let numbered : new.front ≡ last_number here = same_front ∙ written.front ∙ one_more in
        let state : new.state ≡ after here =
        performed.state
        ∙ ap₂ (λ (s : State) (one : Transaction). after_changes s one.changes) (written.state ∙ stands.state is_running) same_transaction
        ∙ sym (after-push machine.history next) in
        let count : disk.faults new.log.device ≡ disk.faults mid.log.device = ap (λ (l : Log L). disk.faults l.device) same_log in (
          record { history = here; acknowledged = last_number here; halt = None; faults = disk.faults new.log.device; end = machine.end + 5 + group_size machine change; next = machine.next + 1 },
          (performed.answer ∙ numbered, record { room = has_room_here; history = refl; acknowledged = refl; running = refl; faults = omega (arith, written.faults, stands.faults, count); end = refl; next = refl }),
          record {
            halt = performed.halt ∙ written.halt;
            number = numbered;
            state = λ _. state;
            faults = refl;
            end = ap (λ (l : Log L). l.flow.end) same_log ∙ written.end ∙ ap₂ (λ n k. n + 5 + k) stands.end same_size;
            next = λ _. ap (λ (l : Log L). l.flow.next) same_log ∙ written.next ∙ ap (λ n. n + 1) (stands.next is_running);
            history = defined;
            acknowledged = λ _. refl;
            log = λ told. subst (λ (l : Log L). IsLog disk.content disk.may_leave l) (sym same_log) (written.log told (stands.log told));
            text = λ told _. subst (λ (l : Log L). IsTextOf front here.transactions (durable_text disk.content l)) (sym same_log) (written_text written told);
            left = λ told. subst (λ (l : Log L). (c : List ℕ) → disk.may_leave l.device c → HoldsPrefix front here (last_number here) c) (sym same_log) (written_left written (last_number here) (omega arith) told);
          },
          record {
            idle = λ same. absurd (is_longer machine.history change same);
            moments = inr (λ told. subst (λ (l : Log L). LeavesOnly disk.left_since (HoldsPrefix front here machine.acknowledged) old.log.device l.device) (sym same_log) (through written.moments told));
          },
        )

    wanting : (cause : HaltCause) (new : Yard P L) → IsWritten (told_where founded disk) group old mid → new.log ≡ mid.log → new.front ≡ mid.front → cause ≡ NoRoom → new.halt ≡ Some NoRoom
        → (then : Machine) × Commits machine change (Err (Halted cause)) then × StandsFor founded disk front then new
        × KeptThrough founded disk front machine old.log.device then new.log.device
    wanting cause new written same_log same_front is halted =
        subst (λ (why : HaltCause). (then : Machine) × Commits machine change (Err (Halted why)) then × StandsFor founded disk front then new × KeptThrough founded disk front machine old.log.device then new.log.device) (sym is)
        (let count : disk.faults new.log.device ≡ disk.faults mid.log.device = ap (λ (l : Log L). disk.faults l.device) same_log in (
          record { history = here; acknowledged = machine.acknowledged; halt = Some NoRoom; faults = disk.faults new.log.device; end = machine.end + 5 + group_size machine change; next = machine.next },
          record { room = has_room_here; history = refl; acknowledged = refl; halt = refl; cause = omega (arith, written.faults, stands.faults, count) },
          record {
            halt = halted;
            number = same_front ∙ written.front ∙ one_more;
            state = λ runs. let no : ⊥ = cc runs in absurd no;
            faults = refl;
            end = ap (λ (l : Log L). l.flow.end) same_log ∙ written.end ∙ ap₂ (λ n k. n + 5 + k) stands.end same_size;
            next = λ runs. let no : ⊥ = cc runs in absurd no;
            history = defined;
            acknowledged = λ runs. let no : ⊥ = cc runs in absurd no;
            log = λ told. subst (λ (l : Log L). IsLog disk.content disk.may_leave l) (sym same_log) (written.log told (stands.log told));
            text = λ told runs. let no : ⊥ = cc runs in absurd no;
            left = λ told. subst (λ (l : Log L). (c : List ℕ) → disk.may_leave l.device c → HoldsPrefix front here machine.acknowledged c) (sym same_log) (written_left written machine.acknowledged acknowledged_within told);
          },
          record {
            idle = λ same. absurd (is_longer machine.history change same);
            moments = inr (λ told. subst (λ (l : Log L). LeavesOnly disk.left_since (HoldsPrefix front here machine.acknowledged) old.log.device l.device) (sym same_log) (through written.moments told));
          },
        ))

    stopped : (cause : HaltCause) → IsStopped (told_where founded disk) group cause old mid
        → (then : Machine) × Commits machine change (Err (Halted cause)) then × StandsFor founded disk front then mid
        × KeptThrough founded disk front machine old.log.device then mid.log.device
    stopped cause stop = (
      record { history = halted_history cause machine.history change; acknowledged = machine.acknowledged; halt = Some cause; faults = disk.faults mid.log.device; end = machine.end; next = machine.next },
      record { room = by_kind cause stop.kind; history = refl; acknowledged = refl; halt = refl; cause = subst (λ n. HasHaltCause cause n (disk.faults mid.log.device)) stands.faults stop.why },
      record {
        halt = stop.halt;
        number = stop.front ∙ one_more ∙ ap (λ (h : History). last_number h) (sym longer_by_kind);
        state = λ runs. let no : ⊥ = cc runs in absurd no;
        faults = refl;
        end = stop.end ∙ stands.end;
        next = λ runs. let no : ⊥ = cc runs in absurd no;
        history = subst (λ (h : History). IsHistory h) (sym longer_by_kind) defined;
        acknowledged = λ runs. let no : ⊥ = cc runs in absurd no;
        log = λ told. stop.log told (stands.log told);
        text = λ told runs. let no : ⊥ = cc runs in absurd no;
        left = λ told c now. subst (λ (h : History). HoldsPrefix front h machine.acknowledged c) (sym longer_by_kind) (either told c (stop.stands told (stands.log told) c now));
      },
      record {
        idle = λ same. absurd (is_longer machine.history change (sym longer_by_kind ∙ same));
        moments = inr (λ told. subst (λ (h : History). LeavesOnly disk.left_since (HoldsPrefix front h machine.acknowledged) old.log.device mid.log.device) (sym longer_by_kind) (through stop.moments told));
      },
    )
      where
        by_kind : (why : HaltCause) → (why ≡ Write) ⊎ (why ≡ NoRoom) → FitsRoom why (has_room machine change)
        by_kind why (inl is) = subst (λ (w : HaltCause). FitsRoom w (has_room machine change)) (sym is) has_room_here
        by_kind why (inr is) = subst (λ (w : HaltCause). FitsRoom w (has_room machine change)) (sym is) has_room_here

        longer_by : (why : HaltCause) → (why ≡ Write) ⊎ (why ≡ NoRoom) → halted_history why machine.history change ≡ here
        longer_by why (inl is) = ap (λ (w : HaltCause). halted_history w machine.history change) is
        longer_by why (inr is) = ap (λ (w : HaltCause). halted_history w machine.history change) is

        longer_by_kind : halted_history cause machine.history change ≡ here
        longer_by_kind = longer_by cause stop.kind

    refused : IsRefused (told_where founded disk) old mid
        → (then : Machine) × Commits machine change (Err Memory) then × StandsFor founded disk front then mid
        × KeptThrough founded disk front machine old.log.device then mid.log.device
    refused none = (
      machine,
      refl,
      record {
        halt = none.halt ∙ sym is_running;
        number = none.front ∙ stands.number;
        state = λ runs. none.state ∙ stands.state runs;
        faults = ap disk.faults none.device ∙ stands.faults;
        end = none.end ∙ stands.end;
        next = λ runs. none.next ∙ stands.next runs;
        history = stands.history;
        acknowledged = stands.acknowledged;
        log = λ told. none.log told (stands.log told);
        text = λ told runs. subst (λ (l : List ℕ). IsTextOf front machine.history.transactions l) (sym none.text) (stands.text told runs);
        left = λ told. subst (λ (d : L). (c : List ℕ) → disk.may_leave d c → HoldsPrefix front machine.history machine.acknowledged c) (sym none.device) (stands.left told);
      },
      record { idle = λ _. none.device; moments = inl none.device },
    )

    -- the group was not written, or not for good
    pub failed : (result : Result ℕ CommitFault) (fault other : CommitFault) → result ≡ Err other → other ≡ fault → Writes (told_where founded disk) group (Err fault) old mid
        → (then : Machine) × Commits machine change result then × StandsFor founded disk front then mid
        × KeptThrough founded disk front machine old.log.device then mid.log.device
    failed result fault other is same writes =
        subst (λ (r : Result ℕ CommitFault). (then : Machine) × Commits machine change r then × StandsFor founded disk front then mid × KeptThrough founded disk front machine old.log.device then mid.log.device)
        (sym (is ∙ ap (λ (f : CommitFault). Err f) same)) (by fault writes)
      where
        by : (fault : CommitFault) → Writes (told_where founded disk) group (Err fault) old mid
            → (then : Machine) × Commits machine change (Err fault) then × StandsFor founded disk front then mid × KeptThrough founded disk front machine old.log.device then mid.log.device
        by Memory writes = refused writes
        by (Halted cause) writes = stopped cause writes

    -- it was, and the change is made or wants memory
    pub performed : (result : Result ℕ CommitFault) (new : Yard P L) → IsWritten (told_where founded disk) group old mid → new.log ≡ mid.log → new.front ≡ mid.front → Performs t result mid new
        → (then : Machine) × Commits machine change result then × StandsFor founded disk front then new
        × KeptThrough founded disk front machine old.log.device then new.log.device
    performed (Ok number) new written same_log same_front performs = done number new written same_log same_front performs
    performed (Err Memory) new written same_log same_front performs = absurd performs
    performed (Err (Halted cause)) new written same_log same_front performs = wanting cause new written same_log same_front performs.0 performs.1
