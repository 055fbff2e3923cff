-- What a replay of all chunks tells of the log.
use Rattle.std.proofs.Common.{◌≡◌, ◌≤◌, ◌+◌, ◌^◌, IsTrue, ℕ, min, Bool, true, false, List, [], ◌++◌, length, take, drop, map, flat_map, Result, Ok, Err, inl, inr, refl, sym, ap, ◌∙◌, subst, arith, append_assoc, length-append}
use Rattle.std.proofs.lemmas.Bool.{and_from}
use Rattle.std.proofs.lemmas.List.{take-append-drop}
use Rattle.ct_definitions.specs.declared.change.Transaction.{Transaction}
use Rattle.ct_definitions.specs.Changes.{State}
use Rattle.ct_definitions.specs.Histories.{History, IsHistory, after, after_transactions, are_defined, last_number}
use Rattle.ct_disk.specs.Disk.{Only, Rose}
use Rattle.ct_laws.proofs.Histories.{are_defined-append, after_transactions-append}
use Rattle.ct_log.specs.Chunks.{chunks_text, EndsAfter}
use Rattle.ct_log.specs.Heads.{head_in, has_open_header, is_start, TellsHead}
use Rattle.ct_log.specs.Log.{IsLog}
use Rattle.ct_log.specs.Reading.{IsRead, log_bytes, found_in, nothing, chunk}
use Rattle.ct_log.specs.declared.head.Head.{Head}
use Rattle.ct_log.specs.declared.log.Log.{Log}
use Rattle.ct_log.specs.declared.read.LogFault.{LogFault}
use Rattle.ct_log.specs.declared.read.LogFault.TheVariants as log_fault
use Rattle.ct_log.proofs.HeadReads.{IsRead-then}
use Rattle.ct_yard.specs.Telling.{Telling}
use Rattle.ct_yard.specs.LogTexts.{groups_text}
use Rattle.ct_recover.specs.Faults.{fault_of}
use Rattle.ct_recover.specs.Opened.{IsOpened, RefusesLog, AnswersLog}
use Rattle.ct_recover.specs.Opening.{filled_to, IsReadTo, IsReadToEnd, IsBad, HasBadGroup, extended}
use Rattle.ct_recover.specs.Replaying.{HasNoNext, HasStop, Replays, ReplaysTo, ReplaysLog, StopsAt}
use Rattle.ct_recover.specs.declared.fault.OpenFault.{OpenFault}
use Rattle.ct_recover.specs.declared.fault.OpenFault.TheVariants.{NotEmpty, Undone, Device}
use Rattle.ct_recover.specs.declared.open.Opened.{Opened}
use Rattle.ct_recover.specs.declared.replay.Replay.{Replay}
use Rattle.ct_recover.proofs.Fills.{head_within, front_filled, length-filled, behind_filled, gate_told, start_behind}

-- the history that a log with this head holds in these chunks
abbrev pub history_of : Head → List (List Transaction) → History
history_of head chunks = record { base = []; base_number = head.start.last; transactions = flat_map (λ chunk. chunk) chunks }

-- the log's front, as it was read
abbrev pub front_of : Head → List ℕ → List ℕ
front_of head bytes = take head.start.place (filled_to head.start.place bytes)

-- A replay begins where the head says.
pub record Begins (head : Head) (replay : Replay) : Type 0 where
  pub state : replay.state ≡ []
  pub number : replay.number ≡ head.start.last
  pub ordinal : replay.ordinal ≡ head.start.ordinal
  pub place : replay.place ≡ head.start.place

module _ (head : Head) (old : Replay) (begins : Begins head old) where
  -- what is replayed is a history
  module _ (new : Replay) (chunks : List (List Transaction)) (replays : Replays (flat_map (λ chunk. chunk) chunks) old new) where
    pub defined_so : IsHistory (history_of head chunks)
    defined_so =
        let ts = flat_map (λ (chunk : List Transaction). chunk) chunks in
        ap (λ n. are_defined [] n ts) (sym begins.number) ∙ ap (λ (s : State). are_defined s old.number ts) (sym begins.state) ∙ replays.defined

    pub state_so : new.state ≡ after (history_of head chunks)
    state_so = replays.state ∙ ap (λ (s : State). after_transactions s (flat_map (λ (chunk : List Transaction). chunk) chunks)) begins.state

    pub number_so : new.number ≡ last_number (history_of head chunks)
    number_so = replays.number ∙ ap (λ n. n + length (flat_map (λ (chunk : List Transaction). chunk) chunks)) begins.number

  module _ (bytes : List ℕ) (told : head_in bytes ≡ Ok head) (gate : head.gate ≡ true) (start : IsTrue (is_start head.start)) where
    -- and the log is read so far
    pub read_to : (new : Replay) → (to : ReplaysTo true bytes old new) → IsReadTo head (front_of head bytes) (history_of head to.chunks) new.place (drop new.place bytes) bytes
    read_to new to =
        let place = head.start.place in
        let front = front_of head bytes in
        let texts = chunks_text (map groups_text to.chunks) in
        let rest = drop new.place bytes in
        let long = length-filled place bytes in
        record {
          chunks = to.chunks;
          founds = record {
            is_front = record { gate = gate; told = front_filled place bytes (start_behind head.start start) (sym (gate_told bytes head told) ∙ gate) ∙ told; ends = long };
            base = refl;
            base_number = refl;
            defined = defined_so new to.chunks to.replays;
          };
          in_chunks = record { joined = refl; short = to.short refl; fit = (to.replays).fit };
          up_to = to.place refl ∙ omega (arith, begins.place, long, length-append front texts);
          parts =
              sym (take-append-drop place (filled_to place bytes)) ∙ ap (λ (l : List ℕ). front ++ l) (behind_filled place bytes)
              ∙ ap (λ k. front ++ drop k bytes) (sym begins.place) ∙ ap (λ (l : List ℕ). front ++ l) (to.parts refl) ∙ sym (append_assoc front texts rest);
        }

    -- the group that is no next commit
    bad_group : (last : Replay) (to : ReplaysTo true bytes old last) (at : ℕ) (groups : List ℕ) → found_in (drop last.place bytes) ≡ chunk groups → HasStop groups last at
        → HasBadGroup (history_of head to.chunks) last.place (drop last.place bytes) at
    bad_group last to at groups found stop =
        let history = history_of head to.chunks in
        let longer = extended history stop.first in
        let state = state_so last to.chunks to.replays in
        let number = number_so last to.chunks to.replays in
        let ts = history.transactions in
        let rest : are_defined (after history) (last_number history) stop.first ≡ true =
        ap (λ n. are_defined (after history) n stop.first) (sym number) ∙ ap (λ (s : State). are_defined s last.number stop.first) (sym state) ∙ stop.defined in
        let ends : after_transactions last.state stop.first ≡ after longer = ap (λ (s : State). after_transactions s stop.first) state ∙ sym (after_transactions-append history.base ts stop.first) in
        let last_one : last.number + length stop.first ≡ last_number longer = omega (arith, number, length-append ts stop.first) in
        record {
          first = stop.first;
          tail = stop.tail;
          fit = stop.fit;
          found = found ∙ ap chunk stop.parts;
          defined = are_defined-append history.base history.base_number ts stop.first
              ∙ and_from (are_defined history.base history.base_number ts) (are_defined (after history) (last_number history) stop.first) (defined_so last to.chunks to.replays) rest;
          bad = record {
            some = stop.some;
            none = subst (λ n. HasNoNext (after longer) n stop.tail) last_one (subst (λ (s : State). HasNoNext s (last.number + length stop.first) stop.tail) ends stop.none);
          };
          here = stop.here;
        }

    pub bad_so : (at : ℕ) → StopsAt bytes old at → IsBad bytes at
    bad_so at stops =
        let last = stops.last in
        let to = stops.up_to in
        let read = read_to last to in
        let history = history_of head to.chunks in
        let rest = drop last.place bytes in
        elim stops.stopped [
          | inl cut ↦ inr (head, front_of head bytes, history, last.place, rest, read, inl (record { found = cut.0; here = cut.1 }))
          | inr group ↦ inr (head, front_of head bytes, history, last.place, rest, read, inr (bad_group last to at group.0 group.1 group.2))
        ]

-- a replay of bytes that are told
abbrev told_to : (tells : Bool) (bytes : List ℕ) (old new : Replay) → ReplaysTo tells bytes old new → IsTrue tells → ReplaysTo true bytes old new
told_to tells bytes old new to here = record { chunks = to.chunks; replays = to.replays; short = λ _. to.short here; place = λ _. to.place here; parts = λ _. to.parts here }

-- no call was made
pub read_same : {D : Type 0} (content : D → List ℕ) (may_leave : D → List ℕ → Type 0) (left_since : D → D → List ℕ → Type 0) (old : D) → IsRead content may_leave left_since old old
read_same content may_leave left_since old = record {
  same = refl;
  goes_on = record { now = λ c left. (c, left, refl); past = λ from c left. inl left };
}

module _ {L : Type 0} (disk : Telling L) where
  -- a log whose header's gate is not open
  pub undone : (log now : L) (head : Head) → (IsTrue disk.tells → head_in (disk.content log) ≡ Ok head) → head.gate ≡ false → now ≡ log → RefusesLog disk log Undone now
  undone log now head told gate is = record {
    undone = λ here same. sym (gate_told (disk.content log) head (told here)) ∙ gate;
    bad = λ here place same. let none : ⊥ = cc same in absurd none;
    not_empty = λ same. let none : ⊥ = cc same in none;
    read = λ here. subst (λ (d : L). IsRead disk.content disk.may_leave disk.left_since log d) (sym is) (read_same disk.content disk.may_leave disk.left_since log);
    later = omega (arith, ap disk.faults is);
    cause = λ same. let none : ⊥ = cc same in absurd none;
  }

  -- a log that could not be read to its end
  pub stopped : (log mid now : L) (head : Head) (old new : Replay) (fault : OpenFault) → Begins head old → IsTrue (is_start head.start) → (IsTrue disk.tells → head_in (disk.content log) ≡ Ok head) → head.gate ≡ true
      → ReplaysLog disk.tells (log_bytes (disk.content log)) (Err fault) old new → (fault ≡ NotEmpty → ⊥) → (fault ≡ Undone → ⊥) → (IsTrue disk.tells → IsRead disk.content disk.may_leave disk.left_since log mid) → disk.faults log ≤ disk.faults mid
      → (fault ≡ Device → Rose (disk.faults log) (disk.faults mid)) → now ≡ mid → RefusesLog disk log fault now
  stopped log mid now head old new fault begins start told gate replays full made read later cause is =
      let bytes = log_bytes (disk.content log) in
      subst (λ (d : L). RefusesLog disk log fault d) (sym is) (record {
        undone = λ here same. absurd (made same);
        bad = λ here place same. bad_so head old begins bytes (head_within (disk.content log) ∙ told here) gate start place
            (let P : OpenFault → Type 0 = λ f. ReplaysLog disk.tells bytes (Err f) old new in let stops = subst P same replays in stops here);
        not_empty = full;
        read = read;
        later = later;
        cause = cause;
      })

  -- a log that was read to its end
  pub opened : (log : L) (head : Head) (old new : Replay) (all : Opened L) → Begins head old → IsTrue (is_start head.start) → (IsTrue disk.tells → head_in (disk.content log) ≡ Ok head) → head.gate ≡ true
      → ReplaysTo disk.tells (log_bytes (disk.content log)) old new × (IsTrue disk.tells → found_in (drop new.place (log_bytes (disk.content log))) ≡ nothing)
      → all.state ≡ new.state → all.number ≡ new.number → all.log.flow.next ≡ new.ordinal → all.log.flow.end ≡ new.place → IsOpened disk log all
  opened log head old new all begins start told gate replays state number next end =
      let to = replays.0 in
      let bytes = log_bytes (disk.content log) in
      let history = history_of head to.chunks in
      record {
        head = head;
        front = front_of head bytes;
        history = history;
        base = refl;
        defined = defined_so head old begins new to.chunks to.replays;
        number = number ∙ number_so head old begins new to.chunks to.replays;
        state = state ∙ state_so head old begins new to.chunks to.replays;
        next = next ∙ (to.replays).ordinal ∙ ap (λ n. min (n + length history.transactions) (2 ^ 63)) begins.ordinal;
        read = λ here.
            subst (λ n. IsReadToEnd head (front_of head bytes) history n bytes) (sym end)
            (record {
              rest = drop new.place bytes;
              read = read_to head old begins bytes (head_within (disk.content log) ∙ told here) gate start new (told_to disk.tells bytes old new to here);
              ends = replays.1 here;
            });
      }

  -- the log is one that can be written on, where a closed gate ends it
  pub log_made : (log : L) (mid all : Log L) (place : ℕ) → (IsTrue disk.tells → IsRead disk.content disk.may_leave disk.left_since log mid.device) → all.flow.end ≡ place
      → (IsTrue disk.tells → EndsAfter (take place (disk.content mid.device)) (disk.content mid.device) → Only (disk.content mid.device) (disk.may_leave mid.device) → IsLog disk.content disk.may_leave all)
      → IsTrue disk.tells → EndsAfter (take all.flow.end (disk.content log)) (disk.content log) → Only (disk.content log) (disk.may_leave log) → IsLog disk.content disk.may_leave all
  log_made log mid all place read end made here ends only =
      let same = (read here).same in
      let at_place : EndsAfter (take place (disk.content log)) (disk.content log) = subst (λ n. EndsAfter (take n (disk.content log)) (disk.content log)) end ends in
      made here (subst (λ (l : List ℕ). EndsAfter (take place l) l) (sym same) at_place)
      (λ c left. (let one = (read here).goes_on.now c left in one.2 ∙ only one.0 one.1 ∙ sym same))

  -- reads before do not change what is told
  pub answers_from : (log mid : L) (result : Result (Opened L) (OpenFault × L)) → (IsTrue disk.tells → IsRead disk.content disk.may_leave disk.left_since log mid) → disk.faults log ≤ disk.faults mid
      → AnswersLog disk mid result → AnswersLog disk log result
  answers_from log mid (Ok all) read later is =
      let o = is.is_opened in
      record {
        is_opened = record {
          head = o.head;
          front = o.front;
          history = o.history;
          base = o.base;
          defined = o.defined;
          number = o.number;
          state = o.state;
          next = o.next;
          read = λ here. subst (λ (l : List ℕ). IsReadToEnd o.head o.front o.history all.log.flow.end (log_bytes l)) (read here).same (o.read here);
        };
        at_rest = is.at_rest;
        numbers = is.numbers;
        place = is.place;
        is_log = λ here ends only.
            (let same = (read here).same in
            is.is_log here (subst (λ (l : List ℕ). EndsAfter (take all.log.flow.end l) l) (sym same) ends)
            (λ c left. (let one = (read here).goes_on.now c left in one.2 ∙ only one.0 one.1 ∙ sym same)));
        is_open = λ here. ap has_open_header (sym (read here).same) ∙ is.is_open here;
        read = λ here. IsRead-then disk.content disk.may_leave disk.left_since log mid all.log.device (read here) (is.read here);
        later = omega (arith, later, is.later);
      }
  answers_from log mid (Err refusal) read later is = record {
    undone = λ here same. ap has_open_header (sym (read here).same) ∙ is.undone here same;
    bad = λ here place same. subst (λ (l : List ℕ). IsBad (log_bytes l) place) (read here).same (is.bad here place same);
    not_empty = is.not_empty;
    read = λ here. IsRead-then disk.content disk.may_leave disk.left_since log mid refusal.1 (read here) (is.read here);
    later = omega (arith, later, is.later);
    cause = λ same. omega (arith, later, is.cause same);
  }

  -- a head that could not be read
  pub no_head : (log now : L) (fault : LogFault) (failed : OpenFault) → failed ≡ fault_of fault → (IsTrue disk.tells → TellsHead (Err fault) (head_in (disk.content log))) → (IsTrue disk.tells → IsRead disk.content disk.may_leave disk.left_since log now)
      → disk.faults log ≤ disk.faults now → (fault ≡ log_fault.Fault → Rose (disk.faults log) (disk.faults now)) → RefusesLog disk log failed now
  no_head log now fault failed is told read later cause = subst (λ (f : OpenFault). RefusesLog disk log f now) (sym is) (by_fault fault told cause)
    where
      by_fault : (f : LogFault) → (IsTrue disk.tells → TellsHead (Err f) (head_in (disk.content log))) → (f ≡ log_fault.Fault → Rose (disk.faults log) (disk.faults now))
          → RefusesLog disk log (fault_of f) now
      by_fault (log_fault.Bad at) told cause = record {
        undone = λ here same. let none : ⊥ = cc same in absurd none;
        bad = λ here place same. (let at_is : at ≡ place = cc same in inl (head_within (disk.content log) ∙ told here ∙ ap (λ n. Err n) at_is));
        not_empty = λ same. let none : ⊥ = cc same in none;
        read = read;
        later = later;
        cause = λ same. let none : ⊥ = cc same in absurd none;
      }
      by_fault log_fault.Fault told cause = record {
        undone = λ here same. let none : ⊥ = cc same in absurd none;
        bad = λ here place same. let none : ⊥ = cc same in absurd none;
        not_empty = λ same. let none : ⊥ = cc same in none;
        read = read;
        later = later;
        cause = λ same. cause refl;
      }
      by_fault log_fault.Memory told cause = record {
        undone = λ here same. let none : ⊥ = cc same in absurd none;
        bad = λ here place same. let none : ⊥ = cc same in absurd none;
        not_empty = λ same. let none : ⊥ = cc same in none;
        read = read;
        later = later;
        cause = λ same. let none : ⊥ = cc same in absurd none;
      }
