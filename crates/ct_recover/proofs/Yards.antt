-- The yard of a log that was read to its end.
use Rattle.std.proofs.Common.{◌≡◌, ◌≤◌, ◌<◌, ◌^◌, IsTrue, ℕ, zero, suc, Bool, true, false, ◌&&◌, List, [], ◌∷◌, length, take, refl, sym, ap, ◌∙◌, subst, arith, length-append, length-take, eqb, map, Result, Ok, Err}
use Rattle.std.specs.Prelude.{slice_get, OnOk}
use Rattle.std.specs.Result.{is_err}
use Rattle.std.proofs.lemmas.Bool.{and_parts, not-true, eqb-false}
use Rattle.std.proofs.lemmas.List.{take_at, take-take}
use Rattle.ct_definitions.specs.Histories.{History, IsHistory, after, last_number}
use Rattle.ct_disk.specs.Disk.{Only}
use Rattle.ct_log.specs.Chunks.{chunks_text, EndsAfter}
use Rattle.ct_log.specs.Log.{IsLog, durable_text}
use Rattle.ct_log.specs.Reading.{log_bytes}
use Rattle.ct_log.specs.declared.head.Head.{Head}
use Rattle.ct_log.specs.declared.log.Log.{Log}
use Rattle.ct_yard.specs.Telling.{Telling}
use Rattle.ct_yard.specs.declared.yard.Yard.{Yard}
use Rattle.ct_yard.specs.LogTexts.{groups_text, log_text, IsTextOf}
use Rattle.ct_yard.specs.Machine.{opened_machine}
use Rattle.ct_yard.specs.Yards.{StandsFor}
use Rattle.ct_recover.specs.Opened.{OpensLog}
use Rattle.ct_recover.specs.Opening.{IsReadToEnd, Opens, is_closed}
use Rattle.ct_recover.specs.declared.open.Opened.{Opened}
use Rattle.ct_recover.proofs.Fills.{filled_all}

-- bytes with a closed gate end before it
pub record ClosedAt (bytes : List ℕ) (place : ℕ) : Type 0 where
  pub within : place < length bytes
  pub ends : EndsAfter (take place bytes) bytes

pub closed_at : (bytes : List ℕ) (place : ℕ) → is_closed (slice_get bytes place) ≡ true → ClosedAt bytes place
closed_at [] place h = let none : ⊥ = cc h in absurd none
closed_at (x ∷ bytes) zero h = record { within = omega arith; ends = record { gate = x; behind = bytes; is_closed = eqb-false x 1 (not-true (eqb x 1) h); parts = refl } }
closed_at (x ∷ bytes) (suc place) h =
    let below = closed_at bytes place h in
    record {
      within = omega (arith, below.within);
      ends = record { gate = (below.ends).gate; behind = (below.ends).behind; is_closed = (below.ends).is_closed; parts = ap (λ (l : List ℕ). x ∷ l) (below.ends).parts };
    }

-- a closed gate within a first part is one of the whole
closed_in : (n : ℕ) (bytes : List ℕ) (place : ℕ) → is_closed (slice_get (take n bytes) place) ≡ true → is_closed (slice_get bytes place) ≡ true
closed_in zero bytes place h = let none : ⊥ = cc h in absurd none
closed_in (suc n) [] place h = let none : ⊥ = cc h in absurd none
closed_in (suc n) (x ∷ bytes) zero h = h
closed_in (suc n) (x ∷ bytes) (suc place) h = closed_in n bytes place h

-- the text of a log that goes on behind its end
pub text_read : (content : List ℕ) (head : Head) (front : List ℕ) (history : History) (end : ℕ) → (to : IsReadToEnd head front history end (log_bytes content)) → end < length content → end ≤ 2 ^ 62
    → take end content ≡ log_text front (to.read).chunks
text_read content head front history end to within last =
    let read = to.read in
    let bytes = log_bytes content in
    let text = log_text front read.chunks in
    let long : head.start.place ≤ length bytes = omega (arith, ((read.founds).is_front).ends, read.up_to, length-append front (chunks_text (map groups_text read.chunks)), length-take (2 ^ 62) content, within, last) in
    sym (take-take end (2 ^ 62) content last) ∙ ap (λ (l : List ℕ). take end l) (sym (filled_all head.start.place bytes long) ∙ read.parts) ∙ take_at text to.rest end (sym read.up_to)

module _ {P L : Type 0} (disk : Telling L) where
  pub opens : (log mid : L) (all : Opened L) (yard : Yard P L) → (IsTrue disk.tells → disk.content mid ≡ disk.content log) → (IsTrue disk.tells → Only (disk.content log) (disk.may_leave mid))
      → OpensLog disk mid all → (IsTrue disk.tells → disk.content all.log.device ≡ disk.content mid) → yard.log ≡ all.log
      → ((founded : Bool) (text : List ℕ) (history : History) → IsHistory history → all.number ≡ last_number history → all.state ≡ after history
      → (IsTrue founded → IsLog disk.content disk.may_leave all.log) → (IsTrue founded → IsTextOf text history.transactions (durable_text disk.content all.log)) → (IsTrue founded → all.log.flow.end < 2 ^ 62)
      → StandsFor founded disk text (opened_machine history (disk.faults all.log.device) all.log.flow.end all.log.flow.next) yard)
      → Opens disk log yard
  opens log mid all yard same only is device same_log stands =
      let o = is.is_opened in
      let history = o.history in
      let front = o.front in
      let end = all.log.flow.end in
      let closed = is_closed (slice_get (log_bytes (disk.content log)) end) in
      let founded = disk.tells && closed in
      let read : IsTrue disk.tells → IsReadToEnd o.head front history end (log_bytes (disk.content log)) = λ here. subst (λ (l : List ℕ). IsReadToEnd o.head front history end (log_bytes l)) (same here) (o.read here) in
      let told : IsTrue founded → IsTrue disk.tells = λ both. (and_parts disk.tells closed both).0 in
      let at : IsTrue founded → ClosedAt (disk.content log) end = λ both. closed_at (disk.content log) end (closed_in (2 ^ 62) (disk.content log) end (and_parts disk.tells closed both).1) in
      let small : IsTrue founded → end < 2 ^ 62 = λ both. omega (arith, (closed_at (log_bytes (disk.content log)) end (and_parts disk.tells closed both).1).within, length-take (2 ^ 62) (disk.content log)) in
      let log_is : IsTrue founded → IsLog disk.content disk.may_leave all.log = λ both.
      (let here = told both in
      is.is_log here (subst (λ (l : List ℕ). EndsAfter (take end l) l) (sym (same here)) (at both).ends) (λ c left. only here c left ∙ sym (same here))) in
      let text : IsTrue founded → IsTextOf front history.transactions (durable_text disk.content all.log) = λ both.
      (let here = told both in
      let to = read here in
      record {
        chunks = (to.read).chunks;
        in_chunks = (to.read).in_chunks;
        is = ap (λ (l : List ℕ). take end l) (device here ∙ same here) ∙ text_read (disk.content log) o.head front history end to (at both).within is.place;
      }) in
      record {
        head = o.head;
        front = front;
        history = history;
        base = o.base;
        next = ap (λ (l : Log L). l.flow.next) same_log ∙ o.next;
        read = λ here. subst (λ (l : Log L). IsReadToEnd o.head front history l.flow.end (log_bytes (disk.content log))) (sym same_log) (read here);
        stands = subst (λ (l : Log L). StandsFor (disk.tells && is_closed (slice_get (log_bytes (disk.content log)) l.flow.end)) disk front (opened_machine history (disk.faults l.device) l.flow.end l.flow.next) yard) (sym same_log)
            (stands founded front history o.defined o.number o.state log_is text small);
      }

-- what a call did that did not fail
pub of_ok : {E : Type 0} (P : Type 0) (r : Result Unit E) → is_err r ≡ false → OnOk r P → P
of_ok P (Ok _) ok is = is
of_ok P (Err e) ok is = let none : ⊥ = cc ok in absurd none
