-- A store that was kept at the start of `exec` is kept at its end.
use Rattle.std.proofs.Common.{◌≡◌, ◌≤◌, inl, ℕ, List, Bool, IsTrue, Option, refl, sym, ◌∙◌, subst, arith}
use Rattle.ct_definitions.specs.declared.change.Transaction.{Transaction}
use Rattle.ct_definitions.specs.Histories.{History, last_number}
use Rattle.ct_laws.specs.Cut.{history_up_to}
use Rattle.ct_laws.proofs.Histories.{filter_up_to, IsHistory-front, last_number-front, Begins-front}
use Rattle.ct_log.specs.Reading.{IsRead}
use Rattle.ct_log.specs.declared.head.Head.{Head}
use Rattle.ct_yard.specs.Kept.{Founds, Kept, empty_directory}
use Rattle.ct_yard.specs.LogTexts.{HasTransactions, up_to_number}
use Rattle.ct_yard.specs.Telling.{telling}
use Rattle.ct_yard.specs.Machine.{opened_machine}
use Rattle.ct_tool.specs.declared.ended.Cause.{Cause}
use Rattle.ct_tool.specs.Talking.{Input, Output}
use Rattle.ct_tool.specs.Runs.{RanSession, StaysKept}

-- where no call was made
pub unread : {D : Type 0} (content : D → List ℕ) (may_leave : D → List ℕ → Type 0) (left_since : D → D → List ℕ → Type 0) (disk new : D) → new ≡ disk → IsRead content may_leave left_since disk new
unread content may_leave left_since disk new same =
    subst (λ d. IsRead content may_leave left_since disk d) (sym same) (record { same = refl; goes_on = record { now = λ c left. (c, left, refl); past = λ from c left. inl left } })

module _ {P L : Type 0} (p_content : P → List ℕ) (p_may_leave : P → List ℕ → Type 0) (p_left_since : P → P → List ℕ → Type 0)
    (content : L → List ℕ) (may_leave : L → List ℕ → Type 0) (left_since : L → L → List ℕ → Type 0)
    (pages now_pages : P) (log now : L) (head : Head) (front : List ℕ) (history : History) (least : ℕ)
    (reads_pages : p_may_leave pages (p_content pages)) (reads_log : may_leave log (content log))
    (read_pages : IsRead p_content p_may_leave p_left_since pages now_pages)
    (founds : Founds head front history) (from_base : history.base_number ≤ least) (kept : Kept (p_may_leave pages) (may_leave log) front history least) where
  -- the page device has the directory, and a crash leaves it
  directory : (p : List ℕ) → p_may_leave now_pages p → p ≡ empty_directory
  directory p left =
      let one = (read_pages.goes_on).now p left in
      one.2 ∙ (kept one.0 (content log) one.1 reads_log).3.directory

  number : ℕ
  number = (kept (p_content pages) (content log) reads_pages reads_log).0

  above : least ≤ number
  unfolding number
  above = (kept (p_content pages) (content log) reads_pages reads_log).1

  within : number ≤ last_number history
  unfolding number
  within = (kept (p_content pages) (content log) reads_pages reads_log).2

  -- what opening finds
  has : HasTransactions front (history_up_to number history).transactions (content log)
  unfolding number
  has =
      let found = kept (p_content pages) (content log) reads_pages reads_log in
      subst (λ (ts : List Transaction). HasTransactions front ts (content log)) (sym (filter_up_to history.base history.base_number history.transactions found.0 founds.defined)) found.3.has

  founds_opened : Founds head front (history_up_to number history)
  founds_opened = record { is_front = founds.is_front; base = founds.base; base_number = founds.base_number; defined = IsHistory-front history number founds.defined }

  -- no session ran
  pub none_keeps : IsRead content may_leave left_since log now → StaysKept (p_may_leave now_pages) (may_leave now) head front history least
  none_keeps read_log = record {
    number = last_number history;
    kept_before = omega (arith, above, within);
    later = history;
    founds = founds;
    base = refl;
    begins = Begins-front history (last_number history) founds.defined (omega arith) (omega arith);
    acknowledged = least;
    from_least = omega arith;
    kept = λ p l left_p left_l.
        let one = (read_log.goes_on).now l left_l in
        let was = kept (p_content pages) one.0 reads_pages one.1 in
        (was.0, was.1, was.2, record { directory = directory p left_p; has = subst (λ (c : List ℕ). HasTransactions front (up_to_number history was.0) c) (sym one.2) was.3.has });
  }

  -- a session ran
  pub session_keeps : (tells : Bool) (faults : L → ℕ) (cause : Cause) (n : ℕ) (i i' : Input) (o o' : Output) → IsTrue tells → RanSession (telling tells faults content may_leave left_since) now_pages log now cause n i i' o o'
      → StaysKept (p_may_leave now_pages) (may_leave now) head front history least
  session_keeps tells faults cause n i i' o o' told ran =
      let yard = ran.yard in
      let opened = history_up_to number history in
      let machine = opened_machine opened (faults (yard.log).device) (yard.log).flow.end (yard.log).flow.next in
      let stands = (ran.opened).as_kept told head front opened founds_opened has in
      let session = (ran.session).ran tells front machine (λ here. here) stands refl in
      let last : last_number opened ≡ number = last_number-front history number founds.defined (omega (arith, from_base, above)) within in
      record {
        number = number;
        kept_before = above;
        later = (session.end).history;
        founds = record { is_front = founds.is_front; base = session.base ∙ founds.base; base_number = session.base_number ∙ founds.base_number; defined = session.defined };
        base = session.base_number;
        begins = session.begins;
        acknowledged = (session.end).acknowledged;
        from_least = omega (arith, session.acknowledged, last, above);
        kept = λ p l left_p left_l.
            let held = session.kept told l left_l in
            (held.number, held.from_least, held.within, record { directory = directory p left_p; has = held.has });
      }
