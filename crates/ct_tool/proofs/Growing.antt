-- How a run's history grows, line by line, and how its session ends.
use Rattle.std.proofs.Common.{◌≡◌, inl, inr, ◌≤◌, ◌+◌, ℕ, List, [], ◌∷◌, Bool, true, false, ◌&&◌, Option, refl, sym, ap, ◌∙◌, subst, arith}
use Rattle.ct_definitions.specs.declared.change.Change.{Change}
use Rattle.ct_definitions.specs.Changes.{allows}
use Rattle.ct_definitions.specs.Histories.{History, IsHistory, Begins, last_number}
use Rattle.ct_disk.specs.declared.turn.HaltCause.{HaltCause}
use Rattle.ct_disk.specs.declared.turn.HaltCause.TheVariants.{Write, Read, Memory as NoRoomLeft, BadPage, BadLog, Limit}
use Rattle.ct_laws.proofs.Histories.{IsHistory-push, Begins-itself, Begins-push, Begins-trans, last_number-push}
use Rattle.ct_transcript.specs.Transcript.{Served}
use Rattle.ct_yard.specs.Telling.{Telling}
use Rattle.ct_yard.specs.Machine.{Machine, state_of, next_transaction, with_change, halted_history}
use Rattle.ct_session.specs.Replies.{spelling}
use Rattle.ct_session.proofs.Moves.{MovesRunning, step_moves, step_ends}
use Rattle.ct_tool.specs.Runs.{HasQuit}
use Rattle.ct_tool.specs.Talking.{Moment, KeptStep}

-- a history, of which the acknowledged part is a part
pub record IsSound (machine : Machine) : Type 0 where
  pub history : IsHistory machine.history
  pub within : machine.acknowledged ≤ last_number machine.history

-- a machine goes on from another
pub record GoesOnFrom (old new : Machine) : Type 0 where
  pub sound : IsSound new
  pub base : (new.history).base ≡ (old.history).base
  pub base_number : (new.history).base_number ≡ (old.history).base_number
  pub begins : Begins old.history new.history
  pub later : old.acknowledged ≤ new.acknowledged

stays : (m next : Machine) → IsSound m → next ≡ m → GoesOnFrom m next
stays m next sound same = subst (λ (n : Machine). GoesOnFrom m n) (sym same) (record { sound = sound; base = refl; base_number = refl; begins = Begins-itself m.history sound.history; later = omega arith })

pushed : (m : Machine) (change : Change) → IsSound m → allows (state_of m) change ≡ true → IsHistory (with_change m.history change)
pushed m change sound allowed = IsHistory-push m.history (next_transaction m.history change) sound.history refl (ap (λ (b : Bool). b && true) allowed)

-- the history after a halt has the base of the one before
halted_base : (why : HaltCause) (m : Machine) (change : Change) → ((halted_history why m.history change).base ≡ (m.history).base) × ((halted_history why m.history change).base_number ≡ (m.history).base_number)
halted_base Limit m change = (refl, refl)
halted_base Write m change = (refl, refl)
halted_base NoRoomLeft m change = (refl, refl)
halted_base Read m change = (refl, refl)
halted_base (BadPage page) m change = (refl, refl)
halted_base (BadLog place) m change = (refl, refl)

-- the history after a halt is a history, and begun by the one before
halted_grows : (why : HaltCause) (m : Machine) (change : Change) → IsSound m → allows (state_of m) change ≡ true
    → IsHistory (halted_history why m.history change) × Begins m.history (halted_history why m.history change) × (last_number m.history ≤ last_number (halted_history why m.history change))
halted_grows Limit m change sound allowed = (sound.history, Begins-itself m.history sound.history, omega arith)
halted_grows Write m change sound allowed = (pushed m change sound allowed, Begins-push m.history (next_transaction m.history change) sound.history, omega (arith, last_number-push m.history (next_transaction m.history change)))
halted_grows NoRoomLeft m change sound allowed = (pushed m change sound allowed, Begins-push m.history (next_transaction m.history change) sound.history, omega (arith, last_number-push m.history (next_transaction m.history change)))
halted_grows Read m change sound allowed = (pushed m change sound allowed, Begins-push m.history (next_transaction m.history change) sound.history, omega (arith, last_number-push m.history (next_transaction m.history change)))
halted_grows (BadPage page) m change sound allowed = (pushed m change sound allowed, Begins-push m.history (next_transaction m.history change) sound.history, omega (arith, last_number-push m.history (next_transaction m.history change)))
halted_grows (BadLog place) m change sound allowed = (pushed m change sound allowed, Begins-push m.history (next_transaction m.history change) sound.history, omega (arith, last_number-push m.history (next_transaction m.history change)))

moves_grow : (m next : Machine) → IsSound m → MovesRunning m next → GoesOnFrom m next
moves_grow m next sound (inl same) = stays m next sound same
moves_grow m next sound (inr moves) =
    let takes = moves.1 in
    let change = takes.change in
    elim takes.ends [
      | inl done ↦ (let history : next.history ≡ with_change m.history change = done.history in
          let last : last_number next.history ≡ last_number m.history + 1 = ap (λ (h : History). last_number h) history ∙ last_number-push m.history (next_transaction m.history change) in
          record {
            sound = record { history = subst (λ (h : History). IsHistory h) (sym history) (pushed m change sound takes.allowed); within = omega (arith, done.acknowledged) };
            base = ap (λ (h : History). h.base) history;
            base_number = ap (λ (h : History). h.base_number) history;
            begins = subst (λ (h : History). Begins m.history h) (sym history) (Begins-push m.history (next_transaction m.history change) sound.history);
            later = omega (arith, done.acknowledged, last, sound.within);
          })
      | inr halted ↦ (let why = halted.0 in
          let grown = halted_grows why m change sound takes.allowed in
          let history : next.history ≡ halted_history why m.history change = halted.1.history in
          let last : last_number next.history ≡ last_number (halted_history why m.history change) = ap (λ (h : History). last_number h) history in
          record {
            sound = record { history = subst (λ (h : History). IsHistory h) (sym history) grown.0; within = omega (arith, halted.1.acknowledged, sound.within, last, grown.2) };
            base = ap (λ (h : History). h.base) history ∙ (halted_base why m change).0;
            base_number = ap (λ (h : History). h.base_number) history ∙ (halted_base why m change).1;
            begins = subst (λ (h : History). Begins m.history h) (sym history) grown.1;
            later = omega (arith, halted.1.acknowledged);
          })
    ]

-- over a whole run
pub served_grows : {L : Type 0} (founded : Bool) (disk : Telling L) (front : List ℕ) (old : Moment L) (lines : List (Option (List ℕ))) (text : List ℕ) (new : Moment L) → IsSound old.machine
    → Served (KeptStep founded disk front) spelling old lines text new → GoesOnFrom old.machine new.machine
served_grows founded disk front old [] text new sound served = stays old.machine new.machine sound (ap (λ m. m.machine) served.1)
served_grows founded disk front old (line ∷ lines) text new sound served =
    let mid = served.1 in
    let first = moves_grow old.machine mid.machine sound (step_moves old.machine mid.machine old.visit mid.visit line served.0 (served.3).0) in
    let rest = served_grows founded disk front mid lines served.2 new first.sound served.5 in
    record {
      sound = rest.sound;
      base = rest.base ∙ first.base;
      base_number = rest.base_number ∙ first.base_number;
      begins = Begins-trans (old.machine).history (mid.machine).history (new.machine).history sound.history (first.sound).history first.begins rest.begins;
      later = omega (arith, first.later, rest.later);
    }

-- a session that ends in a run ends by a line of it
pub served_quits : {L : Type 0} (founded : Bool) (disk : Telling L) (front : List ℕ) (old : Moment L) (lines : List (Option (List ℕ))) (text : List ℕ) (new : Moment L) → (old.visit).ended ≡ false → (new.visit).ended ≡ true
    → Served (KeptStep founded disk front) spelling old lines text new → HasQuit lines
served_quits founded disk front old [] text new going ended served =
    let none : true ≡ false = sym ended ∙ ap (λ m. (m.visit).ended) served.1 ∙ going in absurd (cc)
served_quits founded disk front old (line ∷ lines) text new going ended served =
    let mid = served.1 in
    elim (step_ends old.machine mid.machine old.visit mid.visit line served.0 (served.3).0) [
      | inl same ↦ inr (served_quits founded disk front mid lines served.2 new (same ∙ going) ended served.5)
      | inr asks ↦ inl asks
    ]
