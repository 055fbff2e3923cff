-- What a served input comes to, once its session has ended.
use Rattle.std.proofs.Common.{◌≡◌, ◌⊎◌, ◌<◌, ◌≤◌, ◌+◌, ◌^◌, inl, inr, sym, ap, ◌∙◌, subst, refl, ℕ, List, [], Bool, IsTrue, true, Option, Some, None, arith}
use Rattle.ct_disk.specs.Disk.{AllImages}
use Rattle.ct_disk.specs.declared.turn.HaltCause.{HaltCause}
use Rattle.ct_yard.specs.declared.yard.Yard.{Yard}
use Rattle.ct_yard.specs.Telling.{Telling}
use Rattle.ct_yard.specs.LogTexts.{HoldsPrefix}
use Rattle.ct_yard.specs.Machine.{Machine, HasHaltCause}
use Rattle.ct_yard.specs.Yards.{StandsFor}
use Rattle.ct_session.specs.Steps.{Visit, begun_visit}
use Rattle.ct_tool.specs.declared.ended.Cause.{Cause}
use Rattle.ct_tool.specs.declared.ended.Cause.TheVariants.{Done, Long}
use Rattle.ct_tool.specs.declared.input.Stop.{Stop}
use Rattle.ct_tool.specs.declared.input.Stop.TheVariants.{End, Quit, Long as TooLong}
use Rattle.ct_tool.specs.Ends.{stopped_by}
use Rattle.ct_tool.specs.Causes.{IsSessionCause, HasRunCause}
use Rattle.ct_tool.specs.Runs.{HasQuit, IsOver, IsSession, RanOver, begun_at}
use Rattle.ct_tool.specs.Talking.{Scene, Input, Output, at_moment, AreLines, StopsBy, ServesInput, Talks}
use Rattle.ct_tool.proofs.Causes.{IsCaused, running_is_caused, caused_served, run_cause, session_cause, done_at_end, long_at_long}
use Rattle.ct_tool.proofs.Growing.{served_grows, served_quits}

module _ {P L : Type 0} (disk : Telling L) (stop : Stop) (bytes : List ℕ) (yard : Yard P L) (begun new : Scene P L) (i i' : Input) (o o' : Output)
    (serves : ServesInput disk stop bytes begun new i i' o o') (same_yard : begun.yard ≡ yard) (fresh : begun.visit ≡ begun_visit)
    (now : L) (cause : Cause) (number : ℕ) (same : now ≡ ((new.yard).log).device) (why : cause ≡ stopped_by stop (new.yard).halt) (last : number ≡ (new.yard).front)
    (quit : stop ≡ Quit → (new.visit).ended ≡ true) where
  served : ServesInput disk stop bytes (record { yard = yard; visit = begun_visit; waiting = begun.waiting }) new i i' o o'
  served =
      subst (λ (v : Visit). ServesInput disk stop bytes (record { yard = yard; visit = v; waiting = begun.waiting }) new i i' o o') fresh
      (subst (λ (y : Yard P L). ServesInput disk stop bytes (record { yard = y; visit = begun.visit; waiting = begun.waiting }) new i i' o o') same_yard serves)

  session : (founded : Bool) (front : List ℕ) (machine : Machine) → (IsTrue founded → IsTrue disk.tells) → StandsFor founded disk front machine yard → machine.halt ≡ None
      → IsSession founded disk front (begun_at machine yard) now stop bytes i'.left cause number o o'
  session founded front machine told stands running =
      let ran = served.answers founded front machine told stands in
      let old = begun_at machine yard in
      let known = stands.acknowledged running in
      let answered = (ran.4).answered in
      let grown = served_grows founded disk front old ran.1 answered.text (at_moment ran.0 new) (record { history = stands.history; within = omega (arith, known) }) answered.served in
      record {
        end = ran.0;
        visit = new.visit;
        lines = ran.1;
        left = ran.2;
        lines_are = ran.3;
        talks = subst (λ d. Talks founded disk front old bytes ran.1 (record { machine = ran.0; visit = new.visit; log = d }) o o' ran.2) (sym same) ran.4;
        put = ran.5;
        quit = quit;
        last = last ∙ (ran.6).number;
        why = why ∙ ap (λ (h : Option HaltCause). stopped_by stop h) (ran.6).halt;
        defined = (grown.sound).history;
        base = grown.base;
        base_number = grown.base_number;
        begins = grown.begins;
        acknowledged = grown.later;
        all = (ran.6).acknowledged;
        kept = λ here. subst (λ d. AllImages (HoldsPrefix front (ran.0).history (ran.0).acknowledged) (disk.may_leave d)) (sym same) ((ran.6).left here);
        pair = λ here p l is left_l.
            let held = (ran.6).left here l (subst (λ d. disk.may_leave d l) same left_l) in
            (held.number, held.from_least, held.within, record { directory = is; has = held.has });
      }

  pub ran_over : RanOver disk yard now cause number i i' o o'
  ran_over = record { stop = stop; bytes = bytes; takes = serves.takes; stops = serves.stops; ran = session }

  pub cause_is : (founded : Bool) (front : List ℕ) (machine : Machine) → (IsTrue founded → IsTrue disk.tells) → StandsFor founded disk front machine yard → machine.halt ≡ None → (p p' : ℕ) → p' ≡ p
      → IsSessionCause cause × HasRunCause cause p p' (disk.faults (yard.log).device) (disk.faults now) i.faults i'.faults o.faults o'.faults
  cause_is founded front machine told stands running p p' pages =
      let ran = served.answers founded front machine told stands in
      let old = begun_at machine yard in
      let first = disk.faults (yard.log).device in
      let answered = (ran.4).answered in
      let at_first : IsCaused first machine = running_is_caused machine.halt (first ≤ machine.faults) (λ cause. HasHaltCause cause first machine.faults) running (omega (arith, stands.faults)) in
      let caused : IsCaused first ran.0 = caused_served founded disk front first old ran.1 answered.text (at_moment ran.0 new) at_first answered.served in
      let is : stopped_by stop (ran.0).halt ≡ cause = sym (why ∙ ap (λ (h : Option HaltCause). stopped_by stop h) (ran.6).halt) in
      let log : (ran.0).faults ≡ disk.faults now = sym (ap disk.faults same ∙ (ran.6).faults) in
      let found = run_cause stop (ran.0).halt p first (ran.0).faults i i' o o' serves.stops caused in
      subst (λ (cause : Cause). IsSessionCause cause × HasRunCause cause p p' first (disk.faults now) i.faults i'.faults o.faults o'.faults) is (
        session_cause stop (ran.0).halt first (ran.0).faults caused,
        subst (λ (n : ℕ). HasRunCause (stopped_by stop (ran.0).halt) p n first (disk.faults now) i.faults i'.faults o.faults o'.faults) (sym pages)
            (subst (λ (n : ℕ). HasRunCause (stopped_by stop (ran.0).halt) p p first n i.faults i'.faults o.faults o'.faults) log found),
      )

  pub done_is : (founded : Bool) (front : List ℕ) (machine : Machine) → (IsTrue founded → IsTrue disk.tells) → StandsFor founded disk front machine yard → machine.halt ≡ None → cause ≡ Done
      → IsOver i'.left i.taken i'.taken × (i'.count ≤ i.count + 2 ^ 40)
  done_is founded front machine told stands running done =
      let ran = served.answers founded front machine told stands in
      let answered = (ran.4).answered in
      elim (done_at_end stop (new.yard).halt (sym why ∙ done)) [
        | inl end ↦ (let stops = subst (λ (s : Stop). StopsBy s i i' o o') end serves.stops in (inl stops.0, stops.1))
        | inr ended ↦ (let stops = subst (λ (s : Stop). StopsBy s i i' o o') ended serves.stops in (
          inr (
            bytes,
            (served.takes).took,
            subst (λ (lines : List (Option (List ℕ))). HasQuit lines) (subst (λ (s : Stop). AreLines s i'.left bytes ran.1) ended ran.3)
                (served_quits founded disk front (begun_at machine yard) ran.1 answered.text (at_moment ran.0 new) refl (quit ended) answered.served),
          ),
          stops.0,
        ))
      ]

  pub long_is : cause ≡ Long → i.count + 2 ^ 40 < i'.count
  long_is long = let stops = subst (λ (s : Stop). StopsBy s i i' o o') (long_at_long stop (new.yard).halt (sym why ∙ long)) serves.stops in stops.0
