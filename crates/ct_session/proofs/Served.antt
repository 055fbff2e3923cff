-- What a session's answers mean for the machine that a yard stands for.
use Rattle.std.proofs.Common.{◌≡◌, ℕ, List, ◌++◌, Bool, true, false, Option, Some, None, refl, sym, subst, inl, inr, MatchOption}
use Rattle.std.specs.Prelude.{MatchBool}
use Rattle.ct_disk.specs.declared.turn.HaltCause.{HaltCause}
use Rattle.ct_line.specs.declared.call.Call.{Call}
use Rattle.ct_yard.specs.Telling.{Telling}
use Rattle.ct_yard.specs.declared.yard.Yard.{Yard}
use Rattle.ct_yard.specs.Machine.{Machine}
use Rattle.ct_isam.specs.Replies.{Reply, ok, bad_line, halt_err, no_memory, silent}
use Rattle.ct_session.specs.Replies.{spelling}
use Rattle.ct_session.specs.Steps.{Visit, Step, Calls, Runs, Tells, IsBadLine, AsksFor, is_quit}
use Rattle.ct_session.specs.Serving.{AnswersBy}

by_true : (b : Bool) (A B : Type 0) → b ≡ true → A → MatchBool b A B
by_true true A B is a = a
by_true false A B is a = absurd (cc)

by_false : (b : Bool) (A B : Type 0) → b ≡ false → B → MatchBool b A B
by_false true A B is b = absurd (cc)
by_false false A B is b = b

by_none : (halt : Option HaltCause) (A : Type 0) (B : HaltCause → Type 0) → halt ≡ None → A → MatchOption halt A B
by_none None A B running a = a
by_none (Some cause) A B running a = absurd (cc)

by_some : (halt : Option HaltCause) (cause : HaltCause) (A : Type 0) (B : HaltCause → Type 0) → halt ≡ Some cause → B cause → MatchOption halt A B
by_some None cause A B halted b = absurd (cc)
by_some (Some other) cause A B halted b = let same : other ≡ cause = cc in subst B (sym same) b

-- a session after its end
pub silent_step : (machine next : Machine) (visit new : Visit) (line : Option (List ℕ)) (reply : Reply) → visit.ended ≡ true → Tells silent machine visit reply next new → Step machine visit line reply next new
silent_step machine next visit new line reply ended tells =
    by_true visit.ended (Tells silent machine visit reply next new) _ ended tells

-- want of memory
pub memory_step : (machine : Machine) (visit : Visit) (line : Option (List ℕ)) → visit.ended ≡ false → Step machine visit line no_memory machine visit
memory_step machine visit line going = by_false visit.ended _ _ going (inl (refl, refl, refl))

-- a line that leaves the grammar
pub bad_step : (machine : Machine) (visit : Visit) (line : Option (List ℕ)) (at : ℕ) → visit.ended ≡ false → IsBadLine line at → Step machine visit line (bad_line at) machine visit
bad_step machine visit line at going bad = by_false visit.ended _ _ going (inr (inl (at, bad, (refl, refl, refl))))

-- a line that asks for a call
pub call_step : (machine next : Machine) (visit new : Visit) (line : Option (List ℕ)) (call : Call) (reply : Reply) → visit.ended ≡ false → AsksFor line call → Calls call machine visit reply next new → Step machine visit line reply next new
call_step machine next visit new line call reply going asks calls = by_false visit.ended _ _ going (inr (inr (call, asks, calls)))

-- QUIT
pub quit_calls : (call : Call) (machine : Machine) (visit : Visit) → is_quit call ≡ true → Calls call machine visit ok machine (record visit { ended = true })
quit_calls call machine visit is = by_true (is_quit call) _ _ is (refl, refl, refl)

-- another call where the store has halted
pub halted_calls : (call : Call) (machine : Machine) (visit : Visit) (cause : HaltCause) → is_quit call ≡ false → machine.halt ≡ Some cause → Calls call machine visit (halt_err cause) machine visit
halted_calls call machine visit cause is halted =
    by_false (is_quit call) _ _ is
    (by_some machine.halt cause (Runs call machine visit (halt_err cause) machine visit) (λ why. Tells (halt_err why) machine visit (halt_err cause) machine visit) halted (refl, refl, refl))

-- and where it runs
pub running_calls : (call : Call) (machine next : Machine) (visit new : Visit) (reply : Reply) → is_quit call ≡ false → machine.halt ≡ None → Runs call machine visit reply next new → Calls call machine visit reply next new
running_calls call machine next visit new reply is running runs =
    by_false (is_quit call) _ _ is
    (by_none machine.halt (Runs call machine visit reply next new) (λ cause. Tells (halt_err cause) machine visit reply next new) running runs)

module _ {P L : Type 0} (disk : Telling L) where
  -- a reply that leaves the yard as it is
  pub unmoved : (Gives : Machine → Reply → Machine → Type 0) (yard : Yard P L) (reply : Reply) (text longer : List ℕ)
      → ((machine : Machine) → yard.halt ≡ machine.halt → Gives machine reply machine) → longer ≡ text ++ spelling reply
      → AnswersBy disk Gives yard yard text longer
  unmoved Gives yard reply text longer gives written founded front machine told stands = (reply, machine, gives machine stands.halt, stands, record { idle = λ _. refl; moments = inl refl }, written)

  -- what gives an answer of one kind gives it of another
  pub given : (Gives Others : Machine → Reply → Machine → Type 0) (old new : Yard P L) (text longer : List ℕ)
      → ((machine : Machine) (reply : Reply) (next : Machine) → old.halt ≡ machine.halt → Gives machine reply next → Others machine reply next)
      → AnswersBy disk Gives old new text longer → AnswersBy disk Others old new text longer
  given Gives Others old new text longer turn answers founded front machine told stands =
      let done = answers founded front machine told stands in
      (done.0, done.1, turn machine done.0 done.1 stands.halt done.2, done.3, done.4, done.5)
