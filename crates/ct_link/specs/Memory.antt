-- What a source and a sink in memory hold.
use Rattle.std.specs.Prelude.{◌≡◌, ◌==◌, ℕ, Bool, true, false, List, Result, Ok, Err}
use Rattle.std.specs.List.{list_any}
use Rattle.ct_link.specs.declared.sink.SinkError.{SinkError}
use Rattle.ct_link.specs.declared.sink.SinkError.TheVariants.{Fault, Memory}

-- the bytes taken and left, the most that a call takes, how many calls were made and failed, and the numbers of those that are to fail
pub record Intake : Type 0 where
  pub taken : List ℕ
  pub left : List ℕ
  pub most : ℕ
  pub calls : ℕ
  pub failing : List ℕ
  pub faults : ℕ

-- the bytes written, and the same of the calls
pub record Output : Type 0 where
  pub written : List ℕ
  pub most : ℕ
  pub calls : ℕ
  pub failing : List ℕ
  pub faults : ℕ

-- whether the call of this number is to fail
abbrev pub is_planned : List ℕ → ℕ → Bool
is_planned failing call = list_any (λ number. number == call) failing

-- a sink fails where that is planned, and nowhere else
abbrev pub FailsAsPlanned : {T : Type 0} → Result T SinkError → Bool → Type 0
FailsAsPlanned (Ok _) planned = planned ≡ false
FailsAsPlanned (Err Fault) planned = planned ≡ true
FailsAsPlanned (Err Memory) planned = planned ≡ false
