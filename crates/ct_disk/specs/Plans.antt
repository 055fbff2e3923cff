-- Which calls of a disk in memory are to fail.
use Rattle.std.specs.Prelude.{ℕ, Bool, false, Option, Some, None, if◌then◌else◌, nat_le, ◌==◌}
use Rattle.std.specs.List.{list_any}
use Rattle.ct_disk.specs.declared.plans.Plan.{Plan}
use Rattle.ct_disk.specs.declared.plans.Plan.TheVariants.{Works, Fails, Tears}
use Rattle.ct_disk.specs.declared.plans.Plans.{Plans}

-- the call is one of those from a number on, if there is one
abbrev pub is_from : Option ℕ → ℕ → Bool
is_from None call = false
is_from (Some from) call = nat_le from call

-- what the plan of a call becomes when it is to tear
abbrev pub torn : Plan → Plan
torn Works = Tears
torn Fails = Fails
torn Tears = Tears

-- how the call with this number is to go
abbrev pub plan_at : Plans → ℕ → Plan
plan_at plans call =
    if is_from plans.fails_from call then Fails else
    if list_any (λ k. k == call) plans.fails then Fails else
    if list_any (λ k. k == call) plans.tears then Tears else Works
