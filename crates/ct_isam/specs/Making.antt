-- Why a definition is not made, and what a commit answers.
use Rattle.std.specs.Prelude.{◌≤◌, ℕ}
use Rattle.ct_definitions.specs.declared.definition.TheConstants.{LONGEST_IMAGE}
use Rattle.ct_yard.specs.declared.yard.CommitFault.{CommitFault}
use Rattle.ct_yard.specs.declared.yard.CommitFault.TheVariants.{Memory as NoRoom, Halted}
use Rattle.ct_isam.specs.declared.creating.Undescribed.{Undescribed}
use Rattle.ct_isam.specs.declared.creating.Undescribed.TheVariants.{TooGreat, Memory}
use Rattle.ct_isam.specs.declared.reply.Reply.{Reply as Told}
use Rattle.ct_isam.specs.declared.reply.Reply.TheVariants as told

-- a claim of each length that an image may have
abbrev pub ForEachLeast : (ℕ → Type 0) → Type 0
ForEachLeast claim = (least : ℕ) → least ≤ LONGEST_IMAGE → claim least

-- a claim where a number is too great for a definition
abbrev pub IfTooGreat : Undescribed → Type 0 → Type 0
IfTooGreat TooGreat claim = claim
IfTooGreat Memory claim = Unit {0}

-- what is told of a commit that was not done
abbrev pub told_of : CommitFault → Told
told_of NoRoom = told.Memory
told_of (Halted cause) = told.Halted cause
