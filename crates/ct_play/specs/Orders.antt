-- What a line of a schedule orders, and how it is spelled.
use Rattle.std.specs.Prelude.{◌≡◌, ◌≤◌, ℕ, List, [], ◌∷◌, ◌++◌, Bool, true, not, ◌==◌, Option, Some, None}
use Rattle.std.specs.List.{list_all}
use Rattle.std.specs.Fmt.{decimal}
use Rattle.ct_play.specs.declared.order.Order.{Order}
use Rattle.ct_play.specs.declared.order.Order.TheVariants.{Queue, Turns, Flush, Checkpoint}

-- a line for a session's queue; turns of a session, so many or as long as there are any; turns of the flusher; turns of a checkpoint
pub data Said : Type 0 where
  Queues : ℕ → List ℕ → Said
  Makes : ℕ → Option ℕ → Said
  Flushes : ℕ → Said
  Checks : ℕ → Said

-- 'S s line', 'T s', 'T s count', 'F count' and 'K count'
abbrev pub spelled : Said → List ℕ
spelled (Queues session line) = 83 ∷ 32 ∷ decimal session ++ 32 ∷ line
spelled (Makes session None) = 84 ∷ 32 ∷ decimal session
spelled (Makes session (Some count)) = 84 ∷ 32 ∷ decimal session ++ 32 ∷ decimal count
spelled (Flushes count) = 70 ∷ 32 ∷ decimal count
spelled (Checks count) = 75 ∷ 32 ∷ decimal count

-- sessions have the numbers 1 to 64
pub record IsSession (session : ℕ) : Type 0 where
  pub first : 1 ≤ session
  pub last : session ≤ 64

-- a count is at most 2^20
abbrev pub IsCount : ℕ → Type 0
IsCount count = count ≤ 1048576

-- its numbers are in their ranges
abbrev pub IsOrder : Said → Type 0
IsOrder (Queues session line) = IsSession session
IsOrder (Makes session None) = IsSession session
IsOrder (Makes session (Some count)) = IsSession session × IsCount count
IsOrder (Flushes count) = IsCount count
IsOrder (Checks count) = IsCount count

-- what an order that was read says
abbrev pub said_by : Option Order → Option Said
said_by None = None
said_by (Some (Queue session line)) = Some (Queues session line.now)
said_by (Some (Turns session count)) = Some (Makes session count)
said_by (Some (Flush count)) = Some (Flushes count)
said_by (Some (Checkpoint count)) = Some (Checks count)

-- no byte of these is a space
abbrev pub has_no_space : List ℕ → Bool
has_no_space bytes = list_all (λ byte. not (byte == 32)) bytes
