-- The generator that crashes draw from.
use Rattle.std.specs.Prelude.{ℕ, ◌+◌, ◌*◌, ◌%◌, ◌^◌}

-- the state after a draw
abbrev pub next_state : ℕ → ℕ
next_state state = (state * 6364136223846793005 % 2 ^ 64 + 1442695040888963407) % 2 ^ 64
