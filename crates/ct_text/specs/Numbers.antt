-- How a number begins.
use Rattle.std.specs.Prelude.{ℕ, List, [], ◌∷◌, Bool, false, not, ◌&&◌, ◌==◌}
use Rattle.std.specs.Char.{is_ascii_digit}

-- the word begins with a digit, and with 0 only where that is all of it
abbrev pub begins_as_number : List ℕ → Bool
begins_as_number [] = false
begins_as_number (digit ∷ []) = is_ascii_digit digit
begins_as_number (digit ∷ next ∷ digits) = is_ascii_digit digit && not (digit == 48)
