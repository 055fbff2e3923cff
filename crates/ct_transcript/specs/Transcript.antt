-- The transcript of a machine that answers lines. Step old line reply new: from its state old the machine may
-- answer the line so and go on to new. spelling reply: the bytes of a reply line.
use Rattle.std.specs.Prelude.{◌≡◌, ℕ, List, [], ◌∷◌, ◌++◌, Option}
use Rattle.std.specs.Io.KnownBytes.{Appends}

-- the text has a reply for each line, in order, on the way from the old state to the new one
abbrev pub Served : {M L R : Type 0} → (M → L → R → M → Type 0) → (R → List ℕ) → M → List L → List ℕ → M → Type 0
Served Step spelling old [] text new = (text ≡ []) × (new ≡ old)
Served {M} {L} {R} Step spelling old (line ∷ lines) text new = (reply : R) × (mid : M) × (rest : List ℕ) × Step old line reply mid × (text ≡ spelling reply ++ rest) × Served Step spelling mid lines rest new

-- the text is a first part of such replies
abbrev pub Cut : {M L R : Type 0} → (M → L → R → M → Type 0) → (R → List ℕ) → M → List L → List ℕ → M → Type 0
Cut Step spelling old lines text new = (more : List ℕ) × Served Step spelling old lines (text ++ more) new

-- The lines are answered: what waited and the replies are what was put, and behind it what is left.
pub record Answered {M L R : Type 0} (Step : M → L → R → M → Type 0) (spelling : R → List ℕ) (old : M) (lines : List L) (new : M) (written now_written : Option (List ℕ)) (waiting left : List ℕ) : Type 0 where
  pub text : List ℕ
  pub put : List ℕ
  pub served : Served Step spelling old lines text new
  pub wrote : Appends written now_written put
  pub same : waiting ++ text ≡ put ++ left
