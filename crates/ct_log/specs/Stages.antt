-- What a log holds while a chunk is being written behind its text, by how far the writing has come.
use Rattle.std.specs.Prelude.{◌≡◌, ◌≢◌, ◌⊎◌, ℕ, List, ◌∷◌, ◌++◌}
use Rattle.ct_log.specs.Chunks.{open_chunk, chunk_body, EndsAfter}
use Rattle.ct_log.specs.declared.stage.Stage.{Stage}
use Rattle.ct_log.specs.declared.stage.Stage.TheVariants.{Idle, Written, Stable, Opened}

-- These bytes are a text, this gate, the body of a chunk of these groups, and anything behind it.
pub record HasBody (gate : ℕ) (text groups bytes : List ℕ) : Type 0 where
  pub behind : List ℕ
  pub parts : bytes ≡ text ++ gate ∷ (chunk_body groups ++ behind)

-- what a crash may leave
abbrev pub LeftAt : Stage → List ℕ → List ℕ → List ℕ → Type 0
LeftAt Idle text groups c = EndsAfter text c
LeftAt Written text groups c = EndsAfter text c
LeftAt Stable text groups c = (gate : ℕ) × HasBody gate text groups c
LeftAt Opened text groups c = (gate : ℕ) × HasBody gate text groups c

-- what a read gives
abbrev pub ReadAt : Stage → List ℕ → List ℕ → List ℕ → Type 0
ReadAt Idle text groups c = EndsAfter text c
ReadAt Written text groups c = (gate : ℕ) × (gate ≢ 1) × HasBody gate text groups c
ReadAt Stable text groups c = (gate : ℕ) × HasBody gate text groups c
ReadAt Opened text groups c = HasBody 1 text groups c

-- the text ends the log, or the text with an open chunk of these groups does
abbrev pub Stands : List ℕ → List ℕ → List ℕ → Type 0
Stands text groups c = EndsAfter text c ⊎ EndsAfter (text ++ open_chunk groups) c
