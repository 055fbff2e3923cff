-- What a session answers.
use Rattle.std.specs.Prelude.{ℕ, List}
use Rattle.ct_disk.specs.declared.turn.HaltCause.{HaltCause}

-- OK, OK and a number, OK and a record, or ERR and a name; after the session's end nothing
pub data Reply : Type 0 where
  ok : Reply
  number : ℕ → Reply
  found : ℕ → List ℕ → Reply
  bad_line : ℕ → Reply
  halt_err : HaltCause → Reply
  unbuilt : Reply
  no_file : Reply
  no_index : Reply
  exists : Reply
  bad_def : Reply
  icur_err : Reply
  bad_len : Reply
  file_full : Reply
  kdup_err : Reply
  inot_err : Reply
  no_memory : Reply
  silent : Reply
