-- What a call's answer tells, with the record that the session then has.
use Rattle.std.specs.Prelude.{List, Option, Some, None}
use Rattle.ct_definitions.specs.declared.store.Row.{Row}
use Rattle.ct_isam.specs.declared.session.Seat.{Seat}
use Rattle.ct_isam.specs.declared.reply.Reply.{Reply as Told}
use Rattle.ct_isam.specs.declared.reply.Reply.TheVariants as told
use Rattle.ct_isam.specs.Seats.{seat_of}
use Rattle.ct_isam.specs.Replies.{Reply, ok, number, found, halt_err, unbuilt, no_file, no_index, exists, bad_def, icur_err, bad_len, file_full, kdup_err, inot_err, no_memory}

-- a record that was found; a session that has found one has it as its current one
abbrev pub found_current : Option Row → Reply
found_current None = inot_err
found_current (Some row) = found row.num row.image

abbrev pub reply_of : List Seat → Told → Reply
reply_of seats told.Ok = ok
reply_of seats (told.Number n) = number n
reply_of seats (told.Found file) = found_current (seat_of file seats).current
reply_of seats told.Unbuilt = unbuilt
reply_of seats told.NoFile = no_file
reply_of seats told.NoIndex = no_index
reply_of seats told.Exists = exists
reply_of seats told.BadDef = bad_def
reply_of seats told.NoCurrent = icur_err
reply_of seats told.BadLen = bad_len
reply_of seats told.FileFull = file_full
reply_of seats told.Duplicate = kdup_err
reply_of seats told.NotFound = inot_err
reply_of seats (told.Halted cause) = halt_err cause
reply_of seats told.Memory = no_memory
