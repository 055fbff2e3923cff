-- The head of a log as it is read: its header and its two start cells. Bytes past the device's end are missing.
use Rattle.std.specs.Prelude.{◌≡◌, ◌==◌, ◌&&◌, ◌^◌, ℕ, Bool, true, false, not, List, [], ◌∷◌, length, take, drop, nat_lt, nat_le, bytes_eq, slice_get, if◌then◌else◌, Option, Some, None, Result, Ok, Err}
use Rattle.std.specs.List.{list_all}
use Rattle.std.specs.Int.{w64, from_le_bytes}
use Rattle.ct_log.specs.Front.{signature, is_id}
use Rattle.ct_log.specs.declared.head.Head.{Head}
use Rattle.ct_log.specs.declared.head.Start.{Start}
use Rattle.ct_log.specs.declared.read.LogFault.{LogFault}
use Rattle.ct_log.specs.declared.read.LogFault.TheVariants.{Bad, Fault, Memory}

-- of the 4,096 bytes from this place on, those that the device has
abbrev pub page_at : ℕ → List ℕ → List ℕ
page_at place bytes = take 4096 (drop place bytes)

-- whether a gate is open: its byte is there, and it is 1
abbrev pub is_open : Option ℕ → Bool
is_open None = false
is_open (Some gate) = gate == 1

-- whether all of these bytes are zero
abbrev pub are_zero : List ℕ → Bool
are_zero bytes = list_all (λ byte. byte == 0) bytes

-- the bytes before the first zero
abbrev pub before_zero : List ℕ → List ℕ
before_zero [] = []
before_zero (byte ∷ bytes) = if byte == 0 then [] else byte ∷ before_zero bytes

-- the number in the eight bytes from this place on, the low byte first
abbrev pub number_at : ℕ → List ℕ → ℕ
number_at place page = from_le_bytes w64 (take 8 (drop place page))

-- the sixteen bytes in which a header has its id
abbrev pub id_field : List ℕ → List ℕ
id_field page = take 16 (drop 12 page)

-- the id of a header
abbrev pub id_of : List ℕ → List ℕ
id_of page = before_zero (id_field page)

-- whether a page is a header: the signature, an id and zeros behind it, a base number of at most 2^63, a gate, and zeros
abbrev pub is_header : List ℕ → Bool
is_header page = bytes_eq (take 12 page) signature && is_id (id_of page) && are_zero (drop (length (id_of page)) (id_field page)) && nat_le (number_at 28 page) (2 ^ 63) && are_zero (drop 37 page)

-- whether the gate of the header is open
abbrev pub has_open_header : List ℕ → Bool
has_open_header bytes = is_open (slice_get bytes 36)

-- whether the gate of a start cell is open
abbrev pub is_cell_open : List ℕ → Bool
is_cell_open page = is_open (slice_get page 32)

-- the fields of a start cell
abbrev pub start_of : List ℕ → Start
start_of page = record { sequence = number_at 0 page; place = number_at 8 page; ordinal = number_at 16 page; last = number_at 24 page }

-- whether these are fields of a start cell: a place of a chunk, an ordinal from 1 on, and no number above its last value
abbrev pub is_start : Start → Bool
is_start start = nat_le start.sequence (2 ^ 63) && nat_le 12288 start.place && nat_le start.place (2 ^ 62) && nat_le 1 start.ordinal && nat_le start.ordinal (2 ^ 63) && nat_le start.last (2 ^ 63)

-- whether a start cell is in order: its gate is not open, or its fields are such and zeros follow
abbrev pub is_cell : List ℕ → Bool
is_cell page = if is_cell_open page then is_start (start_of page) && are_zero (drop 33 page) else true

-- where a log without an open cell starts: at the first chunk and the first group, behind the base number
abbrev pub first_start : ℕ → Start
first_start base = record { sequence = 0; place = 12288; ordinal = 1; last = base }

-- what a cell tells, where its gate is open
abbrev pub told_by : List ℕ → Option Start
told_by page = if is_cell_open page then Some (start_of page) else None

-- the start that counts: that of the open cell with the greater sequence, and where these are equal the first one
abbrev pub counting : ℕ → Option Start → Option Start → Start
counting base None None = first_start base
counting base None (Some second) = second
counting base (Some first) None = first
counting base (Some first) (Some second) = if nat_lt first.sequence second.sequence then second else first

-- the head of a log whose header's gate is not open
abbrev pub closed_head : Head
closed_head = record { id = []; base = 0; gate = false; start = first_start 0 }

-- the head of a log that was made with this id and this base number, and opened
abbrev pub made_head : List ℕ → ℕ → Head
made_head id base = record { id = id; base = base; gate = true; start = first_start base }

-- the head that a header with an open gate tells, with what the cells do
abbrev pub open_head : List ℕ → Option Start → Option Start → Head
open_head page first second = record {
  id = id_of page;
  base = number_at 28 page;
  gate = true;
  start = counting (number_at 28 page) first second;
}

-- the head with an open gate that these bytes tell
abbrev pub told_head : List ℕ → Head
told_head bytes = open_head (page_at 0 bytes) (told_by (page_at 4096 bytes)) (told_by (page_at 8192 bytes))

-- the head of a log, or the place of what is damaged: behind an open gate the header, the first cell, the second cell
abbrev pub head_in : List ℕ → Result Head ℕ
head_in bytes =
    if not (has_open_header bytes) then Ok closed_head
    else if not (is_header (page_at 0 bytes)) then Err 0
    else if not (is_cell (page_at 4096 bytes)) then Err 4096
    else if not (is_cell (page_at 8192 bytes)) then Err 8192
    else Ok (told_head bytes)

-- the answer tells the head
abbrev pub TellsHead : Result Head LogFault → Result Head ℕ → Type 0
TellsHead (Ok head) found = found ≡ Ok head
TellsHead (Err (Bad at)) found = found ≡ Err at
TellsHead (Err Fault) found = Unit {0}
TellsHead (Err Memory) found = Unit {0}

-- the answer tells what the start cell in this page, which stands at this place, tells
abbrev pub TellsCell : Result (Option Start) LogFault → ℕ → List ℕ → Type 0
TellsCell (Ok told) place page = (is_cell page ≡ true) × (told ≡ told_by page)
TellsCell (Err (Bad at)) place page = (is_cell page ≡ false) × (at ≡ place)
TellsCell (Err Fault) place page = Unit {0}
TellsCell (Err Memory) place page = Unit {0}

-- These bytes are the front of a log with this head: an open header, cells, and whatever stands up to the place where reading starts.
pub record IsFront (head : Head) (front : List ℕ) : Type 0 where
  pub gate : head.gate ≡ true
  pub told : head_in front ≡ Ok head
  pub ends : length front ≡ head.start.place
