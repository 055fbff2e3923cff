-- What each step of a flush does to the bytes that are read and to those that a crash may leave.
use Rattle.std.proofs.Common.{◌≡◌, ◌≢◌, inl, inr, ◌<◌, ◌+◌, ℕ, List, [], ◌∷◌, ◌++◌, length, take, drop, Err, sym, ap, ◌∙◌, subst, arith, append_assoc, length-append, length-take}
use Rattle.std.proofs.lemmas.List.{take_at}
use Rattle.std.proofs.lemmas.Bool.{cases_eq}
use Rattle.ct_disk.specs.Disk.{Torn, overlaid, Written, GoesOn, OneAfter, LeavesOnly}
use Rattle.ct_disk.specs.declared.fault.DiskError.{DiskError}
use Rattle.ct_disk.specs.declared.fault.DiskError.TheVariants.{Fault, Memory}
use Rattle.ct_log.specs.Chunks.{length_bytes, open_chunk, chunk_body, EndsAfter}
use Rattle.ct_log.specs.Stages.{HasBody, Stands}
use Rattle.ct_log.proofs.Frames.{length-length_bytes}
use Rattle.ct_log.proofs.Torn.{torn_behind, torn_gate, overlaid_behind}

-- the front of bytes that go on behind it has its length
pub length_front : (n gate : ℕ) (c rest : List ℕ) → c ≡ take n c ++ gate ∷ rest → length (take n c) ≡ n
length_front n gate c rest parts =
    let whole : length c ≡ length (take n c) + length (gate ∷ rest) = ap length parts ∙ length-append (take n c) (gate ∷ rest) in
    let front = length-take n c in
    omega arith

-- bytes that begin with a text have it as their front
pub front_is : (n : ℕ) (text rest c : List ℕ) → length text ≡ n → c ≡ text ++ rest → take n c ≡ text
front_is n text rest c long parts = ap (λ (l : List ℕ). take n l) parts ∙ take_at text rest n long

-- a torn write behind the gate leaves the gate closed
pub ends_torn : (text d c : List ℕ) (at n : ℕ) → length text < at → EndsAfter text d → Torn at n d c → EndsAfter text c
ends_torn text d c at n before ends torn =
    let T : List ℕ → Type 0 = λ l. Torn at n l c in
    let left = torn_behind text ends.behind c ends.gate at n before (subst T ends.parts torn) in
    record { gate = ends.gate; behind = left.0; is_closed = ends.is_closed; parts = left.1 }

-- and so does a write that fails
pub ends_failed : (error : DiskError) (text put d c : List ℕ) (at : ℕ) → length text < at → EndsAfter text d → Written (Err error) at put d c → EndsAfter text c
ends_failed Fault text put d c at before ends torn = ends_torn text d c at (length put) before ends torn
ends_failed Memory text put d c at before ends same = let P : List ℕ → Type 0 = λ l. EndsAfter text l in subst P (sym same) ends

-- the body stands behind the closed gate
pub body_written : (text groups d c : List ℕ) (at : ℕ) → at ≡ length text + 1 → EndsAfter text d → c ≡ overlaid d at (chunk_body groups)
    → (gate : ℕ) × (gate ≢ 1) × HasBody gate text groups c
body_written text groups d c at here ends put =
    let back = drop (length (chunk_body groups)) ends.behind in
    let whole : d ≡ (text ++ ends.gate ∷ []) ++ ends.behind = ends.parts ∙ sym (append_assoc text (ends.gate ∷ []) ends.behind) in
    let place : at ≡ length (text ++ ends.gate ∷ []) = omega (arith, length-append text (ends.gate ∷ [])) in
    let over : c ≡ (text ++ ends.gate ∷ []) ++ (chunk_body groups ++ back) =
    put ∙ ap (λ (l : List ℕ). overlaid l at (chunk_body groups)) whole ∙ overlaid_behind (text ++ ends.gate ∷ []) ends.behind (chunk_body groups) at place in
    (ends.gate, ends.is_closed, record { behind = back; parts = over ∙ append_assoc text (ends.gate ∷ []) (chunk_body groups ++ back) })

-- the gate is open
pub gate_written : (gate : ℕ) (text groups d c : List ℕ) (at : ℕ) → at ≡ length text → HasBody gate text groups d → c ≡ overlaid d at (1 ∷ []) → HasBody 1 text groups c
gate_written gate text groups d c at here body put =
    let rest = chunk_body groups ++ body.behind in
    record {
      behind = body.behind;
      parts = put ∙ ap (λ (l : List ℕ). overlaid l at (1 ∷ [])) body.parts ∙ overlaid_behind text (gate ∷ rest) (1 ∷ []) at here;
    }

-- a torn write of the gate leaves the body
pub body_torn : (gate : ℕ) (text groups d c : List ℕ) (at : ℕ) → at ≡ length text → HasBody gate text groups d → Torn at 1 d c → (new : ℕ) × HasBody new text groups c
body_torn gate text groups d c at here body torn =
    let T : List ℕ → Type 0 = λ l. Torn at 1 l c in
    let left = torn_gate text (chunk_body groups ++ body.behind) c gate at here (subst T body.parts torn) in
    (left.0, record { behind = body.behind; parts = left.1 })

-- and so does a write of it that fails
pub body_failed : (error : DiskError) (gate : ℕ) (text groups d c : List ℕ) (at : ℕ) → at ≡ length text → HasBody gate text groups d → Written (Err error) at (1 ∷ []) d c → (new : ℕ) × HasBody new text groups c
body_failed Fault gate text groups d c at here body torn = body_torn gate text groups d c at here body torn
body_failed Memory gate text groups d c at here body same =
    let P : List ℕ → Type 0 = λ l. HasBody gate text groups l in (gate, subst P (sym same) body)

pub length-open_chunk : (groups : List ℕ) → length (open_chunk groups) ≡ 5 + length groups
length-open_chunk groups = omega (arith, length-append (length_bytes (length groups)) groups, length-length_bytes (length groups))

-- behind an open gate the body makes the text longer by a chunk
pub chunk_ended : (text groups c : List ℕ) → HasBody 1 text groups c → (behind : List ℕ) × (c ≡ (text ++ open_chunk groups) ++ 0 ∷ behind)
chunk_ended text groups c body =
    let field = length_bytes (length groups) in
    let inner : (field ++ groups ++ 0 ∷ []) ++ body.behind ≡ (field ++ groups) ++ 0 ∷ body.behind = append_assoc (field ++ groups) (0 ∷ []) body.behind in
    (body.behind, body.parts ∙ ap (λ (l : List ℕ). text ++ 1 ∷ l) inner ∙ sym (append_assoc text (1 ∷ field ++ groups) (0 ∷ body.behind)))

pub ends_chunk : (text groups c : List ℕ) → HasBody 1 text groups c → EndsAfter (text ++ open_chunk groups) c
ends_chunk text groups c body =
    let whole = chunk_ended text groups c body in
    record { gate = 0; behind = whole.0; is_closed = omega arith; parts = whole.1 }

-- behind any gate the chunk counts or it does not
pub body_stands : (gate : ℕ) (text groups c : List ℕ) → HasBody gate text groups c → Stands text groups c
body_stands gate text groups c body = elim (cases_eq gate 1) [
  | inl is_open ↦ (let P : ℕ → Type 0 = λ k. HasBody k text groups c in inr (ends_chunk text groups c (subst P is_open body)))
  | inr is_closed ↦ inl (record { gate = gate; behind = chunk_body groups ++ body.behind; is_closed = is_closed; parts = body.parts })
]

-- what one call leaves while it goes on
pub one_call : {D : Type 0} (may_leave : D → List ℕ → Type 0) (left_since : D → D → List ℕ → Type 0) (step : List ℕ → List ℕ → Type 0) (old new : D) (P : List ℕ → Type 0)
    → GoesOn may_leave left_since step old new → ((c : List ℕ) → left_since old old c → may_leave old c) → ((c : List ℕ) → may_leave old c → P c)
    → ((c : List ℕ) → OneAfter (may_leave old) step c → P c) → LeavesOnly left_since P old new
one_call may_leave left_since step old new P goes only_now before after = record {
  each = λ c left. elim (goes.past old c left) [ inl earlier ↦ before c (only_now c earlier) | inr one ↦ after c one ];
  before = λ from c left. elim (goes.past from c left) [ inl earlier ↦ inl earlier | inr one ↦ inr (after c one) ];
}
