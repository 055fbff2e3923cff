-- What the calls that make a store leave.
use Rattle.std.proofs.Common.{◌≡◌, ◌≢◌, ◌≤◌, ◌<◌, ◌+◌, ◌-◌, inl, inr, ℕ, zero, suc, List, [], ◌∷◌, ◌++◌, length, replicate, Bool, true, false, ◌==◌, IsTrue, Result, Ok, Err, OnOk, refl, sym, ap, ◌∙◌, subst, arith, append_assoc, length-append}
use Rattle.std.proofs.lemmas.Bool.{cases_eq, ne_eqb}
use Rattle.std.proofs.lemmas.List.{append-nil}
use Rattle.ct_disk.specs.Disk.{AllImages, Only, Torn, GoesOn, LeavesOnly}
use Rattle.ct_log.specs.Front.{is_id, front, front_with, zeros}
use Rattle.ct_log.specs.Heads.{has_open_header}
use Rattle.ct_log.proofs.Fronts.{id_short, length-zeros, length-front, gate_torn}
use Rattle.ct_log.proofs.MadeHeads.{made_gate}
use Rattle.ct_yard.specs.Kept.{empty_directory}
use Rattle.ct_yard.specs.LogTexts.{HasTransactions}
use Rattle.ct_yard.specs.Telling.{Telling}
use Rattle.ct_recover.specs.Creating.{empty_log, IsClosedOrWhole, IsSyncedOnce, IsNoneOrMade}

-- whatever gate a stop leaves, the header is closed or the store is whole
pub by_gate : (id c : List ℕ) → IsTrue (is_id id) → (gate : ℕ) × (c ≡ front_with gate id 0 ++ 0 ∷ []) → IsClosedOrWhole id c
by_gate id c is_id left = elim (cases_eq left.0 1) [
  | inl is_open ↦ inr (left.1 ∙ ap (λ gate. front_with gate id 0 ++ 0 ∷ []) is_open)
  | inr shut ↦ inl (ap has_open_header left.1 ∙ made_gate left.0 id 0 (0 ∷ []) (id_short id is_id) ∙ ne_eqb left.0 1 shut)
]

-- the gate is written and synced after that sync
pub synced_once : {L : Type 0} (disk : Telling L) (id : List ℕ) (synced now : L) → IsTrue (is_id id) → disk.content synced ≡ front_with 0 id 0 ++ 0 ∷ [] → Only (disk.content synced) (disk.may_leave synced)
    → GoesOn disk.may_leave disk.left_since (Torn 36 1) synced now → ((c : List ℕ) → disk.left_since synced synced c → disk.may_leave synced c) → ((c : List ℕ) → disk.may_leave now c → disk.left_since synced now c) → IsSyncedOnce disk id now
synced_once disk id synced now is closed stable goes only_now counts_now =
    let one : (d c : List ℕ) → disk.may_leave synced d → Torn 36 1 d c → IsClosedOrWhole id c = λ d c was torn. by_gate id c is (gate_torn id 0 (0 ∷ []) d c (id_short id is) (stable d was ∙ closed) torn) in
    let each : (c : List ℕ) → disk.left_since synced now c → IsClosedOrWhole id c = λ c since. elim (goes.past synced c since) [
      | inl was ↦ by_gate id c is (0, stable c (only_now c was) ∙ closed)
      | inr after ↦ one after.0 c after.1 after.2
    ] in
    record {
      synced = synced;
      closed = closed;
      stable = stable;
      since = record { each = each; before = λ from c since. elim (goes.past from c since) [ inl was ↦ inl was | inr after ↦ inr (one after.0 c after.1 after.2) ] };
      left = λ c now_left. each c (counts_now c now_left);
    }

-- the log of a store that was just made has no transactions
pub empty_has : (id bytes : List ℕ) → length id ≤ 16 → bytes ≡ empty_log id → HasTransactions (front id 0) [] bytes
empty_has id bytes short is = record {
  text = front id 0;
  is_text = record {
    chunks = [];
    in_chunks = record { joined = refl; short = λ k d below. absurd (omega arith); fit = λ k d below. absurd (omega arith) };
    is = sym (append-nil (front id 0));
  };
  within = omega (arith, length-front id 0 short);
  ends = record { gate = 0; behind = []; is_closed = omega arith; parts = is };
}

-- a log that is closed or whole is no store, or opens beside the directory
pub none_or_made : (id p l : List ℕ) → IsTrue (is_id id) → p ≡ empty_directory → IsClosedOrWhole id l → IsNoneOrMade id p l
none_or_made id p l is directory (inl closed) = inl closed
none_or_made id p l is directory (inr whole) = inr (record { directory = directory; has = empty_has id l (id_short id is) whole })

-- the directory, piece by piece
pub directory_of : (first second third fourth : List ℕ) → first ≡ 1 ∷ 0 ∷ 255 ∷ 255 ∷ 255 ∷ 255 ∷ [] → second ≡ first ++ zeros (128 - length first) → third ≡ second ++ 1 ∷ [] → fourth ≡ third ++ zeros (4096 - length third)
    → fourth ≡ empty_directory
unfolding zeros
directory_of first second third fourth a b c d =
    let head = 1 ∷ 0 ∷ 255 ∷ 255 ∷ 255 ∷ 255 ∷ [] in
    let two : second ≡ head ++ zeros 122 = b ∙ ap (λ (l : List ℕ). l ++ zeros (128 - length l)) a in
    let three : third ≡ (head ++ zeros 122) ++ 1 ∷ [] = c ∙ ap (λ (l : List ℕ). l ++ 1 ∷ []) two in
    let size : length third ≡ 129 = ap (λ (l : List ℕ). length l) three ∙ omega (arith, length-append (head ++ zeros 122) (1 ∷ []), length-append head (zeros 122), length-zeros 122) in
    let left : 4096 - length third ≡ 3967 = omega arith in
    d ∙ ap (λ n. third ++ zeros n) left ∙ ap (λ (l : List ℕ). l ++ zeros 3967) three ∙ append_assoc (head ++ zeros 122) (1 ∷ []) (zeros 3967)
