-- Chunks that are replayed one after the other.
use Rattle.std.proofs.Common.{◌≡◌, ◌<◌, ◌+◌, ℕ, zero, suc, Bool, true, false, IsTrue, List, [], ◌∷◌, ◌++◌, length, map, flat_map, drop, slice_index_or, Result, Ok, Err, refl, sym, ap, ◌∙◌, subst, arith, append_assoc, length-append}
use Rattle.std.specs.Prelude.{All}
use Rattle.std.proofs.lemmas.Bool.{and_from}
use Rattle.std.proofs.lemmas.List.{drop_at, drop-drop, flat_map_more, map-append}
use Rattle.ct_definitions.specs.declared.change.Transaction.{Transaction}
use Rattle.ct_definitions.specs.Changes.{State}
use Rattle.ct_definitions.specs.Histories.{after_transactions, are_defined}
use Rattle.ct_group.specs.Groups.{FitsTransaction}
use Rattle.ct_laws.proofs.Histories.{are_defined-append, after_transactions-append}
use Rattle.ct_log.specs.Chunks.{open_chunk, chunks_text, length_bytes, IsShort, BeginsWithChunk}
use Rattle.ct_log.proofs.ChunkLaws.{chunks_text-more, short_more}
use Rattle.ct_log.proofs.Frames.{length-length_bytes}
use Rattle.ct_log.specs.Reading.{found_in, nothing}
use Rattle.ct_yard.specs.LogTexts.{groups_text}
use Rattle.ct_recover.specs.Replaying.{IsWithin, ordinal_after, Replays, ReplaysOneChunk, ReplaysChunk, ReplaysTo, ReplaysLog, IsStopped}
use Rattle.ct_recover.specs.declared.fault.OpenFault.{OpenFault}
use Rattle.ct_recover.specs.declared.fault.OpenFault.TheVariants.{NotEmpty, Undone, BadLog, Device, Memory}
use Rattle.ct_recover.specs.declared.replay.Replay.{Replay}

-- each of both lists
both_fit : (ts us : List Transaction) → All FitsTransaction ts → All FitsTransaction us → All FitsTransaction (ts ++ us)
both_fit [] us first second = second
both_fit (t ∷ ts) us first second = one_more (first 0 t (omega arith)) (both_fit ts us (λ k d below. first (suc k) d (omega arith)) second)
  where
    one_more : FitsTransaction t → All FitsTransaction (ts ++ us) → (k : ℕ) (d : Transaction) → k < length (t ∷ (ts ++ us)) → FitsTransaction (slice_index_or (t ∷ (ts ++ us)) k d)
    one_more own rest zero d below = own
    one_more own rest (suc k) d below = rest k d (omega arith)

-- transactions after others
replays_then : (ts us : List Transaction) (old mid new : Replay) → Replays ts old mid → Replays us mid new → Replays (ts ++ us) old new
replays_then ts us old mid new first second =
    let here = after_transactions old.state ts in
    let last = old.number + length ts in
    let more = length-append ts us in
    let rest : are_defined here last us ≡ true =
    ap (λ (s : State). are_defined s last us) (sym first.state) ∙ ap (λ n. are_defined mid.state n us) (sym first.number) ∙ second.defined in
    record {
      fit = both_fit ts us first.fit second.fit;
      defined = are_defined-append old.state old.number ts us ∙ and_from (are_defined old.state old.number ts) (are_defined here last us) first.defined rest;
      state = second.state ∙ ap (λ (s : State). after_transactions s us) first.state ∙ sym (after_transactions-append old.state ts us);
      number = omega (arith, first.number, second.number, more);
      ordinal = second.ordinal ∙ ap (λ n. ordinal_after n (length us)) first.ordinal ∙ counted old.ordinal (length ts) (length us) ∙ ap (λ n. ordinal_after old.ordinal n) (sym more);
    }
  where
    counted : (n k j : ℕ) → ordinal_after (ordinal_after n k) j ≡ ordinal_after n (k + j)
    counted n k j = omega arith

pub length-open_chunk : (groups : List ℕ) → length (open_chunk groups) ≡ 5 + length groups
length-open_chunk groups = omega (arith, length-append (length_bytes (length groups)) groups, length-length_bytes (length groups))

-- what stands behind a chunk
behind_chunk : (bytes groups behind : List ℕ) (place next : ℕ) → next ≡ place + 5 + length groups → drop place bytes ≡ open_chunk groups ++ behind → drop next bytes ≡ behind
behind_chunk bytes groups behind place next is parts =
    let n = 5 + length groups in
    let sum : next ≡ place + n = omega (arith, is) in
    ap (λ k. drop k bytes) sum ∙ sym (drop-drop n place bytes) ∙ ap (λ (l : List ℕ). drop n l) parts ∙ drop_at (open_chunk groups) behind n (length-open_chunk groups)

-- one chunk more
pub chunk_more : (tells : Bool) (bytes : List ℕ) (old mid new : Replay) → ReplaysTo tells bytes old mid → ReplaysOneChunk tells (drop mid.place bytes) mid new → ReplaysTo tells bytes old new
chunk_more tells bytes old mid new so one =
    let ts = one.transactions in
    let groups = groups_text ts in
    let chunks = so.chunks ++ ts ∷ [] in
    let texts : map groups_text chunks ≡ map groups_text so.chunks ++ groups ∷ [] = map-append groups_text so.chunks (ts ∷ []) in
    let text : chunks_text (map groups_text chunks) ≡ chunks_text (map groups_text so.chunks) ++ open_chunk groups = ap (λ (l : List (List ℕ)). chunks_text l) texts ∙ chunks_text-more (map groups_text so.chunks) groups in
    let joined : flat_map (λ chunk. chunk) so.chunks ++ ts ≡ flat_map (λ chunk. chunk) chunks = flat_map_more (λ (chunk : List Transaction). chunk) [] so.chunks ts in
    record {
      chunks = chunks;
      replays = subst (λ (l : List Transaction). Replays l old new) joined (replays_then (flat_map (λ chunk. chunk) so.chunks) ts old mid new so.replays one.replays);
      short = λ told. subst (λ (l : List (List ℕ)). All IsShort l) (sym texts) (short_more (map groups_text so.chunks) groups (so.short told) (one.begins told).short);
      place = λ told. one.place told ∙ omega (arith, so.place told, ap (λ (l : List ℕ). length l) text, length-append (chunks_text (map groups_text so.chunks)) (open_chunk groups), length-open_chunk groups);
      parts = λ told.
          (let begins = one.begins told in
          so.parts told ∙ ap (λ (l : List ℕ). chunks_text (map groups_text so.chunks) ++ l) begins.parts
          ∙ sym (append_assoc (chunks_text (map groups_text so.chunks)) (open_chunk groups) begins.behind)
          ∙ ap (λ (l : List ℕ). l ++ begins.behind) (sym text)
          ∙ ap (λ (l : List ℕ). chunks_text (map groups_text chunks) ++ l) (sym (behind_chunk bytes groups begins.behind mid.place new.place (one.place told) begins.parts)));
    }

-- nothing is read
pub chunk_none : (tells : Bool) (bytes : List ℕ) (old : Replay) → IsWithin old → ReplaysTo tells bytes old old
chunk_none tells bytes old within = record {
  chunks = [];
  replays = record { fit = λ k d below. absurd (omega arith); defined = refl; state = refl; number = omega arith; ordinal = omega (arith, within.ordinal) };
  short = λ told k d below. absurd (omega arith);
  place = λ told. omega arith;
  parts = λ told. refl;
}

-- the same bytes, where they are told
module _ (tells : Bool) (bytes other : List ℕ) (same : IsTrue tells → other ≡ bytes) (old new : Replay) where
  one_chunk_of : ReplaysOneChunk tells other old new → ReplaysOneChunk tells bytes old new
  one_chunk_of one = record {
    transactions = one.transactions;
    replays = one.replays;
    begins = λ told. subst (λ (l : List ℕ). BeginsWithChunk (groups_text one.transactions) l) (same told) (one.begins told);
    place = one.place;
  }

  pub of_told : (result : Result Bool OpenFault) → ReplaysChunk tells other result old new → ReplaysChunk tells bytes result old new
  of_told (Ok true) one = one_chunk_of one
  of_told (Ok false) none = (λ told. subst (λ (l : List ℕ). found_in l ≡ nothing) (same told) (none.0 told), none.1)
  of_told (Err (BadLog place)) stopped = λ told. subst (λ (l : List ℕ). IsStopped l old place) (same told) (stopped told)
  of_told (Err Memory) is = tt
  of_told (Err Device) is = tt
  of_told (Err NotEmpty) is = is
  of_told (Err Undone) is = is
