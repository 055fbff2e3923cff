-- What the chunks of a log follow from, and how they stand behind its front.
use Rattle.std.proofs.Common.{◌≡◌, ◌≢◌, inl, inr, ◌<◌, ◌^◌, ℕ, zero, suc, List, [], ◌∷◌, ◌++◌, length, take, drop, slice_index_or, refl, sym, ap, ◌∙◌, subst, arith, append_assoc}
use Rattle.std.specs.Prelude.{All}
use Rattle.std.specs.Int.{w32, from_le_bytes}
use Rattle.std.proofs.lemmas.List.{take_at, drop_at, append-nil}
use Rattle.std.proofs.lemmas.Nat.{from_le_bytes-to_le_bytes_4}
use Rattle.ct_log.specs.Chunks.{length_bytes, open_chunk, chunks_text, EndsAfter, IsShort, HasChunks, HoldsChunks}
use Rattle.ct_log.specs.Stages.{Stands}
use Rattle.ct_log.proofs.Frames.{length-length_bytes}

-- joined lists whose fronts have one length
same_front : (a b u v : List ℕ) → length a ≡ length b → a ++ u ≡ b ++ v → a ≡ b
same_front a b u v long same = sym (take_at a u (length b) long) ∙ ap (λ (l : List ℕ). take (length b) l) same ∙ take_at b v (length b) refl

same_back : (a b u v : List ℕ) → length a ≡ length b → a ++ u ≡ b ++ v → u ≡ v
same_back a b u v long same = sym (drop_at a u (length b) long) ∙ ap (λ (l : List ℕ). drop (length b) l) same ∙ drop_at b v (length b) refl

-- a chunk's length field tells its length
same_length : (m n : ℕ) → m < 2 ^ 32 → n < 2 ^ 32 → length_bytes m ≡ length_bytes n → m ≡ n
unfolding length_bytes
same_length m n short_m short_n same =
    sym (from_le_bytes-to_le_bytes_4 m short_m) ∙ ap (λ (l : List ℕ). from_le_bytes w32 l) same ∙ from_le_bytes-to_le_bytes_4 n short_n

first_short : (chunk : List ℕ) (chunks : List (List ℕ)) → All IsShort (chunk ∷ chunks) → IsShort chunk
first_short chunk chunks short = short 0 [] (omega arith)

rest_short : (chunk : List ℕ) (chunks : List (List ℕ)) → All IsShort (chunk ∷ chunks) → All IsShort chunks
rest_short chunk chunks short = λ k d below. short (suc k) d (omega arith)

-- what stands behind the open gate of a chunk
behind_gate : (chunk : List ℕ) (chunks : List (List ℕ)) (rest : List ℕ) → chunks_text (chunk ∷ chunks) ++ rest ≡ 1 ∷ (length_bytes (length chunk) ++ (chunk ++ (chunks_text chunks ++ rest)))
behind_gate chunk chunks rest =
    let field = length_bytes (length chunk) in
    ap (λ (l : List ℕ). 1 ∷ l) (append_assoc (field ++ chunk) (chunks_text chunks) rest ∙ append_assoc field chunk (chunks_text chunks ++ rest))

same_tail : (x y : ℕ) (xs ys : List ℕ) → x ∷ xs ≡ y ∷ ys → xs ≡ ys
same_tail x y xs ys same = cc

-- chunks up to a gate that is not open are determined by their bytes
determined : (xs ys : List (List ℕ)) (g h : ℕ) (r s : List ℕ) → All IsShort xs → All IsShort ys → g ≢ 1 → h ≢ 1
    → chunks_text xs ++ g ∷ r ≡ chunks_text ys ++ h ∷ s → xs ≡ ys
determined [] [] g h r s short_x short_y shut_g shut_h same = refl
determined [] (y ∷ ys) g h r s short_x short_y shut_g shut_h same =
    let is_open : g ≡ 1 = cc (same ∙ behind_gate y ys (h ∷ s)) in absurd (shut_g is_open)
determined (x ∷ xs) [] g h r s short_x short_y shut_g shut_h same =
    let is_open : h ≡ 1 = cc (sym same ∙ behind_gate x xs (g ∷ r)) in absurd (shut_h is_open)
determined (x ∷ xs) (y ∷ ys) g h r s short_x short_y shut_g shut_h same =
    let rest_x = x ++ (chunks_text xs ++ g ∷ r) in
    let rest_y = y ++ (chunks_text ys ++ h ∷ s) in
    let fields : length_bytes (length x) ++ rest_x ≡ length_bytes (length y) ++ rest_y =
    same_tail 1 1 (length_bytes (length x) ++ rest_x) (length_bytes (length y) ++ rest_y) (sym (behind_gate x xs (g ∷ r)) ∙ same ∙ behind_gate y ys (h ∷ s)) in
    let sizes : length (length_bytes (length x)) ≡ length (length_bytes (length y)) = length-length_bytes (length x) ∙ sym (length-length_bytes (length y)) in
    let field = same_front (length_bytes (length x)) (length_bytes (length y)) rest_x rest_y sizes fields in
    let groups = same_back (length_bytes (length x)) (length_bytes (length y)) rest_x rest_y sizes fields in
    let long : length x ≡ length y = same_length (length x) (length y) (first_short x xs short_x) (first_short y ys short_y) field in
    let first : x ≡ y = same_front x y (chunks_text xs ++ g ∷ r) (chunks_text ys ++ h ∷ s) long groups in
    let more : xs ≡ ys = determined xs ys g h r s (rest_short x xs short_x) (rest_short y ys short_y) shut_g shut_h
    (same_back x y (chunks_text xs ++ g ∷ r) (chunks_text ys ++ h ∷ s) long groups) in
    cc

pub chunks_determined : (front other bytes : List ℕ) (chunks more : List (List ℕ)) → length front ≡ length other → HasChunks front chunks bytes → HasChunks other more bytes → chunks ≡ more
chunks_determined front other bytes chunks more long has also =
    let here : bytes ≡ front ++ (chunks_text chunks ++ (has.ends).gate ∷ (has.ends).behind) =
    (has.ends).parts ∙ append_assoc front (chunks_text chunks) ((has.ends).gate ∷ (has.ends).behind) in
    let there : bytes ≡ other ++ (chunks_text more ++ (also.ends).gate ∷ (also.ends).behind) =
    (also.ends).parts ∙ append_assoc other (chunks_text more) ((also.ends).gate ∷ (also.ends).behind) in
    determined chunks more (has.ends).gate (also.ends).gate (has.ends).behind (also.ends).behind has.short also.short (has.ends).is_closed (also.ends).is_closed
    (same_back front other (chunks_text chunks ++ (has.ends).gate ∷ (has.ends).behind) (chunks_text more ++ (also.ends).gate ∷ (also.ends).behind) long (sym here ∙ there))

-- one chunk more
pub chunks_text-more : (chunks : List (List ℕ)) (groups : List ℕ) → chunks_text (chunks ++ groups ∷ []) ≡ chunks_text chunks ++ open_chunk groups
chunks_text-more [] groups = append-nil (open_chunk groups)
chunks_text-more (chunk ∷ chunks) groups =
    ap (λ (l : List ℕ). open_chunk chunk ++ l) (chunks_text-more chunks groups) ∙ sym (append_assoc (open_chunk chunk) (chunks_text chunks) (open_chunk groups))

one_more : (chunk : List ℕ) (chunks : List (List ℕ)) → IsShort chunk → All IsShort chunks → (k : ℕ) (d : List ℕ) → k < length (chunk ∷ chunks) → IsShort (slice_index_or (chunk ∷ chunks) k d)
one_more chunk chunks short all zero d below = short
one_more chunk chunks short all (suc k) d below = all k d (omega arith)

pub short_more : (chunks : List (List ℕ)) (groups : List ℕ) → All IsShort chunks → IsShort groups → All IsShort (chunks ++ groups ∷ [])
short_more [] groups all short = one_more groups [] short all
short_more (chunk ∷ chunks) groups all short =
    one_more chunk (chunks ++ groups ∷ []) (first_short chunk chunks all) (short_more chunks groups (rest_short chunk chunks all) short)

-- the text of a log's chunks, or that and one more
pub stands_by_chunks : (front : List ℕ) (chunks : List (List ℕ)) (groups text c : List ℕ) → All IsShort chunks → IsShort groups → text ≡ front ++ chunks_text chunks → Stands text groups c → HoldsChunks front chunks groups c
stands_by_chunks front chunks groups text c all short is (inl ends) =
    let P : List ℕ → Type 0 = λ t. EndsAfter t c in inl (record { short = all; ends = subst P is ends })
stands_by_chunks front chunks groups text c all short is (inr ends) =
    let P : List ℕ → Type 0 = λ t. EndsAfter t c in
    let longer : text ++ open_chunk groups ≡ front ++ chunks_text (chunks ++ groups ∷ []) =
    ap (λ (l : List ℕ). l ++ open_chunk groups) is ∙ append_assoc front (chunks_text chunks) (open_chunk groups) ∙ ap (λ (l : List ℕ). front ++ l) (sym (chunks_text-more chunks groups)) in
    inr (record { short = short_more chunks groups all short; ends = subst P longer ends })

-- the text of a log's chunks
pub has_by_text : (front : List ℕ) (chunks : List (List ℕ)) (text c : List ℕ) → All IsShort chunks → text ≡ front ++ chunks_text chunks → EndsAfter text c → HasChunks front chunks c
has_by_text front chunks text c all is ends = let P : List ℕ → Type 0 = λ t. EndsAfter t c in record { short = all; ends = subst P is ends }
