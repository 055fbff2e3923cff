-- One transaction more on a log, and which prefix of a history its bytes hold.
use Rattle.std.proofs.Common.{◌≡◌, ◌≤◌, ◌<◌, ◌+◌, ◌-◌, ◌^◌, inl, inr, ℕ, zero, suc, List, [], ◌∷◌, ◌++◌, length, take, map, flat_map, slice_index_or, refl, sym, ap, ◌∙◌, subst, arith, append_assoc, length-append}
use Rattle.std.specs.Prelude.{All}
use Rattle.std.proofs.lemmas.List.{take_at, append-nil}
use Rattle.ct_definitions.specs.declared.change.Change.{Change}
use Rattle.ct_definitions.specs.declared.change.Transaction.{Transaction}
use Rattle.ct_definitions.specs.Histories.{History, last_number}
use Rattle.ct_group.specs.Commit.{commit_text}
use Rattle.ct_group.specs.Groups.{FitsTransaction}
use Rattle.ct_log.specs.Chunks.{open_chunk, chunks_text, EndsAfter, IsShort}
use Rattle.ct_log.specs.Stages.{Stands}
use Rattle.ct_log.proofs.ChunkLaws.{chunks_text-more, short_more}
use Rattle.ct_yard.specs.Machine.{next_transaction, with_change}
use Rattle.ct_yard.specs.LogTexts.{groups_text, log_text, InChunks, IsTextOf, HasTransactions, up_to_number, HoldsPrefix}

map_more : (chunks : List (List Transaction)) (one : List Transaction) → map groups_text (chunks ++ one ∷ []) ≡ map groups_text chunks ++ groups_text one ∷ []
map_more [] one = refl
map_more (chunk ∷ chunks) one = ap (λ (l : List (List ℕ)). groups_text chunk ∷ l) (map_more chunks one)

joined_more : (chunks : List (List Transaction)) (one : List Transaction) → flat_map (λ chunk. chunk) (chunks ++ one ∷ []) ≡ flat_map (λ chunk. chunk) chunks ++ one
joined_more [] one = append-nil one
joined_more (chunk ∷ chunks) one = ap (λ (l : List Transaction). chunk ++ l) (joined_more chunks one) ∙ sym (append_assoc chunk (flat_map (λ chunk. chunk) chunks) one)

one_fit : (t : Transaction) (ts : List Transaction) → FitsTransaction t → All FitsTransaction ts → (k : ℕ) (d : Transaction) → k < length (t ∷ ts) → FitsTransaction (slice_index_or (t ∷ ts) k d)
one_fit t ts fits all zero d below = fits
one_fit t ts fits all (suc k) d below = all k d (omega arith)

pub fit_more : (ts : List Transaction) (t : Transaction) → All FitsTransaction ts → FitsTransaction t → All FitsTransaction (ts ++ t ∷ [])
fit_more [] t all fits = one_fit t [] fits all
fit_more (x ∷ ts) t all fits = one_fit x (ts ++ t ∷ []) (all 0 x (omega arith)) (fit_more ts t (λ k d below. all (suc k) d (omega arith)) fits)

-- a log's text with one transaction more, in a chunk of its own
pub text_more : (front : List ℕ) (ts : List Transaction) (t : Transaction) (text : List ℕ) → FitsTransaction t → IsShort (commit_text t) → IsTextOf front ts text → IsTextOf front (ts ++ t ∷ []) (text ++ open_chunk (commit_text t))
text_more front ts t text fits short is =
    let chunks = is.chunks in
    let own : groups_text (t ∷ []) ≡ commit_text t = append-nil (commit_text t) in
    record {
      chunks = chunks ++ (t ∷ []) ∷ [];
      in_chunks = record {
        joined = joined_more chunks (t ∷ []) ∙ ap (λ (l : List Transaction). l ++ t ∷ []) (is.in_chunks).joined;
        short = subst (λ (l : List (List ℕ)). All IsShort l) (sym (map_more chunks (t ∷ []))) (short_more (map groups_text chunks) (groups_text (t ∷ [])) (is.in_chunks).short (subst (λ (l : List ℕ). IsShort l) (sym own) short));
        fit = fit_more ts t (is.in_chunks).fit fits;
      };
      is = ap (λ (l : List ℕ). l ++ open_chunk (commit_text t)) is.is
          ∙ append_assoc front (chunks_text (map groups_text chunks)) (open_chunk (commit_text t))
          ∙ ap (λ (l : List ℕ). front ++ (chunks_text (map groups_text chunks) ++ open_chunk l)) (sym own)
          ∙ ap (λ (l : List ℕ). front ++ l) (sym (chunks_text-more (map groups_text chunks) (groups_text (t ∷ []))))
          ∙ ap (λ (l : List (List ℕ)). front ++ chunks_text l) (sym (map_more chunks (t ∷ [])));
    }

-- bytes that end behind a log's text hold the history of its transactions
pub holds_at : (front : List ℕ) (history : History) (ts : List Transaction) (text bytes : List ℕ) (least number : ℕ) → least ≤ number → number ≤ last_number history → up_to_number history number ≡ ts
    → IsTextOf front ts text → length text < 2 ^ 62 → EndsAfter text bytes → HoldsPrefix front history least bytes
holds_at front history ts text bytes least number from within same is small ends = record {
  number = number;
  from_least = from;
  within = within;
  has = record { text = text; is_text = subst (λ (l : List Transaction). IsTextOf front l text) (sym same) is; within = small; ends = ends };
}

-- all of it
pub whole_held : (front : List ℕ) (history : History) (text bytes : List ℕ) (least : ℕ) → least ≤ last_number history → IsTextOf front history.transactions text → length text < 2 ^ 62 → EndsAfter text bytes → HoldsPrefix front history least bytes
whole_held front history text bytes least from is small ends =
    let all : last_number history - history.base_number ≡ length history.transactions = omega arith in
    let same : up_to_number history (last_number history) ≡ history.transactions =
    ap (λ n. take n history.transactions) all ∙ ap (λ (l : List Transaction). take (length history.transactions) l) (sym (append-nil history.transactions)) ∙ take_at history.transactions [] (length history.transactions) refl in
    holds_at front history history.transactions text bytes least (last_number history) from (omega arith) same is small ends

-- all but the last
pub fewer_held : (front : List ℕ) (history : History) (change : Change) (text bytes : List ℕ) (least : ℕ) → least ≤ last_number history → IsTextOf front history.transactions text → length text < 2 ^ 62 → EndsAfter text bytes → HoldsPrefix front (with_change history change) least bytes
fewer_held front history change text bytes least from is small ends =
    let t = next_transaction history change in
    let n : last_number history - history.base_number ≡ length history.transactions = omega arith in
    let same : up_to_number (with_change history change) (last_number history) ≡ history.transactions =
    ap (λ k. take k (history.transactions ++ t ∷ [])) n ∙ take_at history.transactions (t ∷ []) (length history.transactions) refl in
    holds_at front (with_change history change) history.transactions text bytes least (last_number history) from (omega (arith, length-append history.transactions (t ∷ []))) same is small ends

-- the log with the transaction or without it
pub either_held : (front : List ℕ) (history : History) (change : Change) (text group bytes : List ℕ) (least : ℕ) → least ≤ last_number history → IsTextOf front history.transactions text
    → IsTextOf front (with_change history change).transactions (text ++ open_chunk group) → length (text ++ open_chunk group) < 2 ^ 62 → Stands text group bytes → HoldsPrefix front (with_change history change) least bytes
either_held front history change text group bytes least from is longer small (inl ends) = fewer_held front history change text bytes least from is (omega (arith, small, length-append text (open_chunk group))) ends
either_held front history change text group bytes least from is longer small (inr ends) =
    whole_held front (with_change history change) (text ++ open_chunk group) bytes least (omega (arith, from, length-append history.transactions (next_transaction history change ∷ []))) longer small ends
