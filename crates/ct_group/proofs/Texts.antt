-- The texts of groups.
use Rattle.std.proofs.Common.{◌≡◌, ℕ, ◌+◌, ◌<◌, ◌^◌, List, [], ◌∷◌, ◌++◌, length, take, drop, refl, ap, ◌∙◌, append_assoc, arith}
use Rattle.std.specs.Int.{w16, w32, w64, to_le_bytes}
use Rattle.std.proofs.lemmas.List.{take_at, drop_at, length-append}
use Rattle.ct_definitions.specs.declared.change.Transaction.{Transaction}
use Rattle.ct_group.specs.Commit.{made_number, changes_text, commit_body, commit_text, FitsCommit}

pub length-commit_body : (t : Transaction) → length (commit_body t) ≡ 15 + length (changes_text t.changes)
length-commit_body t = omega arith

-- a body's length fits the field before it
pub body_short : (t : Transaction) → FitsCommit t → length (commit_body t) < 2 ^ 32
body_short t fits = omega (arith, length-commit_body t, fits.short)

-- a length that is put before a body behind its kind
pub put_before : (old body : List ℕ) (at len n : ℕ) → at ≡ length old + 1
    → take at (old ++ 1 ∷ [] ++ to_le_bytes w32 n ++ body) ++ to_le_bytes w32 len ++ drop (at + 4) (old ++ 1 ∷ [] ++ to_le_bytes w32 n ++ body) ≡ old ++ (1 ∷ to_le_bytes w32 len ++ body)
put_before old body at len n place =
    let kind : List ℕ = old ++ 1 ∷ [] in
    let kind_len : length kind ≡ at = omega (arith, length-append old (1 ∷ [])) in
    let field : List ℕ = to_le_bytes w32 n in
    let head : List ℕ = kind ++ field in
    let head_len : length head ≡ at + 4 = omega (arith, length-append kind field) in
    let whole : List ℕ = head ++ body in
    let front : take at whole ≡ kind = ap (take at) (append_assoc kind field body) ∙ take_at kind (field ++ body) at kind_len in
    let back : drop (at + 4) whole ≡ body = drop_at head body (at + 4) head_len in
    rw (front, back) (simp append_assoc)

regrouped : (a b c d e f : List ℕ) → a ++ b ++ c ++ d ++ e ++ f ≡ a ++ (b ++ c ++ (d ++ e) ++ f)
regrouped a b c d e f = simp append_assoc

-- a body that was written field by field
pub body_written : (t : Transaction) (old numbered of_session made counted new : List ℕ)
    → numbered ≡ old ++ to_le_bytes w64 t.number → of_session ≡ numbered ++ to_le_bytes w16 t.session → made ≡ of_session ++ made_number t.made ∷ [] → counted ≡ made ++ to_le_bytes w32 (length t.changes) → new ≡ counted ++ changes_text t.changes
    → new ≡ old ++ commit_body t
body_written t old numbered of_session made counted new number session is_made count changes =
    let texts = changes_text t.changes in
    let count_text : List ℕ = to_le_bytes w32 (length t.changes) in
    let made_text : List ℕ = made_number t.made ∷ [] in
    let session_text : List ℕ = to_le_bytes w16 t.session in
    let number_text : List ℕ = to_le_bytes w64 t.number in
    let here : new ≡ old ++ number_text ++ session_text ++ made_text ++ count_text ++ texts = rw (changes, count, is_made, session, number) refl in
    here ∙ regrouped old number_text session_text made_text count_text texts

-- a commit whose length was put before its body once the body stood
pub commit_written : (t : Transaction) (old stood new : List ℕ) (at len : ℕ) → stood ≡ old ++ 1 ∷ [] ++ to_le_bytes w32 0 ++ commit_body t → at ≡ length old + 1 → len ≡ length (commit_body t)
    → new ≡ take at stood ++ to_le_bytes w32 len ++ drop (at + 4) stood → new ≡ old ++ commit_text t
unfolding commit_text
commit_written t old stood new at len stands place size put =
    let F : List ℕ → List ℕ = λ l. take at l ++ to_le_bytes w32 len ++ drop (at + 4) l in
    let G : ℕ → List ℕ = λ n. old ++ (1 ∷ to_le_bytes w32 n ++ commit_body t) in
    put ∙ ap F stands ∙ put_before old (commit_body t) at len 0 place ∙ ap G size
