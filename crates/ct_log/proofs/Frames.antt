-- The body of a chunk and its parts.
use Rattle.std.proofs.Common.{◌≡◌, ◌<◌, ◌≤◌, ◌+◌, ◌-◌, ◌^◌, subst, Bool, true, nat_eq, ℕ, List, [], ◌∷◌, ◌++◌, length, take, drop, refl, sym, ap, ◌∙◌, arith, append_assoc, length-append, length-drop, length-take-le}
use Rattle.std.proofs.lemmas.List.{take_at, drop_at, append-nil, take_all, drop_all, drop-drop, drop-append-le}
use Rattle.std.proofs.lemmas.Bool.Decides.{nat_tests}
use Rattle.ct_log.specs.Chunks.{length_bytes, chunk_body, chunk_size, framed, groups_of}

pub length-length_bytes : (n : ℕ) → length (length_bytes n) ≡ 4
unfolding length_bytes
length-length_bytes n = refl

pub length-chunk_body : (groups : List ℕ) → length (chunk_body groups) ≡ 5 + length groups
length-chunk_body groups =
    omega (arith, length-append (length_bytes (length groups) ++ groups) (0 ∷ []), length-append (length_bytes (length groups)) groups, length-length_bytes (length groups))

pub chunk_size_some : (groups : List ℕ) → 0 < length groups → chunk_size groups ≡ 5 + length groups
chunk_size_some [] some = absurd (omega arith)
chunk_size_some (x ∷ groups) some = refl

pub framed_some : (groups : List ℕ) → 0 < length groups → framed groups ≡ chunk_body groups
framed_some [] some = absurd (omega arith)
framed_some (x ∷ groups) some = refl

-- the groups of a body
pub groups_of-chunk_body : (groups : List ℕ) → groups_of (chunk_body groups) ≡ groups
groups_of-chunk_body groups =
    let field = length_bytes (length groups) in
    let whole : chunk_body groups ≡ field ++ (groups ++ 0 ∷ []) = append_assoc field groups (0 ∷ []) in
    let behind : drop 4 (chunk_body groups) ≡ groups ++ 0 ∷ [] =
    ap (λ (l : List ℕ). drop 4 l) whole ∙ drop_at field (groups ++ 0 ∷ []) 4 (length-length_bytes (length groups)) in
    let count : length (chunk_body groups) - 5 ≡ length groups = omega (arith, length-chunk_body groups) in
    ap (λ n. take n (drop 4 (chunk_body groups))) count ∙ ap (λ (l : List ℕ). take (length groups) l) behind ∙ take_at groups (0 ∷ []) (length groups) refl

-- a body of these groups tells them
pub framed_is : (body groups : List ℕ) → 0 < length groups → length groups < 2 ^ 32 → body ≡ chunk_body groups → (body ≡ framed (groups_of body)) × (length (groups_of body) < 2 ^ 32)
framed_is body groups some short is =
    let told : groups_of body ≡ groups = ap groups_of is ∙ groups_of-chunk_body groups in
    (is ∙ sym (ap framed told ∙ framed_some groups some), (let P : List ℕ → Type 0 = λ l. length l < 2 ^ 32 in subst P (sym told) short))

-- the part behind a place, turned by one
pub turned : (body rotated : List ℕ) (gate : ℕ) → 4 ≤ gate → gate ≤ length body
    → rotated ≡ drop 1 (take (length body - gate) (drop gate body)) ++ take 1 (take (length body - gate) (drop gate body))
    → drop 4 (take gate body ++ (rotated ++ drop (length body - gate) (drop gate body))) ≡ drop 4 (take gate body) ++ (drop (gate + 1) body ++ take 1 (drop gate body))
turned body rotated gate far within is =
    let rest = drop gate body in
    let long : length rest ≡ length body - gate = length-drop gate body in
    let whole : take (length body - gate) rest ≡ rest = take_all (length body - gate) rest (omega arith) in
    let none : drop (length body - gate) rest ≡ [] = drop_all (length body - gate) rest (omega arith) in
    let turn : rotated ≡ drop (gate + 1) body ++ take 1 rest =
    is ∙ ap (λ (l : List ℕ). drop 1 l ++ take 1 l) whole ∙ ap (λ (l : List ℕ). l ++ take 1 rest) (drop-drop 1 gate body) in
    let back : rotated ++ drop (length body - gate) rest ≡ drop (gate + 1) body ++ take 1 rest =
    ap (λ (l : List ℕ). rotated ++ l) none ∙ append-nil rotated ∙ turn in
    let front : 4 ≤ length (take gate body) = omega (arith, length-take-le gate body within) in
    drop-append-le 4 (take gate body) (rotated ++ drop (length body - gate) rest) front ∙ ap (λ (l : List ℕ). drop 4 (take gate body) ++ l) back

-- a body that has a group more, its gate at the end again
pub lengthened : (groups group : List ℕ) (gate : ℕ) → gate ≡ length groups + 4
    → length_bytes (length (chunk_body groups ++ group) - 5) ++ drop 4 (take gate (chunk_body groups ++ group)) ++ drop (gate + 1) (chunk_body groups ++ group) ++ take 1 (drop gate (chunk_body groups ++ group))
    ≡ chunk_body (groups ++ group)
lengthened groups group gate here =
    let field = length_bytes (length groups) in
    let size = length-length_bytes (length groups) in
    let parts : chunk_body groups ++ group ≡ (field ++ groups) ++ (0 ∷ group) = append_assoc (field ++ groups) (0 ∷ []) group in
    let long : length (field ++ groups) ≡ gate = omega (arith, length-append field groups) in
    let front : take gate (chunk_body groups ++ group) ≡ field ++ groups = ap (λ (l : List ℕ). take gate l) parts ∙ take_at (field ++ groups) (0 ∷ group) gate long in
    let back : drop gate (chunk_body groups ++ group) ≡ 0 ∷ group = ap (λ (l : List ℕ). drop gate l) parts ∙ drop_at (field ++ groups) (0 ∷ group) gate long in
    let behind : drop (gate + 1) (chunk_body groups ++ group) ≡ group = sym (drop-drop 1 gate (chunk_body groups ++ group)) ∙ ap (λ (l : List ℕ). drop 1 l) back in
    let told : drop 4 (take gate (chunk_body groups ++ group)) ≡ groups = ap (λ (l : List ℕ). drop 4 l) front ∙ drop_at field groups 4 size in
    let closed : take 1 (drop gate (chunk_body groups ++ group)) ≡ 0 ∷ [] = ap (λ (l : List ℕ). take 1 l) back in
    let count : length (chunk_body groups ++ group) - 5 ≡ length (groups ++ group) =
    omega (arith, length-append (chunk_body groups) group, length-chunk_body groups, length-append groups group) in
    ap (λ n. length_bytes n ++ drop 4 (take gate (chunk_body groups ++ group)) ++ drop (gate + 1) (chunk_body groups ++ group) ++ take 1 (drop gate (chunk_body groups ++ group))) count
    ∙ ap (λ (l : List ℕ). length_bytes (length (groups ++ group)) ++ l ++ drop (gate + 1) (chunk_body groups ++ group) ++ take 1 (drop gate (chunk_body groups ++ group))) told
    ∙ ap (λ (l : List ℕ). length_bytes (length (groups ++ group)) ++ groups ++ l ++ take 1 (drop gate (chunk_body groups ++ group))) behind
    ∙ ap (λ (l : List ℕ). length_bytes (length (groups ++ group)) ++ groups ++ group ++ l) closed
    ∙ ap (λ (l : List ℕ). l ++ 0 ∷ []) (append_assoc (length_bytes (length (groups ++ group))) groups group)

-- a vector with no bytes has no groups
pub none_of : (bytes : List ℕ) → length bytes ≡ 0 → groups_of bytes ≡ []
none_of [] none = refl
none_of (x ∷ bytes) none = absurd (omega arith)

-- what a test against zero says
pub eq_of : {b : Bool} {n : ℕ} → b ≡ nat_eq n 0 → b ≡ true → n ≡ 0
eq_of test holds = grind (arith, nat_tests)
