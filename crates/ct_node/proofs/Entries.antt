-- Entries in cells: read back as written, and as many as there is room for.
use Rattle.std.proofs.Common.{◌≡◌, ℕ, suc, ◌+◌, ◌-◌, ◌*◌, ◌/◌, ◌^◌, ◌<◌, ◌≤◌, Bool, true, false, cond, List, [], ◌∷◌, ◌++◌, length, take, drop, map, refl, sym, ap, ◌∙◌, arith}
use Rattle.std.specs.List.{insert, remove}
use Rattle.std.specs.Int.{w64, from_be_bytes, to_be_bytes, from_le_bytes, to_le_bytes}
use Rattle.std.proofs.Math.Nat.{mul-le-mul_left, mul_comm}
use Rattle.std.proofs.lemmas.Nat.{from_be_bytes-to_be_bytes_8, from_le_bytes-to_le_bytes_8}
use Rattle.std.proofs.lemmas.List.{length-map, map-append, take-map, drop-map, take_at, drop_at, append_assoc, length-append, take_all}
use Rattle.ct_definitions.specs.Pairs.{Pair}
use Rattle.ct_node.specs.Nodes.{Entry, pair_in, width_of, capacity_of}
use Rattle.ct_node.specs.Cells.{cells_of, pair_at, entry_at, entries_of, pair_bytes, entry_bytes}
use Rattle.ct_node.proofs.CellLemmas.{length-cells_of}
use Rattle.ct_node.proofs.Searches.{pairs_of}

pub map-insert : {X Y : Type 0} (f : X → Y) (xs : List X) (i : ℕ) (x : X) → map f (insert xs i x) ≡ insert (map f xs) i (f x)
map-insert f xs i x =
    map-append f (take i xs) (x ∷ drop i xs)
    ∙ ap (λ ys. ys ++ f x ∷ map f (drop i xs)) (sym (take-map f i xs))
    ∙ ap (λ ys. take i (map f xs) ++ f x ∷ ys) (sym (drop-map f i xs))

pub map-remove : {X Y : Type 0} (f : X → Y) (xs : List X) (i : ℕ) → map f (remove xs i) ≡ remove (map f xs) i
map-remove f xs i =
    map-append f (take i xs) (drop (suc i) xs)
    ∙ ap (λ ys. ys ++ map f (drop (suc i) xs)) (sym (take-map f i xs))
    ∙ ap (λ ys. take i (map f xs) ++ ys) (sym (drop-map f (suc i) xs))

pairs_in-map : (key_len : ℕ) (leaf : Bool) (cells : List (List ℕ)) → map pair_in (map (entry_at key_len leaf) cells) ≡ map (pair_at key_len) cells
pairs_in-map key_len leaf [] = refl
pairs_in-map key_len leaf (cell ∷ cells) = ap (λ ys. pair_at key_len cell ∷ ys) (pairs_in-map key_len leaf cells)

-- the pairs of the entries are the pairs of the cells
pub pairs-entries_of : (key_len : ℕ) (leaf : Bool) (count : ℕ) (bytes : List ℕ) → map pair_in (entries_of key_len leaf count bytes) ≡ pairs_of key_len (width_of key_len leaf) count bytes
pairs-entries_of key_len leaf count bytes = pairs_in-map key_len leaf (cells_of (width_of key_len leaf) count bytes)

pub length-entries_of : (key_len : ℕ) (leaf : Bool) (count : ℕ) (bytes : List ℕ) → length (entries_of key_len leaf count bytes) ≡ count
length-entries_of key_len leaf count bytes = length-map (cells_of (width_of key_len leaf) count bytes) (entry_at key_len leaf) ∙ length-cells_of (width_of key_len leaf) count bytes

pub width_of-bounds : (key_len : ℕ) (leaf : Bool) → (key_len + 8 ≤ width_of key_len leaf) × (width_of key_len leaf ≤ key_len + 16)
width_of-bounds key_len true = (omega arith, omega arith)
width_of-bounds key_len false = (omega arith, omega arith)

-- as many cells as there is room for stand in the bytes
pub room_within : (key_len : ℕ) (leaf : Bool) (n : ℕ) → n ≤ capacity_of key_len leaf → n * width_of key_len leaf ≤ 3968
room_within key_len leaf n fits =
    let width = width_of key_len leaf in
    let bounds = width_of-bounds key_len leaf in
    let room = 3968 - 2 * (9 + key_len) in
    let most : width * n ≤ width * (room / width) = mul-le-mul_left width fits in
    let turned : n * width ≡ width * n = mul_comm n width in
    omega arith

pub length-entry_bytes : (leaf : Bool) (entry : Entry) → length (entry_bytes leaf entry) ≡ width_of (length entry.pair.key) leaf
length-entry_bytes true entry =
    let one = length-append entry.pair.key (to_be_bytes w64 entry.pair.num) in
    let all = length-append (pair_bytes entry.pair) [] in
    omega arith
length-entry_bytes false entry =
    let one = length-append entry.pair.key (to_be_bytes w64 entry.pair.num) in
    let all = length-append (pair_bytes entry.pair) (to_le_bytes w64 entry.child) in
    omega arith

-- what an entry is in a node: in a leaf it has no page below
abbrev pub entry_in : Bool → Pair → ℕ → Entry
entry_in leaf pair child = record { pair = pair; child = cond leaf 0 child }

pub pair_at-bytes : (key_len : ℕ) (pair : Pair) (rest : List ℕ) → length pair.key ≡ key_len → pair.num < 2 ^ 64 → pair_at key_len (pair_bytes pair ++ rest) ≡ pair
pair_at-bytes key_len pair rest long small =
    let whole : pair_bytes pair ++ rest ≡ pair.key ++ (to_be_bytes w64 pair.num ++ rest) = append_assoc pair.key (to_be_bytes w64 pair.num) rest in
    let key : take key_len (pair_bytes pair ++ rest) ≡ pair.key = ap (take key_len) whole ∙ take_at pair.key (to_be_bytes w64 pair.num ++ rest) key_len long in
    let behind : drop key_len (pair_bytes pair ++ rest) ≡ to_be_bytes w64 pair.num ++ rest = ap (drop key_len) whole ∙ drop_at pair.key (to_be_bytes w64 pair.num ++ rest) key_len long in
    let digits : take 8 (drop key_len (pair_bytes pair ++ rest)) ≡ to_be_bytes w64 pair.num = ap (take 8) behind ∙ take_at (to_be_bytes w64 pair.num) rest 8 refl in
    let number : from_be_bytes w64 (take 8 (drop key_len (pair_bytes pair ++ rest))) ≡ pair.num = ap (from_be_bytes w64) digits ∙ from_be_bytes-to_be_bytes_8 pair.num small in
    let made : List ℕ → ℕ → Pair = λ text num. record { key = text; num = num } in
    ap (λ text. made text (from_be_bytes w64 (take 8 (drop key_len (pair_bytes pair ++ rest))))) key ∙ ap (made pair.key) number

-- an entry is read back as it was written
pub entry_at-bytes : (key_len : ℕ) (leaf : Bool) (pair : Pair) (child : ℕ) → length pair.key ≡ key_len → pair.num < 2 ^ 64 → child < 2 ^ 64 → entry_at key_len leaf (entry_bytes leaf (record { pair = pair; child = child })) ≡ entry_in leaf pair child
entry_at-bytes key_len true pair child long small fits = ap (λ one. entry_in true one 0) (pair_at-bytes key_len pair [] long small)
entry_at-bytes key_len false pair child long small fits =
    let page = to_le_bytes w64 child in
    let joined = length-append pair.key (to_be_bytes w64 pair.num) in
    let behind : drop (key_len + 8) (pair_bytes pair ++ page) ≡ page = drop_at (pair_bytes pair) page (key_len + 8) (omega arith) in
    let number : from_le_bytes w64 (take 8 (drop (key_len + 8) (pair_bytes pair ++ page))) ≡ child = ap (λ ys. from_le_bytes w64 (take 8 ys)) behind ∙ ap (from_le_bytes w64) (take_all 8 page (omega arith)) ∙ from_le_bytes-to_le_bytes_8 child fits in
    let made : Pair → ℕ → Entry = λ one below. record { pair = one; child = below } in
    ap (λ one. made one (from_le_bytes w64 (take 8 (drop (key_len + 8) (pair_bytes pair ++ page))))) (pair_at-bytes key_len pair page long small) ∙ ap (made pair) number
