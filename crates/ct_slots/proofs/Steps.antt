-- The steps of the loops.
use Rattle.std.proofs.Common.{◌≡◌, ℕ, suc, ◌+◌, ◌-◌, ◌*◌, ◌<◌, ◌≤◌, true, false, cond, List, ◌++◌, length, take, drop, Some, None, sym, ap, ◌∙◌, arith, append_assoc}
use Rattle.std.specs.Int.{w16, from_le_bytes, to_le_bytes}
use Rattle.std.proofs.lemmas.Bool.Decides.{nat_tests}
use Rattle.std.proofs.lemmas.List.{length-append, length-take, drop-drop, append-nil, take-append-drop}
use Rattle.std.proofs.Math.Seq.{take-append-add, take-add}
use Rattle.ct_page.specs.Fields.{u16_at, with_u16}
use Rattle.ct_page.proofs.Numbers.{behind-with_bytes}
use Rattle.ct_slots.specs.Checks.{is_entry, images_begin, packed}

-- one entry more is looked at
pub begin_more : (place count low end : ℕ) (page : List ℕ) → place < count
    → images_begin (count - place) (128 + 8 * place) low end page ≡ cond (is_entry (128 + 8 * place) low end page) (images_begin (count - (place + 1)) (128 + 8 * (place + 1)) (u16_at (128 + 8 * place) page + 1) (u16_at (128 + 8 * place + 2) page) page) None
unfolding images_begin
begin_more place count low end page within =
    let at = 128 + 8 * place in
    let n : count - place ≡ suc (count - (place + 1)) = omega arith in
    let next : at + 8 ≡ 128 + 8 * (place + 1) = omega arith in
    ap (λ k. images_begin k at low end page) n ∙ ap (λ p. cond (is_entry at low end page) (images_begin (count - (place + 1)) p (u16_at at page + 1) (u16_at (at + 2) page) page) None) next

pub begin_stops : (place count low end : ℕ) (page : List ℕ) → place < count → is_entry (128 + 8 * place) low end page ≡ false → images_begin (count - place) (128 + 8 * place) low end page ≡ None
begin_stops place count low end page within stop =
    begin_more place count low end page within ∙ ap (λ b. cond b (images_begin (count - (place + 1)) (128 + 8 * (place + 1)) (u16_at (128 + 8 * place) page + 1) (u16_at (128 + 8 * place + 2) page) page) None) stop

pub begin_goes : (place count low end : ℕ) (page : List ℕ) → place < count → is_entry (128 + 8 * place) low end page ≡ true → images_begin (count - place) (128 + 8 * place) low end page ≡ images_begin (count - (place + 1)) (128 + 8 * (place + 1)) (u16_at (128 + 8 * place) page + 1) (u16_at (128 + 8 * place + 2) page) page
begin_goes place count low end page within goes =
    begin_more place count low end page within ∙ ap (λ b. cond b (images_begin (count - (place + 1)) (128 + 8 * (place + 1)) (u16_at (128 + 8 * place) page + 1) (u16_at (128 + 8 * place + 2) page) page) None) goes

pub begin_all : (place count low end : ℕ) (page : List ℕ) → count ≤ place → images_begin (count - place) (128 + 8 * place) low end page ≡ Some end
unfolding images_begin
begin_all place count low end page past =
    let none : count - place ≡ 0 = omega arith in
    ap (λ n. images_begin n (128 + 8 * place) low end page) none

-- what an entry in order says
pub record InOrder (at low end : ℕ) (page : List ℕ) : Type 0 where
  pub from : low ≤ u16_at at page
  pub below : u16_at at page < 128
  pub ends : u16_at (at + 2) page + u16_at (at + 4) page ≡ end
  pub zeros : u16_at (at + 6) page ≡ 0

pub in_order : (at low end : ℕ) (page : List ℕ) → is_entry at low end page ≡ true → InOrder at low end page
in_order at low end page goes = record { from = grind (arith, nat_tests); below = grind (arith, nat_tests); ends = grind (arith, nat_tests); zeros = grind (arith, nat_tests) }

pub is_in_order : (at low end : ℕ) (page : List ℕ) → low ≤ u16_at at page → u16_at at page < 128 → u16_at (at + 2) page + u16_at (at + 4) page ≡ end → u16_at (at + 6) page ≡ 0 → is_entry at low end page ≡ true
is_in_order at low end page from below ends zeros = grind (arith, nat_tests)

pub entry_offset : (at low end : ℕ) (page : List ℕ) → is_entry at low end page ≡ true → u16_at (at + 2) page ≤ end
entry_offset at low end page goes = let o = in_order at low end page goes in omega (arith, o.ends)

-- the page with its entries from a place on packed
unfoldable pub pack_from : ℕ → ℕ → ℕ → ℕ → List ℕ → List ℕ
pack_from at place count end page = take (at + 8 * place) page ++ packed end (count - place) (drop (at + 8 * place) page) ++ drop (at + 8 * count) page

-- the front of a page with an offset written
front_packed : (e offset : ℕ) (page : List ℕ) → e + 8 ≤ length page → take (e + 8) (with_u16 (e + 2) offset page) ≡ take e page ++ (take 2 (drop e page) ++ to_le_bytes w16 offset ++ take 4 (drop 4 (drop e page)))
unfolding with_u16
front_packed e offset page within =
    let bytes = to_le_bytes w16 offset in
    let front = take (e + 2) page ++ bytes in
    let long : length front + 4 ≡ e + 8 = omega (arith, length-append (take (e + 2) page) bytes, length-take (e + 2) page) in
    let four : drop (e + 4) page ≡ drop 4 (drop e page) = sym (drop-drop 4 e page) in
    ap (λ n. take n (front ++ drop (e + 2 + 2) page)) (sym long)
    ∙ take-append-add front (drop (e + 2 + 2) page) 4
    ∙ ap (λ n. front ++ take 4 (drop n page)) (omega arith)
    ∙ ap (λ (l : List ℕ). front ++ take 4 l) four
    ∙ ap (λ (l : List ℕ). l ++ bytes ++ take 4 (drop 4 (drop e page))) (take-add e 2 page)
    ∙ ap (λ (l : List ℕ). l ++ take 4 (drop 4 (drop e page))) (append_assoc (take e page) (take 2 (drop e page)) bytes)
    ∙ append_assoc (take e page) (take 2 (drop e page) ++ bytes) (take 4 (drop 4 (drop e page)))

behind_offset : (n at offset : ℕ) (page : List ℕ) → at + 2 ≤ n → at + 2 ≤ length page → drop n (with_u16 at offset page) ≡ drop n page
unfolding with_u16
behind_offset n at offset page behind within = behind-with_bytes n at (to_le_bytes w16 offset) page behind within

-- one entry and those behind it
packed_more : (end n e : ℕ) (page : List ℕ) → packed end (suc n) (drop e page) ≡ (take 2 (drop e page) ++ to_le_bytes w16 (end - u16_at (e + 4) page) ++ take 4 (drop 4 (drop e page))) ++ packed (end - u16_at (e + 4) page) n (drop 8 (drop e page))
unfolding packed u16_at
packed_more end n e page =
    let bytes = drop e page in
    ap (λ k. (take 2 bytes ++ to_le_bytes w16 (end - k) ++ take 4 (drop 4 bytes)) ++ packed (end - k) n (drop 8 bytes)) (ap (λ (l : List ℕ). from_le_bytes w16 (take 2 l)) (drop-drop 4 e page))

-- one entry more is packed
pub pack_more : (at place count end : ℕ) (page : List ℕ) → place < count → at + 8 * count ≤ length page
    → pack_from at (place + 1) count (end - u16_at (at + 8 * place + 4) page) (with_u16 (at + 8 * place + 2) (end - u16_at (at + 8 * place + 4) page) page) ≡ pack_from at place count end page
unfolding pack_from
pack_more at place count end page within room =
    let e = at + 8 * place in
    let n = count - (place + 1) in
    let offset = end - u16_at (e + 4) page in
    let bytes = to_le_bytes w16 offset in
    let new = with_u16 (e + 2) offset page in
    let inner = take 2 (drop e page) ++ bytes ++ take 4 (drop 4 (drop e page)) in
    let behind = drop (at + 8 * count) page in
    let rest = packed offset n (drop 8 (drop e page)) in
    let step : at + 8 * (place + 1) ≡ e + 8 = omega arith in
    let front : take (at + 8 * (place + 1)) new ≡ take e page ++ inner = ap (λ k. take k new) step ∙ front_packed e offset page (omega arith) in
    let middle : drop (at + 8 * (place + 1)) new ≡ drop 8 (drop e page) = ap (λ k. drop k new) step ∙ behind_offset (e + 8) (e + 2) offset page (omega arith) (omega arith) ∙ sym (drop-drop 8 e page) in
    let last : drop (at + 8 * count) new ≡ behind = behind_offset (at + 8 * count) (e + 2) offset page (omega arith) (omega arith) in
    let left : pack_from at (place + 1) count offset new ≡ take e page ++ inner ++ rest ++ behind = ap (λ (l : List ℕ). l ++ packed offset n (drop (at + 8 * (place + 1)) new) ++ drop (at + 8 * count) new) front ∙ ap (λ (l : List ℕ). take e page ++ inner ++ packed offset n l ++ drop (at + 8 * count) new) middle ∙ ap (λ (l : List ℕ). take e page ++ inner ++ rest ++ l) last in
    let more : packed end (count - place) (drop e page) ≡ inner ++ rest = ap (λ k. packed end k (drop e page)) (omega arith) ∙ packed_more end n e page in
    left ∙ ap (λ (l : List ℕ). l ++ behind) (append_assoc (take e page) inner rest) ∙ ap (λ (l : List ℕ). take e page ++ l ++ behind) (sym more)

pub pack_none : (at count end : ℕ) (page : List ℕ) → take at page ++ packed end count (drop at page) ++ drop (at + 8 * count) page ≡ pack_from at 0 count end page
unfolding pack_from
pack_none at count end page =
    let none : at ≡ at + 8 * 0 = omega arith in
    let whole : count ≡ count - 0 = omega arith in
    ap (λ n. take n page ++ packed end count (drop n page) ++ drop (at + 8 * count) page) none ∙ ap (λ k. take (at + 8 * 0) page ++ packed end k (drop (at + 8 * 0) page) ++ drop (at + 8 * count) page) whole

pub pack_all : (at count end : ℕ) (page : List ℕ) → pack_from at count count end page ≡ page
unfolding pack_from packed
pack_all at count end page =
    let none : count - count ≡ 0 = omega arith in
    ap (λ n. take (at + 8 * count) page ++ packed end n (drop (at + 8 * count) page) ++ drop (at + 8 * count) page) none ∙ ap (λ (l : List ℕ). l ++ drop (at + 8 * count) page) (append-nil (take (at + 8 * count) page)) ∙ take-append-drop (at + 8 * count) page
