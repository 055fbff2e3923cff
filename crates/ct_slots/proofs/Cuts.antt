-- Bytes moved within a page, as lists of its parts.
use Rattle.std.proofs.Common.{◌≡◌, ℕ, ◌+◌, ◌-◌, ◌*◌, ◌≤◌, List, ◌∷◌, ◌++◌, length, take, drop, replicate, refl, sym, ap, ◌∙◌, arith, append_assoc}
use Rattle.std.specs.Int.{w16, to_le_bytes}
use Rattle.std.proofs.lemmas.List.{length-append, length-drop, length-take-le, length-replicate, replicate-append-replicate, take_at, take-take, take-append-le, drop_at, drop-drop}
use Rattle.ct_page.specs.declared.header.Header.{Header}
use Rattle.ct_page.specs.Fields.{with_bytes, with_u16}
use borrow.Rule.Slice.PartMut.{put_mid}
use Rattle.ct_page.proofs.Numbers.{with_bytes-put_mid}
use Rattle.ct_page.specs.Headers.{header_bytes}
use Rattle.ct_slots.specs.Pages.{entry_bytes}
use Rattle.ct_slots.specs.Checks.{packed}

-- behind a front and one part
behind_two : (f e r p : List ℕ) (at n : ℕ) → p ≡ f ++ (e ++ r) → length f ≡ at → length e ≡ n → drop (at + n) p ≡ r
behind_two f e r p at n is len more =
    ap (drop (at + n)) (is ∙ sym (append_assoc f e r)) ∙ drop_at (f ++ e) r (at + n) (omega (arith, length-append f e))

-- a gap opened for an image
pub opened_image : (q z i j image page : List ℕ) (low end m : ℕ) → page ≡ q ++ (z ++ (i ++ j)) → length z ≡ m → length q + m ≡ low → low + length i ≡ end
    → take (low - m) page ++ take (end - low) (drop low page) ++ image ++ drop end page ≡ q ++ (i ++ (image ++ j))
opened_image q z i j image page low end m is gap here there =
    let front : take (low - m) page ≡ q = ap (take (low - m)) is ∙ take_at q (z ++ (i ++ j)) (low - m) (omega arith) in
    let behind : drop low page ≡ i ++ j = ap (λ n. drop n page) (sym here) ∙ behind_two q z (i ++ j) page (length q) m is refl gap in
    let middle : take (end - low) (drop low page) ≡ i = ap (take (end - low)) behind ∙ take_at i j (end - low) (omega arith) in
    let last : drop end page ≡ j = ap (λ n. drop n page) (sym there) ∙ sym (drop-drop (length i) low page) ∙ ap (drop (length i)) behind ∙ drop_at i j (length i) refl in
    ap (λ (l : List ℕ). l ++ take (end - low) (drop low page) ++ image ++ drop end page) front ∙ ap (λ (l : List ℕ). q ++ l ++ image ++ drop end page) middle ∙ ap (λ (l : List ℕ). q ++ i ++ image ++ l) last ∙ append_assoc (q ++ i) image j ∙ append_assoc q i (image ++ j)

-- an image taken out
pub closed_image : (q i old j zeros page : List ℕ) (low end len : ℕ) → page ≡ q ++ (i ++ (old ++ j)) → length q ≡ low → length old ≡ len → low + length i + len ≡ end
    → take low page ++ zeros ++ take (end - len - low) (drop low page) ++ drop end page ≡ q ++ (zeros ++ (i ++ j))
closed_image q i old j zeros page low end len is here size there =
    let front : take low page ≡ q = ap (take low) is ∙ take_at q (i ++ (old ++ j)) low here in
    let behind : drop low page ≡ i ++ (old ++ j) = ap (drop low) is ∙ drop_at q (i ++ (old ++ j)) low here in
    let middle : take (end - len - low) (drop low page) ≡ i = ap (take (end - len - low)) behind ∙ take_at i (old ++ j) (end - len - low) (omega arith) in
    let last : drop end page ≡ j = ap (λ n. drop n page) (sym there) ∙ behind_two (q ++ i) old j page (low + length i) len (is ∙ sym (append_assoc q i (old ++ j))) (omega (arith, length-append q i)) size in
    ap (λ (l : List ℕ). l ++ zeros ++ take (end - len - low) (drop low page) ++ drop end page) front ∙ ap (λ (l : List ℕ). q ++ zeros ++ l ++ drop end page) middle ∙ ap (λ (l : List ℕ). q ++ zeros ++ i ++ l) last ∙ append_assoc (q ++ zeros) i j ∙ append_assoc q zeros (i ++ j)

-- a gap opened for an entry
pub opened_entry : (f e z r entry p : List ℕ) (at stop : ℕ) → p ≡ f ++ (e ++ (z ++ r)) → length f ≡ at → at + length e ≡ stop → length z ≡ 8
    → take at p ++ entry ++ take (stop - at) (drop at p) ++ drop (stop + 8) p ≡ f ++ (entry ++ (e ++ r))
opened_entry f e z r entry p at stop is here there gap =
    let front : take at p ≡ f = ap (take at) is ∙ take_at f (e ++ (z ++ r)) at here in
    let behind : drop at p ≡ e ++ (z ++ r) = ap (drop at) is ∙ drop_at f (e ++ (z ++ r)) at here in
    let middle : take (stop - at) (drop at p) ≡ e = ap (take (stop - at)) behind ∙ take_at e (z ++ r) (stop - at) (omega arith) in
    let last : drop (stop + 8) p ≡ r = behind_two (f ++ e) z r p stop 8 (is ∙ sym (append_assoc f e (z ++ r))) (omega (arith, length-append f e)) gap in
    ap (λ (l : List ℕ). l ++ entry ++ take (stop - at) (drop at p) ++ drop (stop + 8) p) front ∙ ap (λ (l : List ℕ). f ++ entry ++ l ++ drop (stop + 8) p) middle ∙ ap (λ (l : List ℕ). f ++ entry ++ e ++ l) last ∙ append_assoc (f ++ entry) e r ∙ append_assoc f entry (e ++ r)

-- an entry taken out
pub closed_entry : (f entry e r zeros p : List ℕ) (at end : ℕ) → p ≡ f ++ (entry ++ (e ++ r)) → length f ≡ at → length entry ≡ 8 → at + 8 + length e ≡ end
    → take at p ++ take (end - at - 8) (drop (at + 8) p) ++ zeros ++ drop end p ≡ f ++ (e ++ (zeros ++ r))
closed_entry f entry e r zeros p at end is here size there =
    let front : take at p ≡ f = ap (take at) is ∙ take_at f (entry ++ (e ++ r)) at here in
    let behind : drop (at + 8) p ≡ e ++ r = behind_two f entry (e ++ r) p at 8 is here size in
    let middle : take (end - at - 8) (drop (at + 8) p) ≡ e = ap (take (end - at - 8)) behind ∙ take_at e r (end - at - 8) (omega arith) in
    let last : drop end p ≡ r = ap (λ n. drop n p) (sym there) ∙ sym (drop-drop (length e) (at + 8) p) ∙ ap (drop (length e)) behind ∙ drop_at e r (length e) refl in
    ap (λ (l : List ℕ). l ++ take (end - at - 8) (drop (at + 8) p) ++ zeros ++ drop end p) front ∙ ap (λ (l : List ℕ). f ++ l ++ zeros ++ drop end p) middle ∙ ap (λ (l : List ℕ). f ++ e ++ zeros ++ l) last ∙ append_assoc (f ++ e) zeros r ∙ append_assoc f e (zeros ++ r)

-- entries packed
pub packed_part : (f e r p new : List ℕ) (at count end : ℕ) → p ≡ f ++ (e ++ r) → length f ≡ at → length e ≡ 8 * count → packed end count (e ++ r) ≡ new
    → take at p ++ packed end count (drop at p) ++ drop (at + 8 * count) p ≡ f ++ (new ++ r)
packed_part f e r p new at count end is here size same =
    let front : take at p ≡ f = ap (take at) is ∙ take_at f (e ++ r) at here in
    let behind : drop at p ≡ e ++ r = ap (drop at) is ∙ drop_at f (e ++ r) at here in
    let last : drop (at + 8 * count) p ≡ r = behind_two f e r p at (8 * count) is here size in
    ap (λ (l : List ℕ). l ++ packed end count (drop at p) ++ drop (at + 8 * count) p) front ∙ ap (λ (l : List ℕ). f ++ packed end count l ++ drop (at + 8 * count) p) behind ∙ ap (λ (l : List ℕ). f ++ l ++ drop (at + 8 * count) p) same ∙ ap (λ (l : List ℕ). f ++ new ++ l) last ∙ append_assoc f new r

-- a header with another count
abbrev pub with_count : ℕ → Header → Header
with_count count h = record { kind = h.kind; file = h.file; index = h.index; count = count; position = h.position; right = h.right; key_len = h.key_len }

pub counted : (count : ℕ) (h : Header) (rest : List ℕ) → with_u16 6 count (header_bytes h ++ rest) ≡ header_bytes (with_count count h) ++ rest
unfolding with_u16
counted count h rest = refl

-- an entry written over the first of two that a move has left
pub entry_over : (at stop : ℕ) (entry page moved : List ℕ) → at ≤ stop → stop + 8 ≤ length page → length entry ≡ 8 → moved ≡ take (at + 8) page ++ take (stop - at) (drop at page) ++ drop (at + 8 + (stop - at)) page
    → with_bytes at entry moved ≡ take at page ++ entry ++ take (stop - at) (drop at page) ++ drop (stop + 8) page
entry_over at stop entry page moved order within size is =
    let kept = take (at + 8) page in
    let part = take (stop - at) (drop at page) in
    let rest = drop (at + 8 + (stop - at)) page in
    let long : length kept ≡ at + 8 = length-take-le (at + 8) page (omega arith) in
    let grouped : moved ≡ kept ++ (part ++ rest) = is ∙ append_assoc kept part rest in
    let front : take at moved ≡ take at page = ap (take at) grouped ∙ take-append-le at kept (part ++ rest) (omega arith) ∙ take-take at (at + 8) page (omega arith) in
    let behind : drop (at + length entry) moved ≡ part ++ rest = ap (λ n. drop (at + n) moved) size ∙ ap (drop (at + 8)) grouped ∙ drop_at kept (part ++ rest) (at + 8) long in
    let end : rest ≡ drop (stop + 8) page = ap (λ n. drop n page) (omega arith) in
    ap (λ (l : List ℕ). l ++ entry ++ drop (at + length entry) moved) front ∙ ap (λ (l : List ℕ). take at page ++ entry ++ l) behind ∙ sym (append_assoc (take at page ++ entry) part rest) ∙ ap (λ (l : List ℕ). take at page ++ entry ++ part ++ l) end

-- an image in the place of another: the space in front of the moved images, `gap` zeros behind q, is `rest` zeros afterwards
pub exchanged_image : (q i old j image page : List ℕ) (gap low end len m : ℕ) → page ≡ (q ++ replicate gap 0) ++ (i ++ (old ++ j)) → length (q ++ replicate gap 0) ≡ low → length old ≡ len → length image ≡ m → low + length i + len ≡ end → m ≤ gap + len
    → take (low - (m - len)) page ++ replicate (len - m) 0 ++ take (end - len - low) (drop low page) ++ image ++ drop end page ≡ (q ++ replicate (gap + len - m) 0) ++ (i ++ (image ++ j))
exchanged_image q i old j image page gap low end len m is here size new there room =
    let z = λ (n : ℕ). replicate {A = ℕ} n 0 in
    let kept = gap - (m - len) in
    let split : z gap ≡ z kept ++ z (m - len) = ap z (omega arith) ∙ sym (replicate-append-replicate {A = ℕ} kept (m - len) 0) in
    let regrouped : page ≡ (q ++ z kept) ++ (z (m - len) ++ (i ++ (old ++ j))) = is ∙ ap (λ (l : List ℕ). (q ++ l) ++ (i ++ (old ++ j))) split ∙ simp append_assoc refl in
    let long : length (q ++ z kept) ≡ low - (m - len) = omega (arith, length-append q (z gap), length-append q (z kept), length-replicate {A = ℕ} gap 0, length-replicate {A = ℕ} kept 0) in
    let front : take (low - (m - len)) page ≡ q ++ z kept = ap (take (low - (m - len))) regrouped ∙ take_at (q ++ z kept) (z (m - len) ++ (i ++ (old ++ j))) (low - (m - len)) long in
    let behind : drop low page ≡ i ++ (old ++ j) = ap (drop low) is ∙ drop_at (q ++ z gap) (i ++ (old ++ j)) low here in
    let middle : take (end - len - low) (drop low page) ≡ i = ap (take (end - len - low)) behind ∙ take_at i (old ++ j) (end - len - low) (omega arith) in
    let last : drop end page ≡ j = ap (λ n. drop n page) (sym there) ∙ behind_two ((q ++ z gap) ++ i) old j page (low + length i) len (is ∙ sym (append_assoc (q ++ z gap) i (old ++ j))) (omega (arith, length-append (q ++ z gap) i)) size in
    let space : z kept ++ z (len - m) ≡ z (gap + len - m) = replicate-append-replicate {A = ℕ} kept (len - m) 0 ∙ ap z (omega arith) in
    ap (λ (l : List ℕ). l ++ z (len - m) ++ take (end - len - low) (drop low page) ++ image ++ drop end page) front
    ∙ ap (λ (l : List ℕ). (q ++ z kept) ++ z (len - m) ++ l ++ image ++ drop end page) middle
    ∙ ap (λ (l : List ℕ). (q ++ z kept) ++ z (len - m) ++ i ++ image ++ l) last
    ∙ append_assoc (((q ++ z kept) ++ z (len - m)) ++ i) image j
    ∙ append_assoc ((q ++ z kept) ++ z (len - m)) i (image ++ j)
    ∙ ap (λ (l : List ℕ). l ++ (i ++ (image ++ j))) (append_assoc q (z kept) (z (len - m)) ∙ ap (λ (l : List ℕ). q ++ l) space)

-- a length written into an entry behind a front
pub relabelled : (f rest page : List ℕ) (at num offset len new : ℕ) → page ≡ f ++ (entry_bytes num offset len ++ rest) → length f ≡ at → with_u16 (at + 4) new page ≡ f ++ (entry_bytes num offset new ++ rest)
unfolding with_u16
relabelled f rest page at num offset len new is here =
    let entry = entry_bytes num offset len in
    let head = to_le_bytes w16 num ++ to_le_bytes w16 offset in
    let tail = 0 ∷ 0 ∷ rest in
    let cut : page ≡ (f ++ head) ++ (to_le_bytes w16 len ++ tail) = is ∙ simp append_assoc refl in
    let long : length (f ++ head) ≡ at + 4 = length-append f head ∙ ap (λ n. n + 4) here in
    let front : take (at + 4) page ≡ f ++ head = ap (take (at + 4)) cut ∙ take_at (f ++ head) (to_le_bytes w16 len ++ tail) (at + 4) long in
    let behind : drop (at + 4 + 2) page ≡ tail = behind_two (f ++ head) (to_le_bytes w16 len) tail page (at + 4) 2 cut long refl in
    ap (λ (l : List ℕ). l ++ to_le_bytes w16 new ++ drop (at + 4 + 2) page) front ∙ ap (λ (l : List ℕ). (f ++ head) ++ to_le_bytes w16 new ++ l) behind ∙ simp append_assoc refl

-- an image written over the end of what was moved
pub over_end : (kept page p new image : List ℕ) (low len end : ℕ) → p ≡ kept ++ drop (low + len - length image + (end - len - low)) page → new ≡ image → length page ≡ 4096 → length p ≡ 4096 → low + len ≤ end → end ≤ 4096 → length image ≤ low + len
    → put_mid (end - length image) (end - (end - length image)) p new ≡ kept ++ image ++ drop end page
over_end kept page p new image low len end is same before long order within room =
    let m = length image in
    let at = end - m in
    let p_is : p ≡ kept ++ drop at page = is ∙ ap (λ n. kept ++ drop n page) (omega arith) in
    let here : length kept ≡ at = omega (arith, ap length p_is, length-append kept (drop at page), length-drop at page) in
    let front : take at p ≡ kept = ap (take at) p_is ∙ take_at kept (drop at page) at here in
    let last : drop (at + m) p ≡ drop end page = sym (drop-drop m at p) ∙ ap (λ (l : List ℕ). drop m (drop at l)) p_is ∙ ap (drop m) (drop_at kept (drop at page) at here) ∙ drop-drop m at page ∙ ap (λ n. drop n page) (omega arith) in
    ap (put_mid at (end - at) p) same ∙ with_bytes-put_mid at (end - at) image p (omega arith) ∙ ap (λ (l : List ℕ). l ++ image ++ drop (at + m) p) front ∙ ap (λ (l : List ℕ). kept ++ image ++ l) last
