-- The entries of a map page of which one is set.
use Rattle.std.proofs.Common.{◌≡◌, ◌≢◌, ℕ, ◌+◌, ◌*◌, ◌^◌, ◌<◌, ◌≤◌, ◌⊎◌, max, Bool, true, cond, ltb, List, length, Option, Some, None, inl, inr, refl, sym, ap, ◌∙◌, arith}
use Rattle.std.proofs.lemmas.Bool.{lt-ltb, cases_lt}
use Rattle.ct_page.specs.Fields.{u16_at, u64_at, with_u16, with_u64}
use Rattle.ct_page.proofs.Numbers.{u16_at-with_u16, u64_at-with_u64, u16_at-with_u16_apart, u64_at-with_u16_apart, u16_at-with_u64_apart, u64_at-with_u64_apart, length-with_u16, length-with_u64}
use Rattle.ct_dir.specs.MapPage.{entry_count, entry_place, entry_at, block, with_block}
use Rattle.ct_dir.specs.declared.map.MapEntry.{MapEntry}

-- the page with the entry that its count does not say yet
unfoldable pub with_entry : ℕ → MapEntry → List ℕ → List ℕ
with_entry at entry page = with_u16 (entry_place at + 8) entry.used (with_u64 (entry_place at) entry.page page)

mid_long : (at : ℕ) (entry : MapEntry) (page : List ℕ) → length page ≡ 4096 → at < 396 → length (with_u64 (entry_place at) entry.page page) ≡ 4096
mid_long at entry page long within = length-with_u64 (entry_place at) entry.page page (omega arith) ∙ long

entry_long : (at : ℕ) (entry : MapEntry) (page : List ℕ) → length page ≡ 4096 → at < 396 → length (with_entry at entry page) ≡ 4096
unfolding with_entry
entry_long at entry page long within =
    let l = mid_long at entry page long within in
    length-with_u16 (entry_place at + 8) entry.used (with_u64 (entry_place at) entry.page page) (omega arith) ∙ l

-- the count is not touched by the entry
pub count_beside : (at : ℕ) (entry : MapEntry) (page : List ℕ) → length page ≡ 4096 → at < 396 → entry_count (with_entry at entry page) ≡ entry_count page
unfolding with_entry
count_beside at entry page long within =
    let l = mid_long at entry page long within in
    u16_at-with_u16_apart (entry_place at + 8) 6 entry.used (with_u64 (entry_place at) entry.page page) (omega arith) (inr (omega arith)) ∙ u16_at-with_u64_apart (entry_place at) 6 entry.page page (omega arith) (inr (omega arith))

-- the count behind it
pub entry_count-with_block : (at : ℕ) (entry : MapEntry) (page : List ℕ) → length page ≡ 4096 → at < 396 → entry_count page < 2 ^ 16 → entry_count (with_block at entry page) ≡ max (entry_count page) (at + 1)
unfolding with_entry
entry_count-with_block at entry page long within small =
    let l = entry_long at entry page long within in
    u16_at-with_u16 6 (max (entry_count page) (at + 1)) (with_entry at entry page) (omega arith) (omega arith)

-- the entry of these two numbers
abbrev entry_of : ℕ → ℕ → MapEntry
entry_of page used = record { page = page; used = used }

-- the entry that was set
pub entry_at-with_block : (at : ℕ) (entry : MapEntry) (page : List ℕ) → length page ≡ 4096 → at < 396 → entry.page < 2 ^ 64 → entry.used < 2 ^ 16 → entry_at at (with_block at entry page) ≡ entry
unfolding with_entry
entry_at-with_block at entry page long within small_page small_used =
    let l = entry_long at entry page long within in
    let m = mid_long at entry page long within in
    let first = with_u64 (entry_place at) entry.page page in
    let told : u64_at (entry_place at) (with_block at entry page) ≡ entry.page = u64_at-with_u16_apart 6 (entry_place at) (max (entry_count page) (at + 1)) (with_entry at entry page) (omega arith) (inl (omega arith)) ∙ u64_at-with_u16_apart (entry_place at + 8) (entry_place at) entry.used first (omega arith) (inr (omega arith)) ∙ u64_at-with_u64 (entry_place at) entry.page page (omega arith) small_page in
    let used : u16_at (entry_place at + 8) (with_block at entry page) ≡ entry.used = u16_at-with_u16_apart 6 (entry_place at + 8) (max (entry_count page) (at + 1)) (with_entry at entry page) (omega arith) (inl (omega arith)) ∙ u16_at-with_u16 (entry_place at + 8) entry.used first (omega arith) small_used in
    ap (λ p. entry_of p (u16_at (entry_place at + 8) (with_block at entry page))) told ∙ ap (entry_of entry.page) used

-- the block that was set
pub block-with_block : (at : ℕ) (entry : MapEntry) (page : List ℕ) → length page ≡ 4096 → at < 396 → entry_count page < 2 ^ 16 → entry.page < 2 ^ 64 → entry.used < 2 ^ 16 → block (with_block at entry page) at ≡ Some entry
block-with_block at entry page long within small small_page small_used =
    let counted : ltb at (entry_count (with_block at entry page)) ≡ true = lt-ltb at (entry_count (with_block at entry page)) (omega (arith, entry_count-with_block at entry page long within small)) in
    ap (λ b. cond b (Some (entry_at at (with_block at entry page))) None) counted ∙ ap (λ (e : MapEntry). Some e) (entry_at-with_block at entry page long within small_page small_used)

order : (at other : ℕ) → other ≢ at → (at < other) ⊎ (other < at)
order at other apart =
    elim (cases_lt at other) [ inl before ↦ inl before | inr behind ↦ inr (omega (arith, apart)) ]

by_order : (at other : ℕ) (entry : MapEntry) (page : List ℕ) → length page ≡ 4096 → at < 396 → (at < other) ⊎ (other < at) → entry_at other (with_block at entry page) ≡ entry_at other page
unfolding with_entry
by_order at other entry page long within (inl before) =
    let l = entry_long at entry page long within in
    let m = mid_long at entry page long within in
    let first = with_u64 (entry_place at) entry.page page in
    let told : u64_at (entry_place other) (with_block at entry page) ≡ u64_at (entry_place other) page = u64_at-with_u16_apart 6 (entry_place other) (max (entry_count page) (at + 1)) (with_entry at entry page) (omega arith) (inl (omega arith)) ∙ u64_at-with_u16_apart (entry_place at + 8) (entry_place other) entry.used first (omega arith) (inl (omega arith)) ∙ u64_at-with_u64_apart (entry_place at) (entry_place other) entry.page page (omega arith) (inl (omega arith)) in
    let used : u16_at (entry_place other + 8) (with_block at entry page) ≡ u16_at (entry_place other + 8) page = u16_at-with_u16_apart 6 (entry_place other + 8) (max (entry_count page) (at + 1)) (with_entry at entry page) (omega arith) (inl (omega arith)) ∙ u16_at-with_u16_apart (entry_place at + 8) (entry_place other + 8) entry.used first (omega arith) (inl (omega arith)) ∙ u16_at-with_u64_apart (entry_place at) (entry_place other + 8) entry.page page (omega arith) (inl (omega arith)) in
    cc
by_order at other entry page long within (inr behind) =
    let l = entry_long at entry page long within in
    let m = mid_long at entry page long within in
    let first = with_u64 (entry_place at) entry.page page in
    let told : u64_at (entry_place other) (with_block at entry page) ≡ u64_at (entry_place other) page = u64_at-with_u16_apart 6 (entry_place other) (max (entry_count page) (at + 1)) (with_entry at entry page) (omega arith) (inl (omega arith)) ∙ u64_at-with_u16_apart (entry_place at + 8) (entry_place other) entry.used first (omega arith) (inr (omega arith)) ∙ u64_at-with_u64_apart (entry_place at) (entry_place other) entry.page page (omega arith) (inr (omega arith)) in
    let used : u16_at (entry_place other + 8) (with_block at entry page) ≡ u16_at (entry_place other + 8) page = u16_at-with_u16_apart 6 (entry_place other + 8) (max (entry_count page) (at + 1)) (with_entry at entry page) (omega arith) (inl (omega arith)) ∙ u16_at-with_u16_apart (entry_place at + 8) (entry_place other + 8) entry.used first (omega arith) (inr (omega arith)) ∙ u16_at-with_u64_apart (entry_place at) (entry_place other + 8) entry.page page (omega arith) (inr (omega arith)) in
    cc

-- another entry
pub entry_at-with_block_other : (at other : ℕ) (entry : MapEntry) (page : List ℕ) → length page ≡ 4096 → at < 396 → other ≢ at → entry_at other (with_block at entry page) ≡ entry_at other page
entry_at-with_block_other at other entry page long within apart = by_order at other entry page long within (order at other apart)
