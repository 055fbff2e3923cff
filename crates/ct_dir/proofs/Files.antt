-- A directory with another count of pages, and with one more file.
use Rattle.std.proofs.Common.{◌≡◌, ℕ, ◌+◌, ◌*◌, ◌^◌, ◌<◌, ◌≤◌, Bool, true, cond, ltb, List, length, Option, Some, None, inl, inr, refl, sym, ap, ◌∙◌, arith}
use Rattle.std.proofs.lemmas.Bool.{lt-ltb}
use Rattle.ct_page.specs.Fields.{u16_at, u64_at, with_u16, with_u64}
use Rattle.ct_page.proofs.Numbers.{u16_at-with_u16, u64_at-with_u64, u64_at-with_u16_apart, u16_at-with_u64_apart, u64_at-with_u64_apart, length-with_u64}
use Rattle.ct_dir.specs.Directory.{page_count, file_count, file_place, file_page, with_page_count, with_file}

-- the files of a directory with another count of pages
pub file_page-with_page_count : (count file : ℕ) (page : List ℕ) → length page ≡ 4096 → file_page (with_page_count count page) file ≡ file_page page file
file_page-with_page_count count file page long =
    let files : file_count (with_page_count count page) ≡ file_count page = u16_at-with_u64_apart 128 6 count page (omega arith) (inr (omega arith)) in
    let told : u64_at (file_place file) (with_page_count count page) ≡ u64_at (file_place file) page = u64_at-with_u64_apart 128 (file_place file) count page (omega arith) (inl (omega arith)) in
    ap (λ n. cond (ltb file n) (Some (u64_at (file_place file) (with_page_count count page))) None) files ∙ ap (λ p. cond (ltb file (file_count page)) (Some p) None) told

-- the directory with the definition page of a file that it does not count yet
with_page : ℕ → List ℕ → List ℕ
with_page definition page = with_u64 (file_place (file_count page)) definition page

page_long : (definition : ℕ) (page : List ℕ) → length page ≡ 4096 → file_count page < 256 → length (with_page definition page) ≡ 4096
unfolding with_page
page_long definition page long few = length-with_u64 (file_place (file_count page)) definition page (omega arith) ∙ long

-- it has one file more
pub file_count-with_file : (definition : ℕ) (page : List ℕ) → length page ≡ 4096 → file_count page < 256 → file_count (with_file definition page) ≡ file_count page + 1
unfolding with_page
file_count-with_file definition page long few =
    let l = page_long definition page long few in
    u16_at-with_u16 6 (file_count page + 1) (with_page definition page) (omega arith) (omega arith)

-- whose definition page is the new one
pub file_page-with_file : (definition : ℕ) (page : List ℕ) → length page ≡ 4096 → file_count page < 256 → definition < 2 ^ 64 → file_page (with_file definition page) (file_count page) ≡ Some definition
unfolding with_page
file_page-with_file definition page long few small =
    let n = file_count page in
    let l = page_long definition page long few in
    let counts : ltb n (file_count (with_file definition page)) ≡ true = lt-ltb n (file_count (with_file definition page)) (omega (arith, file_count-with_file definition page long few)) in
    let told : u64_at (file_place n) (with_file definition page) ≡ definition = u64_at-with_u16_apart 6 (file_place n) (n + 1) (with_page definition page) (omega arith) (inl (omega arith)) ∙ u64_at-with_u64 (file_place n) definition page (omega arith) small in
    ap (λ b. cond b (Some (u64_at (file_place n) (with_file definition page))) None) counts ∙ ap (λ (p : ℕ). Some p) told

-- the count of pages stays
pub page_count-with_file : (definition : ℕ) (page : List ℕ) → length page ≡ 4096 → file_count page < 256 → page_count (with_file definition page) ≡ page_count page
unfolding with_page
page_count-with_file definition page long few =
    let n = file_count page in
    let l = page_long definition page long few in
    u64_at-with_u16_apart 6 128 (n + 1) (with_page definition page) (omega arith) (inl (omega arith)) ∙ u64_at-with_u64_apart (file_place n) 128 definition page (omega arith) (inr (omega arith))

-- and so do the other files
pub file_page-with_file_other : (definition file : ℕ) (page : List ℕ) → length page ≡ 4096 → file_count page < 256 → file < file_count page → file_page (with_file definition page) file ≡ file_page page file
unfolding with_page
file_page-with_file_other definition file page long few before =
    let n = file_count page in
    let l = page_long definition page long few in
    let counts : ltb file (file_count (with_file definition page)) ≡ true = lt-ltb file (file_count (with_file definition page)) (omega (arith, file_count-with_file definition page long few)) in
    let counted : ltb file n ≡ true = lt-ltb file n before in
    let told : u64_at (file_place file) (with_file definition page) ≡ u64_at (file_place file) page = u64_at-with_u16_apart 6 (file_place file) (n + 1) (with_page definition page) (omega arith) (inl (omega arith)) ∙ u64_at-with_u64_apart (file_place n) (file_place file) definition page (omega arith) (inr (omega arith)) in
    ap (λ b. cond b (Some (u64_at (file_place file) (with_file definition page))) None) counts ∙ ap (λ (p : ℕ). Some p) told ∙ ap (λ b. cond b (Some (u64_at (file_place file) page)) None) (sym counted)
