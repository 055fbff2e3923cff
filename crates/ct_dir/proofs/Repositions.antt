-- What a page with another position tells.
use Rattle.std.proofs.Common.{◌≡◌, ◌≢◌, ℕ, ◌+◌, ◌-◌, ◌*◌, ◌≤◌, Bool, true, false, ◌&&◌, eqb, leb, ltb, cond, List, get_or, drop, Option, Some, None, refl, sym, ap, ◌∙◌, ⊎_elim, inl, inr, arith}
use Rattle.std.proofs.lemmas.Bool.{false≢true, cases_Bool, and_right}
use Rattle.std.proofs.lemmas.Bool.Decides.{nat_tests}
use Rattle.std.proofs.lemmas.List.{get_or-drop, drop-drop}
use Rattle.ct_page.specs.Fields.{u16_at, u64_at, are_zero}
use Rattle.ct_page.specs.Headers.{IsPage, has_header, with_position}
use Rattle.ct_page.proofs.Numbers.{u16_at-with_u64_apart, u64_at-with_u64_apart}
use Rattle.ct_page.proofs.Positions.{behind_kept, byte_kept, later_byte_kept, grammar_kept}
use Rattle.ct_dir.specs.Directory.{file_count, file_place, file_page}
use Rattle.ct_dir.specs.MapPage.{entry_place, entry_at}
use Rattle.ct_dir.specs.declared.map.MapEntry.{MapEntry}
use Rattle.ct_dir.specs.Grammar.{has_kind, has_no_index, has_no_file, ends_at, is_directory_page, is_definition_page, is_map_page}

pub short_in_front : (at position : ℕ) (page : List ℕ) → IsPage page → at + 2 ≤ 8 → u16_at at (with_position position page) ≡ u16_at at page
short_in_front at position page is front = let long = is.len in u16_at-with_u64_apart 8 at position page (omega arith) (inr (omega arith))

pub short_behind : (at position : ℕ) (page : List ℕ) → IsPage page → 16 ≤ at → u16_at at (with_position position page) ≡ u16_at at page
short_behind at position page is behind = let long = is.len in u16_at-with_u64_apart 8 at position page (omega arith) (inl (omega arith))

pub long_behind : (at position : ℕ) (page : List ℕ) → IsPage page → 16 ≤ at → u64_at at (with_position position page) ≡ u64_at at page
long_behind at position page is behind = let long = is.len in u64_at-with_u64_apart 8 at position page (omega arith) (inl (omega arith))

pub part_behind : (at position : ℕ) (page : List ℕ) → IsPage page → 16 ≤ at → drop at (with_position position page) ≡ drop at page
part_behind at position page is behind =
    let sum : at ≡ 16 + (at - 16) = omega arith in
    ap (λ n. drop n (with_position position page)) sum ∙ sym (drop-drop (at - 16) 16 (with_position position page)) ∙ ap (drop (at - 16)) (behind_kept position page is) ∙ drop-drop (at - 16) 16 page ∙ ap (λ n. drop n page) (sym sum)

pub file_kept : (position file : ℕ) (page : List ℕ) → IsPage page → file_page (with_position position page) file ≡ file_page page file
file_kept position file page is =
    ap (λ n. cond (ltb file n) (Some (u64_at (file_place file) (with_position position page))) None) (short_in_front 6 position page is (omega arith))
    ∙ ap (λ p. cond (ltb file (file_count page)) (Some p) None) (long_behind (file_place file) position page is (omega arith))

entry_of : ℕ → ℕ → MapEntry
entry_of page used = record { page = page; used = used }

pub entry_kept : (position at : ℕ) (page : List ℕ) → IsPage page → entry_at at (with_position position page) ≡ entry_at at page
unfolding entry_of
entry_kept position at page is =
    ap (λ p. entry_of p (u16_at (entry_place at + 8) (with_position position page))) (long_behind (entry_place at) position page is (omega arith))
    ∙ ap (entry_of (u64_at (entry_place at) page)) (short_behind (entry_place at + 8) position page is (omega arith))

kind_kept : (kind position : ℕ) (page : List ℕ) → kind ≢ 0 → IsPage page → has_kind kind (with_position position page) ≡ has_kind kind page
kind_kept kind position page some is = ⊎_elim here elsewhere (cases_Bool (eqb (get_or page 0 0) kind))
  where
    first : get_or (with_position position page) 0 0 ≡ get_or page 0 0
    first = byte_kept 0 position page is (omega arith)

    here : eqb (get_or page 0 0) kind ≡ true → has_kind kind (with_position position page) ≡ has_kind kind page
    here same =
        ap (λ n. has_header (with_position position page) && eqb n kind) first
        ∙ ap (λ b. b && eqb (get_or page 0 0) kind) (grammar_kept position page is (λ zero. some (grind (arith, nat_tests))))

    elsewhere : eqb (get_or page 0 0) kind ≡ false → has_kind kind (with_position position page) ≡ has_kind kind page
    elsewhere differ =
        and_right (has_header (with_position position page)) (eqb (get_or (with_position position page) 0 0) kind) (ap (λ n. eqb n kind) first ∙ differ)
        ∙ sym (and_right (has_header page) (eqb (get_or page 0 0) kind) differ)

index_kept : (position : ℕ) (page : List ℕ) → IsPage page → has_no_index (with_position position page) ≡ has_no_index page
index_kept position page is =
    ap (λ n. eqb n 65535 && eqb (get_or (with_position position page) 24 0) 0) (short_in_front 4 position page is (omega arith))
    ∙ ap (λ n. eqb (u16_at 4 page) 65535 && eqb n 0) (later_byte_kept 8 position page is)

no_file_kept : (position : ℕ) (page : List ℕ) → IsPage page → has_no_file (with_position position page) ≡ has_no_file page
no_file_kept position page is =
    ap (λ n. eqb n 65535 && eqb (u64_at 16 (with_position position page)) 0) (short_in_front 2 position page is (omega arith))
    ∙ ap (λ n. eqb (u16_at 2 page) 65535 && eqb n 0) (long_behind 16 position page is (omega arith))

end_kept : (place position : ℕ) (page : List ℕ) → IsPage page → 16 ≤ place → ends_at place (with_position position page) ≡ ends_at place page
end_kept place position page is behind = ap (λ (l : List ℕ). leb place 4096 && are_zero l) (part_behind place position page is behind)

pub directory_kept : (position : ℕ) (page : List ℕ) → IsPage page → is_directory_page (with_position position page) ≡ is_directory_page page
directory_kept position page is =
    let other = with_position position page in
    ap (λ b. b && has_no_index other && has_no_file other && leb (u16_at 6 other) 256 && ends_at (136 + 8 * u16_at 6 other) other) (kind_kept 1 position page (λ e. omega (arith, e)) is)
    ∙ ap (λ b. has_kind 1 page && b && has_no_file other && leb (u16_at 6 other) 256 && ends_at (136 + 8 * u16_at 6 other) other) (index_kept position page is)
    ∙ ap (λ b. has_kind 1 page && has_no_index page && b && leb (u16_at 6 other) 256 && ends_at (136 + 8 * u16_at 6 other) other) (no_file_kept position page is)
    ∙ ap (λ n. has_kind 1 page && has_no_index page && has_no_file page && leb n 256 && ends_at (136 + 8 * n) other) (short_in_front 6 position page is (omega arith))
    ∙ ap (λ b. has_kind 1 page && has_no_index page && has_no_file page && leb (u16_at 6 page) 256 && b) (end_kept (136 + 8 * u16_at 6 page) position page is (omega arith))

pub definition_kept : (position len : ℕ) (page : List ℕ) → IsPage page → is_definition_page len (with_position position page) ≡ is_definition_page len page
definition_kept position len page is =
    let other = with_position position page in
    ap (λ b. b && has_no_index other && eqb (u64_at 16 other) 0 && ends_at (136 + len + 16 * u16_at 6 other) other) (kind_kept 2 position page (λ e. omega (arith, e)) is)
    ∙ ap (λ b. has_kind 2 page && b && eqb (u64_at 16 other) 0 && ends_at (136 + len + 16 * u16_at 6 other) other) (index_kept position page is)
    ∙ ap (λ n. has_kind 2 page && has_no_index page && eqb n 0 && ends_at (136 + len + 16 * u16_at 6 other) other) (long_behind 16 position page is (omega arith))
    ∙ ap (λ n. has_kind 2 page && has_no_index page && eqb (u64_at 16 page) 0 && ends_at (136 + len + 16 * n) other) (short_in_front 6 position page is (omega arith))
    ∙ ap (λ b. has_kind 2 page && has_no_index page && eqb (u64_at 16 page) 0 && b) (end_kept (136 + len + 16 * u16_at 6 page) position page is (omega arith))

pub map_kept : (position : ℕ) (page : List ℕ) → IsPage page → is_map_page (with_position position page) ≡ is_map_page page
map_kept position page is =
    let other = with_position position page in
    ap (λ b. b && has_no_index other && leb (u16_at 6 other) 396 && ends_at (128 + 10 * u16_at 6 other) other) (kind_kept 3 position page (λ e. omega (arith, e)) is)
    ∙ ap (λ b. has_kind 3 page && b && leb (u16_at 6 other) 396 && ends_at (128 + 10 * u16_at 6 other) other) (index_kept position page is)
    ∙ ap (λ n. has_kind 3 page && has_no_index page && leb n 396 && ends_at (128 + 10 * n) other) (short_in_front 6 position page is (omega arith))
    ∙ ap (λ b. has_kind 3 page && has_no_index page && leb (u16_at 6 page) 396 && b) (end_kept (128 + 10 * u16_at 6 page) position page is (omega arith))
