-- Savepoints beside changes that grow at the end or are cut there.
use Rattle.std.proofs.Common.{◌≡◌, ◌≤◌, ℕ, zero, suc, ◌+◌, List, [], ◌∷◌, ◌++◌, length, take, map, refl, sym, ap, subst, ◌∙◌, arith, Option, Some, slice_get, option_map, sum_by, min, ◌-◌, true, append_assoc}
use Rattle.std.proofs.lemmas.List.{take-append-le, take_all, length-take, length-append}
use Rattle.std.proofs.lemmas.Bool.Decides.{nat_tests}
use Rattle.std.proofs.lemmas.Option.{slice_get-map}
use Rattle.std.proofs.lemmas.List.Sums.{sum_by-append, sum_by-take-le}
use Rattle.ct_definitions.specs.declared.change.Change.{Change}
use Rattle.ct_tran.specs.Owned.{Owned, encoded_len, has_room_for, with_changes, restored, restored_to}
use Rattle.ct_tran.specs.declared.own.Save.{Save}
use Rattle.ct_tran.specs.Counting.{AreSaved, IsCounted}

-- a front of a longer front
take_front : (m n : ℕ) (xs : List Change) → m ≤ n → take m (take n xs) ≡ take m xs
take_front zero n xs low = refl
take_front (suc m) zero xs low = absurd (omega (arith, low))
take_front (suc m) (suc n) [] low = refl
take_front (suc m) (suc n) (x ∷ xs) low = ap (λ (rest : List Change). x ∷ rest) (take_front m n xs (omega (arith, low)))

cons_same : {x y : List Change} {xs ys : List (List Change)} → x ≡ y → xs ≡ ys → x ∷ xs ≡ y ∷ ys
cons_same same rest = cc

-- the changes at each savepoint
abbrev pub at_saves : List Change → List Save → List (List Change)
at_saves changes saves = map (λ (save : Save). take save.count changes) saves

pub more_saved : (changes more : List Change) (before : ℕ) (saves : List Save) → AreSaved changes before saves → AreSaved (changes ++ more) before saves
more_saved changes more before [] saved = tt
more_saved changes more before (save ∷ saves) saved =
    let front : take save.count (changes ++ more) ≡ take save.count changes = take-append-le save.count changes more saved.1 in (
      saved.0,
      omega (arith, saved.1, length-append changes more),
      saved.2 ∙ ap (λ (l : List Change). sum_by encoded_len l) (sym front),
      more_saved changes more save.count saves saved.3,
    )

pub one_more_saved : (changes : List Change) (before : ℕ) (saves : List Save) (new : Save) → AreSaved changes before saves → before ≤ length changes
    → new.count ≡ length changes → new.len ≡ sum_by encoded_len changes → AreSaved changes before (saves ++ new ∷ [])
one_more_saved changes before [] new saved low count len =
    let whole : take new.count changes ≡ changes = take_all new.count changes (omega (arith, count)) in
    (omega (arith, low, count), omega (arith, count), len ∙ ap (λ (l : List Change). sum_by encoded_len l) (sym whole), tt)
one_more_saved changes before (save ∷ saves) new saved low count len =
    (saved.0, saved.1, saved.2, one_more_saved changes save.count saves new saved.3 saved.1 count len)

-- a savepoint is behind the one from which they are counted, and within the changes
kept_within : (changes : List Change) (before i : ℕ) (saves : List Save) (kept : Save) → AreSaved changes before saves → slice_get saves i ≡ Some kept
    → (before ≤ kept.count) × (kept.count ≤ length changes) × (kept.len ≡ sum_by encoded_len (take kept.count changes))
kept_within changes before i [] kept saved at = absurd (grind arith)
kept_within changes before zero (save ∷ saves) kept saved at =
    let same : save ≡ kept = grind arith in
    subst (λ (s : Save). (before ≤ s.count) × (s.count ≤ length changes) × (s.len ≡ sum_by encoded_len (take s.count changes))) same (saved.0, saved.1, saved.2)
kept_within changes before (suc i) (save ∷ saves) kept saved at =
    let rest = kept_within changes save.count i saves kept saved.3 at in
    (omega (arith, saved.0, rest.0), rest.1, rest.2)

pub cut_saved : (changes : List Change) (before i : ℕ) (saves : List Save) (kept : Save) → AreSaved changes before saves → slice_get saves i ≡ Some kept
    → AreSaved (take kept.count changes) before (take (suc i) saves)
cut_saved changes before i [] kept saved at = absurd (grind arith)
cut_saved changes before zero (save ∷ saves) kept saved at =
    let same : save ≡ kept = grind arith in
    let long : length (take kept.count changes) ≡ min kept.count (length changes) = length-take kept.count changes in
    let front : take save.count (take kept.count changes) ≡ take save.count changes = take_front save.count kept.count changes (omega (arith, ap (λ (s : Save). s.count) same)) in
    (saved.0, omega (arith, ap (λ (s : Save). s.count) same, long, saved.1), saved.2 ∙ ap (λ (l : List Change). sum_by encoded_len l) (sym front), tt)
cut_saved changes before (suc i) (save ∷ saves) kept saved at =
    let above = kept_within changes save.count i saves kept saved.3 at in
    let long : length (take kept.count changes) ≡ min kept.count (length changes) = length-take kept.count changes in
    let front : take save.count (take kept.count changes) ≡ take save.count changes = take_front save.count kept.count changes above.0 in
    (saved.0, omega (arith, above.0, above.1, long), saved.2 ∙ ap (λ (l : List Change). sum_by encoded_len l) (sym front), cut_saved changes save.count i saves kept saved.3 at)

-- more changes leave what stood at each savepoint
pub seen_more : (changes more : List Change) (before : ℕ) (saves : List Save) → AreSaved changes before saves → at_saves (changes ++ more) saves ≡ at_saves changes saves
seen_more changes more before [] saved = refl
seen_more changes more before (save ∷ saves) saved =
    cons_same (take-append-le save.count changes more saved.1) (seen_more changes more save.count saves saved.3)

-- and so does a cut to the last savepoint that stays
pub seen_cut : (changes : List Change) (before i : ℕ) (saves : List Save) (kept : Save) → AreSaved changes before saves → slice_get saves i ≡ Some kept
    → at_saves (take kept.count changes) (take (suc i) saves) ≡ take (suc i) (at_saves changes saves)
seen_cut changes before i [] kept saved at = absurd (grind arith)
seen_cut changes before zero (save ∷ saves) kept saved at =
    let same : save ≡ kept = grind arith in
    cons_same (take_front save.count kept.count changes (omega (arith, ap (λ (s : Save). s.count) same))) refl
seen_cut changes before (suc i) (save ∷ saves) kept saved at =
    let above = kept_within changes save.count i saves kept saved.3 at in
    cons_same (take_front save.count kept.count changes above.0) (seen_cut changes save.count i saves kept saved.3 at)

-- more changes of a known length
pub counted_more : (changes more : List Change) (len : ℕ) (saves : List Save) → IsCounted changes len saves → length changes + length more ≤ 4096
    → len + sum_by encoded_len more ≤ 8388608 → IsCounted (changes ++ more) (len + sum_by encoded_len more) saves
counted_more changes more len saves counted few short = record {
  sum = ap (λ n. n + sum_by encoded_len more) counted.sum ∙ sym (sum_by-append encoded_len changes more);
  few = omega (arith, length-append changes more, few);
  short = short;
  saved = more_saved changes more 0 saves counted.saved;
}

pub counted_save : (changes : List Change) (len : ℕ) (saves : List Save) (new : Save) → IsCounted changes len saves → new.count ≡ length changes → new.len ≡ len
    → IsCounted changes len (saves ++ new ∷ [])
counted_save changes len saves new counted count same = record {
  sum = counted.sum;
  few = counted.few;
  short = counted.short;
  saved = one_more_saved changes 0 saves new counted.saved (omega arith) count (same ∙ counted.sum);
}

pub counted_cut : (changes : List Change) (len i : ℕ) (saves : List Save) (kept : Save) → IsCounted changes len saves → slice_get saves i ≡ Some kept
    → IsCounted (take kept.count changes) kept.len (take (suc i) saves)
counted_cut changes len i saves kept counted at =
    let within = kept_within changes 0 i saves kept counted.saved at in
    let front : sum_by encoded_len (take kept.count changes) ≤ sum_by encoded_len changes = sum_by-take-le encoded_len changes kept.count in
    record {
      sum = within.2;
      few = omega (arith, length-take kept.count changes, counted.few);
      short = omega (arith, within.2, front, counted.sum, counted.short);
      saved = cut_saved changes 0 i saves kept counted.saved at;
    }

abbrev owned : List Change → List (List Change) → Owned
owned changes saves = record { changes = changes; saves = saves }

-- what is seen after more changes
pub added_is : (changes more : List Change) (saves : List Save) → AreSaved changes 0 saves
    → owned (changes ++ more) (at_saves (changes ++ more) saves) ≡ with_changes more (owned changes (at_saves changes saves))
added_is changes more saves saved = ap (owned (changes ++ more)) (seen_more changes more 0 saves saved)

-- what is seen after a cut to a savepoint
pub restored_is : (changes : List Change) (saves : List Save) (number : ℕ) (kept : Save) → AreSaved changes 0 saves → 1 ≤ number
    → slice_get saves (number - 1) ≡ Some kept
    → owned (take kept.count changes) (at_saves (take kept.count changes) (take number saves)) ≡ restored number (owned changes (at_saves changes saves))
restored_is changes saves number kept saved least at =
    let on : suc (number - 1) ≡ number = omega (arith, least) in
    let found : slice_get (at_saves changes saves) (number - 1) ≡ Some (take kept.count changes) =
    slice_get-map (λ (s : Save). take s.count changes) saves (number - 1) ∙ ap (option_map (λ (s : Save). take s.count changes)) at in
    let seen = seen_cut changes 0 (number - 1) saves kept saved at in
    let same : at_saves (take kept.count changes) (take number saves) ≡ take number (at_saves changes saves) =
    subst (λ n. at_saves (take kept.count changes) (take n saves) ≡ take n (at_saves changes saves)) on seen in
    ap (owned (take kept.count changes)) same ∙ ap (λ (o : Option (List Change)). restored_to o number (owned changes (at_saves changes saves))) (sym found)

-- what the test of the limits tells
pub room_is : (changes : List Change) (len : ℕ) (saves : List Save) (more : List Change) → IsCounted changes len saves
    → has_room_for more (owned changes (at_saves changes saves)) ≡ true → (length changes + length more ≤ 4096) × (len + sum_by encoded_len more ≤ 8388608)
room_is changes len saves more counted room =
    let few : length changes + length more ≤ 4096 = grind (arith, nat_tests) in
    let short : sum_by encoded_len changes + sum_by encoded_len more ≤ 8388608 = grind (arith, nat_tests) in
    (few, omega (arith, counted.sum, short))

-- one after another
pub two_more : (changes once twice : List Change) (first second : Change) → once ≡ changes ++ first ∷ [] → twice ≡ once ++ second ∷ []
    → twice ≡ changes ++ first ∷ second ∷ []
two_more changes once twice first second one two =
    two ∙ ap (λ (l : List Change). l ++ second ∷ []) one ∙ append_assoc changes (first ∷ []) (second ∷ [])
