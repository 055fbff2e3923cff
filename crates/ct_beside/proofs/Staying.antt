-- Changes that are apart stay so while others are made.
use Rattle.std.proofs.Common.{◌≡◌, ◌≢◌, ◌≤◌, ◌⊎◌, inl, inr, ℕ, ◌+◌, ◌-◌, ◌==◌, ◌&&◌, Bool, true, false, cond, List, [], ◌∷◌, ◌++◌, Some, refl, sym, ap, ◌∙◌, arith, slice_get, subst}
use Rattle.std.specs.List.{list_all}
use Rattle.std.proofs.lemmas.Bool.{and_parts, eqb-true}
use Rattle.std.proofs.lemmas.List.Sums.{sum_by-cons}
use Rattle.ct_definitions.specs.declared.definition.FileDef.{FileDef}
use Rattle.ct_definitions.specs.declared.store.File.{File}
use Rattle.ct_definitions.specs.declared.store.TheConstants.{BLOCK_ROOM}
use Rattle.ct_definitions.specs.declared.change.Change.{Change}
use Rattle.ct_definitions.specs.declared.change.Change.TheVariants.{Make, Add, Rewrite, Delete}
use Rattle.ct_definitions.specs.Room.{block_use, block_of, use_of}
use Rattle.ct_definitions.specs.Changes.{State, allows, changed, with_records}
use Rattle.ct_definitions.specs.Histories.{after_changes, allows_all}
use Rattle.ct_definitions.specs.Reached.{IsInOrder}
use Rattle.ct_laws.proofs.Histories.{IsInOrder-after_changes}
use Rattle.ct_laws.proofs.Order.{AreInOrder-at, IsInOrder-changed}
use Rattle.ct_beside.specs.Apart.{is_of_record, puts, all_puts, IsAmong, growth_of, growth, share_key, AreApart, HasRoomForAll}
use Rattle.ct_beside.proofs.Effects.{file_of, step_of, Acts, acts}
use Rattle.ct_beside.proofs.Besides.{IsBeside, itself, others_made, file_after, one_file}

-- the file is there, or nothing is added to it or put in it
abbrev IsNamed : State → ℕ → List Change → Type 0
IsNamed state file changes =
    ((f : File) × (slice_get state file ≡ Some f)) ⊎ (((image : List ℕ) → IsAmong image (all_puts file changes) → ⊥) × ((block : ℕ) → growth file block changes ≡ 0))

nothing_by : (file : ℕ) (change : Change) → (file_of change == file) ≡ false → ((image : List ℕ) → IsAmong image (puts file change) → ⊥) × ((block : ℕ) → growth_of file block change ≡ 0)
nothing_by file (Make f def) other = (λ image among. among, λ block. refl)
nothing_by file (Add f num new) other = (
  λ image among. subst (λ b. IsAmong image (cond b (new ∷ []) []) → ⊥) (sym other) (λ none. none) among,
  λ block. ap (λ b. cond (b && block_of num == block) (use_of new) 0) other,
)
nothing_by file (Rewrite f num old new) other = (
  λ image among. subst (λ b. IsAmong image (cond b (new ∷ []) []) → ⊥) (sym other) (λ none. none) among,
  λ block. ap (λ b. cond (b && block_of num == block) (use_of new - use_of old) 0) other,
)
nothing_by file (Delete f num old) other = (λ image among. among, λ block. refl)

either : (image : List ℕ) (xs ys : List (List ℕ)) → (IsAmong image xs → ⊥) → (IsAmong image ys → ⊥) → IsAmong image (xs ++ ys) → ⊥
either image [] ys no_x no_y among = no_y among
either image (x ∷ xs) ys no_x no_y (inl same) = no_x (inl same)
either image (x ∷ xs) ys no_x no_y (inr among) = either image xs ys (λ one. no_x (inr one)) no_y among

-- changes of records that are defined name files that are there
named_or_none : (state : State) (file : ℕ) (changes : List Change) → IsInOrder state → allows_all state changes ≡ true → list_all is_of_record changes ≡ true → IsNamed state file changes
named_or_none state file [] order allowed kinds = inr (λ image among. among, λ block. refl)
named_or_none state file (change ∷ changes) order allowed kinds =
    let parts = and_parts (allows state change) (allows_all (changed state change) changes) allowed in
    let own = and_parts (is_of_record change) (list_all is_of_record changes) kinds in
    let act = acts state change order parts.0 own.0 in
    by (file_of change == file) refl act (named_or_none (changed state change) file changes (IsInOrder-changed state change order parts.0) parts.1 own.1)
  where
    by : (mine : Bool) → (file_of change == file) ≡ mine → Acts change state → IsNamed (changed state change) file changes → IsNamed state file (change ∷ changes)
    by true is act rest = inl (act.f, ap (λ k. slice_get state k) (sym (eqb-true (file_of change) file is)) ∙ act.found)
    by false is act (inl later) = there later.0 (file_after state change file later.0 act later.1)
      where
        there : (f : File)
            → ((file ≡ file_of change) × (before : File) × (slice_get state file ≡ Some before) × (f ≡ with_records before (step_of change before.records)))
            ⊎ ((file ≢ file_of change) × (slice_get state file ≡ Some f))
            → IsNamed state file (change ∷ changes)
        there f (inl (same, before, found, now)) = inl (before, found)
        there f (inr (apart, found)) = inl (f, found)
    by false is act (inr none) =
        let first = nothing_by file change is in
        inr (
          λ image among. either image (puts file change) (all_puts file changes) (first.0 image) (none.0 image) among,
          λ block. let a = first.1 block in let b = none.1 block in omega (arith, a, b, sum_by-cons (growth_of file block) change changes),
        )

pub stay_apart : (state : State) (first second others : List Change) → IsInOrder state → allows_all state first ≡ true → allows_all state second ≡ true → allows_all state others ≡ true
    → list_all is_of_record first ≡ true → list_all is_of_record second ≡ true → AreApart state first second → HasRoomForAll state first second others
    → AreApart (after_changes state others) first second
stay_apart state first second others order allowed allowed_too made kinds kinds_too apart room = record {
  records = apart.records;
  keys = λ file f image other found put among. keys file f image other found put among (named_or_none state file first order allowed kinds);
  room = λ file block f found. rooms file block f found (named_or_none state file first order allowed kinds) (named_or_none state file second order allowed_too kinds_too);
}
  where
    beside : IsBeside others (λ file block. 0 + growth file block others) state (after_changes state others)
    beside = others_made others (λ file block. 0) state state others (itself others state) order made (λ file num is. is) (λ file image among. among)

    keys : (file : ℕ) (f : File) (image other : List ℕ) → slice_get (after_changes state others) file ≡ Some f
        → IsAmong image (all_puts file first) → IsAmong other (all_puts file second) → IsNamed state file first → share_key f.def.indexes image other ≡ false
    keys file f image other found put among (inl there) =
        let b = beside file there.0 there.1 in
        let one : b.g ≡ f = one_file (sym b.found ∙ found) in
        subst (λ (g : File). share_key g.def.indexes image other ≡ false) one
        (subst (λ (d : FileDef). share_key d.indexes image other ≡ false) (sym b.def) (apart.keys file there.0 image other there.1 put among))
    keys file f image other found put among (inr none) = absurd (none.0 image put)

    there_is : (file block : ℕ) (f before : File) → slice_get (after_changes state others) file ≡ Some f → slice_get state file ≡ Some before
        → block_use block f.records + growth file block first + growth file block second ≤ BLOCK_ROOM
    there_is file block f before found was =
        let b = beside file before was in
        let one : b.g ≡ f = one_file (sym b.found ∙ found) in
        let most = b.rows.room block in
        let all = room.room file block before was in
        subst (λ (g : File). block_use block g.records + growth file block first + growth file block second ≤ BLOCK_ROOM) one (omega (arith, most, all))

    rooms : (file block : ℕ) (f : File) → slice_get (after_changes state others) file ≡ Some f → IsNamed state file first → IsNamed state file second
        → block_use block f.records + growth file block first + growth file block second ≤ BLOCK_ROOM
    rooms file block f found (inl there) other = there_is file block f there.0 found there.1
    rooms file block f found (inr none) (inl there) = there_is file block f there.0 found there.1
    rooms file block f found (inr one) (inr two) =
        let own = (AreInOrder-at (after_changes state others) file f (IsInOrder-after_changes state others order made).files found).room block in
        let a = one.1 block in
        let b = two.1 block in
        omega (arith, own, a, b)
