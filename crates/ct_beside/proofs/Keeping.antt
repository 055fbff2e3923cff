-- A change that is defined on a state is defined beside it.
use Rattle.std.proofs.Common.{◌≡◌, ◌≢◌, ◌≤◌, ◌⊎◌, inl, inr, ℕ, ◌+◌, ◌-◌, ◌==◌, ◌&&◌, ◌||◌, nat_le, nat_lt, is_none, Bool, true, false, true≢false, cond, not, List, [], ◌∷◌, length, sum_by, Option, Some, None, option_map, refl, sym, ap, ◌∙◌, arith, slice_get, subst}
use Rattle.std.specs.List.{list_all, list_any}
use Rattle.std.specs.Cmp.Lexicographic.{bytes_decides}
use Rattle.std.proofs.lemmas.Bool.{and_parts, and_from, eqb-true, eq-eqb, le-leb}
use Rattle.std.proofs.lemmas.Bool.Decides.{nat_tests}
use Rattle.std.proofs.lemmas.List.Sums.{sum_by-cons}
use Rattle.ct_definitions.specs.declared.definition.FileDef.{FileDef}
use Rattle.ct_definitions.specs.declared.definition.IndexDef.{IndexDef}
use Rattle.ct_definitions.specs.declared.store.Row.{Row}
use Rattle.ct_definitions.specs.declared.store.File.{File}
use Rattle.ct_definitions.specs.declared.store.TheConstants.{BLOCK_ROOM}
use Rattle.ct_definitions.specs.declared.change.Change.{Change}
use Rattle.ct_definitions.specs.declared.change.Change.TheVariants.{Make, Add, Rewrite, Delete}
use Rattle.ct_definitions.specs.Keys.{key_of}
use Rattle.ct_definitions.specs.Room.{row_at, image_at, is_image, block_of, use_of, block_use, use_beside, has_fitting_len}
use Rattle.ct_definitions.specs.Changes.{State, allows, changed, with_records, is_same_key, may_stand}
use Rattle.ct_definitions.specs.Histories.{after_changes, allows_all}
use Rattle.ct_definitions.specs.Reached.{IsInOrder, rise_above}
use Rattle.ct_laws.proofs.Keys.{collide}
use Rattle.ct_laws.proofs.Rows.{row_at_none, list_all-row_at}
use Rattle.ct_laws.proofs.Room.{use_beside_none, use_beside_one, room_from}
use Rattle.ct_laws.proofs.States.{passes_from}
use Rattle.ct_laws.proofs.Order.{MayStand, may_stand_from, MayAdd-from, MayRewrite-from, MayDelete-from, AreInOrder-at, IsInOrder-changed}
use Rattle.ct_laws.proofs.Histories.{IsInOrder-after_changes}
use Rattle.ct_beside.specs.Apart.{is_of_record, names, puts, all_puts, IsAmong, growth_of, growth, share_key, AreApart}
use Rattle.ct_beside.proofs.Effects.{file_of, num_of, now_of, step_of, used, Acts, acts}
use Rattle.ct_beside.proofs.Besides.{RowsBeside, IsBeside, IsPut, itself, both_changed, others_made, unnamed_same, among_front, among_behind, or_right, names_itself, file_after, effect_on, one_file}

-- records that rise meet a test where each that is found by its number does
all_from_found : (test : Row → Bool) (last : ℕ) (rows : List Row) → rise_above last rows ≡ true
    → ((num : ℕ) (row : Row) → row_at num rows ≡ Some row → test row ≡ true) → list_all test rows ≡ true
all_from_found test last [] rise each = refl
all_from_found test last (row ∷ rows) rise each =
    let parts = and_parts (nat_lt last row.num) (rise_above row.num rows) rise in
    and_from (test row) (list_all test rows)
    (each row.num row (ap (λ b. cond b (Some row) (row_at row.num rows)) (eq-eqb row.num row.num refl)))
    (all_from_found test row.num rows parts.1 (λ num other found. each num other (behind num other found (row.num == num) refl parts.1)))
  where
    behind : (num : ℕ) (other : Row) → row_at num rows ≡ Some other → (here : Bool) → (row.num == num) ≡ here → rise_above row.num rows ≡ true
        → cond (row.num == num) (Some row) (row_at num rows) ≡ Some other
    behind num other found true is rising =
        let low : num ≤ row.num = let e = eqb-true row.num num is in omega (arith, e) in
        absurd (none_some (sym (row_at_none num row.num rows rising low) ∙ found))
      where
        none_some : {x : Row} → None ≡ Some x → ⊥
        none_some same = cc
    behind num other found false is rising = ap (λ b. cond b (Some row) (row_at num rows)) is ∙ found

-- records whose images share no key of a unique index do not collide
apart_images : (indexes : List IndexDef) (a b : Row) → share_key indexes a.image b.image ≡ false → collide indexes a b ≡ false
apart_images [] a b none = refl
apart_images (index ∷ indexes) a b none = by index.unique (b.num == a.num) (is_same_key (key_of index a.image) (key_of index b.image)) none (apart_images indexes a b)
  where
    by : (unique same_num same_key : Bool) → ((unique && same_key) || share_key indexes a.image b.image) ≡ false
        → (share_key indexes a.image b.image ≡ false → collide indexes a b ≡ false)
        → ((unique && (not same_num && same_key)) || collide indexes a b) ≡ false
    by true same_num true is rest = absurd (true≢false is)
    by true true false is rest = rest is
    by true false false is rest = rest is
    by false same_num same_key is rest = rest is

-- no key is taken beside, either
free_beside : (others : List Change) (file : ℕ) (more : ℕ → ℕ) (f g : File) (new : Row) → g.def ≡ f.def → RowsBeside others file more f.records g.records
    → rise_above 0 g.records ≡ true → list_all (λ b. not (collide f.def.indexes new b)) f.records ≡ true
    → ((other : List ℕ) → IsAmong other (all_puts file others) → share_key f.def.indexes new.image other ≡ false)
    → list_all (λ b. not (collide g.def.indexes new b)) g.records ≡ true
free_beside others file more f g new def h rise free apart =
    subst (λ (d : FileDef). list_all (λ b. not (collide d.indexes new b)) g.records ≡ true) (sym def)
    (all_from_found (λ b. not (collide f.def.indexes new b)) 0 g.records rise (λ num row found. by num row found (h.same num)))
  where
    by : (num : ℕ) (row : Row) → row_at num g.records ≡ Some row
        → (row_at num g.records ≡ row_at num f.records) ⊎ ((list_any (names file num) others ≡ true) × IsPut (row_at num g.records) (all_puts file others))
        → not (collide f.def.indexes new row) ≡ true
    by num row found (inl same) = list_all-row_at (λ b. not (collide f.def.indexes new b)) num row f.records free (sym same ∙ found)
    by num row found (inr named) =
        ap not (apart_images f.def.indexes new row (apart row.image (subst (λ (o : Option Row). IsPut o (all_puts file others)) found named.1)))

-- what a session's change needs so that it is defined beside its state
pub record IsClear (others : List Change) (more : ℕ → ℕ → ℕ) (state : State) (change : Change) : Type 0 where
  pub named : list_any (names (file_of change) (num_of change)) others ≡ false
  pub keys : (f : File) (image other : List ℕ) → slice_get state (file_of change) ≡ Some f
      → IsAmong image (puts (file_of change) change) → IsAmong other (all_puts (file_of change) others) → share_key f.def.indexes image other ≡ false
  pub room : (block : ℕ) (f : File) → slice_get state (file_of change) ≡ Some f
      → block_use block f.records + growth_of (file_of change) block change + more (file_of change) block ≤ BLOCK_ROOM

own_put : (file : ℕ) (new : List ℕ) → IsAmong new (cond (file == file) (new ∷ []) [])
own_put file new = subst (λ b. IsAmong new (cond b (new ∷ []) [])) (sym (eq-eqb file file refl)) (inl refl)

own_growth : (file num amount : ℕ) → cond (file == file && block_of num == block_of num) amount 0 ≡ amount
own_growth file num amount = grind (arith, nat_tests)

pub allowed_beside : (others : List Change) (more : ℕ → ℕ → ℕ) (state beside : State) (change : Change) → IsBeside others more state beside
    → IsInOrder beside → allows state change ≡ true → is_of_record change ≡ true → IsClear others more state change → allows beside change ≡ true
allowed_beside others more state beside (Make file def) h order allowed own clear = absurd (true≢false (sym own))
allowed_beside others more state beside (Add file num new) h order allowed own clear =
    let row : Row = record { num = num; image = new } in
    let m = MayAdd-from state file row allowed in
    let b = h file m.f m.found in
    let rising = (AreInOrder-at beside file b.g order.files b.found).rising in
    let same = unnamed_same others file (more file) m.f.records b.g.records num b.rows clear.named in
    let none : row_at num b.g.records ≡ None = same ∙ m.none in
    let low : block_use (block_of num) b.g.records ≤ block_use (block_of num) m.f.records + more file (block_of num) = b.rows.room (block_of num) in
    let most : block_use (block_of num) m.f.records + growth_of file (block_of num) (Add file num new) + more file (block_of num) ≤ BLOCK_ROOM = clear.room (block_of num) m.f m.found in
    let grown : growth_of file (block_of num) (Add file num new) ≡ use_of new = own_growth file num (use_of new) in
    let all : sum_by (use_beside num) b.g.records ≡ block_use (block_of num) b.g.records = use_beside_none num b.g.records none in
    let may : MayStand b.g row = record {
      fits = ap (λ (d : FileDef). has_fitting_len d.kind (length new)) b.def ∙ m.may.fits;
      free = free_beside others file (more file) m.f b.g row b.def b.rows rising m.may.free (λ other among. clear.keys m.f new other m.found (own_put file new) among);
      room = room_from num new b.g.records (omega (arith, low, most, grown, all));
    } in
    passes_from (slice_get beside file) (λ f. nat_le 1 num && is_none (image_at num f.records) && may_stand f num new) b.g b.found
    (and_from (nat_le 1 num && is_none (image_at num b.g.records)) (may_stand b.g num new)
    (and_from (nat_le 1 num) (is_none (image_at num b.g.records)) (le-leb 1 num m.low) (ap (λ found. is_none (option_map (λ (x : Row). x.image) found)) none))
    (may_stand_from b.g row may))
allowed_beside others more state beside (Rewrite file num old new) h order allowed own clear =
    let row : Row = record { num = num; image = new } in
    let m = MayRewrite-from state file old row allowed in
    let b = h file m.f m.found in
    let rising = (AreInOrder-at beside file b.g order.files b.found).rising in
    let same = unnamed_same others file (more file) m.f.records b.g.records num b.rows clear.named in
    let one : row_at num b.g.records ≡ Some m.row = same ∙ m.one in
    let low : block_use (block_of num) b.g.records ≤ block_use (block_of num) m.f.records + more file (block_of num) = b.rows.room (block_of num) in
    let most : block_use (block_of num) m.f.records + growth_of file (block_of num) (Rewrite file num old new) + more file (block_of num) ≤ BLOCK_ROOM = clear.room (block_of num) m.f m.found in
    let grown : growth_of file (block_of num) (Rewrite file num old new) ≡ use_of new - use_of old = own_growth file num (use_of new - use_of old) in
    let all : sum_by (use_beside num) b.g.records + use_of m.row.image ≡ block_use (block_of num) b.g.records = use_beside_one num 0 m.row b.g.records rising one in
    let len : length m.row.image ≡ length old = ap (λ (l : List ℕ). length l) ((bytes_decides m.row.image old).0 m.was) in
    let may : MayStand b.g row = record {
      fits = ap (λ (d : FileDef). has_fitting_len d.kind (length new)) b.def ∙ m.may.fits;
      free = free_beside others file (more file) m.f b.g row b.def b.rows rising m.may.free (λ other among. clear.keys m.f new other m.found (own_put file new) among);
      room = room_from num new b.g.records (omega (arith, low, most, grown, all, len));
    } in
    passes_from (slice_get beside file) (λ f. is_image old (image_at num f.records) && may_stand f num new) b.g b.found
    (and_from (is_image old (image_at num b.g.records)) (may_stand b.g num new)
    (ap (λ found. is_image old (option_map (λ (x : Row). x.image) found)) one ∙ m.was)
    (may_stand_from b.g row may))
allowed_beside others more state beside (Delete file num old) h order allowed own clear =
    let m = MayDelete-from state file num old allowed in
    let b = h file m.f m.found in
    let one : row_at num b.g.records ≡ Some m.row = unnamed_same others file (more file) m.f.records b.g.records num b.rows clear.named ∙ m.one in
    passes_from (slice_get beside file) (λ f. is_image old (image_at num f.records)) b.g b.found
    (ap (λ found. is_image old (option_map (λ (x : Row). x.image) found)) one ∙ m.was)

-- ---- all changes of a session

-- what a list of changes needs so that each is defined beside its state
pub record AreClear (others : List Change) (more : ℕ → ℕ → ℕ) (state : State) (own : List Change) : Type 0 where
  pub named : (file num : ℕ) → list_any (names file num) own ≡ true → list_any (names file num) others ≡ false
  pub keys : (file : ℕ) (f : File) (image other : List ℕ) → slice_get state file ≡ Some f
      → IsAmong image (all_puts file own) → IsAmong other (all_puts file others) → share_key f.def.indexes image other ≡ false
  pub room : (file block : ℕ) (f : File) → slice_get state file ≡ Some f
      → block_use block f.records + growth file block own + more file block ≤ BLOCK_ROOM

first_clear : (others : List Change) (more : ℕ → ℕ → ℕ) (state : State) (change : Change) (own : List Change) → is_of_record change ≡ true
    → AreClear others more state (change ∷ own) → IsClear others more state change
first_clear others more state change own of_record clear = record {
  named = clear.named (file_of change) (num_of change) (ap (λ b. b || list_any (names (file_of change) (num_of change)) own) (names_itself change of_record));
  keys = λ f image other found put among. clear.keys (file_of change) f image other found (among_front image (puts (file_of change) change) (all_puts (file_of change) own) put) among;
  room = λ block f found.
      let all = clear.room (file_of change) block f found in
      omega (arith, all, sum_by-cons (growth_of (file_of change) block) change own);
}

rest_clear : (others : List Change) (more : ℕ → ℕ → ℕ) (state : State) (change : Change) (own : List Change) → Acts change state
    → AreClear others more state (change ∷ own) → AreClear others more (changed state change) own
rest_clear others more state change own act clear = record {
  named = λ file num is. clear.named file num (or_right (names file num change) (list_any (names file num) own) is);
  keys = λ file f image other found put among. keys file f image other (file_after state change file f act found) (among_behind image (puts file change) (all_puts file own) put) among;
  room = λ file block f found. room file block f (file_after state change file f act found);
}
  where
    keys : (file : ℕ) (f : File) (image other : List ℕ)
        → ((file ≡ file_of change) × (before : File) × (slice_get state file ≡ Some before) × (f ≡ with_records before (step_of change before.records)))
        ⊎ ((file ≢ file_of change) × (slice_get state file ≡ Some f))
        → IsAmong image (all_puts file (change ∷ own)) → IsAmong other (all_puts file others) → share_key f.def.indexes image other ≡ false
    keys file f image other (inl (same, before, found, is)) put among =
        subst (λ (g : File). share_key g.def.indexes image other ≡ false) (sym is) (clear.keys file before image other found put among)
    keys file f image other (inr (apart, found)) put among = clear.keys file f image other found put among

    room : (file block : ℕ) (f : File)
        → ((file ≡ file_of change) × (before : File) × (slice_get state file ≡ Some before) × (f ≡ with_records before (step_of change before.records)))
        ⊎ ((file ≢ file_of change) × (slice_get state file ≡ Some f))
        → block_use block f.records + growth file block own + more file block ≤ BLOCK_ROOM
    room file block f (inl (same, before, found, is)) =
        let one : act.f ≡ before = one_file (sym act.found ∙ ap (λ k. slice_get state k) (sym same) ∙ found) in
        let moved = effect_on state change before file act same found in
        let uses = moved.uses block in
        let grows : used block (now_of change) ≤ used block (row_at (num_of change) before.records) + growth_of file block change =
        subst (λ k. used block (now_of change) ≤ used block (row_at (num_of change) before.records) + growth_of k block change) (sym same)
        (subst (λ (g : File). used block (now_of change) ≤ used block (row_at (num_of change) g.records) + growth_of (file_of change) block change) one (act.grows block)) in
        let all = clear.room file block before found in
        subst (λ (g : File). block_use block g.records + growth file block own + more file block ≤ BLOCK_ROOM) (sym is)
        (omega (arith, uses, grows, all, sum_by-cons (growth_of file block) change own))
    room file block f (inr (apart, found)) =
        let all = clear.room file block f found in
        omega (arith, all, sum_by-cons (growth_of file block) change own)

pub all_beside : (others : List Change) (more : ℕ → ℕ → ℕ) (state beside : State) (own : List Change) → IsBeside others more state beside
    → IsInOrder state → IsInOrder beside → allows_all state own ≡ true → list_all is_of_record own ≡ true → AreClear others more state own
    → allows_all beside own ≡ true
all_beside others more state beside [] h order order_beside allowed of_records clear = refl
all_beside others more state beside (change ∷ own) h order order_beside allowed of_records clear =
    let parts = and_parts (allows state change) (allows_all (changed state change) own) allowed in
    let kinds = and_parts (is_of_record change) (list_all is_of_record own) of_records in
    let first = first_clear others more state change own kinds.0 clear in
    let here = allowed_beside others more state beside change h order_beside parts.0 kinds.0 first in
    let one = acts state change order parts.0 kinds.0 in
    let two = acts beside change order_beside here kinds.0 in
    and_from (allows beside change) (allows_all (changed beside change) own) here
    (all_beside others more (changed state change) (changed beside change) own (both_changed others more state beside change h one two first.named)
    (IsInOrder-changed state change order parts.0) (IsInOrder-changed beside change order_beside here) parts.1 kinds.1
    (rest_clear others more state change own one clear))

pub stay_defined : (state : State) (own others : List Change) → IsInOrder state → allows_all state own ≡ true → allows_all state others ≡ true
    → list_all is_of_record own ≡ true → AreApart state own others → allows_all (after_changes state others) own ≡ true
stay_defined state own others order allowed made of_records apart =
    all_beside others (λ file block. 0 + growth file block others) state (after_changes state others) own
    (others_made others (λ file block. 0) state state others (itself others state) order made (λ file num is. is) (λ file image among. among))
    order (IsInOrder-after_changes state others order made) allowed of_records
    (record { named = apart.records; keys = apart.keys; room = λ file block f found. let all = apart.room file block f found in omega (arith, all) })
