-- A state beside another: the same but for records that others name.
use Rattle.std.proofs.Common.{◌≡◌, ◌≢◌, ◌≤◌, ◌⊎◌, inl, inr, ℕ, zero, suc, ◌+◌, ◌++◌, ◌==◌, ◌||◌, Bool, true, false, cond, List, [], ◌∷◌, Option, Some, None, option_map, refl, sym, ap, ◌∙◌, arith, slice_get, subst, true≢false}
use Rattle.std.specs.List.{list_any}
use Rattle.std.proofs.lemmas.Bool.{and_parts, eqb-true, eq-eqb}
use Rattle.std.proofs.lemmas.List.Sums.{sum_by-cons}
use Rattle.std.proofs.lemmas.Bool.Decides.{nat_tests}
use Rattle.ct_definitions.specs.declared.store.Row.{Row}
use Rattle.ct_definitions.specs.declared.store.File.{File}
use Rattle.ct_definitions.specs.declared.definition.FileDef.{FileDef}
use Rattle.ct_definitions.specs.declared.change.Change.{Change}
use Rattle.ct_definitions.specs.declared.change.Change.TheVariants.{Make, Add, Rewrite, Delete}
use Rattle.ct_definitions.specs.Room.{row_at, block_use}
use Rattle.ct_definitions.specs.Changes.{State, allows, changed, in_file, with_records}
use Rattle.ct_definitions.specs.Histories.{after_changes, allows_all}
use Rattle.ct_definitions.specs.Reached.{IsInOrder}
use Rattle.ct_laws.proofs.Order.{IsInOrder-changed}
use Rattle.ct_laws.proofs.States.{slice_get-in_file_same, slice_get-in_file_other}
use Rattle.ct_beside.specs.Apart.{is_of_record, names, puts, all_puts, IsAmong, growth_of, growth}
use Rattle.ct_beside.proofs.Effects.{file_of, num_of, now_of, step_of, used, Effect, Acts, acts}

-- an image that is put, where a record is there
abbrev pub IsPut : Option Row → List (List ℕ) → Type 0
IsPut None images = Unit {0}
IsPut (Some row) images = IsAmong row.image images

-- the records of a file beside others: each is the same, or others name it and put what it is; a block uses at most so much more
pub record RowsBeside (others : List Change) (file : ℕ) (more : ℕ → ℕ) (rows beside : List Row) : Type 0 where
  pub same : (num : ℕ) → (row_at num beside ≡ row_at num rows) ⊎ ((list_any (names file num) others ≡ true) × IsPut (row_at num beside) (all_puts file others))
  pub room : (block : ℕ) → block_use block beside ≤ block_use block rows + more block

-- each file of a state has one beside it with the same definition
pub record FileBeside (others : List Change) (more : ℕ → ℕ → ℕ) (beside : State) (at : ℕ) (f : File) : Type 0 where
  pub g : File
  pub found : slice_get beside at ≡ Some g
  pub def : g.def ≡ f.def
  pub rows : RowsBeside others at (more at) f.records g.records

abbrev pub IsBeside : List Change → (ℕ → ℕ → ℕ) → State → State → Type 0
IsBeside others more state beside = (at : ℕ) (f : File) → slice_get state at ≡ Some f → FileBeside others more beside at f

pub itself : (others : List Change) (state : State) → IsBeside others (λ file block. 0) state state
itself others state = λ at f found. record {
  g = f;
  found = found;
  def = refl;
  rows = record { same = λ num. inl refl; room = λ block. omega arith };
}

-- ---- the same change on both

pub unnamed_same : (others : List Change) (file : ℕ) (more : ℕ → ℕ) (rows beside : List Row) (num : ℕ) → RowsBeside others file more rows beside
    → list_any (names file num) others ≡ false → row_at num beside ≡ row_at num rows
unnamed_same others file more rows beside num h none = by (h.same num)
  where
    by : (row_at num beside ≡ row_at num rows) ⊎ ((list_any (names file num) others ≡ true) × IsPut (row_at num beside) (all_puts file others)) → row_at num beside ≡ row_at num rows
    by (inl same) = same
    by (inr named) = absurd (true≢false (sym named.0 ∙ none))

both_moved : (others : List Change) (file : ℕ) (more : ℕ → ℕ) (rows beside after after_beside : List Row) (num : ℕ) (now : Option Row)
    → RowsBeside others file more rows beside → list_any (names file num) others ≡ false → Effect num now rows after → Effect num now beside after_beside
    → RowsBeside others file more after after_beside
both_moved others file more rows beside after after_beside num now h none one two = record { same = same; room = room }
  where
    by : (n : ℕ) (own : Bool) → (n == num) ≡ own
        → (row_at n after_beside ≡ row_at n after) ⊎ ((list_any (names file n) others ≡ true) × IsPut (row_at n after_beside) (all_puts file others))
    by n true is =
        let at : n ≡ num = eqb-true n num is in
        inl (ap (λ k. row_at k after_beside) at ∙ two.own ∙ sym (ap (λ k. row_at k after) at ∙ one.own))
    by n false is =
        let apart : n ≢ num = λ at. true≢false (sym (eq-eqb n num at) ∙ is) in
        kept (two.other n apart) (one.other n apart) (h.same n)
      where
        kept : row_at n after_beside ≡ row_at n beside → row_at n after ≡ row_at n rows
            → (row_at n beside ≡ row_at n rows) ⊎ ((list_any (names file n) others ≡ true) × IsPut (row_at n beside) (all_puts file others))
            → (row_at n after_beside ≡ row_at n after) ⊎ ((list_any (names file n) others ≡ true) × IsPut (row_at n after_beside) (all_puts file others))
        kept first second (inl equal) = inl (first ∙ equal ∙ sym second)
        kept first second (inr named) = inr (named.0, subst (λ found. IsPut found (all_puts file others)) (sym first) named.1)

    same : (n : ℕ) → (row_at n after_beside ≡ row_at n after) ⊎ ((list_any (names file n) others ≡ true) × IsPut (row_at n after_beside) (all_puts file others))
    same n = by n (n == num) refl

    room : (block : ℕ) → block_use block after_beside ≤ block_use block after + more block
    room block =
        let was : used block (row_at num beside) ≡ used block (row_at num rows) = ap (used block) (unnamed_same others file more rows beside num h none) in
        omega (arith, one.uses block, two.uses block, h.room block, was)

-- ---- a change of a record, seen from each file

pub one_file : {x y : File} → Some x ≡ Some y → x ≡ y
one_file same = cc

-- after an action a file is one of before, or its own with other records
pub file_after : (state : State) (change : Change) (at : ℕ) (f : File) → Acts change state → slice_get (changed state change) at ≡ Some f
    → ((at ≡ file_of change) × (before : File) × (slice_get state at ≡ Some before) × (f ≡ with_records before (step_of change before.records)))
    ⊎ ((at ≢ file_of change) × (slice_get state at ≡ Some f))
file_after state change at f act found = by (at == file_of change) refl
  where
    by : (own : Bool) → (at == file_of change) ≡ own
        → ((at ≡ file_of change) × (before : File) × (slice_get state at ≡ Some before) × (f ≡ with_records before (step_of change before.records)))
        ⊎ ((at ≢ file_of change) × (slice_get state at ≡ Some f))
    by true is =
        let same : at ≡ file_of change = eqb-true at (file_of change) is in
        let after : slice_get (changed state change) at ≡ Some (with_records act.f (step_of change act.f.records)) =
        ap (λ (s : State). slice_get s at) act.is ∙ ap (λ k. slice_get (in_file state (file_of change) (step_of change)) k) same
        ∙ slice_get-in_file_same state (file_of change) (step_of change) ∙ ap (option_map (λ (g : File). with_records g (step_of change g.records))) act.found in
        inl (same, act.f, ap (λ k. slice_get state k) same ∙ act.found, one_file (sym found ∙ after))
    by false is =
        let apart : at ≢ file_of change = λ same. true≢false (sym (eq-eqb at (file_of change) same) ∙ is) in
        inr (apart, sym (ap (λ (s : State). slice_get s at) act.is ∙ slice_get-in_file_other state at (file_of change) (step_of change) apart) ∙ found)

found_after : (state : State) (change : Change) (f : File) → Acts change state → slice_get state (file_of change) ≡ Some f
    → slice_get (changed state change) (file_of change) ≡ Some (with_records f (step_of change f.records))
found_after state change f act found =
    ap (λ (s : State). slice_get s (file_of change)) act.is
    ∙ slice_get-in_file_same state (file_of change) (step_of change) ∙ ap (option_map (λ (g : File). with_records g (step_of change g.records))) found

other_after : (state : State) (change : Change) (at : ℕ) → Acts change state → at ≢ file_of change → slice_get (changed state change) at ≡ slice_get state at
other_after state change at act apart = ap (λ (s : State). slice_get s at) act.is ∙ slice_get-in_file_other state at (file_of change) (step_of change) apart

-- the effect on the file that is found
pub effect_on : (state : State) (change : Change) (f : File) (at : ℕ) → Acts change state → at ≡ file_of change → slice_get state at ≡ Some f
    → Effect (num_of change) (now_of change) f.records (step_of change f.records)
effect_on state change f at act same found =
    let own : act.f ≡ f = one_file (sym act.found ∙ ap (λ k. slice_get state k) (sym same) ∙ found) in
    subst (λ (g : File). Effect (num_of change) (now_of change) g.records (step_of change g.records)) own act.effect

-- a change of a record that others do not name, made on both
pub both_changed : (others : List Change) (more : ℕ → ℕ → ℕ) (state beside : State) (change : Change) → IsBeside others more state beside
    → Acts change state → Acts change beside → list_any (names (file_of change) (num_of change)) others ≡ false
    → IsBeside others more (changed state change) (changed beside change)
both_changed others more state beside change h one two none = λ at f found. by at f (file_after state change at f one found)
  where
    by : (at : ℕ) (f : File)
        → ((at ≡ file_of change) × (before : File) × (slice_get state at ≡ Some before) × (f ≡ with_records before (step_of change before.records)))
        ⊎ ((at ≢ file_of change) × (slice_get state at ≡ Some f))
        → FileBeside others more (changed beside change) at f
    by at f (inl (same, before, found, is)) =
        let b = h at before found in
        let moved = both_moved others at (more at) before.records b.g.records (step_of change before.records) (step_of change b.g.records) (num_of change) (now_of change)
        b.rows (ap (λ k. list_any (names k (num_of change)) others) same ∙ none)
        (effect_on state change before at one same found) (effect_on beside change b.g at two same b.found) in
        subst (λ (f : File). FileBeside others more (changed beside change) at f) (sym is)
        (record {
          g = with_records b.g (step_of change b.g.records);
          found = ap (λ k. slice_get (changed beside change) k) same ∙ found_after beside change b.g two (ap (λ k. slice_get beside k) (sym same) ∙ b.found);
          def = b.def;
          rows = moved;
        })
    by at f (inr (apart, found)) =
        let b = h at f found in
        record { g = b.g; found = other_after beside change at two apart ∙ b.found; def = b.def; rows = b.rows }

-- a change that is one of the others', made on the state beside alone
other_moved : (others : List Change) (file : ℕ) (more grown : ℕ → ℕ) (rows beside after : List Row) (num : ℕ) (now : Option Row)
    → RowsBeside others file more rows beside → list_any (names file num) others ≡ true → IsPut now (all_puts file others) → Effect num now beside after
    → ((block : ℕ) → used block now ≤ used block (row_at num beside) + grown block)
    → RowsBeside others file (λ block. more block + grown block) rows after
other_moved others file more grown rows beside after num now h named put two bound = record { same = λ n. by n (n == num) refl; room = room }
  where
    by : (n : ℕ) (own : Bool) → (n == num) ≡ own
        → (row_at n after ≡ row_at n rows) ⊎ ((list_any (names file n) others ≡ true) × IsPut (row_at n after) (all_puts file others))
    by n true is =
        let at : n ≡ num = eqb-true n num is in
        inr (ap (λ k. list_any (names file k) others) at ∙ named, subst (λ found. IsPut found (all_puts file others)) (sym (ap (λ k. row_at k after) at ∙ two.own)) put)
    by n false is =
        let apart : n ≢ num = λ at. true≢false (sym (eq-eqb n num at) ∙ is) in
        kept (two.other n apart) (h.same n)
      where
        kept : row_at n after ≡ row_at n beside
            → (row_at n beside ≡ row_at n rows) ⊎ ((list_any (names file n) others ≡ true) × IsPut (row_at n beside) (all_puts file others))
            → (row_at n after ≡ row_at n rows) ⊎ ((list_any (names file n) others ≡ true) × IsPut (row_at n after) (all_puts file others))
        kept first (inl equal) = inl (first ∙ equal)
        kept first (inr named) = inr (named.0, subst (λ found. IsPut found (all_puts file others)) (sym first) named.1)

    room : (block : ℕ) → block_use block after ≤ block_use block rows + (more block + grown block)
    room block = omega (arith, two.uses block, bound block, h.room block)

-- a change of a record that others make is one of theirs
pub record IsTheirs (others : List Change) (change : Change) : Type 0 where
  pub named : (file num : ℕ) → names file num change ≡ true → list_any (names file num) others ≡ true
  pub put : (file : ℕ) (image : List ℕ) → IsAmong image (puts file change) → IsAmong image (all_puts file others)

pub names_itself : (change : Change) → is_of_record change ≡ true → names (file_of change) (num_of change) change ≡ true
names_itself (Make file def) own = absurd (true≢false (sym own))
names_itself (Add file num new) own = grind (arith, nat_tests)
names_itself (Rewrite file num old new) own = grind (arith, nat_tests)
names_itself (Delete file num old) own = grind (arith, nat_tests)

itself_put : (change : Change) (images : List (List ℕ)) → ((image : List ℕ) → IsAmong image (puts (file_of change) change) → IsAmong image images) → IsPut (now_of change) images
itself_put (Make file def) images put = tt
itself_put (Add file num new) images put =
    put new (subst (λ b. IsAmong new (cond b (new ∷ []) [])) (sym (eq-eqb file file refl)) (inl refl))
itself_put (Rewrite file num old new) images put =
    put new (subst (λ b. IsAmong new (cond b (new ∷ []) [])) (sym (eq-eqb file file refl)) (inl refl))
itself_put (Delete file num old) images put = tt

-- a change that others make, on the state beside alone
record_changed : (others : List Change) (more : ℕ → ℕ → ℕ) (state beside : State) (change : Change) → IsBeside others more state beside
    → Acts change beside → is_of_record change ≡ true → IsTheirs others change
    → IsBeside others (λ file block. more file block + growth_of file block change) state (changed beside change)
record_changed others more state beside change h two own theirs = λ at f found. by at f (h at f found) (at == file_of change) refl
  where
    by : (at : ℕ) (f : File) → FileBeside others more beside at f → (mine : Bool) → (at == file_of change) ≡ mine
        → FileBeside others (λ file block. more file block + growth_of file block change) (changed beside change) at f
    by at f b true is =
        let same : at ≡ file_of change = eqb-true at (file_of change) is in
        let one : two.f ≡ b.g = one_file (sym two.found ∙ ap (λ k. slice_get beside k) (sym same) ∙ b.found) in
        record {
          g = with_records b.g (step_of change b.g.records);
          found = ap (λ k. slice_get (changed beside change) k) same ∙ found_after beside change b.g two (ap (λ k. slice_get beside k) (sym same) ∙ b.found);
          def = b.def;
          rows = other_moved others at (more at) (λ block. growth_of at block change) f.records b.g.records (step_of change b.g.records) (num_of change) (now_of change)
              b.rows (theirs.named at (num_of change) (ap (λ k. names k (num_of change) change) same ∙ names_itself change own))
              (itself_put change (all_puts at others) (λ image among. theirs.put at image (subst (λ k. IsAmong image (puts k change)) (sym same) among)))
              (effect_on beside change b.g at two same b.found)
              (λ block. subst (λ k. used block (now_of change) ≤ used block (row_at (num_of change) b.g.records) + growth_of k block change) (sym same)
              (subst (λ (g : File). used block (now_of change) ≤ used block (row_at (num_of change) g.records) + growth_of (file_of change) block change) one (two.grows block)));
        }
    by at f b false is =
        let apart : at ≢ file_of change = λ same. true≢false (sym (eq-eqb at (file_of change) same) ∙ is) in
        record {
          g = b.g;
          found = other_after beside change at two apart ∙ b.found;
          def = b.def;
          rows = record { same = b.rows.same; room = λ block. let r = b.rows.room block in omega (arith, r) };
        }

slice_get_front : (state more : State) (at : ℕ) (f : File) → slice_get state at ≡ Some f → slice_get (state ++ more) at ≡ Some f
slice_get_front [] more at f found = absurd cc
slice_get_front (g ∷ state) more zero f found = found
slice_get_front (g ∷ state) more (suc at) f found = slice_get_front state more at f found

-- more files
made_beside : (others : List Change) (more : ℕ → ℕ → ℕ) (state beside : State) (file : ℕ) (def : FileDef) → IsBeside others more state beside
    → IsBeside others (λ f block. more f block + growth_of f block (Make file def)) state (changed beside (Make file def))
made_beside others more state beside file def h = λ at f found.
    let b = h at f found in
    let new : File = record { def = def; records = [] } in
    record {
      g = b.g;
      found = slice_get_front beside (new ∷ []) at b.g b.found;
      def = b.def;
      rows = record { same = b.rows.same; room = λ block. let r = b.rows.room block in omega (arith, r) };
    }

pub among_front : (image : List ℕ) (xs ys : List (List ℕ)) → IsAmong image xs → IsAmong image (xs ++ ys)
among_front image [] ys among = absurd among
among_front image (x ∷ xs) ys (inl same) = inl same
among_front image (x ∷ xs) ys (inr among) = inr (among_front image xs ys among)

pub among_behind : (image : List ℕ) (xs ys : List (List ℕ)) → IsAmong image ys → IsAmong image (xs ++ ys)
among_behind image [] ys among = among
among_behind image (x ∷ xs) ys among = inr (among_behind image xs ys among)

pub or_right : (a b : Bool) → b ≡ true → (a || b) ≡ true
or_right true b is = refl
or_right false b is = is

-- all changes of others, one after another
pub others_made : (others : List Change) (more : ℕ → ℕ → ℕ) (state beside : State) (changes : List Change) → IsBeside others more state beside → IsInOrder beside
    → allows_all beside changes ≡ true
    → ((file num : ℕ) → list_any (names file num) changes ≡ true → list_any (names file num) others ≡ true)
    → ((file : ℕ) (image : List ℕ) → IsAmong image (all_puts file changes) → IsAmong image (all_puts file others))
    → IsBeside others (λ file block. more file block + growth file block changes) state (after_changes beside changes)
others_made others more state beside [] h order allowed named put = λ at f found.
    let b = h at f found in
    record { g = b.g; found = b.found; def = b.def; rows = record { same = b.rows.same; room = λ block. let r = b.rows.room block in omega (arith, r) } }
others_made others more state beside (change ∷ changes) h order allowed named put =
    let parts = and_parts (allows beside change) (allows_all (changed beside change) changes) allowed in
    let theirs : IsTheirs others change = record {
      named = λ file num is. named file num (ap (λ b. b || list_any (names file num) changes) is);
      put = λ file image among. put file image (among_front image (puts file change) (all_puts file changes) among);
    } in
    let next = one change theirs parts.0 in
    let rest = others_made others (λ file block. more file block + growth_of file block change) state (changed beside change) changes next
    (IsInOrder-changed beside change order parts.0) parts.1
    (λ file num is. named file num (or_right (names file num change) (list_any (names file num) changes) is))
    (λ file image among. put file image (among_behind image (puts file change) (all_puts file changes) among)) in
    λ at f found.
    let b = rest at f found in
    record {
      g = b.g;
      found = b.found;
      def = b.def;
      rows = record { same = b.rows.same; room = λ block. let r = b.rows.room block in omega (arith, r, sum_by-cons (growth_of at block) change changes) };
    }
  where
    one : (c : Change) → IsTheirs others c → allows beside c ≡ true
        → IsBeside others (λ file block. more file block + growth_of file block c) state (changed beside c)
    one (Make file def) theirs is = made_beside others more state beside file def h
    one (Add file num new) theirs is = record_changed others more state beside (Add file num new) h (acts beside (Add file num new) order is refl) refl theirs
    one (Rewrite file num old new) theirs is = record_changed others more state beside (Rewrite file num old new) h (acts beside (Rewrite file num old new) order is refl) refl theirs
    one (Delete file num old) theirs is = record_changed others more state beside (Delete file num old) h (acts beside (Delete file num old) order is refl) refl theirs
