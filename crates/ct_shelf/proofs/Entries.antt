-- What the entries of a shelf in memory have under a name.
use Rattle.std.proofs.Common.{◌≡◌, ◌≢◌, ℕ, zero, suc, ◌<◌, ◌≤◌, List, [], ◌∷◌, ◌++◌, length, get_or, Bool, true, false, cond, refl, sym, ap, ◌∙◌, subst, arith}
use Rattle.std.specs.Prelude.{Option, Some, None}
use Rattle.std.specs.Option.{is_some}
use Rattle.std.specs.List.{position, position_or_len}
use Rattle.std.proofs.lemmas.Grind.{common_steps}
use Rattle.std.proofs.lemmas.List.Sums.{fails_before_first}
use Rattle.std.proofs.Math.ListN.{set}
use Rattle.std.proofs.lemmas.List.Quantifiers.{position-Some}
use Rattle.std.proofs.lemmas.Slice.Eq.{bytes_eq-Decides}
use Rattle.ct_disk.specs.declared.mem_disk.MemDisk.{MemDisk}
use Rattle.ct_shelf.specs.declared.mem_shelf.Entry.{Entry}
use Rattle.ct_shelf.specs.Shelf.{Place, free, lent, home, IsTaken, IsAway, IsHome, returned}
use Rattle.ct_shelf.specs.Memory.{is_named, place_of, place_in}

abbrev pub no_entry : Entry
no_entry = record { name = []; device = None }

-- the first entry of the name tells what stands there
place_first : (entries : List Entry) (name : List ℕ) (i : ℕ) (d : Entry) → i < length entries → is_named name (get_or entries i d) ≡ true → ((k : ℕ) → k < i → is_named name (get_or entries k d) ≡ false)
    → place_in entries name ≡ place_of (get_or entries i d).device
place_first [] name i d lt is before = absurd (omega arith)
place_first (e ∷ es) name zero d lt is before = ap (λ (b : Bool). cond b (place_of e.device) (place_in es name)) is
place_first (e ∷ es) name (suc i) d lt is before =
    ap (λ (b : Bool). cond b (place_of e.device) (place_in es name)) (before 0 (omega arith)) ∙ place_first es name i d (omega arith) is (λ k below. before (suc k) (omega arith))

-- no entry has the name
place_none : (entries : List Entry) (name : List ℕ) (d : Entry) → ((k : ℕ) → k < length entries → is_named name (get_or entries k d) ≡ false) → place_in entries name ≡ free
place_none [] name d none = refl
place_none (e ∷ es) name d none =
    ap (λ (b : Bool). cond b (place_of e.device) (place_in es name)) (none 0 (omega arith)) ∙ place_none es name d (λ k below. none (suc k) (omega arith))

named : (name : List ℕ) (e : Entry) → is_named name e ≡ true → e.name ≡ name
named name e is = (bytes_eq-Decides e.name name).0 is

named_not : (name other : List ℕ) (e : Entry) → is_named name e ≡ true → other ≢ name → is_named other e ≡ false
named_not name other e is differ = by (is_named other e) refl where
  by : (b : Bool) → is_named other e ≡ b → is_named other e ≡ false
  by true there = absurd (differ (sym (named other e there) ∙ named name e is))
  by false there = there

-- a name has an entry
pub place_there : (entries : List Entry) (name : List ℕ) (i : ℕ) (d : Entry) → position (is_named name) entries ≡ Some i → place_in entries name ≡ place_of (get_or entries i d).device
place_there entries name i d at =
    let found = position-Some (is_named name) entries i d at in
    place_first entries name i d found.0 found.1 found.2

-- a name has none
pub place_not_there : (entries : List Entry) (name : List ℕ) → position (is_named name) entries ≡ None → place_in entries name ≡ free
place_not_there entries name none =
    let past : length entries ≤ position_or_len (is_named name) entries = grind (arith, common_steps) in
    place_none entries name no_entry (λ k below. fails_before_first (is_named name) entries k no_entry (omega arith))

set_first : (entries : List Entry) (name : List ℕ) (i : ℕ) (d : Entry) (x : Option MemDisk) → i < length entries → is_named name (get_or entries i d) ≡ true → ((k : ℕ) → k < i → is_named name (get_or entries k d) ≡ false)
    → place_in (set entries i (record (get_or entries i d) { device = x })) name ≡ place_of x
set_first [] name i d x lt is before = absurd (omega arith)
set_first (e ∷ es) name zero d x lt is before = ap (λ (b : Bool). cond b (place_of x) (place_in es name)) is
set_first (e ∷ es) name (suc i) d x lt is before =
    ap (λ (b : Bool). cond b (place_of e.device) (place_in (set es i (record (get_or es i d) { device = x })) name)) (before 0 (omega arith))
    ∙ set_first es name i d x (omega arith) is (λ k below. before (suc k) (omega arith))

set_other : (entries : List Entry) (other : List ℕ) (i : ℕ) (d : Entry) (x : Option MemDisk) → is_named other (get_or entries i d) ≡ false
    → place_in (set entries i (record (get_or entries i d) { device = x })) other ≡ place_in entries other
set_other [] other i d x is = refl
set_other (e ∷ es) other zero d x is =
    ap (λ (b : Bool). cond b (place_of x) (place_in es other)) is ∙ sym (ap (λ (b : Bool). cond b (place_of e.device) (place_in es other)) is)
set_other (e ∷ es) other (suc i) d x is = ap (λ (p : Place MemDisk). cond (is_named other e) (place_of e.device) p) (set_other es other i d x is)

-- an entry has another device
pub place_set : (entries : List Entry) (name : List ℕ) (i : ℕ) (d : Entry) (x : Option MemDisk) → position (is_named name) entries ≡ Some i
    → place_in (set entries i (record (get_or entries i d) { device = x })) name ≡ place_of x
place_set entries name i d x at =
    let found = position-Some (is_named name) entries i d at in
    set_first entries name i d x found.0 found.1 found.2

pub others_set : (entries : List Entry) (name : List ℕ) (i : ℕ) (d : Entry) (x : Option MemDisk) → position (is_named name) entries ≡ Some i
    → (other : List ℕ) → other ≢ name → place_in (set entries i (record (get_or entries i d) { device = x })) other ≡ place_in entries other
others_set entries name i d x at other differ =
    let found = position-Some (is_named name) entries i d at in
    set_other entries other i d x (named_not name other (get_or entries i d) found.1 differ)

-- one entry more
abbrev entry : List ℕ → Entry
entry name = record { name = name; device = None }

self_named : (name : List ℕ) → is_named name (entry name) ≡ true
self_named name = (bytes_eq-Decides name name).1 refl

never_free : (device : Option MemDisk) → place_of device ≡ free → ⊥
never_free None e = cc
never_free (Some device) e = cc

pub place_added : (entries : List Entry) (name : List ℕ) → place_in entries name ≡ free → place_in (entries ++ entry name ∷ []) name ≡ lent
place_added [] name is_free = ap (λ (b : Bool). cond b lent free) (self_named name)
place_added (e ∷ es) name is_free = by (is_named name e) (place_in es name) (place_in (es ++ entry name ∷ []) name) (place_added es name) is_free where
  by : (b : Bool) (old new : Place MemDisk) → (old ≡ free → new ≡ lent) → cond b (place_of e.device) old ≡ free → cond b (place_of e.device) new ≡ lent
  by true old new then there = absurd (never_free e.device there)
  by false old new then there = then there

added_other : (entries : List Entry) (name other : List ℕ) → is_named other (entry name) ≡ false → place_in (entries ++ entry name ∷ []) other ≡ place_in entries other
added_other [] name other differ = ap (λ (b : Bool). cond b lent free) differ
added_other (e ∷ es) name other differ = ap (λ (p : Place MemDisk). cond (is_named other e) (place_of e.device) p) (added_other es name other differ)

pub others_added : (entries : List Entry) (name other : List ℕ) → other ≢ name → place_in (entries ++ entry name ∷ []) other ≡ place_in entries other
others_added entries name other differ = added_other entries name other (named_not name other (entry name) (self_named name) differ)

-- ---- what the calls answer

pub taken_there : (x : Option MemDisk) (old new : Place MemDisk) → old ≡ place_of x → new ≡ old → IsTaken old × (new ≡ old)
taken_there None old new is same = (subst IsTaken (sym is) tt, same)
taken_there (Some device) old new is same = (subst IsTaken (sym is) tt, same)

pub away_none : (old new : Place MemDisk) → old ≡ free → new ≡ old → IsAway old × (new ≡ old)
away_none old new is same = (subst IsAway (sym is) tt, same)

pub away_lent : (x : Option MemDisk) (old new : Place MemDisk) → old ≡ place_of x → is_some x ≡ false → new ≡ old → IsAway old × (new ≡ old)
away_lent None old new is none same = (subst IsAway (sym is) tt, same)
away_lent (Some device) old new is none same = absurd cc

pub home_there : (x : Option MemDisk) (old new : Place MemDisk) → old ≡ place_of x → is_some x ≡ true → new ≡ old → IsHome old × (new ≡ old)
home_there None old new is some same = absurd cc
home_there (Some device) old new is some same = (subst IsHome (sym is) tt, same)

pub found_there : (x : Option MemDisk) (device : MemDisk) (old new : Place MemDisk) → old ≡ place_of x → Some device ≡ x → new ≡ lent → (old ≡ home device) × (new ≡ lent)
found_there x device old new is at gone = (is ∙ ap place_of (sym at), gone)

pub returned_lent : (x : Option MemDisk) (device : MemDisk) (old new : Place MemDisk) → old ≡ place_of x → is_some x ≡ false → new ≡ home device → new ≡ returned device old
returned_lent None device old new is none back = back ∙ sym (ap (returned device) is)
returned_lent (Some other) device old new is none back = absurd cc

pub returned_home : (x : Option MemDisk) (device : MemDisk) (old new : Place MemDisk) → old ≡ place_of x → is_some x ≡ true → new ≡ old → new ≡ returned device old
returned_home None device old new is some same = absurd cc
returned_home (Some other) device old new is some same = same ∙ is ∙ sym (ap (returned device) is)

pub returned_none : (device : MemDisk) (old new : Place MemDisk) → old ≡ free → new ≡ old → new ≡ returned device old
returned_none device old new is same = same ∙ is ∙ sym (ap (returned device) is)

pub not_away : {P : Type 0} (x : Option MemDisk) → is_some x ≡ true → None ≡ x → P
not_away None some none = absurd cc
not_away (Some device) some none = absurd cc
