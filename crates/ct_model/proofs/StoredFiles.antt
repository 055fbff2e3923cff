-- Files with what is kept beside them: what holds of one of them, and what an edit of one leaves.
use Rattle.std.proofs.Common.{◌≡◌, ℕ, zero, suc, ◌<◌, Result, Ok, Err, OnOk, OnErr, true, List, [], ◌∷◌, ◌++◌, length, get_or, slice_get, slice_set, refl, ap, sym, subst, ◌∙◌, arith, Bool, Option, Some}
use Rattle.std.proofs.lemmas.List.{set-get_or}
use Rattle.ct_definitions.specs.declared.store.Row.{Row}
use Rattle.ct_definitions.specs.declared.store.File.{File}
use Rattle.ct_definitions.specs.Room.{has_fitting_len}
use Rattle.ct_definitions.specs.Changes.{State, in_file, with_records, passes}
use Rattle.ct_model.specs.declared.cache.Cache.{Cache}
use Rattle.ct_model.specs.Fitting.{are_fitting, takes_len_in}
use Rattle.ct_model.specs.Stored.{IsStored, AreStored, are_rising, records_at}

pub stored_fitting : (files : List File) (caches : List Cache) → AreStored files caches → are_fitting files ≡ true
stored_fitting [] [] all = refl
stored_fitting [] (cache ∷ caches) all = absurd all
stored_fitting (file ∷ files) [] all = absurd all
stored_fitting (file ∷ files) (cache ∷ caches) all = let own = all.0.fitting in let others = stored_fitting files caches all.1 in grind arith

pub stored_rising : (files : List File) (caches : List Cache) → AreStored files caches → are_rising files ≡ true
stored_rising [] [] all = refl
stored_rising [] (cache ∷ caches) all = absurd all
stored_rising (file ∷ files) [] all = absurd all
stored_rising (file ∷ files) (cache ∷ caches) all = let own = all.0.rising in let others = stored_rising files caches all.1 in grind arith

pub stored_length : (files : List File) (caches : List Cache) → AreStored files caches → length caches ≡ length files
stored_length [] [] all = refl
stored_length [] (cache ∷ caches) all = absurd all
stored_length (file ∷ files) [] all = absurd all
stored_length (file ∷ files) (cache ∷ caches) all = ap suc (stored_length files caches all.1)

-- the file at a place, and what is kept beside it
pub stored_at : (files : List File) (caches : List Cache) (place : ℕ) (file : File) (cache : Cache) → AreStored files caches → place < length files → IsStored (get_or files place file) (get_or caches place cache)
stored_at [] caches place file cache all within = absurd (omega arith)
stored_at (f ∷ files) [] place file cache all within = absurd all
stored_at (f ∷ files) (c ∷ caches) zero file cache all within = all.0
stored_at (f ∷ files) (c ∷ caches) (suc place) file cache all within = stored_at files caches place file cache all.1 (omega arith)

pub stored_read : (files : List File) (caches : List Cache) (place : ℕ) (file : File) (cache : Cache) → AreStored files caches → place < length files → file ≡ get_or files place file → cache ≡ get_or caches place cache → IsStored file cache
stored_read files caches place file cache all within is beside =
    let P : Cache → Type 0 = λ c. IsStored file c in
    let Q : File → Type 0 = λ f. IsStored f (get_or caches place cache) in
    subst P (sym beside) (subst Q (sym is) (stored_at files caches place file cache all within))

-- a file exchanged for one with what belongs beside it
pub stored_set : (files : List File) (caches : List Cache) (place : ℕ) (file : File) (cache : Cache) → AreStored files caches → IsStored file cache → AreStored (slice_set files place file) (slice_set caches place cache)
stored_set [] [] place file cache all own = tt
stored_set [] (c ∷ caches) place file cache all own = absurd all
stored_set (f ∷ files) [] place file cache all own = absurd all
stored_set (f ∷ files) (c ∷ caches) zero file cache all own = (own, all.1)
stored_set (f ∷ files) (c ∷ caches) (suc place) file cache all own = (all.0, stored_set files caches place file cache all.1 own)

-- one file more
pub stored_more : (files : List File) (caches : List Cache) (file : File) (cache : Cache) → AreStored files caches → IsStored file cache → AreStored (files ++ file ∷ []) (caches ++ cache ∷ [])
stored_more [] [] file cache all own = (own, tt)
stored_more [] (c ∷ caches) file cache all own = absurd all
stored_more (f ∷ files) [] file cache all own = absurd all
stored_more (f ∷ files) (c ∷ caches) file cache all own = (all.0, stored_more files caches file cache all.1 own)

-- the file at a place, with its records changed
pub set-in_file : (state : State) (file : ℕ) (change : List Row → List Row) (d : File) → file < length state → slice_set state file (with_records (get_or state file d) (change (get_or state file d).records)) ≡ in_file state file change
set-in_file [] file change d within = refl
set-in_file (f ∷ state) zero change d within = refl
set-in_file (f ∷ state) (suc file) change d within = ap (λ s. f ∷ s) (set-in_file state file change d (omega arith))

pub edited : (state inside : State) (file place : ℕ) (change : List Row → List Row) (now new : File) → inside ≡ state → place ≡ file → file < length state → now ≡ get_or inside place now → new ≡ with_records now (change now.records) → slice_set inside place new ≡ in_file state file change
edited state inside file place change now new same at within is changes =
    let here : now ≡ get_or state file now = rw (← same, ← at) is in
    let P : File → Type 0 = λ f. slice_set state file (with_records f (change f.records)) ≡ in_file state file change in
    rw (same, at, changes) (subst P (sym here) (set-in_file state file change now within))

pub unedited : (state inside : State) (place : ℕ) (now new : File) → inside ≡ state → now ≡ get_or inside place now → new ≡ now → slice_set inside place new ≡ state
unedited state inside place now new same is stays =
    let P : File → Type 0 = λ f. slice_set inside place f ≡ inside in
    rw stays (subst P (sym is) (set-get_or inside place now)) ∙ same

-- what the state's tests say of the file that was read
pub fits_read : (state inside : State) (file place len : ℕ) (now : File) → inside ≡ state → place ≡ file → file < length state → now ≡ get_or inside place now → takes_len_in (slice_get state file) len ≡ true → has_fitting_len now.def.kind len ≡ true
fits_read state inside file place len now same at within is fits =
    let here : now ≡ get_or state file now = rw (← same, ← at) is in
    let P : File → Type 0 = λ f. has_fitting_len f.def.kind len ≡ true in
    subst P (sym here) (fits_of state file len now within fits)
  where
    fits_of : (state : State) (file len : ℕ) (d : File) → file < length state → takes_len_in (slice_get state file) len ≡ true → has_fitting_len (get_or state file d).def.kind len ≡ true
    fits_of [] file len d within fits = absurd (omega arith)
    fits_of (f ∷ state) zero len d within fits = fits
    fits_of (f ∷ state) (suc file) len d within fits = fits_of state file len d (omega arith) fits

pub records_read : (state inside : State) (file place : ℕ) (now : File) → inside ≡ state → place ≡ file → file < length state → now ≡ get_or inside place now → records_at state file ≡ now.records
records_read state inside file place now same at within is =
    let here : now ≡ get_or state file now = rw (← same, ← at) is in
    records_of state file now within ∙ ap (λ (f : File). f.records) (sym here)
  where
    records_of : (state : State) (file : ℕ) (d : File) → file < length state → records_at state file ≡ (get_or state file d).records
    records_of [] file d within = absurd (omega arith)
    records_of (f ∷ state) zero d within = refl
    records_of (f ∷ state) (suc file) d within = records_of state file d (omega arith)

-- ---- an edit that answers whether it was made

pub change_made : {E : Type 0} (state inside : State) (file place : ℕ) (change : List Row → List Row) (now new : File) (result : Result (Unit {0}) E) → inside ≡ state → place ≡ file → file < length state → now ≡ get_or inside place now → OnOk result (new ≡ with_records now (change now.records)) → OnOk result (slice_set inside place new ≡ in_file state file change)
change_made state inside file place change now new (Ok done) same at within is ok = edited state inside file place change now new same at within is ok
change_made state inside file place change now new (Err refusal) same at within is ok = tt

pub change_refused : {E : Type 0} (state inside : State) (place : ℕ) (now new : File) (result : Result (Unit {0}) E) → inside ≡ state → now ≡ get_or inside place now → OnErr result (new ≡ now) → OnErr result (slice_set inside place new ≡ state)
change_refused state inside place now new (Ok done) same is err = tt
change_refused state inside place now new (Err refusal) same is err = unedited state inside place now new same is err

pub within_read : (state inside : State) (file place : ℕ) → inside ≡ state → place ≡ file → file < length state → place < length inside
within_read state inside file place same at within = rw (same, at) within

-- ---- tests of the file at a place

pub passes_read : (state inside : State) (file place : ℕ) (test : File → Bool) (now : File) → inside ≡ state → place ≡ file → file < length state → now ≡ get_or inside place now → passes (slice_get state file) test ≡ test now
passes_read state inside file place test now same at within is =
    let here : now ≡ get_or state file now = rw (← same, ← at) is in
    passes_at state file test now within ∙ ap test (sym here)
  where
    passes_at : (state : State) (file : ℕ) (test : File → Bool) (d : File) → file < length state → passes (slice_get state file) test ≡ test (get_or state file d)
    passes_at [] file test d within = absurd (omega arith)
    passes_at (f ∷ state) zero test d within = refl
    passes_at (f ∷ state) (suc file) test d within = passes_at state file test d (omega arith)

-- a file that was found is one of the state
pub found_within : (state : State) (file : ℕ) (found : File) → Some found ≡ slice_get state file → file < length state
found_within [] file found is = absurd (cc)
found_within (f ∷ state) zero found is = omega arith
found_within (f ∷ state) (suc file) found is = let rest = found_within state file found is in omega arith
