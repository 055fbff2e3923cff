-- What the files of a state are after a change of one file's records.
use Rattle.std.proofs.Common.{◌≡◌, ◌≢◌, ℕ, zero, suc, Bool, true, List, [], ◌∷◌, length, slice_get, Option, Some, None, option_map, refl, ap, arith}
use Rattle.ct_definitions.specs.declared.store.Row.{Row}
use Rattle.ct_definitions.specs.declared.store.File.{File}
use Rattle.ct_definitions.specs.Changes.{State, passes, in_file, with_records, has_name}
use Rattle.ct_definitions.specs.Reached.{have_own_names}

pub slice_get-in_file_same : (state : State) (file : ℕ) (change : List Row → List Row) → slice_get (in_file state file change) file ≡ option_map (λ f. with_records f (change f.records)) (slice_get state file)
slice_get-in_file_same [] file change = refl
slice_get-in_file_same (f ∷ state) zero change = refl
slice_get-in_file_same (f ∷ state) (suc file) change = slice_get-in_file_same state file change

pub slice_get-in_file_other : (state : State) (at file : ℕ) (change : List Row → List Row) → at ≢ file → slice_get (in_file state file change) at ≡ slice_get state at
slice_get-in_file_other [] at file change h = refl
slice_get-in_file_other (f ∷ state) zero zero change h = absurd (h refl)
slice_get-in_file_other (f ∷ state) zero (suc file) change h = refl
slice_get-in_file_other (f ∷ state) (suc at) zero change h = refl
slice_get-in_file_other (f ∷ state) (suc at) (suc file) change h = slice_get-in_file_other state at file change (λ e. h (ap suc e))

pub length-in_file : (state : State) (file : ℕ) (change : List Row → List Row) → length (in_file state file change) ≡ length state
length-in_file [] file change = refl
length-in_file (f ∷ state) zero change = refl
length-in_file (f ∷ state) (suc file) change = ap suc (length-in_file state file change)

pub in_file-in_file : (state : State) (file : ℕ) (first second : List Row → List Row) → in_file (in_file state file first) file second ≡ in_file state file (λ rows. second (first rows))
in_file-in_file [] file first second = refl
in_file-in_file (f ∷ state) zero first second = refl
in_file-in_file (f ∷ state) (suc file) first second = ap (λ s. f ∷ s) (in_file-in_file state file first second)

-- a change that leaves the records of the file leaves the state
pub in_file_unchanged : (state : State) (file : ℕ) (change : List Row → List Row) (f : File) → slice_get state file ≡ Some f → change f.records ≡ f.records → in_file state file change ≡ state
in_file_unchanged [] file change f h k = refl
in_file_unchanged (x ∷ state) zero change f h k = grind arith
in_file_unchanged (x ∷ state) (suc file) change f h k = ap (λ s. x ∷ s) (in_file_unchanged state file change f h k)

pub has_name-in_file : (state : State) (file : ℕ) (change : List Row → List Row) (name : List ℕ) → has_name (in_file state file change) name ≡ has_name state name
has_name-in_file [] file change name = refl
has_name-in_file (f ∷ state) zero change name = refl
has_name-in_file (f ∷ state) (suc file) change name = grind (arith, has_name-in_file state file change name)

pub have_own_names-in_file : (state : State) (file : ℕ) (change : List Row → List Row) → have_own_names (in_file state file change) ≡ have_own_names state
have_own_names-in_file [] file change = refl
have_own_names-in_file (f ∷ state) zero change = refl
have_own_names-in_file (f ∷ state) (suc file) change = grind (arith, has_name-in_file state file change f.def.name, have_own_names-in_file state file change)

-- the file that passes
pub passes_parts : (found : Option File) (test : File → Bool) → passes found test ≡ true → (f : File) × (found ≡ Some f) × (test f ≡ true)
passes_parts None test h = grind arith
passes_parts (Some f) test h = (f, refl, h)

pub passes_from : (found : Option File) (test : File → Bool) (f : File) → found ≡ Some f → test f ≡ true → passes found test ≡ true
passes_from None test f h k = grind arith
passes_from (Some g) test f h k = grind arith
