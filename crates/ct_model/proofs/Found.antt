-- What a search finds among the pairs that are kept beside a file.
use Rattle.std.proofs.Common.{◌≡◌, ℕ, zero, suc, List, [], ◌∷◌, slice_get, Some, None, refl, ap, ◌∙◌}
use Rattle.ct_definitions.specs.declared.definition.IndexDef.{IndexDef}
use Rattle.ct_definitions.specs.declared.store.Row.{Row}
use Rattle.ct_definitions.specs.declared.store.File.{File}
use Rattle.ct_definitions.specs.Pairs.{Pair, pairs_of}
use Rattle.ct_pairs.specs.declared.seek.Seek.{Seek}
use Rattle.ct_pairs.specs.Finds.{found_pair}
use Rattle.ct_model.specs.declared.cache.Cache.{Cache}
use Rattle.ct_model.specs.EachIndex.{pairs_of_each}
use Rattle.ct_model.specs.Stored.{AreStored, found_at, found_in}

each_none : (indexes : List IndexDef) (rows : List Row) (i : ℕ) (seek : Seek) → None ≡ slice_get (pairs_of_each indexes rows) i → None ≡ found_at (slice_get indexes i) rows seek
each_none [] rows i seek none = refl
each_none (index ∷ indexes) rows zero seek none = absurd (cc)
each_none (index ∷ indexes) rows (suc i) seek none = each_none indexes rows i seek none

each_some : (indexes : List IndexDef) (rows : List Row) (i : ℕ) (seek : Seek) (pairs : List Pair) → Some pairs ≡ slice_get (pairs_of_each indexes rows) i → found_pair seek pairs ≡ found_at (slice_get indexes i) rows seek
each_some [] rows i seek pairs some = absurd (cc)
each_some (index ∷ indexes) rows zero seek pairs some = let same : pairs ≡ pairs_of index rows = cc in ap (found_pair seek) same
each_some (index ∷ indexes) rows (suc i) seek pairs some = each_some indexes rows i seek pairs some

-- no file, no cache
pub beside_none : (files : List File) (caches : List Cache) (place i : ℕ) (seek : Seek) → AreStored files caches → None ≡ slice_get caches place → None ≡ found_in (slice_get files place) i seek
beside_none [] [] place i seek all none = refl
beside_none [] (c ∷ caches) place i seek all none = absurd all
beside_none (f ∷ files) [] place i seek all none = absurd all
beside_none (f ∷ files) (c ∷ caches) zero i seek all none = absurd (cc)
beside_none (f ∷ files) (c ∷ caches) (suc place) i seek all none = beside_none files caches place i seek all.1 none

-- no index, no pairs
pub no_index : (files : List File) (caches : List Cache) (place i : ℕ) (seek : Seek) (cache : Cache) → AreStored files caches → Some cache ≡ slice_get caches place → None ≡ slice_get cache.pairs.items i → None ≡ found_in (slice_get files place) i seek
no_index [] [] place i seek cache all some none = absurd (cc)
no_index [] (c ∷ caches) place i seek cache all some none = absurd all
no_index (f ∷ files) [] place i seek cache all some none = absurd all
no_index (f ∷ files) (c ∷ caches) zero i seek cache all some none =
    let same : cache ≡ c = cc in
    each_none f.def.indexes f.records i seek (none ∙ ap (λ (k : Cache). slice_get k.pairs.items i) same ∙ ap (λ (each : List (List Pair)). slice_get each i) all.0.pairs)
no_index (f ∷ files) (c ∷ caches) (suc place) i seek cache all some none = no_index files caches place i seek cache all.1 some none

-- what is found among an index's pairs
pub among : (files : List File) (caches : List Cache) (place i : ℕ) (seek : Seek) (cache : Cache) (pairs : List Pair) → AreStored files caches → Some cache ≡ slice_get caches place → Some pairs ≡ slice_get cache.pairs.items i → found_pair seek pairs ≡ found_in (slice_get files place) i seek
among [] [] place i seek cache pairs all some there = absurd (cc)
among [] (c ∷ caches) place i seek cache pairs all some there = absurd all
among (f ∷ files) [] place i seek cache pairs all some there = absurd all
among (f ∷ files) (c ∷ caches) zero i seek cache pairs all some there =
    let same : cache ≡ c = cc in
    each_some f.def.indexes f.records i seek pairs (there ∙ ap (λ (k : Cache). slice_get k.pairs.items i) same ∙ ap (λ (each : List (List Pair)). slice_get each i) all.0.pairs)
among (f ∷ files) (c ∷ caches) (suc place) i seek cache pairs all some there = among files caches place i seek cache pairs all.1 some there

-- ---- the same of what the code reads

pub beside_none_read : (state files : List File) (caches read : List Cache) (file place i : ℕ) (seek : Seek) → files ≡ state → place ≡ file → read ≡ caches → AreStored files caches → None ≡ slice_get read place → None ≡ found_in (slice_get state file) i seek
beside_none_read state files caches read file place i seek same at is all none =
    beside_none files caches place i seek all (none ∙ ap (λ (cs : List Cache). slice_get cs place) is)
    ∙ ap (λ (p : ℕ). found_in (slice_get files p) i seek) at ∙ ap (λ (fs : List File). found_in (slice_get fs file) i seek) same

pub no_index_read : (state files : List File) (caches read : List Cache) (file place i : ℕ) (seek : Seek) (cache : Cache) (each : List (List Pair)) → files ≡ state → place ≡ file → read ≡ caches → AreStored files caches → Some cache ≡ slice_get read place → each ≡ cache.pairs.items → None ≡ slice_get each i → None ≡ found_in (slice_get state file) i seek
no_index_read state files caches read file place i seek cache each same at is all some own none =
    no_index files caches place i seek cache all (some ∙ ap (λ (cs : List Cache). slice_get cs place) is) (none ∙ ap (λ (ps : List (List Pair)). slice_get ps i) own)
    ∙ ap (λ (p : ℕ). found_in (slice_get files p) i seek) at ∙ ap (λ (fs : List File). found_in (slice_get fs file) i seek) same

pub among_read : (state files : List File) (caches read : List Cache) (file place i : ℕ) (seek : Seek) (cache : Cache) (each : List (List Pair)) (pairs : List Pair) → files ≡ state → place ≡ file → read ≡ caches → AreStored files caches → Some cache ≡ slice_get read place → each ≡ cache.pairs.items → Some pairs ≡ slice_get each i → found_pair seek pairs ≡ found_in (slice_get state file) i seek
among_read state files caches read file place i seek cache each pairs same at is all some own there =
    among files caches place i seek cache pairs all (some ∙ ap (λ (cs : List Cache). slice_get cs place) is) (there ∙ ap (λ (ps : List (List Pair)). slice_get ps i) own)
    ∙ ap (λ (p : ℕ). found_in (slice_get files p) i seek) at ∙ ap (λ (fs : List File). found_in (slice_get fs file) i seek) same
