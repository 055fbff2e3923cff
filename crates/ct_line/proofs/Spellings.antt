-- Each call that a line can ask for has a spelling.
use Rattle.std.proofs.Common.{ℕ, List, [], ◌∷◌, Option, Some, None, refl}
use Rattle.std.specs.List.{AllByRecursion, flat_map}
use Rattle.ct_line.specs.declared.call.Call.TheVariants as calls
use Rattle.ct_line.specs.declared.call.NewIndex.{NewIndex}
use Rattle.ct_line.specs.Calls.{null_words, index_words, FitsNull, FitsIndex, IsNullSpelled, IsIndexSpelled, AreIndexesSpelled, HasSpelling}
use Rattle.ct_line.proofs.HexWords.{digits_again}

null_spelled : (null : Option ℕ) → FitsNull null → IsNullSpelled null (null_words null)
null_spelled None fits = refl
null_spelled (Some byte) fits = (_, digits_again byte fits, refl)

index_spelled : (index : NewIndex) → FitsIndex index → IsIndexSpelled index (index_words index)
index_spelled index fits = (null_words index.null, null_spelled index.null fits.1, refl)

indexes_spelled : (indexes : List NewIndex) → AllByRecursion FitsIndex indexes → AreIndexesSpelled indexes (flat_map index_words indexes)
indexes_spelled [] fits = refl
indexes_spelled (index ∷ indexes) fits = (index_words index, flat_map index_words indexes, index_spelled index fits.0, indexes_spelled indexes fits.1, refl)

pub has_spelling : HasSpelling
has_spelling (calls.Create file) fits = ((flat_map index_words file.indexes, indexes_spelled file.indexes fits.3, refl), fits)
has_spelling (calls.Restore savepoint) fits = (refl, fits)
has_spelling (calls.Add file image) fits = (refl, fits)
has_spelling (calls.Rewrite file image) fits = (refl, fits)
has_spelling (calls.Delete file) fits = (refl, fits)
has_spelling (calls.Walk walk file index) fits = (refl, fits)
has_spelling (calls.Search search file index target) fits = (refl, fits)
has_spelling (calls.Lock mode) fits = refl
has_spelling (calls.Dump script) fits = refl
has_spelling calls.Begin fits = refl
has_spelling calls.Commit fits = refl
has_spelling calls.Abort fits = refl
has_spelling calls.Save fits = refl
has_spelling calls.Checkpoint fits = refl
has_spelling calls.Front fits = refl
has_spelling calls.Quit fits = refl
