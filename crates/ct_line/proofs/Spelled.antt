-- Words that spell a call ask for it.
use Rattle.std.proofs.Common.{◌≡◌, ◌≢◌, ℕ, ◌^◌, ◌<◌, Bool, true, false, List, [], ◌∷◌, ◌++◌, map, Option, Some, None, Ok, Err, refl, sym, ap, ◌∙◌, append_assoc}
use Rattle.std.specs.Prelude.{codes, IsTrue}
use Rattle.std.specs.Option.{option_map, option_map_or}
use Rattle.std.specs.Str.{bytes_eq}
use Rattle.std.specs.Fmt.{decimal}
use Rattle.std.specs.List.{AllByRecursion, flat_map}
use Rattle.std.proofs.lemmas.List.{append-nil}
use Rattle.ct_definitions.specs.Validity.{is_name}
use Rattle.ct_definitions.specs.declared.definition.Mode.{Mode}
use Rattle.ct_definitions.specs.declared.definition.Mode.TheVariants.{Reg, Ureg, Int, Sgn}
use Rattle.ct_text.specs.declared.word.Word.{Word}
use Rattle.ct_line.specs.declared.call.Call.{Call}
use Rattle.ct_line.specs.declared.call.Call.TheVariants as calls
use Rattle.ct_line.specs.declared.call.LockMode.TheVariants.{Free, Enable, ReadRec}
use Rattle.ct_line.specs.declared.call.NewFile.{NewFile}
use Rattle.ct_line.specs.declared.call.NewIndex.{NewIndex}
use Rattle.ct_line.specs.declared.call.NewKind.{NewKind}
use Rattle.ct_line.specs.declared.call.NewKind.TheVariants.{Fixed, Variable}
use Rattle.ct_line.specs.declared.call.NewSeg.{NewSeg}
use Rattle.ct_line.specs.declared.call.Walk.TheVariants.{First, Last, Next, Prev, NextSet}
use Rattle.ct_line.specs.declared.call.Search.TheVariants.{Get, Gte, Gt, Lte, Lt, FirstSet}
use Rattle.ct_line.specs.declared.reading.Indexed.{Indexed}
use Rattle.ct_line.specs.declared.reading.Creating.{Creating}
use Rattle.ct_line.specs.declared.reading.Creating.TheVariants.{Kind, Key, KeyName, Rule, NullOrSeg, Seg, SegMode, Desc, More}
use Rattle.ct_line.specs.declared.reading.Reading.{Reading}
use Rattle.ct_line.specs.declared.reading.Reading.TheVariants as reads
use Rattle.ct_line.specs.Table.{mode_of, number_of, name_of}
use Rattle.ct_line.specs.Grammar.{next, whole_call, call_of, next_of_create, created, with_seg, with_null, closed, opened}
use Rattle.ct_line.specs.Calls.{kind_words, rule_word, seg_words, desc_words, mode_word, Fits, FitsIndex, FitsKind, FitsSeg, IsNullSpelled, IsIndexSpelled, AreIndexesSpelled, IsFileSpelled, IsSpelled, SpelledIsRead}
use Rattle.ct_line.proofs.NumberWords.{number-decimal}
use Rattle.ct_line.proofs.HexWords.{byte_again}

-- what words ask for, where they ask for something
abbrev pub then_ends : {A B : Type 0} → Option A → (A → Option B) → Option B
then_ends None f = None
then_ends (Some x) f = f x

abbrev pub ends : Reading → List (List ℕ) → Option Call
ends reading [] = whole_call reading
ends reading (word ∷ words) = then_ends (next reading word) (λ more. ends more words)

abbrev pub creates : Creating → List (List ℕ) → Option NewFile
creates creating [] = created creating
creates creating (word ∷ words) = then_ends (next_of_create creating word) (λ more. creates more words)

read_step : (at end : ℕ) (call : Call) (words : List Word) (o : Option Reading) → ((more : Reading) → ends more (map (λ (w : Word). w.bytes) words) ≡ Some call → call_of end more words ≡ Ok call)
    → then_ends o (λ more. ends more (map (λ (w : Word). w.bytes) words)) ≡ Some call → option_map_or (λ more. call_of end more words) o (Err at) ≡ Ok call
read_step at end call words None later e = absurd cc
read_step at end call words (Some more) later e = later more e

ends_read : (words : List Word) (reading : Reading) (end : ℕ) (call : Call) → ends reading (map (λ (w : Word). w.bytes) words) ≡ Some call → call_of end reading words ≡ Ok call
ends_read [] reading end call e = rw e refl
ends_read (word ∷ words) reading end call e = read_step word.at end call words (next reading word.bytes) (λ more h. ends_read words more end call h) e

create_step : (o : Option Creating) (words : List (List ℕ)) → ((more : Creating) → ends (reads.Creating more) words ≡ option_map (λ file. calls.Create file) (creates more words))
    → then_ends (option_map (λ more. reads.Creating more) o) (λ more. ends more words) ≡ option_map (λ file. calls.Create file) (then_ends o (λ more. creates more words))
create_step None words later = refl
create_step (Some more) words later = later more

pub ends_creates : (words : List (List ℕ)) (creating : Creating) → ends (reads.Creating creating) words ≡ option_map (λ file. calls.Create file) (creates creating words)
ends_creates [] creating = refl
ends_creates (word ∷ words) creating = create_step (next_of_create creating word) words (ends_creates words)

name_again : (name : List ℕ) → IsTrue (is_name name) → name_of name ≡ Some name
name_again name h = rw h refl

number_again : (n : ℕ) → n < 2 ^ 64 → number_of (decimal n) ≡ Some n
number_again n h = sym (number-decimal n (decimal n) h refl)

mode_again : (mode : Mode) → mode_of (mode_word mode) ≡ Some mode
mode_again Reg = refl
mode_again Ureg = refl
mode_again Int = refl
mode_again Sgn = refl

-- ---- segments

-- the words begin with no DSCSEG
abbrev HasNoDesc : List (List ℕ) → Type 0
HasNoDesc [] = Unit {0}
HasNoDesc (word ∷ words) = bytes_eq word (codes "DSCSEG") ≡ false

desc_more : (o : Indexed) (seg : NewSeg) (words : List (List ℕ)) → HasNoDesc words → creates (Desc o seg) words ≡ creates (More (with_seg o seg)) words
desc_more o seg [] h = refl
desc_more o seg (word ∷ words) h = rw h refl

seg_more : (o : Indexed) (mode : Mode) (at len : ℕ) (desc : Bool) (words : List (List ℕ)) → at < 2 ^ 64 → len < 2 ^ 64 → HasNoDesc words
    → creates (SegMode o) (mode_word mode ∷ decimal at ∷ decimal len ∷ (desc_words desc ++ words)) ≡ creates (More (with_seg o (record { mode = mode; at = at; len = len; desc = desc }))) words
seg_more o mode at len true words a l h = rw (mode_again mode, number_again at a, number_again len l) refl
seg_more o mode at len false words a l h = rw (mode_again mode, number_again at a, number_again len l) (desc_more o (record { mode = mode; at = at; len = len; desc = false }) words h)

abbrev pub with_segs : Indexed → List NewSeg → Indexed
with_segs o segs = record o { index = record o.index { segs = o.index.segs ++ segs } }

segs_no_desc : (segs : List NewSeg) (words : List (List ℕ)) → HasNoDesc words → HasNoDesc (flat_map seg_words segs ++ words)
segs_no_desc [] words h = h
segs_no_desc (seg ∷ segs) words h = refl

pub no_segs : (o : Indexed) → with_segs o [] ≡ o
no_segs o = ap (λ (l : List NewSeg). record o { index = record o.index { segs = l } }) (append-nil o.index.segs)

pub segs_joined : (o : Indexed) (seg : NewSeg) (segs : List NewSeg) → with_segs (with_seg o seg) segs ≡ with_segs o (seg ∷ segs)
segs_joined o seg segs = ap (λ (l : List NewSeg). record o { index = record o.index { segs = l } }) (append_assoc o.index.segs (seg ∷ []) segs)

segs_more : (segs : List NewSeg) (o : Indexed) (words : List (List ℕ)) → AllByRecursion FitsSeg segs → HasNoDesc words → creates (More o) (flat_map seg_words segs ++ words) ≡ creates (More (with_segs o segs)) words
segs_more [] o words fits h = ap (λ (i : Indexed). creates (More i) words) (sym (no_segs o))
segs_more (seg ∷ segs) o words fits h =
    let later = flat_map seg_words segs ++ words in
    let one = seg_more o seg.mode seg.at seg.len seg.desc later fits.0.0 fits.0.1 (segs_no_desc segs words h) in
    let all = segs_more segs (with_seg o seg) words fits.1 h in
    let regroup = append_assoc (desc_words seg.desc) (flat_map seg_words segs) words in
    ap (λ (l : List (List ℕ)). creates (SegMode o) (mode_word seg.mode ∷ decimal seg.at ∷ decimal seg.len ∷ l)) regroup ∙ one ∙ all ∙ ap (λ (i : Indexed). creates (More i) words) (segs_joined o seg segs)

-- one segment or more, behind a rule or a null byte
first_segs : (state : Creating) (segs : List NewSeg) (o : Indexed) (words : List (List ℕ)) → next_of_create state (codes "SEG") ≡ Some (SegMode o) → segs ≢ [] → AllByRecursion FitsSeg segs → HasNoDesc words
    → creates state (flat_map seg_words segs ++ words) ≡ creates (More (with_segs o segs)) words
first_segs state [] o words e some fits h = absurd (some refl)
first_segs state (seg ∷ segs) o words e some fits h =
    let same : creates state (flat_map seg_words (seg ∷ segs) ++ words) ≡ creates (More o) (flat_map seg_words (seg ∷ segs) ++ words) = rw e refl in
    same ∙ segs_more (seg ∷ segs) o words fits h

-- ---- indexes

rule_more : (file : NewFile) (name : List ℕ) (unique : Bool) → next_of_create (Rule file name) (rule_word unique) ≡ Some (NullOrSeg (opened file name unique))
rule_more file name true = refl
rule_more file name false = refl

null_more : (file : NewFile) (name : List ℕ) (unique : Bool) (null : Option ℕ) (nulls : List (List ℕ)) (segs : List NewSeg) (words : List (List ℕ)) → IsNullSpelled null nulls → segs ≢ [] → AllByRecursion FitsSeg segs → HasNoDesc words
    → creates (NullOrSeg (opened file name unique)) (nulls ++ (flat_map seg_words segs ++ words)) ≡ creates (More (record { file = file; index = record { name = name; unique = unique; null = null; segs = segs } })) words
null_more file name unique None nulls segs words n some fits h = rw n (first_segs (NullOrSeg (opened file name unique)) segs (opened file name unique) words refl some fits h)
null_more file name unique (Some byte) nulls segs words n some fits h =
    let o = with_null (opened file name unique) byte in
    rw (n.2, byte_again byte n.0 n.1) (first_segs (Seg o) segs o words refl some fits h)

index_more : (state : Creating) (file : NewFile) (index : NewIndex) (own words : List (List ℕ)) → next_of_create state (codes "KEY") ≡ Some (KeyName file) → IsIndexSpelled index own → FitsIndex index → HasNoDesc words
    → creates state (own ++ words) ≡ creates (More (record { file = file; index = index })) words
index_more state file index own words e i fits h =
    rw (i.2, e, name_again index.name fits.0, rule_more file index.name index.unique, append_assoc i.0 (flat_map seg_words index.segs) words)
    (null_more file index.name index.unique index.null i.0 index.segs words i.1 fits.2 fits.3 h)

indexes_no_desc : (indexes : List NewIndex) (keys : List (List ℕ)) → AreIndexesSpelled indexes keys → HasNoDesc keys
indexes_no_desc [] keys k = rw k tt
indexes_no_desc (index ∷ indexes) keys k = rw (k.4, k.2.2) refl

abbrev with_indexes : NewFile → List NewIndex → NewFile
with_indexes file indexes = record file { indexes = indexes }

indexes_more : (indexes : List NewIndex) (o : Indexed) (keys : List (List ℕ)) → AreIndexesSpelled indexes keys → AllByRecursion FitsIndex indexes
    → creates (More o) keys ≡ Some (with_indexes o.file ((o.file.indexes ++ o.index ∷ []) ++ indexes))
indexes_more [] o keys k fits = rw k (ap (λ (l : List NewIndex). Some (with_indexes o.file l)) (sym (append-nil (o.file.indexes ++ o.index ∷ []))))
indexes_more (index ∷ indexes) o keys k fits =
    let one = index_more (More o) (closed o) index k.0 k.1 refl k.2 fits.0 (indexes_no_desc indexes k.1 k.3) in
    let all = indexes_more indexes (record { file = closed o; index = index }) k.1 k.3 fits.1 in
    ap (λ (l : List (List ℕ)). creates (More o) l) k.4 ∙ one ∙ all ∙ ap (λ (l : List NewIndex). Some (with_indexes o.file l)) (append_assoc (o.file.indexes ++ o.index ∷ []) (index ∷ []) indexes)

keys_more : (file : NewFile) (indexes : List NewIndex) (keys : List (List ℕ)) → file.indexes ≡ [] → indexes ≢ [] → AreIndexesSpelled indexes keys → AllByRecursion FitsIndex indexes
    → creates (Key file) keys ≡ Some (with_indexes file indexes)
keys_more file [] keys e some k fits = absurd (some refl)
keys_more file (index ∷ indexes) keys e some k fits =
    let one = index_more (Key file) file index k.0 k.1 refl k.2 fits.0 (indexes_no_desc indexes k.1 k.3) in
    let all = indexes_more indexes (record { file = file; index = index }) k.1 k.3 fits.1 in
    ap (λ (l : List (List ℕ)). creates (Key file) l) k.4 ∙ one ∙ all ∙ rw e refl

kind_ends : (name : List ℕ) (kind : NewKind) (indexes : List NewIndex) (keys : List (List ℕ)) → FitsKind kind → indexes ≢ [] → AreIndexesSpelled indexes keys → AllByRecursion FitsIndex indexes
    → creates (Kind name) (kind_words kind ++ keys) ≡ Some (record { name = name; kind = kind; indexes = indexes })
kind_ends name (Fixed len) indexes keys k some spelled fits = rw (number_again len k) (keys_more (record { name = name; kind = Fixed len; indexes = [] }) indexes keys refl some spelled fits)
kind_ends name (Variable min max) indexes keys k some spelled fits =
    rw (number_again min k.0, number_again max k.1) (keys_more (record { name = name; kind = Variable min max; indexes = [] }) indexes keys refl some spelled fits)

file_ends : (file : NewFile) (words : List (List ℕ)) → IsFileSpelled file words → Fits (calls.Create file) → ends reads.Command words ≡ Some (calls.Create file)
file_ends file words f fits =
    rw (f.2, name_again file.name fits.0, ends_creates (kind_words file.kind ++ f.0) (Kind file.name), kind_ends file.name file.kind file.indexes f.0 fits.1 fits.2 f.1 fits.3) refl

-- ---- all calls

call_ends : (call : Call) (words : List (List ℕ)) → IsSpelled call words → ends reads.Command words ≡ Some call
call_ends (calls.Create file) words s = file_ends file words s.0 s.1
call_ends calls.Begin words s = rw s refl
call_ends calls.Commit words s = rw s refl
call_ends calls.Abort words s = rw s refl
call_ends calls.Save words s = rw s refl
call_ends (calls.Restore savepoint) words s = rw (s.0, number_again savepoint s.1) refl
call_ends (calls.Lock Free) words s = rw s refl
call_ends (calls.Lock Enable) words s = rw s refl
call_ends (calls.Lock ReadRec) words s = rw s refl
call_ends (calls.Add file image) words s = rw (s.0, name_again file s.1) refl
call_ends (calls.Rewrite file image) words s = rw (s.0, name_again file s.1) refl
call_ends (calls.Delete file) words s = rw (s.0, name_again file s.1) refl
call_ends (calls.Walk First file index) words s = rw (s.0, name_again file s.1.0, name_again index s.1.1) refl
call_ends (calls.Walk Last file index) words s = rw (s.0, name_again file s.1.0, name_again index s.1.1) refl
call_ends (calls.Walk Next file index) words s = rw (s.0, name_again file s.1.0, name_again index s.1.1) refl
call_ends (calls.Walk Prev file index) words s = rw (s.0, name_again file s.1.0, name_again index s.1.1) refl
call_ends (calls.Walk NextSet file index) words s = rw (s.0, name_again file s.1.0, name_again index s.1.1) refl
call_ends (calls.Search Get file index target) words s = rw (s.0, name_again file s.1.0, name_again index s.1.1) refl
call_ends (calls.Search Gte file index target) words s = rw (s.0, name_again file s.1.0, name_again index s.1.1) refl
call_ends (calls.Search Gt file index target) words s = rw (s.0, name_again file s.1.0, name_again index s.1.1) refl
call_ends (calls.Search Lte file index target) words s = rw (s.0, name_again file s.1.0, name_again index s.1.1) refl
call_ends (calls.Search Lt file index target) words s = rw (s.0, name_again file s.1.0, name_again index s.1.1) refl
call_ends (calls.Search FirstSet file index target) words s = rw (s.0, name_again file s.1.0, name_again index s.1.1) refl
call_ends calls.Checkpoint words s = rw s refl
call_ends (calls.Dump script) words s = rw s refl
call_ends calls.Front words s = rw s refl
call_ends calls.Quit words s = rw s refl

pub spelled : SpelledIsRead
spelled call words end s = ends_read words reads.Command end call (call_ends call (map (λ (w : Word). w.bytes) words) s)
