-- Words that ask for a call spell it.
use Rattle.std.proofs.Common.{◌≡◌, ℕ, ◌^◌, ◌<◌, true, List, [], ◌∷◌, inl, inr, map, Option, Some, None, Ok, Err, refl, sym, ap, subst, ◌∙◌}
use Rattle.std.specs.Prelude.{codes}
use Rattle.std.specs.Option.{option_map, option_map_or, ok_or}
use Rattle.std.specs.Fmt.{decimal}
use Rattle.ct_definitions.specs.Validity.{is_name}
use Rattle.ct_text.specs.declared.word.Word.{Word}
use Rattle.ct_line.specs.declared.call.Call.{Call}
use Rattle.ct_line.specs.declared.call.Call.TheVariants as calls
use Rattle.ct_line.specs.declared.call.LockMode.{LockMode}
use Rattle.ct_line.specs.declared.call.LockMode.TheVariants.{Free, Enable, ReadRec}
use Rattle.ct_line.specs.declared.call.Walk.{Walk}
use Rattle.ct_line.specs.declared.call.Walk.TheVariants.{First, Last, Next, Prev, NextSet}
use Rattle.ct_line.specs.declared.call.Search.{Search}
use Rattle.ct_line.specs.declared.call.Search.TheVariants.{Get, Gte, Gt, Lte, Lt, FirstSet}
use Rattle.ct_line.specs.declared.call.NewFile.{NewFile}
use Rattle.ct_line.specs.declared.reading.OfFile.{OfFile}
use Rattle.ct_line.specs.declared.reading.OfFile.TheVariants as ofs
use Rattle.ct_line.specs.declared.reading.Creating.TheVariants.{Kind}
use Rattle.ct_line.specs.declared.reading.Reading.{Reading}
use Rattle.ct_line.specs.declared.reading.Reading.TheVariants as reads
use Rattle.ct_line.specs.Table.{bare_call, walk_of, search_of, walk_or_search, of_file, lock_of, number_of, name_of}
use Rattle.ct_line.specs.Grammar.{next, whole_call, call_of, call_or_file, command_of, with_file}
use Rattle.ct_line.specs.Calls.{lock_word, walk_word, search_word, IsSpelled, ReadIsSpelled}
use Rattle.ct_line.proofs.NumberWords.{number_back}
use Rattle.ct_line.proofs.Spelled.{then_ends, ends, creates, ends_creates}
use Rattle.ct_line.proofs.Options.{then_back, map_back, pick, name_back, cons}
use Rattle.ct_line.proofs.Created.{NewSpelled, created_back}

become : (known call : Call) (words : List (List ℕ)) → known ≡ call → IsSpelled known words → IsSpelled call words
become known call words e h = subst (λ (c : Call). IsSpelled c words) e h

-- ---- what is read is what the words ask for

ok_back : (o : Option Call) (end : ℕ) (call : Call) → ok_or o end ≡ Ok call → o ≡ Some call
ok_back None end call e = absurd cc
ok_back (Some c) end call e = cc

step_back : (at end : ℕ) (call : Call) (words : List Word) (o : Option Reading) → ((more : Reading) → call_of end more words ≡ Ok call → ends more (map (λ (w : Word). w.bytes) words) ≡ Some call)
    → option_map_or (λ more. call_of end more words) o (Err at) ≡ Ok call → then_ends o (λ more. ends more (map (λ (w : Word). w.bytes) words)) ≡ Some call
step_back at end call words None later e = absurd cc
step_back at end call words (Some more) later e = later more e

to_ends : (words : List Word) (reading : Reading) (end : ℕ) (call : Call) → call_of end reading words ≡ Ok call → ends reading (map (λ (w : Word). w.bytes) words) ≡ Some call
to_ends [] reading end call e = ok_back (whole_call reading) end call e
to_ends (word ∷ words) reading end call e = step_back word.at end call words (next reading word.bytes) (λ more h. to_ends words more end call h) e

-- ---- the states

nothing_back : (known call : Call) (words : List (List ℕ)) → ends (reads.Nothing known) words ≡ Some call → (words ≡ []) × (known ≡ call)
nothing_back known call [] e = (refl, cc)
nothing_back known call (word ∷ words) e = absurd cc

-- one word of any bytes, and nothing behind it
record OneWord (words : List (List ℕ)) (made : List ℕ → Call) (call : Call) : Type 0 where
  text : List ℕ
  words_are : words ≡ text ∷ []
  call_is : made text ≡ call

one_word : (text : List ℕ) (words : List (List ℕ)) (made : List ℕ → Call) (call : Call) → ends (reads.Nothing (made text)) words ≡ Some call → OneWord (text ∷ words) made call
one_word text words made call e =
    let n = nothing_back (made text) call words e in
    record { text = text; words_are = ap (λ (l : List (List ℕ)). text ∷ l) n.0; call_is = n.1 }

script_back : (words : List (List ℕ)) (call : Call) → ends reads.Script words ≡ Some call → OneWord words (λ script. calls.Dump script) call
script_back [] call e = absurd cc
script_back (text ∷ words) call e = one_word text words (λ script. calls.Dump script) call e

add_back : (file : List ℕ) (words : List (List ℕ)) (call : Call) → ends (reads.AddImage file) words ≡ Some call → OneWord words (λ image. calls.Add file image) call
add_back file [] call e = absurd cc
add_back file (text ∷ words) call e = one_word text words (λ image. calls.Add file image) call e

rewrite_back : (file : List ℕ) (words : List (List ℕ)) (call : Call) → ends (reads.RewriteImage file) words ≡ Some call → OneWord words (λ image. calls.Rewrite file image) call
rewrite_back file [] call e = absurd cc
rewrite_back file (text ∷ words) call e = one_word text words (λ image. calls.Rewrite file image) call e

target_back : (search : Search) (file index : List ℕ) (words : List (List ℕ)) (call : Call) → ends (reads.Target search file index) words ≡ Some call → OneWord words (λ target. calls.Search search file index target) call
target_back search file index [] call e = absurd cc
target_back search file index (text ∷ words) call e = one_word text words (λ target. calls.Search search file index target) call e

restore_back : (words : List (List ℕ)) (call : Call) → ends reads.Savepoint words ≡ Some call → (n : ℕ) × (words ≡ decimal n ∷ []) × (n < 2 ^ 64) × (calls.Restore n ≡ call)
restore_back [] call e = absurd cc
restore_back (word ∷ words) call e =
    let t = then_back (option_map (λ n. reads.Nothing (calls.Restore n)) (number_of word)) (λ more. ends more words) call e in
    let m = map_back (number_of word) (λ n. reads.Nothing (calls.Restore n)) t.0 t.1 in
    let n = nothing_back (calls.Restore m.0) call words (rw (← m.2) at t.2) in
    let b = number_back word m.0 m.1 in
    (m.0, cons b.0 n.0, b.1, n.1)

lock_back : (word : List ℕ) (mode : LockMode) → lock_of word ≡ Some mode → word ≡ lock_word mode
lock_back word mode e =
    elim (pick word (codes "FREE") Free mode _ e) [
      | inl p ↦ rw (← p.1) p.0
      | inr f ↦ elim (pick word (codes "ENABLE") Enable mode _ f) [
        | inl p ↦ rw (← p.1) p.0
        | inr g ↦ elim (pick word (codes "READREC") ReadRec mode None g) [ inl p ↦ rw (← p.1) p.0 | inr h ↦ absurd cc ]
      ]
    ]

mode_back : (words : List (List ℕ)) (call : Call) → ends reads.LockMode words ≡ Some call → (mode : LockMode) × (words ≡ lock_word mode ∷ []) × (calls.Lock mode ≡ call)
mode_back [] call e = absurd cc
mode_back (word ∷ words) call e =
    let t = then_back (option_map (λ mode. reads.Nothing (calls.Lock mode)) (lock_of word)) (λ more. ends more words) call e in
    let m = map_back (lock_of word) (λ mode. reads.Nothing (calls.Lock mode)) t.0 t.1 in
    let n = nothing_back (calls.Lock m.0) call words (rw (← m.2) at t.2) in
    (m.0, cons (lock_back word m.0 m.1) n.0, n.1)

-- a name, and what is read behind it
record Named (words : List (List ℕ)) (made : List ℕ → Reading) (call : Call) : Type 0 where
  name : List ℕ
  later : List (List ℕ)
  words_are : words ≡ name ∷ later
  is_named : is_name name ≡ true
  goes_on : ends (made name) later ≡ Some call

named : (word : List ℕ) (words : List (List ℕ)) (made : List ℕ → Reading) (call : Call) → then_ends (option_map made (name_of word)) (λ more. ends more words) ≡ Some call → Named (word ∷ words) made call
named word words made call e =
    let t = then_back (option_map made (name_of word)) (λ more. ends more words) call e in
    let m = map_back (name_of word) made t.0 t.1 in
    let b = name_back word m.0 m.1 in
    record { name = m.0; later = words; words_are = ap (λ (l : List ℕ). l ∷ words) b.1; is_named = b.0; goes_on = rw m.2 t.2 }

file_back : (of : OfFile) (words : List (List ℕ)) (call : Call) → ends (reads.File of) words ≡ Some call → Named words (λ file. with_file of file) call
file_back of [] call e = absurd cc
file_back of (word ∷ words) call e = named word words (λ file. with_file of file) call e

walk_index_back : (walk : Walk) (file : List ℕ) (words : List (List ℕ)) (call : Call) → ends (reads.WalkIndex walk file) words ≡ Some call → Named words (λ index. reads.Nothing (calls.Walk walk file index)) call
walk_index_back walk file [] call e = absurd cc
walk_index_back walk file (word ∷ words) call e = named word words (λ index. reads.Nothing (calls.Walk walk file index)) call e

search_index_back : (search : Search) (file : List ℕ) (words : List (List ℕ)) (call : Call) → ends (reads.SearchIndex search file) words ≡ Some call → Named words (λ index. reads.Target search file index) call
search_index_back search file [] call e = absurd cc
search_index_back search file (word ∷ words) call e = named word words (λ index. reads.Target search file index) call e

create_back : (words : List (List ℕ)) (name : List ℕ) (call : Call) → ends (reads.Creating (Kind name)) words ≡ Some call → (file : NewFile) × NewSpelled name words file × (calls.Create file ≡ call)
create_back words name call e =
    let m = map_back (creates (Kind name) words) (λ file. calls.Create file) call (rw (← ends_creates words (Kind name)) e) in
    (m.0, created_back words name m.0 m.1, m.2)

-- ---- the first word

bare_back : (word : List ℕ) (call : Call) → bare_call word ≡ Some call → IsSpelled call (word ∷ [])
bare_back word call e =
    elim (pick word (codes "BEGIN") calls.Begin call _ e) [
      | inl p ↦ rw (← p.1, p.0) refl
      | inr e1 ↦ elim (pick word (codes "COMMIT") calls.Commit call _ e1) [
        | inl p ↦ rw (← p.1, p.0) refl
        | inr e2 ↦ elim (pick word (codes "ABORT") calls.Abort call _ e2) [
          | inl p ↦ rw (← p.1, p.0) refl
          | inr e3 ↦ elim (pick word (codes "SAVE") calls.Save call _ e3) [
            | inl p ↦ rw (← p.1, p.0) refl
            | inr e4 ↦ elim (pick word (codes "CHECKPOINT") calls.Checkpoint call _ e4) [
              | inl p ↦ rw (← p.1, p.0) refl
              | inr e5 ↦ elim (pick word (codes "FRONT") calls.Front call _ e5) [
                | inl p ↦ rw (← p.1, p.0) refl
                | inr e6 ↦ elim (pick word (codes "QUIT") calls.Quit call None e6) [ inl p ↦ rw (← p.1, p.0) refl | inr e7 ↦ absurd cc ]
              ]
            ]
          ]
        ]
      ]
    ]

walk_back : (word : List ℕ) (walk : Walk) → walk_of word ≡ Some walk → word ≡ walk_word walk
walk_back word walk e =
    elim (pick word (codes "FIRST") First walk _ e) [
      | inl p ↦ rw (← p.1) p.0
      | inr e1 ↦ elim (pick word (codes "LAST") Last walk _ e1) [
        | inl p ↦ rw (← p.1) p.0
        | inr e2 ↦ elim (pick word (codes "NEXT") Next walk _ e2) [
          | inl p ↦ rw (← p.1) p.0
          | inr e3 ↦ elim (pick word (codes "PREV") Prev walk _ e3) [
            | inl p ↦ rw (← p.1) p.0
            | inr e4 ↦ elim (pick word (codes "NEXTSET") NextSet walk None e4) [ inl p ↦ rw (← p.1) p.0 | inr e5 ↦ absurd cc ]
          ]
        ]
      ]
    ]

search_back : (word : List ℕ) (search : Search) → search_of word ≡ Some search → word ≡ search_word search
search_back word search e =
    elim (pick word (codes "GET") Get search _ e) [
      | inl p ↦ rw (← p.1) p.0
      | inr e1 ↦ elim (pick word (codes "GTE") Gte search _ e1) [
        | inl p ↦ rw (← p.1) p.0
        | inr e2 ↦ elim (pick word (codes "GT") Gt search _ e2) [
          | inl p ↦ rw (← p.1) p.0
          | inr e3 ↦ elim (pick word (codes "LTE") Lte search _ e3) [
            | inl p ↦ rw (← p.1) p.0
            | inr e4 ↦ elim (pick word (codes "LT") Lt search _ e4) [
              | inl p ↦ rw (← p.1) p.0
              | inr e5 ↦ elim (pick word (codes "FIRSTSET") FirstSet search None e5) [ inl p ↦ rw (← p.1) p.0 | inr e6 ↦ absurd cc ]
            ]
          ]
        ]
      ]
    ]

abbrev OfWord : OfFile → List ℕ → Type 0
OfWord ofs.Create word = word ≡ codes "CREATE"
OfWord ofs.Add word = word ≡ codes "ADD"
OfWord ofs.Rewrite word = word ≡ codes "REWRITE"
OfWord ofs.Delete word = word ≡ codes "DELETE"
OfWord (ofs.Walk walk) word = word ≡ walk_word walk
OfWord (ofs.Search search) word = word ≡ search_word search

either_back : (word : List ℕ) (walk : Option Walk) (search : Option Search) (of : OfFile) → walk_of word ≡ walk → search_of word ≡ search → walk_or_search walk search ≡ Some of → OfWord of word
either_back word (Some walk) search of w s e = let same : ofs.Walk walk ≡ of = cc in rw (← same) (walk_back word walk w)
either_back word None (Some search) of w s e = let same : ofs.Search search ≡ of = cc in rw (← same) (search_back word search s)
either_back word None None of w s e = absurd cc

of_back : (word : List ℕ) (of : OfFile) → of_file word ≡ Some of → OfWord of word
of_back word of e =
    elim (pick word (codes "CREATE") ofs.Create of _ e) [
      | inl p ↦ rw (← p.1) p.0
      | inr e1 ↦ elim (pick word (codes "ADD") ofs.Add of _ e1) [
        | inl p ↦ rw (← p.1) p.0
        | inr e2 ↦ elim (pick word (codes "REWRITE") ofs.Rewrite of _ e2) [
          | inl p ↦ rw (← p.1) p.0
          | inr e3 ↦ elim (pick word (codes "DELETE") ofs.Delete of _ e3) [
            | inl p ↦ rw (← p.1) p.0
            | inr e4 ↦ either_back word (walk_of word) (search_of word) of refl refl e4
          ]
        ]
      ]
    ]

-- ---- all calls

of_spelled : (of : OfFile) (word : List ℕ) (words : List (List ℕ)) (call : Call) → OfWord of word → Named words (λ file. with_file of file) call → IsSpelled call (word ∷ words)
of_spelled ofs.Create word words call w n =
    let c = create_back n.later n.name call n.goes_on in
    let b = c.1 in
    let named : is_name c.0.name ≡ true = rw b.name_is n.is_named in
    let spelling = cons w (n.words_are ∙ cons (sym b.name_is) b.words_are) in
    become (calls.Create c.0) call (word ∷ words) c.2 ((b.keys, b.spelled, spelling), (named, b.kind_fits, b.some, b.fits))
of_spelled ofs.Add word words call w n =
    let o = add_back n.name n.later call n.goes_on in
    become (calls.Add n.name o.text) call (word ∷ words) o.call_is (cons w (n.words_are ∙ cons refl o.words_are), n.is_named)
of_spelled ofs.Rewrite word words call w n =
    let o = rewrite_back n.name n.later call n.goes_on in
    become (calls.Rewrite n.name o.text) call (word ∷ words) o.call_is (cons w (n.words_are ∙ cons refl o.words_are), n.is_named)
of_spelled ofs.Delete word words call w n =
    let o = nothing_back (calls.Delete n.name) call n.later n.goes_on in
    become (calls.Delete n.name) call (word ∷ words) o.1 (cons w (n.words_are ∙ cons refl o.0), n.is_named)
of_spelled (ofs.Walk walk) word words call w n =
    let i = walk_index_back walk n.name n.later call n.goes_on in
    let o = nothing_back (calls.Walk walk n.name i.name) call i.later i.goes_on in
    become (calls.Walk walk n.name i.name) call (word ∷ words) o.1 (cons w (n.words_are ∙ cons refl (i.words_are ∙ cons refl o.0)), (n.is_named, i.is_named))
of_spelled (ofs.Search kind) word words call w n =
    let i = search_index_back kind n.name n.later call n.goes_on in
    let o = target_back kind n.name i.name i.later call i.goes_on in
    become (calls.Search kind n.name i.name o.text) call (word ∷ words) o.call_is (cons w (n.words_are ∙ cons refl (i.words_are ∙ cons refl o.words_are)), (n.is_named, i.is_named))

bare_or_file : (word : List ℕ) (words : List (List ℕ)) (call : Call) (bare : Option Call) (of : Option OfFile) (reading : Reading) → bare_call word ≡ bare → of_file word ≡ of
    → call_or_file bare of ≡ Some reading → ends reading words ≡ Some call → IsSpelled call (word ∷ words)
bare_or_file word words call (Some known) of reading b o e h =
    let same : reads.Nothing known ≡ reading = cc in
    let n = nothing_back known call words (rw (← same) at h) in
    rw (n.0, ← n.1) (bare_back word known b)
bare_or_file word words call None (Some of) reading b o e h =
    let same : reads.File of ≡ reading = cc in
    of_spelled of word words call (of_back word of o) (file_back of words call (rw (← same) at h))
bare_or_file word words call None None reading b o e h = absurd cc

restored : (word : List ℕ) (words : List (List ℕ)) (call : Call) → word ≡ codes "RESTORE" → ends reads.Savepoint words ≡ Some call → IsSpelled call (word ∷ words)
restored word words call w h = let r = restore_back words call h in become (calls.Restore r.0) call (word ∷ words) r.3 (cons w r.1, r.2)

locked : (word : List ℕ) (words : List (List ℕ)) (call : Call) → word ≡ codes "LOCK" → ends reads.LockMode words ≡ Some call → IsSpelled call (word ∷ words)
locked word words call w h = let m = mode_back words call h in become (calls.Lock m.0) call (word ∷ words) m.2 (cons w m.1)

dumped : (word : List ℕ) (words : List (List ℕ)) (call : Call) → word ≡ codes "DUMP" → ends reads.Script words ≡ Some call → IsSpelled call (word ∷ words)
dumped word words call w h = let o = script_back words call h in become (calls.Dump o.text) call (word ∷ words) o.call_is (cons w o.words_are)

command_back : (words : List (List ℕ)) (call : Call) → ends reads.Command words ≡ Some call → IsSpelled call words
command_back [] call e = absurd cc
command_back (word ∷ words) call e =
    let t = then_back (command_of word) (λ more. ends more words) call e in
    elim (pick word (codes "RESTORE") reads.Savepoint t.0 _ t.1) [
      | inl p ↦ restored word words call p.0 (rw (← p.1) at t.2)
      | inr e1 ↦ elim (pick word (codes "LOCK") reads.LockMode t.0 _ e1) [
        | inl p ↦ locked word words call p.0 (rw (← p.1) at t.2)
        | inr e2 ↦ elim (pick word (codes "DUMP") reads.Script t.0 _ e2) [
          | inl p ↦ dumped word words call p.0 (rw (← p.1) at t.2)
          | inr e3 ↦ bare_or_file word words call (bare_call word) (of_file word) t.0 refl refl e3 t.2
        ]
      ]
    ]

pub read_back : ReadIsSpelled
read_back call words end e = command_back (map (λ (w : Word). w.bytes) words) call (to_ends words reads.Command end call e)
