-- Words that ask for a new file spell it.
use Rattle.std.proofs.Common.{◌≡◌, ◌≢◌, ℕ, ◌^◌, ◌<◌, Bool, true, false, List, [], ◌∷◌, ◌++◌, ◌⊎◌, inl, inr, Option, Some, None, refl, sym, ap, ◌∙◌, append_assoc}
use Rattle.std.specs.Prelude.{codes}
use Rattle.std.specs.Fmt.{decimal}
use Rattle.std.specs.List.{AllByRecursion, flat_map}
use Rattle.ct_definitions.specs.Validity.{is_name}
use Rattle.ct_definitions.specs.declared.definition.Mode.{Mode}
use Rattle.ct_definitions.specs.declared.definition.Mode.TheVariants.{Reg, Ureg, Int, Sgn}
use Rattle.ct_line.specs.declared.call.NewFile.{NewFile}
use Rattle.ct_line.specs.declared.call.NewIndex.{NewIndex}
use Rattle.ct_line.specs.declared.call.NewKind.{NewKind}
use Rattle.ct_line.specs.declared.call.NewKind.TheVariants.{Fixed, Variable}
use Rattle.ct_line.specs.declared.call.NewSeg.{NewSeg}
use Rattle.ct_line.specs.declared.reading.Indexed.{Indexed}
use Rattle.ct_line.specs.declared.reading.Creating.{Creating}
use Rattle.ct_line.specs.declared.reading.Creating.TheVariants.{Kind, FixedLen, Min, Max, Key, KeyName, Rule, NullOrSeg, NullByte, Seg, SegMode, SegAt, SegLen, Desc, More}
use Rattle.ct_line.specs.Table.{mode_of, byte_of, number_of, name_of}
use Rattle.ct_line.specs.Grammar.{next_of_create, created, after_segment, with_seg, with_null, closed, opened}
use Rattle.ct_line.specs.Calls.{kind_words, rule_word, seg_words, desc_words, mode_word, FitsIndex, FitsKind, FitsNull, FitsSeg, IsHexOf, IsNullSpelled, IsIndexSpelled, AreIndexesSpelled}
use Rattle.ct_line.proofs.NumberWords.{number_back}
use Rattle.ct_line.proofs.HexWords.{byte_back, hex_below}
use Rattle.ct_line.proofs.Options.{then_back, map_back, pick, name_back}
use Rattle.ct_line.proofs.Spelled.{creates, with_segs, no_segs, segs_joined}

-- ---- what the words that are left spell, by what comes next

abbrev with_rest : Indexed → List NewSeg → List NewIndex → NewFile
with_rest o segs indexes = record o.file { indexes = o.file.indexes ++ (with_segs o segs).index ∷ indexes }

-- more segments of this index, and then more indexes
record Rest (o : Indexed) (words : List (List ℕ)) (file : NewFile) : Type 0 where
  segs : List NewSeg
  indexes : List NewIndex
  later : List (List ℕ)
  words_are : words ≡ flat_map seg_words segs ++ later
  spelled : AreIndexesSpelled indexes later
  seg_fits : AllByRecursion FitsSeg segs
  index_fits : AllByRecursion FitsIndex indexes
  file_is : with_rest o segs indexes ≡ file

-- a segment at least
record SomeRest (o : Indexed) (words : List (List ℕ)) (file : NewFile) : Type 0 where
  rest : Rest o words file
  some : rest.segs ≢ []

record LenLeft (o : Indexed) (mode : Mode) (at : ℕ) (words : List (List ℕ)) (file : NewFile) : Type 0 where
  len : ℕ
  desc : Bool
  later : List (List ℕ)
  words_are : words ≡ decimal len ∷ (desc_words desc ++ later)
  below : len < 2 ^ 64
  rest : Rest (with_seg o (record { mode = mode; at = at; len = len; desc = desc })) later file

record AtLeft (o : Indexed) (mode : Mode) (words : List (List ℕ)) (file : NewFile) : Type 0 where
  at : ℕ
  later : List (List ℕ)
  words_are : words ≡ decimal at ∷ later
  below : at < 2 ^ 64
  rest : LenLeft o mode at later file

record ModeLeft (o : Indexed) (words : List (List ℕ)) (file : NewFile) : Type 0 where
  mode : Mode
  later : List (List ℕ)
  words_are : words ≡ mode_word mode ∷ later
  rest : AtLeft o mode later file

abbrev DescLeft : Indexed → NewSeg → List (List ℕ) → NewFile → Type 0
DescLeft o seg words file = Rest (with_seg o seg) words file ⊎ ((later : List (List ℕ)) × (words ≡ codes "DSCSEG" ∷ later) × Rest (with_seg o (record seg { desc = true })) later file)

record NullLeft (o : Indexed) (words : List (List ℕ)) (file : NewFile) : Type 0 where
  byte : ℕ
  hex : List ℕ
  later : List (List ℕ)
  words_are : words ≡ hex ∷ later
  is_hex : IsHexOf byte hex
  rest : SomeRest (with_null o byte) later file

abbrev NullOrSegLeft : Indexed → List (List ℕ) → NewFile → Type 0
NullOrSegLeft o words file = SomeRest o words file ⊎ ((later : List (List ℕ)) × (words ≡ codes "NULL" ∷ later) × NullLeft o later file)

record RuleLeft (before : NewFile) (name : List ℕ) (words : List (List ℕ)) (file : NewFile) : Type 0 where
  unique : Bool
  later : List (List ℕ)
  words_are : words ≡ rule_word unique ∷ later
  rest : NullOrSegLeft (opened before name unique) later file

-- an index behind its word KEY, and then more indexes
record KeyLeft (before : NewFile) (words : List (List ℕ)) (file : NewFile) : Type 0 where
  index : NewIndex
  indexes : List NewIndex
  own : List (List ℕ)
  later : List (List ℕ)
  words_are : codes "KEY" ∷ words ≡ own ++ later
  own_spelled : IsIndexSpelled index own
  spelled : AreIndexesSpelled indexes later
  index_fits : FitsIndex index
  fits : AllByRecursion FitsIndex indexes
  file_is : record before { indexes = before.indexes ++ index ∷ indexes } ≡ file

abbrev KeysLeft : NewFile → List (List ℕ) → NewFile → Type 0
KeysLeft before words file = (later : List (List ℕ)) × (words ≡ codes "KEY" ∷ later) × KeyLeft before later file

record FixedLeft (name : List ℕ) (words : List (List ℕ)) (file : NewFile) : Type 0 where
  len : ℕ
  later : List (List ℕ)
  words_are : words ≡ decimal len ∷ later
  below : len < 2 ^ 64
  rest : KeysLeft (record { name = name; kind = Fixed len; indexes = [] }) later file

record MaxLeft (name : List ℕ) (min : ℕ) (words : List (List ℕ)) (file : NewFile) : Type 0 where
  max : ℕ
  later : List (List ℕ)
  words_are : words ≡ decimal max ∷ later
  below : max < 2 ^ 64
  rest : KeysLeft (record { name = name; kind = Variable min max; indexes = [] }) later file

record MinLeft (name : List ℕ) (words : List (List ℕ)) (file : NewFile) : Type 0 where
  min : ℕ
  later : List (List ℕ)
  words_are : words ≡ decimal min ∷ later
  below : min < 2 ^ 64
  rest : MaxLeft name min later file

-- how long the images are, and the indexes
pub record NewSpelled (name : List ℕ) (words : List (List ℕ)) (file : NewFile) : Type 0 where
  pub keys : List (List ℕ)
  pub name_is : file.name ≡ name
  pub words_are : words ≡ kind_words file.kind ++ keys
  pub spelled : AreIndexesSpelled file.indexes keys
  pub kind_fits : FitsKind file.kind
  pub some : file.indexes ≢ []
  pub fits : AllByRecursion FitsIndex file.indexes

abbrev Left : Creating → List (List ℕ) → NewFile → Type 0
Left (Kind name) words file = NewSpelled name words file
Left (FixedLen name) words file = FixedLeft name words file
Left (Min name) words file = MinLeft name words file
Left (Max name min) words file = MaxLeft name min words file
Left (Key before) words file = KeysLeft before words file
Left (KeyName before) words file = KeyLeft before words file
Left (Rule before name) words file = RuleLeft before name words file
Left (NullOrSeg o) words file = NullOrSegLeft o words file
Left (NullByte o) words file = NullLeft o words file
Left (Seg o) words file = SomeRest o words file
Left (SegMode o) words file = ModeLeft o words file
Left (SegAt o mode) words file = AtLeft o mode words file
Left (SegLen o mode at) words file = LenLeft o mode at words file
Left (Desc o seg) words file = DescLeft o seg words file
Left (More o) words file = Rest o words file

-- ---- the parts joined

seg_joined : (o : Indexed) (words : List (List ℕ)) (file : NewFile) → ModeLeft o words file → SomeRest o (codes "SEG" ∷ words) file
seg_joined o words file m =
    let a = m.rest in
    let l = a.rest in
    let r = l.rest in
    let seg : NewSeg = record { mode = m.mode; at = a.at; len = l.len; desc = l.desc } in
    let behind : words ≡ mode_word m.mode ∷ decimal a.at ∷ decimal l.len ∷ ((desc_words l.desc ++ flat_map seg_words r.segs) ++ r.later) =
    rw (m.words_are, a.words_are, l.words_are, r.words_are, append_assoc (desc_words l.desc) (flat_map seg_words r.segs) r.later) refl in
    let same : with_rest o (seg ∷ r.segs) r.indexes ≡ file = ap (λ (i : Indexed). record o.file { indexes = o.file.indexes ++ i.index ∷ r.indexes }) (sym (segs_joined o seg r.segs)) ∙ r.file_is in
    record {
      rest = record { segs = seg ∷ r.segs; indexes = r.indexes; later = r.later; words_are = ap (λ (w : List (List ℕ)). codes "SEG" ∷ w) behind; spelled = r.spelled; seg_fits = ((a.below, l.below), r.seg_fits); index_fits = r.index_fits; file_is = same };
      some = (λ e. absurd cc);
    }

key_joined : (o : Indexed) (words : List (List ℕ)) (file : NewFile) → KeyLeft (closed o) words file → Rest o (codes "KEY" ∷ words) file
key_joined o words file k =
    let one = ap (λ (i : Indexed). record o.file { indexes = o.file.indexes ++ i.index ∷ k.index ∷ k.indexes }) (no_segs o) in
    let all = ap (λ (l : List NewIndex). record o.file { indexes = l }) (sym (append_assoc o.file.indexes (o.index ∷ []) (k.index ∷ k.indexes))) in
    record { segs = []; indexes = k.index ∷ k.indexes; later = codes "KEY" ∷ words; words_are = refl; spelled = (k.own, k.later, k.own_spelled, k.spelled, k.words_are); seg_fits = tt; index_fits = (k.index_fits, k.fits); file_is = one ∙ all ∙ k.file_is }

index_joined : (before : NewFile) (name : List ℕ) (unique : Bool) (null : Option ℕ) (nulls later : List (List ℕ)) (file : NewFile) → is_name name ≡ true → IsNullSpelled null nulls → FitsNull null
    → SomeRest (record { file = before; index = record { name = name; unique = unique; null = null; segs = [] } }) later file → KeyLeft before (name ∷ rule_word unique ∷ (nulls ++ later)) file
index_joined before name unique null nulls later file named n fits s =
    let r = s.rest in
    let own = codes "KEY" ∷ name ∷ rule_word unique ∷ (nulls ++ flat_map seg_words r.segs) in
    let behind : nulls ++ later ≡ (nulls ++ flat_map seg_words r.segs) ++ r.later = rw (r.words_are, append_assoc nulls (flat_map seg_words r.segs) r.later) refl in
    record {
      index = record { name = name; unique = unique; null = null; segs = r.segs };
      indexes = r.indexes;
      own = own;
      later = r.later;
      words_are = ap (λ (w : List (List ℕ)). codes "KEY" ∷ name ∷ rule_word unique ∷ w) behind;
      own_spelled = (nulls, n, refl);
      spelled = r.spelled;
      index_fits = (named, fits, s.some, r.seg_fits);
      fits = r.index_fits;
      file_is = r.file_is;
    }

null_joined : (before : NewFile) (name : List ℕ) (unique : Bool) (later : List (List ℕ)) (file : NewFile) → is_name name ≡ true → NullOrSegLeft (opened before name unique) later file → KeyLeft before (name ∷ rule_word unique ∷ later) file
null_joined before name unique later file named (inl s) = index_joined before name unique None [] later file named refl tt s
null_joined before name unique later file named (inr n) =
    let b = n.2 in
    let joined = index_joined before name unique (Some b.byte) (codes "NULL" ∷ b.hex ∷ []) b.later file named (b.hex, b.is_hex, refl) (hex_below b.byte b.hex b.is_hex) b.rest in
    rw (n.1, b.words_are) joined

rule_joined : (before : NewFile) (name : List ℕ) (words : List (List ℕ)) (file : NewFile) → is_name name ≡ true → RuleLeft before name words file → KeyLeft before (name ∷ words) file
rule_joined before name words file named r = rw r.words_are (null_joined before name r.unique r.later file named r.rest)

-- a new file of its kind and its keys
keys_joined : (name : List ℕ) (kind : NewKind) (later : List (List ℕ)) (file : NewFile) → FitsKind kind → KeysLeft (record { name = name; kind = kind; indexes = [] }) later file → NewSpelled name (kind_words kind ++ later) file
keys_joined name kind later file fits k =
    let i = k.2 in
    rw (← i.file_is) (record { keys = later; name_is = refl; words_are = refl; spelled = (i.own, i.later, i.own_spelled, i.spelled, k.1 ∙ i.words_are); kind_fits = fits; some = (λ e. absurd cc); fits = (i.index_fits, i.fits) })

fixed_joined : (name : List ℕ) (words : List (List ℕ)) (file : NewFile) → FixedLeft name words file → NewSpelled name (codes "FIX" ∷ words) file
fixed_joined name words file f = rw f.words_are (keys_joined name (Fixed f.len) f.later file f.below f.rest)

variable_joined : (name : List ℕ) (words : List (List ℕ)) (file : NewFile) → MinLeft name words file → NewSpelled name (codes "VAR" ∷ words) file
variable_joined name words file m =
    let x = m.rest in
    rw (m.words_are, x.words_are) (keys_joined name (Variable m.min x.max) x.later file (m.below, x.below) x.rest)

-- ---- a word before what is left

mode_back : (word : List ℕ) (mode : Mode) → mode_of word ≡ Some mode → word ≡ mode_word mode
mode_back word mode e =
    elim (pick word (codes "REGSEG") Reg mode _ e) [
      | inl p ↦ rw (← p.1) p.0
      | inr e1 ↦ elim (pick word (codes "UREGSEG") Ureg mode _ e1) [
        | inl p ↦ rw (← p.1) p.0
        | inr e2 ↦ elim (pick word (codes "INTSEG") Int mode _ e2) [
          | inl p ↦ rw (← p.1) p.0
          | inr e3 ↦ elim (pick word (codes "SGNSEG") Sgn mode None e3) [ inl p ↦ rw (← p.1) p.0 | inr e4 ↦ absurd cc ]
        ]
      ]
    ]

after_back : (o : Indexed) (word : List ℕ) (more : Creating) (words : List (List ℕ)) (file : NewFile) → after_segment o word ≡ Some more → Left more words file → Rest o (word ∷ words) file
after_back o word more words file e b =
    elim (pick word (codes "SEG") (SegMode o) more _ e) [
      | inl p ↦ rw p.0 (seg_joined o words file (rw (← p.1) at b)).rest
      | inr f ↦ elim (pick word (codes "KEY") (KeyName (closed o)) more None f) [
        | inl p ↦ rw p.0 (key_joined o words file (rw (← p.1) at b))
        | inr g ↦ absurd cc
      ]
    ]

kind_back : (name word : List ℕ) (more : Creating) (words : List (List ℕ)) (file : NewFile) → next_of_create (Kind name) word ≡ Some more → Left more words file → NewSpelled name (word ∷ words) file
kind_back name word more words file e b =
    elim (pick word (codes "FIX") (FixedLen name) more _ e) [
      | inl p ↦ rw p.0 (fixed_joined name words file (rw (← p.1) at b))
      | inr f ↦ elim (pick word (codes "VAR") (Min name) more None f) [
        | inl p ↦ rw p.0 (variable_joined name words file (rw (← p.1) at b))
        | inr g ↦ absurd cc
      ]
    ]

rule_back : (before : NewFile) (name word : List ℕ) (more : Creating) (words : List (List ℕ)) (file : NewFile) → next_of_create (Rule before name) word ≡ Some more → Left more words file → RuleLeft before name (word ∷ words) file
rule_back before name word more words file e b =
    elim (pick word (codes "UNIQUE") (NullOrSeg (opened before name true)) more _ e) [
      | inl p ↦ rw p.0 (record { unique = true; later = words; words_are = refl; rest = rw (← p.1) at b })
      | inr f ↦ elim (pick word (codes "DUP") (NullOrSeg (opened before name false)) more None f) [
        | inl p ↦ rw p.0 (record { unique = false; later = words; words_are = refl; rest = rw (← p.1) at b })
        | inr g ↦ absurd cc
      ]
    ]

null_back : (o : Indexed) (word : List ℕ) (more : Creating) (words : List (List ℕ)) (file : NewFile) → next_of_create (NullOrSeg o) word ≡ Some more → Left more words file → NullOrSegLeft o (word ∷ words) file
null_back o word more words file e b =
    elim (pick word (codes "NULL") (NullByte o) more _ e) [
      | inl p ↦ rw p.0 (inr (words, refl, rw (← p.1) at b))
      | inr f ↦ elim (pick word (codes "SEG") (SegMode o) more None f) [
        | inl p ↦ rw p.0 (inl (seg_joined o words file (rw (← p.1) at b)))
        | inr g ↦ absurd cc
      ]
    ]

seg_back : (o : Indexed) (word : List ℕ) (more : Creating) (words : List (List ℕ)) (file : NewFile) → next_of_create (Seg o) word ≡ Some more → Left more words file → SomeRest o (word ∷ words) file
seg_back o word more words file e b =
    elim (pick word (codes "SEG") (SegMode o) more None e) [ inl p ↦ rw p.0 (seg_joined o words file (rw (← p.1) at b)) | inr f ↦ absurd cc ]

key_back : (before : NewFile) (word : List ℕ) (more : Creating) (words : List (List ℕ)) (file : NewFile) → next_of_create (Key before) word ≡ Some more → Left more words file → KeysLeft before (word ∷ words) file
key_back before word more words file e b =
    elim (pick word (codes "KEY") (KeyName before) more None e) [ inl p ↦ rw p.0 (words, refl, rw (← p.1) at b) | inr f ↦ absurd cc ]

len_left : (o : Indexed) (mode : Mode) (at len : ℕ) (words : List (List ℕ)) (file : NewFile) → len < 2 ^ 64 → DescLeft o (record { mode = mode; at = at; len = len; desc = false }) words file → LenLeft o mode at (decimal len ∷ words) file
len_left o mode at len words file h (inl r) = record { len = len; desc = false; later = words; words_are = refl; below = h; rest = r }
len_left o mode at len words file h (inr d) = record { len = len; desc = true; later = d.0; words_are = ap (λ (w : List (List ℕ)). decimal len ∷ w) d.1; below = h; rest = d.2 }

desc_back : (o : Indexed) (seg : NewSeg) (word : List ℕ) (more : Creating) (words : List (List ℕ)) (file : NewFile) → next_of_create (Desc o seg) word ≡ Some more → Left more words file → DescLeft o seg (word ∷ words) file
desc_back o seg word more words file e b =
    elim (pick word (codes "DSCSEG") (More (with_seg o (record seg { desc = true }))) more _ e) [
      | inl p ↦ rw p.0 (inr (words, refl, rw (← p.1) at b))
      | inr f ↦ inl (after_back (with_seg o seg) word more words file f b)
    ]

step_back : (state : Creating) (word : List ℕ) (more : Creating) (words : List (List ℕ)) (file : NewFile) → next_of_create state word ≡ Some more → Left more words file → Left state (word ∷ words) file
step_back (Kind name) word more words file e b = kind_back name word more words file e b
step_back (FixedLen name) word more words file e b =
    let m = map_back (number_of word) (λ len. Key (record { name = name; kind = Fixed len; indexes = [] })) more e in
    let n = number_back word m.0 m.1 in
    rw n.0 (record { len = m.0; later = words; words_are = refl; below = n.1; rest = rw (← m.2) at b })
step_back (Min name) word more words file e b =
    let m = map_back (number_of word) (λ min. Max name min) more e in
    let n = number_back word m.0 m.1 in
    rw n.0 (record { min = m.0; later = words; words_are = refl; below = n.1; rest = rw (← m.2) at b })
step_back (Max name min) word more words file e b =
    let m = map_back (number_of word) (λ max. Key (record { name = name; kind = Variable min max; indexes = [] })) more e in
    let n = number_back word m.0 m.1 in
    rw n.0 (record { max = m.0; later = words; words_are = refl; below = n.1; rest = rw (← m.2) at b })
step_back (Key before) word more words file e b = key_back before word more words file e b
step_back (KeyName before) word more words file e b =
    let m = map_back (name_of word) (λ name. Rule before name) more e in
    let n = name_back word m.0 m.1 in
    rw n.1 (rule_joined before m.0 words file n.0 (rw (← m.2) at b))
step_back (Rule before name) word more words file e b = rule_back before name word more words file e b
step_back (NullOrSeg o) word more words file e b = null_back o word more words file e b
step_back (NullByte o) word more words file e b =
    let m = map_back (byte_of word) (λ null. Seg (with_null o null)) more e in
    record { byte = m.0; hex = word; later = words; words_are = refl; is_hex = byte_back m.0 word m.1; rest = rw (← m.2) at b }
step_back (Seg o) word more words file e b = seg_back o word more words file e b
step_back (SegMode o) word more words file e b =
    let m = map_back (mode_of word) (λ mode. SegAt o mode) more e in
    rw (mode_back word m.0 m.1) (record { mode = m.0; later = words; words_are = refl; rest = rw (← m.2) at b })
step_back (SegAt o mode) word more words file e b =
    let m = map_back (number_of word) (λ at. SegLen o mode at) more e in
    let n = number_back word m.0 m.1 in
    rw n.0 (record { at = m.0; later = words; words_are = refl; below = n.1; rest = rw (← m.2) at b })
step_back (SegLen o mode at) word more words file e b =
    let m = map_back (number_of word) (λ len. Desc o (record { mode = mode; at = at; len = len; desc = false })) more e in
    let n = number_back word m.0 m.1 in
    rw n.0 (len_left o mode at m.0 words file n.1 (rw (← m.2) at b))
step_back (Desc o seg) word more words file e b = desc_back o seg word more words file e b
step_back (More o) word more words file e b = after_back o word more words file e b

-- ---- the end of the line

rest_ended : (o : Indexed) (file : NewFile) → closed o ≡ file → Rest o [] file
rest_ended o file e =
    let same = ap (λ (i : Indexed). record o.file { indexes = o.file.indexes ++ i.index ∷ [] }) (no_segs o) in
    record { segs = []; indexes = []; later = []; words_are = refl; spelled = refl; seg_fits = tt; index_fits = tt; file_is = same ∙ e }

end_back : (state : Creating) (file : NewFile) → created state ≡ Some file → Left state [] file
end_back (Kind name) file e = absurd cc
end_back (FixedLen name) file e = absurd cc
end_back (Min name) file e = absurd cc
end_back (Max name min) file e = absurd cc
end_back (Key before) file e = absurd cc
end_back (KeyName before) file e = absurd cc
end_back (Rule before name) file e = absurd cc
end_back (NullOrSeg o) file e = absurd cc
end_back (NullByte o) file e = absurd cc
end_back (Seg o) file e = absurd cc
end_back (SegMode o) file e = absurd cc
end_back (SegAt o mode) file e = absurd cc
end_back (SegLen o mode at) file e = absurd cc
end_back (Desc o seg) file e = inl (rest_ended (with_seg o seg) file cc)
end_back (More o) file e = rest_ended o file cc

left_back : (words : List (List ℕ)) (state : Creating) (file : NewFile) → creates state words ≡ Some file → Left state words file
left_back [] state file e = end_back state file e
left_back (word ∷ words) state file e =
    let t = then_back (next_of_create state word) (λ more. creates more words) file e in
    step_back state word t.0 words file t.1 (left_back words t.0 file t.2)

-- the words behind a new file's name are its kind and its keys
pub created_back : (words : List (List ℕ)) (name : List ℕ) (file : NewFile) → creates (Kind name) words ≡ Some file → NewSpelled name words file
created_back words name file e = left_back words (Kind name) file e
