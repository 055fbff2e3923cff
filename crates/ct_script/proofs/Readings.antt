-- One line more.
use Rattle.std.proofs.Common.{◌≡◌, ℕ, ◌+◌, List, [], ◌∷◌, ◌++◌, length, drop, Bool, true, false, cond, refl, sym, ap, ◌∙◌, arith, length-append}
use Rattle.std.specs.Prelude.{◌||◌, not, ◌&&◌, Option, Some, Ok, Err}
use Rattle.std.specs.List.{filter}
use Rattle.std.proofs.lemmas.List.Folds.{list_any-append}
use Rattle.std.proofs.lemmas.List.Elements.{filter-append}
use Rattle.ct_script.specs.declared.part.Part.{Part}
use Rattle.ct_script.specs.declared.part.Part.TheVariants as part
use Rattle.ct_script.specs.declared.seen.Seen.{Seen}
use Rattle.ct_script.specs.declared.script.Reading.{Reading}
use Rattle.ct_script.specs.declared.script.Script.{Script}
use Rattle.ct_script.specs.Lines.{part_of}
use Rattle.ct_script.specs.Scripts.{is_dump, is_delay, is_files, is_file, is_all, is_end_files, is_end, says, has, seen_in, allows, is_listing, script_in, script_of, name_in, files_in, first_line, numbers_from}
use Rattle.ct_script.specs.Reading.{seen_with, noted, reading_of}

or_false : (b : Bool) → (b || false) ≡ b
or_false true = refl
or_false false = refl

or_true : (b : Bool) → (b || true) ≡ true
or_true true = refl
or_true false = refl

-- whether one of the lines says it, with one line more
has_more : (test : Option Part → Bool) (lines : List (List ℕ)) (line : List ℕ) → has test (lines ++ line ∷ []) ≡ (has test lines || test (part_of line))
has_more test lines line = list_any-append (says test) lines (line ∷ []) ∙ ap (λ (c : Bool). has test lines || c) (or_false (test (part_of line)))

-- what stands in the lines with one more, by what that one says
seen_by : List (List ℕ) → Option Part → Seen
seen_by lines said = record {
  dump = has is_dump lines || is_dump said;
  delay = has is_delay lines || is_delay said;
  files = has is_files lines || is_files said;
  file = has is_file lines || is_file said;
  all = has is_all lines || is_all said;
  end_files = has is_end_files lines || is_end_files said;
  «end» = has is_end lines || is_end said;
}

seen_is : (lines : List (List ℕ)) (line : List ℕ) → seen_in (lines ++ line ∷ []) ≡ seen_by lines (part_of line)
unfolding seen_in seen_by
seen_is lines line = rw (has_more is_dump lines line, has_more is_delay lines line, has_more is_files lines line, has_more is_file lines line, has_more is_all lines line, has_more is_end_files lines line, has_more is_end lines line) refl

seen_by-with : (lines : List (List ℕ)) (p : Part) → seen_by lines (Some p) ≡ seen_with (seen_in lines) p
unfolding seen_in seen_by
seen_by-with lines part.Blank = simp (or_false, or_true)
seen_by-with lines part.Dump = simp (or_false, or_true)
seen_by-with lines part.Delay = simp (or_false, or_true)
seen_by-with lines part.Files = simp (or_false, or_true)
seen_by-with lines part.File = simp (or_false, or_true)
seen_by-with lines part.All = simp (or_false, or_true)
seen_by-with lines part.EndFiles = simp (or_false, or_true)
seen_by-with lines part.End = simp (or_false, or_true)

pub seen_more : (lines : List (List ℕ)) (line : List ℕ) (p : Part) → part_of line ≡ Some p → seen_in (lines ++ line ∷ []) ≡ seen_with (seen_in lines) p
seen_more lines line p is = seen_is lines line ∙ ap (seen_by lines) is ∙ seen_by-with lines p

append_nil : {X : Type 0} (xs : List X) → xs ++ [] ≡ xs
append_nil [] = refl
append_nil {X} (x ∷ xs) = ap (λ (l : List X). x ∷ l) (append_nil xs)

-- the lines that say it, with one more
filter_other : (test : Option Part → Bool) (lines : List (List ℕ)) (line : List ℕ) → test (part_of line) ≡ false → filter (says test) (lines ++ line ∷ []) ≡ filter (says test) lines
filter_other test lines line other =
    filter-append (says test) lines (line ∷ []) ∙ ap (λ (b : Bool). filter (says test) lines ++ cond b (line ∷ []) []) other ∙ append_nil (filter (says test) lines)

filter_this : (test : Option Part → Bool) (lines : List (List ℕ)) (line : List ℕ) → test (part_of line) ≡ true → filter (says test) (lines ++ line ∷ []) ≡ filter (says test) lines ++ line ∷ []
filter_this test lines line this =
    filter-append (says test) lines (line ∷ []) ∙ ap (λ (b : Bool). filter (says test) lines ++ cond b (line ∷ []) []) this

neither : (a b : Bool) → (a || b) ≡ false → (a ≡ false) × (b ≡ false)
neither true b h = absurd cc
neither false b h = (refl, h)

filter_none : (test : Option Part → Bool) (lines : List (List ℕ)) → has test lines ≡ false → filter (says test) lines ≡ []
filter_none test [] none = refl
filter_none test (line ∷ lines) none =
    let both = neither (test (part_of line)) (has test lines) none in
    ap (λ (b : Bool). cond b (line ∷ filter (says test) lines) (filter (says test) lines)) both.0 ∙ filter_none test lines both.1

-- the numbers of the lines that say it, with one more
numbers_if : (test : Option Part → Bool) (n : ℕ) (lines : List (List ℕ)) (line : List ℕ) → List ℕ
numbers_if test n lines line = cond (test (part_of line)) ((n + length lines) ∷ []) []

numbers_more : (test : Option Part → Bool) (n : ℕ) (lines : List (List ℕ)) (line : List ℕ) → numbers_from test n (lines ++ line ∷ []) ≡ numbers_from test n lines ++ numbers_if test n lines line
unfolding numbers_if
numbers_more test n [] line = let zero_more : n + 0 ≡ n = omega arith in rw zero_more refl
numbers_more test n (first ∷ lines) line =
    let here : (n + 1) + length lines ≡ n + length (first ∷ lines) = omega arith in
    let rest : numbers_from test (n + 1) (lines ++ line ∷ []) ≡ numbers_from test (n + 1) lines ++ cond (test (part_of line)) ((n + length (first ∷ lines)) ∷ []) [] =
    numbers_more test (n + 1) lines line ∙ ap (λ k. numbers_from test (n + 1) lines ++ cond (test (part_of line)) (k ∷ []) []) here in
    by_first (test (part_of first)) n (numbers_from test (n + 1) (lines ++ line ∷ [])) (numbers_from test (n + 1) lines) (cond (test (part_of line)) ((n + length (first ∷ lines)) ∷ []) []) rest where
      by_first : (b : Bool) (n : ℕ) (all before last : List ℕ) → all ≡ before ++ last → cond b (n ∷ all) all ≡ cond b (n ∷ before) before ++ last
      by_first true n all before last is = ap (λ (l : List ℕ). n ∷ l) is
      by_first false n all before last is = is

-- ---- what is kept

-- how many lines, the dump's name, the files and their numbers, with one line more
kept_count : (lines : List (List ℕ)) (line : List ℕ) → length (lines ++ line ∷ []) ≡ length lines + 1
kept_count lines line = omega (arith, length-append lines (line ∷ []))

name_of_dump : (lines : List (List ℕ)) (line : List ℕ) → part_of line ≡ Some part.Dump → has is_dump lines ≡ false → name_in (lines ++ line ∷ []) ≡ drop 6 line
name_of_dump lines line is none =
    ap (λ (l : List (List ℕ)). drop 6 (first_line l)) (filter_this is_dump lines line (ap is_dump is) ∙ ap (λ (l : List (List ℕ)). l ++ line ∷ []) (filter_none is_dump lines none))

name_stays : (lines : List (List ℕ)) (line : List ℕ) → is_dump (part_of line) ≡ false → name_in (lines ++ line ∷ []) ≡ name_in lines
name_stays lines line other = ap (λ (l : List (List ℕ)). drop 6 (first_line l)) (filter_other is_dump lines line other)

numbers_stay : (lines : List (List ℕ)) (line : List ℕ) → is_file (part_of line) ≡ false → numbers_from is_file 1 (lines ++ line ∷ []) ≡ numbers_from is_file 1 lines
unfolding numbers_if
numbers_stay lines line other =
    numbers_more is_file 1 lines line ∙ ap (λ (b : Bool). numbers_from is_file 1 lines ++ cond b ((1 + length lines) ∷ []) []) other ∙ append_nil (numbers_from is_file 1 lines)

numbers_of_file : (lines : List (List ℕ)) (line : List ℕ) → is_file (part_of line) ≡ true → numbers_from is_file 1 (lines ++ line ∷ []) ≡ numbers_from is_file 1 lines ++ (length lines + 1) ∷ []
unfolding numbers_if
numbers_of_file lines line this =
    let swapped : 1 + length lines ≡ length lines + 1 = omega arith in
    numbers_more is_file 1 lines line ∙ ap (λ (b : Bool). numbers_from is_file 1 lines ++ cond b ((1 + length lines) ∷ []) []) this
    ∙ ap (λ k. numbers_from is_file 1 lines ++ k ∷ []) swapped

-- what is kept, field by field
reading : Seen → ℕ → List ℕ → List (List ℕ) → List ℕ → Reading
reading seen count name files lines = record { seen = seen; count = count; name = name; files = files; lines = lines }

reading_is : (seen seen' : Seen) (count count' : ℕ) (name name' : List ℕ) (files files' : List (List ℕ)) (lines lines' : List ℕ)
    → seen ≡ seen' → count ≡ count' → name ≡ name' → files ≡ files' → lines ≡ lines' → reading seen count name files lines ≡ reading seen' count' name' files' lines'
reading_is seen seen' count count' name name' files files' lines lines' p q r s t = rw (p, q, r, s, t) refl

not_dumped : (a b c : Bool) → ((a && b) && not c) ≡ true → c ≡ false
not_dumped a b true h = absurd (let P : Bool → Type 0 = λ x. x ≡ true → ⊥ in no_and a b h) where
  no_and : (a b : Bool) → ((a && b) && false) ≡ true → ⊥
  no_and true true h = cc
  no_and true false h = cc
  no_and false b h = cc
not_dumped a b false h = refl

dump_is_first : (lines : List (List ℕ)) → allows (seen_in lines) (Some part.Dump) ≡ true → has is_dump lines ≡ false
unfolding seen_in
dump_is_first lines may = not_dumped (not (is_listing (seen_in lines))) (not (has is_end lines)) (has is_dump lines) may

-- what was kept of the lines, and one line more that may follow
pub reading_more : (lines : List (List ℕ)) (line : List ℕ) (p : Part) → part_of line ≡ Some p → allows (seen_in lines) (Some p) ≡ true
    → reading_of (lines ++ line ∷ []) ≡ record (noted (reading_of lines) p line) { seen = seen_with (seen_in lines) p; count = length lines + 1 }
unfolding reading
reading_more lines line part.Dump is may =
    reading_is _ _ _ _ _ _ _ _ _ _ (seen_more lines line part.Dump is) (kept_count lines line)
    (name_of_dump lines line is (dump_is_first lines may))
    (filter_other is_file lines line (ap is_file is)) (numbers_stay lines line (ap is_file is))
reading_more lines line part.File is may =
    reading_is _ _ _ _ _ _ _ _ _ _ (seen_more lines line part.File is) (kept_count lines line) (name_stays lines line (ap is_dump is)) (filter_this is_file lines line (ap is_file is)) (numbers_of_file lines line (ap is_file is))
reading_more lines line part.Blank is may =
    reading_is _ _ _ _ _ _ _ _ _ _ (seen_more lines line part.Blank is) (kept_count lines line) (name_stays lines line (ap is_dump is)) (filter_other is_file lines line (ap is_file is)) (numbers_stay lines line (ap is_file is))
reading_more lines line part.Delay is may =
    reading_is _ _ _ _ _ _ _ _ _ _ (seen_more lines line part.Delay is) (kept_count lines line) (name_stays lines line (ap is_dump is)) (filter_other is_file lines line (ap is_file is)) (numbers_stay lines line (ap is_file is))
reading_more lines line part.Files is may =
    reading_is _ _ _ _ _ _ _ _ _ _ (seen_more lines line part.Files is) (kept_count lines line) (name_stays lines line (ap is_dump is)) (filter_other is_file lines line (ap is_file is)) (numbers_stay lines line (ap is_file is))
reading_more lines line part.All is may =
    reading_is _ _ _ _ _ _ _ _ _ _ (seen_more lines line part.All is) (kept_count lines line) (name_stays lines line (ap is_dump is)) (filter_other is_file lines line (ap is_file is)) (numbers_stay lines line (ap is_file is))
reading_more lines line part.EndFiles is may =
    reading_is _ _ _ _ _ _ _ _ _ _ (seen_more lines line part.EndFiles is) (kept_count lines line) (name_stays lines line (ap is_dump is)) (filter_other is_file lines line (ap is_file is)) (numbers_stay lines line (ap is_file is))
reading_more lines line part.End is may =
    reading_is _ _ _ _ _ _ _ _ _ _ (seen_more lines line part.End is) (kept_count lines line) (name_stays lines line (ap is_dump is)) (filter_other is_file lines line (ap is_file is)) (numbers_stay lines line (ap is_file is))

-- nothing is kept of no lines
pub kept_none : (name : List ℕ) (files : List (List ℕ)) (lines : List ℕ) → name ≡ [] → files ≡ [] → lines ≡ []
    → record { seen = record { dump = false; delay = false; files = false; file = false; all = false; end_files = false; «end» = false }; count = 0; name = name; files = files; lines = lines } ≡ reading_of []
unfolding seen_in
kept_none name files lines p q r = rw (p, q, r) refl

noted_seen : (r : Reading) (p : Part) (line : List ℕ) → (noted r p line).seen ≡ r.seen
noted_seen r part.Dump line = refl
noted_seen r part.File line = refl
noted_seen r part.Blank line = refl
noted_seen r part.Delay line = refl
noted_seen r part.Files line = refl
noted_seen r part.All line = refl
noted_seen r part.EndFiles line = refl
noted_seen r part.End line = refl

noted_count : (r : Reading) (p : Part) (line : List ℕ) → (noted r p line).count ≡ r.count
noted_count r part.Dump line = refl
noted_count r part.File line = refl
noted_count r part.Blank line = refl
noted_count r part.Delay line = refl
noted_count r part.Files line = refl
noted_count r part.All line = refl
noted_count r part.EndFiles line = refl
noted_count r part.End line = refl

-- a line was taken
pub taken : (before : List (List ℕ)) (line : List ℕ) (p : Part) (r mid : Reading) (seen : Seen)
    → Some p ≡ part_of line → allows r.seen (Some p) ≡ true → mid ≡ noted r p line → seen ≡ seen_with mid.seen p → r ≡ reading_of before
    → (allows (seen_in before) (part_of line) ≡ true) × (record { seen = seen; count = mid.count + 1; name = mid.name; files = mid.files; lines = mid.lines } ≡ reading_of (before ++ line ∷ []))
taken before line p r mid seen is may kept with_line same =
    let at_before : allows (seen_in before) (Some p) ≡ true = ap (λ (q : Reading). allows q.seen (Some p)) (sym same) ∙ may in
    let kept_here : mid ≡ noted (reading_of before) p line = kept ∙ ap (λ (q : Reading). noted q p line) same in
    let seen_here : seen ≡ seen_with (seen_in before) p = with_line ∙ ap (λ (s : Seen). seen_with s p) (ap (λ (q : Reading). q.seen) kept_here ∙ noted_seen (reading_of before) p line) in
    let count_here : mid.count + 1 ≡ length before + 1 = ap (λ (q : Reading). q.count + 1) kept_here ∙ ap (λ n. n + 1) (noted_count (reading_of before) p line) in (
      ap (λ (q : Option Part). allows (seen_in before) q) (sym is) ∙ at_before,
      (let whole : record mid { seen = seen; count = mid.count + 1 } ≡ record (noted (reading_of before) p line) { seen = seen_with (seen_in before) p; count = length before + 1 } =
          ap (λ (q : Reading). record q { seen = seen; count = mid.count + 1 }) kept_here
          ∙ ap (λ (s : Seen). record (noted (reading_of before) p line) { seen = s; count = mid.count + 1 }) seen_here
          ∙ ap (λ n. record (noted (reading_of before) p line) { seen = seen_with (seen_in before) p; count = n }) count_here in
          whole ∙ sym (reading_more before line p (sym is) at_before)),
    )

-- a line that may not follow
pub not_taken : (before : List (List ℕ)) (line : List ℕ) (r : Reading) → allows r.seen (part_of line) ≡ false → r ≡ reading_of before
    → (allows (seen_in before) (part_of line) ≡ false) × (r.count + 1 ≡ length before + 1)
not_taken before line r may same = (ap (λ (q : Reading). allows q.seen (part_of line)) (sym same) ∙ may, ap (λ (q : Reading). q.count + 1) same)

end_of : (before : List (List ℕ)) (r : Reading) → r ≡ reading_of before → r.seen.end ≡ has is_end before
unfolding seen_in
end_of before r same = ap (λ (q : Reading). q.seen.end) same

all_of : (before : List (List ℕ)) (r : Reading) → r ≡ reading_of before → r.seen.all ≡ has is_all before
unfolding seen_in
all_of before r same = ap (λ (q : Reading). q.seen.all) same

pub end_missing : (before : List (List ℕ)) (r : Reading) → r ≡ reading_of before → r.seen.end ≡ false → script_of before [] ≡ Err (r.count + 1)
end_missing before r same no_end =
    ap (λ (e : Bool). cond e (Ok (script_in before)) (Err (length before + 1))) (sym (end_of before r same) ∙ no_end) ∙ ap (λ (q : Reading). Err (q.count + 1)) (sym same)

script : List ℕ → List (List ℕ) → List ℕ → Bool → Script
script name files lines all = record { name = name; files = files; lines = lines; all = all }

pub end_found : (before : List (List ℕ)) (r : Reading) → r ≡ reading_of before → r.seen.end ≡ true → script_of before [] ≡ Ok (record { name = r.name; files = r.files; lines = r.lines; all = r.seen.all })
unfolding script
end_found before r same is_there =
    ap (λ (e : Bool). cond e (Ok (script_in before)) (Err (length before + 1))) (sym (end_of before r same) ∙ is_there)
    ∙ ap (λ (a : Bool). Ok (script (name_in before) (files_in before) (numbers_from is_file 1 before) a)) (sym (all_of before r same))
    ∙ ap (λ (q : Reading). Ok (script q.name q.files q.lines r.seen.all)) (sym same)

pub not_false : (b : Bool) → not b ≡ false → b ≡ true
not_false true h = refl
not_false false h = absurd cc

pub not_true : (b : Bool) → not b ≡ true → b ≡ false
not_true true h = absurd cc
not_true false h = refl
