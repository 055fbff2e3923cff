-- The first line of a text, and the lines behind it.
use Rattle.std.proofs.Common.{◌≡◌, ℕ, ◌+◌, List, [], ◌∷◌, ◌++◌, length, Bool, true, false, cond, eqb, refl, sym, ap, ◌∙◌, arith, subst, append_assoc, length-append}
use Rattle.std.specs.Prelude.{not, ◌&&◌, Result, Err}
use Rattle.ct_lines.specs.Lines.{HasNoEnd, without_cr}
use Rattle.ct_script.specs.declared.script.Script.{Script}
use Rattle.ct_script.specs.declared.script.Reading.{Reading}
use Rattle.ct_script.specs.declared.script.ScriptFault.{ScriptFault}
use Rattle.ct_script.specs.declared.script.ScriptFault.TheVariants.{Line, Memory}
use Rattle.ct_script.specs.Lines.{lines_from, lines_of, part_of}
use Rattle.ct_script.specs.Scripts.{seen_in, allows, script_of, read_of, Tells}
use Rattle.ct_script.specs.Reading.{reading_of, Takes, IsReadUpTo}

other_byte : (a b : Bool) → (not a && b) ≡ true → (a ≡ false) × (b ≡ true)
other_byte true b h = absurd cc
other_byte false b h = (refl, h)

append_nil : (xs : List ℕ) → xs ++ [] ≡ xs
append_nil [] = refl
append_nil (x ∷ xs) = ap (λ (l : List ℕ). x ∷ l) (append_nil xs)

one_behind : (begun line : List ℕ) (byte : ℕ) → (begun ++ byte ∷ []) ++ line ≡ begun ++ byte ∷ line
one_behind begun line byte = append_assoc begun (byte ∷ []) line

-- a line that an LF ends
first_parted : (begun line rest : List ℕ) → HasNoEnd line → lines_from begun (line ++ 10 ∷ rest) ≡ without_cr (begun ++ line) ∷ lines_from [] rest
first_parted begun [] rest no_end = ap (λ (l : List ℕ). without_cr l ∷ lines_from [] rest) (sym (append_nil begun))
first_parted begun (byte ∷ line) rest no_end =
    let here = other_byte (eqb byte 10) _ no_end in
    ap (λ (b : Bool). cond b (without_cr begun ∷ lines_from [] (line ++ 10 ∷ rest)) (lines_from (begun ++ byte ∷ []) (line ++ 10 ∷ rest))) here.0
    ∙ first_parted (begun ++ byte ∷ []) line rest here.1
    ∙ ap (λ (l : List ℕ). without_cr l ∷ lines_from [] rest) (one_behind begun line byte)

-- the last one
last_parted : (begun line : List ℕ) → HasNoEnd line → lines_from begun line ≡ (begun ++ line) ∷ []
last_parted begun [] no_end = ap (λ (l : List ℕ). l ∷ []) (sym (append_nil begun))
last_parted begun (byte ∷ line) no_end =
    let here = other_byte (eqb byte 10) _ no_end in
    ap (λ (b : Bool). cond b (without_cr begun ∷ lines_from [] line) (lines_from (begun ++ byte ∷ []) line)) here.0
    ∙ last_parted (begun ++ byte ∷ []) line here.1
    ∙ ap (λ (l : List ℕ). l ∷ []) (one_behind begun line byte)

goes_on : (before : List (List ℕ)) (line : List ℕ) (lines : List (List ℕ)) → allows (seen_in before) (part_of line) ≡ true → script_of before (line ∷ lines) ≡ script_of (before ++ line ∷ []) lines
goes_on before line lines may = ap (λ (b : Bool). cond b (script_of (before ++ line ∷ []) lines) (Err (length before + 1))) may

stops : (before : List (List ℕ)) (line : List ℕ) (lines : List (List ℕ)) → allows (seen_in before) (part_of line) ≡ false → script_of before (line ∷ lines) ≡ Err (length before + 1)
stops before line lines may = ap (λ (b : Bool). cond b (script_of (before ++ line ∷ []) lines) (Err (length before + 1))) may

-- nothing was read yet
pub read_none : (text : List ℕ) (reading : Reading) → reading ≡ reading_of [] → IsReadUpTo text text reading
read_none text reading is = record { before = []; kept = is; same = refl; within = omega arith }

-- one line more was read
pub read_one : (text rest line after taken : List ℕ) (reading new : Reading) (read : IsReadUpTo text rest reading) → HasNoEnd line → rest ≡ line ++ 10 ∷ after → taken ≡ without_cr line
    → (allows (seen_in read.before) (part_of taken) ≡ true) × (new ≡ reading_of (read.before ++ taken ∷ [])) → IsReadUpTo text after new
read_one text rest line after taken reading new read no_end is cr took =
    let lines : lines_of rest ≡ taken ∷ lines_of after = ap (λ (l : List ℕ). lines_of l) is ∙ first_parted [] line after no_end ∙ ap (λ (l : List ℕ). l ∷ lines_of after) (sym cr) in
    record {
      before = read.before ++ taken ∷ [];
      kept = took.1;
      same = read.same ∙ ap (λ (l : List (List ℕ)). script_of read.before l) lines ∙ goes_on read.before taken (lines_of after) took.0;
      within = omega (arith, read.within, length-append read.before (taken ∷ []), ap length is, length-append line (10 ∷ after));
    }

-- a line of the text is bad
pub bad_line : (text rest line after taken : List ℕ) (reading new : Reading) (fault : ScriptFault) (read : IsReadUpTo text rest reading) → HasNoEnd line → rest ≡ line ++ 10 ∷ after → taken ≡ without_cr line
    → Takes (Err fault) read.before taken new → Tells (Err fault) (read_of text)
bad_line text rest line after taken reading new (Line number) read no_end is cr stopped =
    let lines : lines_of rest ≡ taken ∷ lines_of after = ap (λ (l : List ℕ). lines_of l) is ∙ first_parted [] line after no_end ∙ ap (λ (l : List ℕ). l ∷ lines_of after) (sym cr) in
    read.same ∙ ap (λ (l : List (List ℕ)). script_of read.before l) lines ∙ stops read.before taken (lines_of after) stopped.0 ∙ ap (λ n. Err n) (sym stopped.1)
bad_line text rest line after taken reading new Memory read no_end is cr stopped = tt

-- the last line is bad, or all are read
pub bad_last : (text rest : List ℕ) (reading new : Reading) (fault : ScriptFault) (read : IsReadUpTo text rest reading) → HasNoEnd rest → Takes (Err fault) read.before rest new → Tells (Err fault) (read_of text)
bad_last text rest reading new (Line number) read no_end stopped =
    read.same ∙ ap (λ (l : List (List ℕ)). script_of read.before l) (last_parted [] rest no_end) ∙ stops read.before rest [] stopped.0 ∙ ap (λ n. Err n) (sym stopped.1)
bad_last text rest reading new Memory read no_end stopped = tt

pub read_all : (text rest : List ℕ) (reading new : Reading) (read : IsReadUpTo text rest reading) → HasNoEnd rest → (allows (seen_in read.before) (part_of rest) ≡ true) × (new ≡ reading_of (read.before ++ rest ∷ []))
    → (answer : Result Script ScriptFault) → ((before : List (List ℕ)) → new ≡ reading_of before → Tells answer (script_of before [])) → Tells answer (read_of text)
read_all text rest reading new read no_end took answer ends =
    subst (Tells answer) (sym (read.same ∙ ap (λ (l : List (List ℕ)). script_of read.before l) (last_parted [] rest no_end) ∙ goes_on read.before rest [] took.0)) (ends (read.before ++ rest ∷ []) took.1)
