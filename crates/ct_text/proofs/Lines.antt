-- The words of a line, read one after the other.
use Rattle.std.proofs.Common.{◌≡◌, ◌≢◌, ℕ, ◌+◌, ◌-◌, false, List, [], ◌∷◌, ◌++◌, length, take, drop, refl, Err, sym, ap, subst, ◌∙◌, append_assoc, arith}
use Rattle.std.specs.List.{prefix_len, concat}
use Rattle.std.proofs.lemmas.List.{length-append, length-take, take-append-drop, append-nil}
use Rattle.ct_text.specs.declared.word.Word.{Word}
use Rattle.ct_text.specs.declared.splitting.SplitFault.{SplitFault}
use Rattle.ct_text.specs.declared.splitting.SplitFault.TheVariants as faults
use Rattle.ct_text.specs.Words.{AreSpaces, HasWords, IsFirstFault, Splits}
use Rattle.ct_text.specs.Splitting.{is_space, is_parted, TakesWord, IsCause}
use Rattle.ct_text.proofs.Pieces.{IsWhole, IsWhole-spells, IsWhole-append, IsWhole-spaces, HasNoSpace, space_run, fault_after}

-- the line, up to a rest that begins with no space, has the words, whatever words the rest has
pub record SplitSo (line : List ℕ) (words : List Word) (rest : List ℕ) : Type 0 where
  pub front : List ℕ
  pub parts : line ≡ front ++ rest
  pub whole : IsWhole front
  pub goes_on : (more : List Word) → HasWords (length front) rest more → HasWords 0 line (words ++ more)
  pub stops : HasNoSpace rest

spaces-append : (a b : List ℕ) → AreSpaces a → AreSpaces b → AreSpaces (a ++ b)
spaces-append [] b h k = k
spaces-append (x ∷ a) b h k = (h.0, spaces-append a b h.1 k)

-- spaces before a text change none of its words
pub spaces_before : (at next : ℕ) (gap text : List ℕ) (words : List Word) → next ≡ at + length gap → AreSpaces gap → HasWords next text words → HasWords at (gap ++ text) words
spaces_before at next gap text [] e h k = spaces-append gap text h k
spaces_before at next gap text (word ∷ words) e h k =
    let b = k.2 in (
      k.0,
      k.1,
      record {
        gap = gap ++ b.gap;
        body = b.body;
        parts = ap (λ (l : List ℕ). gap ++ l) b.parts ∙ sym (append_assoc gap b.gap (b.body ++ k.0));
        spaces = spaces-append gap b.gap h b.spaces;
        place = omega (arith, b.place, length-append gap b.gap);
        some = b.some;
        spells = b.spells;
        end = b.end;
        parted = b.parted;
      },
      k.3,
    )

pub begins_split : (line rest : List ℕ) → rest ≡ drop (prefix_len is_space line) line → SplitSo line [] rest
begins_split line rest e =
    let n = prefix_len is_space line in
    let run = space_run line in
    let gap = take (prefix_len is_space line) line in
    rw e (record {
      front = gap;
      parts = sym (take-append-drop (prefix_len is_space line) line);
      whole = IsWhole-spaces gap run.0;
      goes_on = λ more h. subst (λ (l : List ℕ). HasWords 0 l more) (take-append-drop (prefix_len is_space line) line) (spaces_before 0 (length gap) gap (drop (prefix_len is_space line) line) more (omega arith) run.0 h);
      stops = run.1;
    })

-- the word at the front of a text, and the words of what follows it
next_words : (rest bytes : List ℕ) (at len : ℕ) (words : List Word) → TakesWord rest bytes len → HasWords (at + len) (drop len rest) words
    → HasWords at rest ((record { bytes = bytes; at = at }) ∷ words)
next_words rest bytes at len words takes h =
    let long : length (take len rest) ≡ len = omega (arith, length-take len rest, takes.within) in (
      drop len rest,
      at + len,
      record {
        gap = [];
        body = take len rest;
        parts = sym (take-append-drop len rest);
        spaces = tt;
        place = omega arith;
        some = takes.some;
        spells = takes.spells;
        end = omega (arith, long);
        parted = takes.parted;
      },
      h,
    )

pub split_more : (line rest after : List ℕ) (words : List Word) (bytes : List ℕ) (at len : ℕ) → SplitSo line words rest → TakesWord rest bytes len → at ≡ length line - length rest
    → after ≡ drop (prefix_len is_space (drop len rest)) (drop len rest) → SplitSo line (words ++ (record { bytes = bytes; at = at }) ∷ []) after
split_more line rest after words bytes at len so takes e a =
    let back = drop len rest in
    let run = space_run (drop len rest) in
    let gap = take (prefix_len is_space (drop len rest)) (drop len rest) in
    let parts_back : gap ++ after ≡ drop len rest = rw a (take-append-drop (prefix_len is_space (drop len rest)) (drop len rest)) in
    let parts_rest : take len rest ++ (gap ++ after) ≡ rest = rw parts_back (take-append-drop len rest) in
    let place : at ≡ length so.front = omega (arith, e, ap length so.parts, length-append so.front rest) in
    let long : length (take len rest) ≡ len = omega (arith, length-take len rest, takes.within) in
    let front = so.front ++ (take len rest ++ gap) in
    let end : length front ≡ at + len + length gap = omega (arith, place, long, length-append so.front (take len rest ++ gap), length-append (take len rest) gap) in
    let word : Word = record { bytes = bytes; at = at } in
    record {
      front = front;
      parts = so.parts ∙ ap (λ (l : List ℕ). so.front ++ l) (sym parts_rest) ∙ simp append_assoc;
      whole = IsWhole-append so.front (take len rest ++ gap) so.whole (IsWhole-append (take len rest) gap (IsWhole-spells (take len rest) bytes takes.spells) (IsWhole-spaces gap run.0));
      goes_on = λ more h.
          (let spaced = spaces_before (at + len) (length front) gap after more end run.0 h in
          let later : HasWords (at + len) (drop len rest) more = subst (λ (l : List ℕ). HasWords (at + len) l more) parts_back spaced in
          let all = so.goes_on (word ∷ more) (subst (λ (n : ℕ). HasWords n rest (word ∷ more)) place (next_words rest bytes at len more takes later)) in
          subst (λ (l : List Word). HasWords 0 line l) (sym (append_assoc words (word ∷ []) more)) all);
      stops = rw a run.1;
    }

pub split_ends : (line rest : List ℕ) (words : List Word) → SplitSo line words rest → rest ≡ [] → HasWords 0 line words
split_ends line rest words so e =
    let all = so.goes_on [] (rw e tt) in
    subst (λ (l : List Word). HasWords 0 line l) (append-nil words) all

-- a fault of the rest is one of the line
fault_behind : (line front rest : List ℕ) (offset place : ℕ) → line ≡ front ++ rest → IsWhole front → place ≡ length front + offset → IsFirstFault rest offset → IsFirstFault line place
fault_behind line front rest offset place parts whole e fault =
    let both = IsWhole-append front (concat fault.pieces) whole (record { pieces = fault.pieces; joined = refl; each = fault.whole }) in
    fault_after line (front ++ concat fault.pieces) fault.rest place (parts ∙ ap (λ (l : List ℕ). front ++ l) fault.parts ∙ sym (append_assoc front (concat fault.pieces) fault.rest))
    (omega (arith, e, fault.place, length-append front (concat fault.pieces))) both fault.some fault.stops

pub split_fails : (line rest : List ℕ) (words : List Word) (at : ℕ) (fault : SplitFault) → SplitSo line words rest → at ≡ length line - length rest → IsCause at rest fault → Splits line (Err fault)
split_fails line rest words at (faults.Bad place) so e cause =
    let here : at ≡ length so.front = omega (arith, e, ap length so.parts, length-append so.front rest) in
    fault_behind line so.front rest cause.0 place so.parts so.whole (cause.1 ∙ ap (λ (n : ℕ). n + cause.0) here) cause.2
split_fails line rest words at faults.Memory so e cause = tt

-- the same with names for the parts
pub starts : (line rest : List ℕ) (words : List Word) → words ≡ [] → rest ≡ drop (prefix_len is_space line) line → SplitSo line words rest
starts line rest words w e = rw w (begins_split line rest e)

pub takes_more : (line rest tail after : List ℕ) (words more : List Word) (bytes : List ℕ) (at len : ℕ) → SplitSo line words rest → TakesWord rest bytes len → at ≡ length line - length rest
    → tail ≡ drop len rest → after ≡ drop (prefix_len is_space tail) tail → more ≡ words ++ (record { bytes = bytes; at = at }) ∷ [] → SplitSo line more after
takes_more line rest tail after words more bytes at len so takes e t a m = rw m (split_more line rest after words bytes at len so takes e (rw t at a))
