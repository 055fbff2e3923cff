-- How runs go on: one after another, and by one more line.
use Rattle.std.proofs.Common.{◌≡◌, ℕ, List, [], ◌∷◌, ◌++◌, refl, sym, ap, ◌∙◌, append_assoc}
use Rattle.std.proofs.Common.{Option}
use Rattle.std.specs.Io.KnownBytes.{Appends}
use Rattle.std.proofs.KnownBytes.{Appends-nil, Appends-trans}
use Rattle.ct_transcript.specs.Transcript.{Served, Answered}

module _ {M L R : Type 0} (Step : M → L → R → M → Type 0) (spelling : R → List ℕ) where
  append_nil : {A : Type 0} → (xs : List A) → xs ++ [] ≡ xs
  append_nil [] = refl
  append_nil (x ∷ xs) = ap (λ rest. x ∷ rest) (append_nil xs)

  -- a run and one that goes on from its end are one run
  pub Served-append : (old : M) (lines : List L) (text : List ℕ) (mid : M) (more : List L) (others : List ℕ) (new : M)
      → Served Step spelling old lines text mid → Served Step spelling mid more others new → Served Step spelling old (lines ++ more) (text ++ others) new
  Served-append old [] text mid more others new first second = rw (first.0, ← first.1) second
  Served-append old (line ∷ lines) text mid more others new first second = (
    first.0,
    first.1,
    first.2 ++ others,
    first.3,
    ap (λ (t : List ℕ). t ++ others) first.4 ∙ append_assoc (spelling first.0) first.2 others,
    Served-append first.1 lines first.2 mid more others new first.5 second,
  )

  -- a run of one line
  pub Served-one : (old : M) (line : L) (reply : R) (new : M) → Step old line reply new → Served Step spelling old (line ∷ []) (spelling reply) new
  Served-one old line reply new step = (reply, new, [], step, sym (append_nil (spelling reply)), (refl, refl))

  -- nothing answered yet
  pub Answered-none : (m : M) (written : Option (List ℕ)) (waiting : List ℕ) → Answered Step spelling m [] m written written waiting waiting
  Answered-none m written waiting = record {
    text = [];
    put = [];
    served = (refl, refl);
    wrote = Appends-nil written;
    same = append_nil waiting;
  }

  -- one more line, whose reply waits
  pub Answered-line : (m : M) (line : L) (reply : R) (next : M) (written : Option (List ℕ)) (waiting now : List ℕ)
      → Step m line reply next → now ≡ waiting ++ spelling reply → Answered Step spelling m (line ∷ []) next written written waiting now
  Answered-line m line reply next written waiting now step longer = record {
    text = spelling reply;
    put = [];
    served = Served-one m line reply next step;
    wrote = Appends-nil written;
    same = sym longer;
  }

  -- one list of lines after another
  pub Answered-append : (m : M) (lines : List L) (mid : M) (more : List L) (new : M) (a b c : Option (List ℕ)) (u v w : List ℕ)
      → Answered Step spelling m lines mid a b u v → Answered Step spelling mid more new b c v w → Answered Step spelling m (lines ++ more) new a c u w
  Answered-append m lines mid more new a b c u v w first second = record {
    text = first.text ++ second.text;
    put = first.put ++ second.put;
    served = Served-append m lines first.text mid more second.text new first.served second.served;
    wrote = Appends-trans a b c first.put second.put first.wrote second.wrote;
    same = sym (append_assoc u first.text second.text) ∙ ap (λ (t : List ℕ). t ++ second.text) first.same ∙ append_assoc first.put v second.text
        ∙ ap (λ (t : List ℕ). first.put ++ t) second.same ∙ sym (append_assoc first.put second.put w);
  }

  -- a first part of what waits is put
  pub Answered-put : (m : M) (lines : List L) (new : M) (a b c : Option (List ℕ)) (u v part left : List ℕ)
      → Answered Step spelling m lines new a b u v → Appends b c part → v ≡ part ++ left → Answered Step spelling m lines new a c u left
  Answered-put m lines new a b c u v part left answered wrote split = record {
    text = answered.text;
    put = answered.put ++ part;
    served = answered.served;
    wrote = Appends-trans a b c answered.put part answered.wrote wrote;
    same = answered.same ∙ ap (λ (t : List ℕ). answered.put ++ t) split ∙ sym (append_assoc answered.put part left);
  }

  -- where a reply may always be given with nothing changed, lines that nobody looked at may have had it
  pub Served-passed : (pad : R) → ((m : M) (line : L) → Step m line pad m) → (m : M) (lines : List L) → (text : List ℕ) × Served Step spelling m lines text m
  Served-passed pad always m [] = ([], (refl, refl))
  Served-passed pad always m (line ∷ lines) = let rest = Served-passed pad always m lines in (spelling pad ++ rest.0, (pad, m, rest.0, always m line, refl, rest.1))

  pub Answered-passed : (pad : R) → ((m : M) (line : L) → Step m line pad m) → (m : M) (lines : List L) (written : Option (List ℕ)) (waiting : List ℕ)
      → (left : List ℕ) × Answered Step spelling m lines m written written waiting left
  Answered-passed pad always m lines written waiting = let passed = Served-passed pad always m lines in
      (waiting ++ passed.0, record { text = passed.0; put = []; served = passed.1; wrote = Appends-nil written; same = refl })
