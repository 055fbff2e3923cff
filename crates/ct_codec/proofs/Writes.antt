-- What writers leave that are called one after another.
use Rattle.std.proofs.Common.{◌≡◌, ℕ, ◌+◌, ◌<◌, ◌≤◌, List, [], ◌∷◌, ◌++◌, length, get_or, take, Result, Ok, Err, refl, sym, ap, ◌∙◌, arith}
use Rattle.std.specs.Prelude.{OnErr}
use Rattle.std.specs.List.{flat_map}
use Rattle.std.proofs.lemmas.List.{take-take, take_at, take_more, flat_map_more, length-append}
use Rattle.ct_codec.specs.Answers.{KeepsFront}

-- after a writer that ended, one that could not
pub KeepsFront-after : (old text mid new : List ℕ) → mid ≡ old ++ text → KeepsFront mid new → KeepsFront old new
KeepsFront-after old text mid new wrote keeps =
    let shorter : length old ≤ length mid = omega (arith, ap length wrote, length-append old text) in
    sym (take-take (length old) (length mid) new shorter) ∙ ap (take (length old)) (keeps ∙ wrote) ∙ take_at old text (length old) refl

pub on_err : {T E P : Type 0} (r : Result T E) → P → OnErr r P
on_err (Ok x) p = tt
on_err (Err e) p = p

-- one value more, as a loop writes them
pub written_more : {X : Type 0} (text : X → List ℕ) (old mid new : List ℕ) (xs : List X) (i : ℕ) (x : X) → i < length xs → x ≡ get_or xs i x → mid ≡ old ++ flat_map text (take i xs) → new ≡ mid ++ text x → new ≡ old ++ flat_map text (take (i + 1) xs)
written_more {X} text old mid new xs i x lt is so_far wrote =
    let more : take i xs ++ x ∷ [] ≡ take (i + 1) xs = ap (λ (y : X). take i xs ++ y ∷ []) is ∙ sym (take_more xs i x lt) in
    wrote ∙ ap (λ (bytes : List ℕ). bytes ++ text x) so_far ∙ flat_map_more text old (take i xs) x ∙ ap (λ (ys : List X). old ++ flat_map text ys) more
