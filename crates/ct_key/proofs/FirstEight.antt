-- Bytes compare by the number that their first eight give, and then by the rest.
use Rattle.std.proofs.Common.{◌≡◌, ◌≢◌, ◌-◌, ℕ, suc, ◌≤◌, ◌<◌, List, [], ◌∷◌, ◌++◌, length, get_or, take, drop, reverse, sym, ap, ◌∙◌, arith, length-take-le, length-drop}
use Rattle.std.proofs.lemmas.Bool.Decides.{nat_tests}
use Rattle.std.proofs.lemmas.List.{length-reverse, reverse-reverse, take_all, take-append-drop}
use Rattle.std.specs.declared.cmp.Ordering.{Ordering}
use Rattle.std.specs.Ordering.{nat_cmp, ordering_then}
use Rattle.std.specs.Cmp.Lexicographic.{slice_cmp}
use Rattle.ct_key.specs.Order.{number_of}
use Rattle.ct_key.proofs.ByteLemmas.{IsBytes, IsBytes-take, IsBytes-reverse}
use Rattle.ct_key.proofs.OrderLemmas.{slice_cmp-append, slice_cmp-reverse}

pub bytes_below : (bytes : List ℕ) → ((k : ℕ) → get_or bytes k 0 < 256) → IsBytes bytes
bytes_below [] each = tt
bytes_below (byte ∷ bytes) each = (each 0, bytes_below bytes (λ k. each (suc k)))

module _ (bytes others : List ℕ) (each : IsBytes bytes) (other : IsBytes others) (long : 8 ≤ length bytes) (long_too : 8 ≤ length others) where
  fronts : slice_cmp nat_cmp (take 8 bytes) (take 8 others) ≡ nat_cmp (number_of (reverse (take 8 bytes))) (number_of (reverse (take 8 others)))
  fronts =
      let xs = reverse (take 8 bytes) in
      let ys = reverse (take 8 others) in
      let same : length xs ≡ length ys =
      length-reverse (take 8 bytes) ∙ length-take-le 8 bytes long ∙ sym (length-take-le 8 others long_too) ∙ sym (length-reverse (take 8 others)) in
      ap (λ (l : List ℕ). slice_cmp nat_cmp l (take 8 others)) (sym (reverse-reverse (take 8 bytes)))
      ∙ ap (λ (l : List ℕ). slice_cmp nat_cmp (reverse xs) l) (sym (reverse-reverse (take 8 others)))
      ∙ slice_cmp-reverse xs ys same (IsBytes-reverse (take 8 bytes) (IsBytes-take 8 bytes each)) (IsBytes-reverse (take 8 others) (IsBytes-take 8 others other))

  by_front : slice_cmp nat_cmp bytes others ≡ ordering_then (nat_cmp (number_of (reverse (take 8 bytes))) (number_of (reverse (take 8 others)))) (slice_cmp nat_cmp (drop 8 bytes) (drop 8 others))
  by_front =
      ap (λ (l : List ℕ). slice_cmp nat_cmp l others) (sym (take-append-drop 8 bytes))
      ∙ ap (λ (l : List ℕ). slice_cmp nat_cmp (take 8 bytes ++ drop 8 bytes) l) (sym (take-append-drop 8 others))
      ∙ slice_cmp-append (take 8 bytes) (take 8 others) (drop 8 bytes) (drop 8 others) (length-take-le 8 bytes long ∙ sym (length-take-le 8 others long_too))
      ∙ ap (λ (o : Ordering). ordering_then o (slice_cmp nat_cmp (drop 8 bytes) (drop 8 others))) fronts

-- numbers that differ decide
differ : (x y : ℕ) (rest : Ordering) → x ≢ y → ordering_then (nat_cmp x y) rest ≡ nat_cmp x y
differ x y rest apart = grind (arith, nat_tests)

-- and else the rest does
tie : (x y : ℕ) (rest : Ordering) → x ≡ y → ordering_then (nat_cmp x y) rest ≡ rest
tie x y rest same = grind (arith, nat_tests)

-- the rest of some bytes, as it is cut
rest_of : (bytes : List ℕ) → take (length bytes - 8) (drop 8 bytes) ≡ drop 8 bytes
rest_of bytes = take_all (length bytes - 8) (drop 8 bytes) (omega (arith, length-drop 8 bytes))

module _ (bytes others : List ℕ) (each : IsBytes bytes) (other : IsBytes others) (long : 8 ≤ length bytes) (long_too : 8 ≤ length others) (x y : ℕ) (result : Ordering)
    (first : x ≡ number_of (reverse (take 8 bytes))) (second : y ≡ number_of (reverse (take 8 others))) where
  by_numbers : slice_cmp nat_cmp bytes others ≡ ordering_then (nat_cmp x y) (slice_cmp nat_cmp (drop 8 bytes) (drop 8 others))
  by_numbers =
      let rest = slice_cmp nat_cmp (drop 8 bytes) (drop 8 others) in
      by_front bytes others each other long long_too
      ∙ ap (λ n. ordering_then (nat_cmp n (number_of (reverse (take 8 others)))) rest) (sym first)
      ∙ ap (λ n. ordering_then (nat_cmp x n) rest) (sym second)

  pub decided : x ≢ y → result ≡ nat_cmp x y → result ≡ slice_cmp nat_cmp bytes others
  decided apart is = is ∙ sym (by_numbers ∙ differ x y (slice_cmp nat_cmp (drop 8 bytes) (drop 8 others)) apart)

  pub tied : x ≡ y → result ≡ slice_cmp nat_cmp (take (length bytes - 8) (drop 8 bytes)) (take (length others - 8) (drop 8 others)) → result ≡ slice_cmp nat_cmp bytes others
  tied same is =
      is ∙ ap (λ (l : List ℕ). slice_cmp nat_cmp l (take (length others - 8) (drop 8 others))) (rest_of bytes)
      ∙ ap (λ (l : List ℕ). slice_cmp nat_cmp (drop 8 bytes) l) (rest_of others)
      ∙ sym (by_numbers ∙ tie x y (slice_cmp nat_cmp (drop 8 bytes) (drop 8 others)) same)
