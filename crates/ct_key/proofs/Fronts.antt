-- Bytes whose first eight differ, with zeros behind where there are fewer, compare as the numbers that these give.
use Rattle.std.proofs.Common.{◌≡◌, ◌≢◌, ℕ, zero, suc, ◌<◌, List, [], ◌∷◌, get_or, reverse, refl, sym, ap, ◌∙◌, arith}
use Rattle.std.proofs.lemmas.Bool.Decides.{nat_tests}
use Rattle.std.specs.declared.cmp.Ordering.{Ordering}
use Rattle.std.specs.declared.cmp.Ordering.TheVariants.{Less, Equal, Greater}
use Rattle.std.specs.Ordering.{nat_cmp, ordering_then}
use Rattle.std.specs.Cmp.Lexicographic.{slice_cmp}
use Rattle.ct_key.specs.Order.{number_of, front_bytes, front_number}
use Rattle.ct_key.proofs.ByteLemmas.{IsBytes}
use Rattle.ct_key.proofs.OrderLemmas.{slice_cmp-reverse}

-- the first n bytes, with zeros behind where there are fewer
abbrev padded : ℕ → List ℕ → List ℕ
padded zero bytes = []
padded (suc n) [] = 0 ∷ padded n []
padded (suc n) (byte ∷ bytes) = byte ∷ padded n bytes

padded-front : (bytes : List ℕ) → padded 8 bytes ≡ front_bytes bytes
padded-front [] = refl
padded-front (a ∷ []) = refl
padded-front (a ∷ b ∷ []) = refl
padded-front (a ∷ b ∷ c ∷ []) = refl
padded-front (a ∷ b ∷ c ∷ d ∷ []) = refl
padded-front (a ∷ b ∷ c ∷ d ∷ e ∷ []) = refl
padded-front (a ∷ b ∷ c ∷ d ∷ e ∷ f ∷ []) = refl
padded-front (a ∷ b ∷ c ∷ d ∷ e ∷ f ∷ g ∷ []) = refl
padded-front (a ∷ b ∷ c ∷ d ∷ e ∷ f ∷ g ∷ h ∷ rest) = refl

zeros-tie : (n : ℕ) → slice_cmp nat_cmp (padded n []) (padded n []) ≡ Equal
zeros-tie zero = refl
zeros-tie (suc n) = zeros-tie n

by_padded : (n : ℕ) (bytes others : List ℕ) → slice_cmp nat_cmp (padded n bytes) (padded n others) ≢ Equal → slice_cmp nat_cmp (padded n bytes) (padded n others) ≡ slice_cmp nat_cmp bytes others
by_padded zero bytes others apart = absurd (apart refl)
by_padded (suc n) [] [] apart = absurd (apart (zeros-tie n))
by_padded (suc n) [] (zero ∷ others) apart = below others (by_padded n [] others apart) apart
  where
    below : (rest : List ℕ) → slice_cmp nat_cmp (padded n []) (padded n rest) ≡ slice_cmp nat_cmp [] rest → slice_cmp nat_cmp (padded n []) (padded n rest) ≢ Equal → slice_cmp nat_cmp (padded n []) (padded n rest) ≡ Less
    below [] same apart = absurd (apart same)
    below (y ∷ ys) same apart = same
by_padded (suc n) [] (suc y ∷ others) apart =
    let less : nat_cmp 0 (suc y) ≡ Less = grind (arith, nat_tests) in
    ap (λ o. ordering_then o (slice_cmp nat_cmp (padded n []) (padded n others))) less
by_padded (suc n) (zero ∷ bytes) [] apart = above bytes (by_padded n bytes [] apart) apart
  where
    above : (rest : List ℕ) → slice_cmp nat_cmp (padded n rest) (padded n []) ≡ slice_cmp nat_cmp rest [] → slice_cmp nat_cmp (padded n rest) (padded n []) ≢ Equal → slice_cmp nat_cmp (padded n rest) (padded n []) ≡ Greater
    above [] same apart = absurd (apart same)
    above (x ∷ xs) same apart = same
by_padded (suc n) (suc x ∷ bytes) [] apart =
    let greater : nat_cmp (suc x) 0 ≡ Greater = grind (arith, nat_tests) in
    ap (λ o. ordering_then o (slice_cmp nat_cmp (padded n bytes) (padded n []))) greater
by_padded (suc n) (x ∷ bytes) (y ∷ others) apart = by_first (nat_cmp x y) (by_padded n bytes others) apart
  where
    by_first : (first : Ordering) → (slice_cmp nat_cmp (padded n bytes) (padded n others) ≢ Equal → slice_cmp nat_cmp (padded n bytes) (padded n others) ≡ slice_cmp nat_cmp bytes others)
        → ordering_then first (slice_cmp nat_cmp (padded n bytes) (padded n others)) ≢ Equal
        → ordering_then first (slice_cmp nat_cmp (padded n bytes) (padded n others)) ≡ ordering_then first (slice_cmp nat_cmp bytes others)
    by_first Less rest apart = refl
    by_first Equal rest apart = rest apart
    by_first Greater rest apart = refl

module _ (bytes others : List ℕ) (each : (k : ℕ) → get_or bytes k 0 < 256) (other : (k : ℕ) → get_or others k 0 < 256) where
  by_fronts : slice_cmp nat_cmp (padded 8 bytes) (padded 8 others) ≡ nat_cmp (front_number bytes) (front_number others)
  by_fronts =
      ap (λ (l : List ℕ). slice_cmp nat_cmp l (padded 8 others)) (padded-front bytes)
      ∙ ap (λ (l : List ℕ). slice_cmp nat_cmp (front_bytes bytes) l) (padded-front others)
      ∙ slice_cmp-reverse (reverse (front_bytes bytes)) (reverse (front_bytes others)) refl
      (each 7, (each 6, (each 5, (each 4, (each 3, (each 2, (each 1, (each 0, tt))))))))
      (other 7, (other 6, (other 5, (other 4, (other 3, (other 2, (other 1, (other 0, tt))))))))

  pub by_front_numbers : (x y : ℕ) → x ≡ front_number bytes → y ≡ front_number others → x ≢ y → nat_cmp x y ≡ slice_cmp nat_cmp bytes others
  by_front_numbers x y first second apart =
      let same : nat_cmp x y ≡ slice_cmp nat_cmp (padded 8 bytes) (padded 8 others) = ap (λ n. nat_cmp n y) first ∙ ap (nat_cmp (front_number bytes)) second ∙ sym by_fronts in
      let no_tie : nat_cmp x y ≢ Equal = differ x y apart in
      same ∙ by_padded 8 bytes others (λ tie. no_tie (same ∙ tie))
    where
      differ : (x y : ℕ) → x ≢ y → nat_cmp x y ≢ Equal
      differ x y apart tie = grind (arith, nat_tests)
