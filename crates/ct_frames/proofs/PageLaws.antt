-- What a page is after images and others behind them.
use Rattle.std.proofs.Common.{◌≡◌, ℕ, Bool, List, ◌++◌, ◌==◌, Option, Some, None, reverse, refl, ap, ◌∙◌}
use Rattle.std.specs.Prelude.{find}
use Rattle.std.specs.Option.{option_map_or, option_or}
use Rattle.std.proofs.lemmas.List.{reverse-append}
use Rattle.std.proofs.lemmas.List.Folds.{find-append}
use Rattle.ct_frames.specs.Pages.{PageImage, page_at, placed}

-- the first of two choices that there is
or_else : {A B : Type 0} (f : A → B) (a b : Option A) (d : B) → option_map_or f (option_or a b) d ≡ option_map_or f a (option_map_or f b d)
or_else f None b d = refl
or_else f (Some x) b d = refl

-- images after others are images over the pages that the others gave
pub page_at-append : (base : ℕ → List ℕ) (first second : List PageImage) (page : ℕ) → page_at base (first ++ second) page ≡ page_at (page_at base first) second page
page_at-append base first second page =
    let same : PageImage → Bool = λ image. image.page == page in
    ap (λ images. option_map_or placed (find same images) (base page)) (reverse-append first second)
    ∙ ap (λ found. option_map_or placed found (base page)) (find-append same (reverse second) (reverse first))
    ∙ or_else placed (find same (reverse second)) (find same (reverse first)) (base page)
