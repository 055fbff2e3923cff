-- Lost pages: the calls of operations leave them, and a stop leaves a tree in which the fresh pages are lost.
use Rattle.std.proofs.Common.{◌≡◌, ℕ, ◌^◌, ◌<◌, ◌&&◌, Bool, true, false, not, List, [], ◌∷◌, ◌++◌, map, filter, cond, eqb, refl, sym, ap, ◌∙◌, subst, arith}
use Rattle.std.proofs.lemmas.Bool.{false≢true, eqb-true, eqb-false, and_right, ne_eqb}
use Rattle.ct_disk.specs.declared.turn.Turn.{Turn}
use Rattle.ct_disk.specs.declared.turn.Turn.TheVariants.{Done, More, Busy, Refused}
use Rattle.ct_node.specs.declared.root.Owner.{Owner}
use Rattle.ct_node.specs.declared.root.Root.{Root}
use Rattle.ct_node.specs.Nodes.{NodeValue}
use Rattle.ct_node.specs.Turns.{After, OnDone}
use Rattle.ct_node.specs.Worlds.{World, PageValue, Holds, is_owner, lost_owner, with_lost, edited, rooted, rooted_page, page_at}

-- no operation has a lost page
not_lost : (op right page : ℕ) → op < 2 ^ 64 → not (is_owner op right (lost_owner page)) ≡ true
not_lost op right page small = ap not (and_right (eqb page right) (eqb (2 ^ 64) op) (ne_eqb (2 ^ 64) op (λ same. omega (arith, same))))

filter-owners : (op right : ℕ) (fresh : List Owner) (lost : List ℕ) → op < 2 ^ 64 → filter (λ owner. not (is_owner op right owner)) fresh ++ map lost_owner lost ≡ filter (λ owner. not (is_owner op right owner)) (fresh ++ map lost_owner lost)
filter-owners op right [] [] small = refl
filter-owners op right [] (page ∷ lost) small =
    let rest = filter-owners op right [] lost small in
    ap (λ (l : List Owner). lost_owner page ∷ l) rest
    ∙ ap (λ b. cond b (lost_owner page ∷ filter (λ owner. not (is_owner op right owner)) (map lost_owner lost)) (filter (λ owner. not (is_owner op right owner)) (map lost_owner lost))) (sym (not_lost op right page small))
filter-owners op right (owner ∷ fresh) lost small = by_test (not (is_owner op right owner)) (filter-owners op right fresh lost small)
  where
    by_test : (test : Bool) → filter (λ owner. not (is_owner op right owner)) fresh ++ map lost_owner lost ≡ filter (λ owner. not (is_owner op right owner)) (fresh ++ map lost_owner lost)
        → cond test (owner ∷ filter (λ owner. not (is_owner op right owner)) fresh) (filter (λ owner. not (is_owner op right owner)) fresh) ++ map lost_owner lost ≡ cond test (owner ∷ filter (λ owner. not (is_owner op right owner)) (fresh ++ map lost_owner lost)) (filter (λ owner. not (is_owner op right owner)) (fresh ++ map lost_owner lost))
    by_test true rest = ap (λ (l : List Owner). owner ∷ l) rest
    by_test false rest = rest

-- an edit and a new root leave the lost pages
pub lost_edited : (lost : List ℕ) (op page : ℕ) (node : NodeValue) (w : World) → op < 2 ^ 64 → with_lost lost (edited op page node w) ≡ edited op page node (with_lost lost w)
lost_edited lost op page node w small = ap (λ fresh. record (edited op page node w) { fresh = fresh }) (filter-owners op node.right w.fresh lost small)

pub lost_rooted : (lost : List ℕ) (op : ℕ) (at : Root) (page : ℕ) (w : World) → op < 2 ^ 64 → with_lost lost (rooted op at page w) ≡ rooted op at page (with_lost lost w)
lost_rooted lost op at page w small = ap (λ fresh. record (rooted op at page w) { fresh = fresh }) (filter-owners op page w.fresh lost small)

-- the world after a call
pub lost_after : (lost : List ℕ) (turn : Turn (Unit {0})) (changed : Unit {0} → World) (w now : World) → After turn changed w now → After turn (λ told. with_lost lost (changed told)) (with_lost lost w) (with_lost lost now)
lost_after lost (Done answer) changed w now is = ap (with_lost lost) is
lost_after lost More changed w now is = ap (with_lost lost) is
lost_after lost (Busy op) changed w now is = ap (with_lost lost) is
lost_after lost (Refused fault) changed w now is = ap (with_lost lost) is

pub lost_after_edit : (lost : List ℕ) (turn : Turn (Unit {0})) (op page : ℕ) (node : NodeValue) (w now : World) → op < 2 ^ 64 → After turn (λ _. edited op page node w) w now → After turn (λ _. edited op page node (with_lost lost w)) (with_lost lost w) (with_lost lost now)
lost_after_edit lost (Done answer) op page node w now small is = ap (with_lost lost) is ∙ lost_edited lost op page node w small
lost_after_edit lost More op page node w now small is = ap (with_lost lost) is
lost_after_edit lost (Busy other) op page node w now small is = ap (with_lost lost) is
lost_after_edit lost (Refused fault) op page node w now small is = ap (with_lost lost) is

pub lost_after_root : (lost : List ℕ) (turn : Turn (Unit {0})) (op : ℕ) (at : Root) (page : ℕ) (w now : World) → op < 2 ^ 64 → After turn (λ _. rooted op at page w) w now → After turn (λ _. rooted op at page (with_lost lost w)) (with_lost lost w) (with_lost lost now)
lost_after_root lost (Done answer) op at page w now small is = ap (with_lost lost) is ∙ lost_rooted lost op at page w small
lost_after_root lost More op at page w now small is = ap (with_lost lost) is
lost_after_root lost (Busy other) op at page w now small is = ap (with_lost lost) is
lost_after_root lost (Refused fault) op at page w now small is = ap (with_lost lost) is

-- a fact of a call that was done, or not
pub on_done : (turn : Turn (Unit {0})) (fact : Type 0) → fact → OnDone turn (λ _. fact)
on_done (Done answer) fact is = is
on_done More fact is = tt
on_done (Busy op) fact is = tt
on_done (Refused fault) fact is = tt
