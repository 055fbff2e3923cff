-- New programs on new pages in memory stand.
use Rattle.std.proofs.Common.{◌≡◌, ℕ, zero, suc, ◌+◌, ◌<◌, ◌≤◌, List, [], ◌∷◌, ◌++◌, add-one, length, map, get_or, sym, ap, ◌∙◌, arith, subst, inl, inr}
use Rattle.std.specs.Prelude.{IfOk, Result, Ok, Err}
use Rattle.std.specs.List.{All, range_with_len}
use Rattle.std.proofs.lemmas.List.{length-map, map_push}
use Rattle.std.proofs.lemmas.List.Elements.{All-weaker}
use Rattle.std.proofs.lemmas.List.FromFn.{get_or-range_with_len, length-range_with_len}
use Rattle.ct_definitions.specs.Pairs.{Pair}
use Rattle.ct_node.specs.declared.root.Root.{Root}
use Rattle.ct_node.specs.Worlds.{World, with_lost}
use Rattle.ct_node.specs.MemWorlds.{new_world}
use Rattle.ct_tree_laws.specs.declared.walk.Stage.TheVariants as stage
use Rattle.ct_tree_laws.specs.Trees.{Chain}
use Rattle.ct_tree_laws.specs.Stands.{Stands}
use Rattle.ct_tree_laws.proofs.NewTree.{new_stands, new_chain}
use Rattle.ct_node.specs.declared.target.Target.TheVariants.{First, At}
use Rattle.ct_tree_laws.specs.declared.walk.Walk.{Walk}
use Rattle.ct_tree.specs.declared.put.Put.{Put}
use Rattle.ct_tree.specs.declared.search.Search.{Search}
use Rattle.ct_tree.specs.declared.program.Program.TheVariants as program
use Rattle.ct_tree.specs.declared.program.Program.{Program}
use Rattle.ct_tree.specs.declared.program.Happened.{Happened}
use Rattle.ct_tree.specs.Answers.{IsPair, IsPutting, IsSearchingBy}
use Rattle.ct_tree.specs.Schedules.{Task, Runs, walk_of, moves_of, ways_of, op_of, IsNew, MayMark, IsStanding, AllStand, HaveOwnNumbers}
use Rattle.ct_tree.specs.Counted.{IsCounted}
use Rattle.ct_tree.specs.Roles.{HasCome}
use Rattle.ct_tree.proofs.Coming.{come_start}
use Rattle.ct_tree.proofs.Done.{seek_start}

pub new_all_stand : (key_len : ℕ) (programs : List Program) (w : World) → 1 ≤ key_len → key_len ≤ 128 → w ≡ new_world key_len → All (IsNew key_len) programs → AllStand programs w
new_all_stand key_len programs w some short is all =
    All-weaker (IsNew key_len) (IsStanding w)
    (λ program new. record { stands = subst (λ at. Stands (walk_of program) at w) (sym new.starts) (subst (Stands (walk_of program) stage.Start) (sym is) (new_stands key_len some short (walk_of program) new.at new.key)); counted = subst (λ at. IsCounted at (moves_of program) w) (sym new.starts) new.still; come = subst (λ at. HasCome at (ways_of program) w) (sym new.starts) (come_start (ways_of program) w) }) programs all

pub own_from_range : (programs : List Program) → map op_of programs ≡ range_with_len 0 (length programs) → HaveOwnNumbers programs
own_from_range programs is i j first second one =
    let at : (k : ℕ) → k < length programs → get_or (map op_of programs) k 0 ≡ k = λ k within. ap (λ ops. get_or ops k 0) is ∙ number k within in
    sym (at i first) ∙ one ∙ at j second
  where
    number : (k : ℕ) → k < length programs → get_or (range_with_len 0 (length programs)) k 0 ≡ k
    number k within = get_or-range_with_len 0 (length programs) k 0 within ∙ (let none : 0 + k ≡ k = omega arith in none)

-- from no pair on
pub runs_in_new : {T E : Type 0} (key_len : ℕ) (tasks : List Task) (items : T → List Happened) (sound : List ℕ → Type 0) (Stand : World → Type 0) (w now : World) (result : Result T E) → 1 ≤ key_len → key_len ≤ 128 → w ≡ new_world key_len → sound [] → Stand (with_lost [] w) → IfOk result (λ happened. (lost : List ℕ) → sound lost → Stand (with_lost lost w) → (at : Root) (keys : List Pair) → Chain (with_lost lost w) at keys → (later : List Pair) × Runs at tasks (items happened) keys later × Chain (with_lost lost now) at later) → IfOk result (λ happened. (later : List Pair) × Runs (record { page = 0; index = 0 }) tasks (items happened) [] later)
runs_in_new key_len tasks items sound Stand w now (Ok happened) some short is first stand law =
    let made = law [] first stand (record { page = 0; index = 0 }) [] (subst (λ v. Chain (with_lost [] v) (record { page = 0; index = 0 }) []) (sym is) (new_chain key_len some short)) in
    (made.0, made.1)
runs_in_new key_len tasks items sound Stand w now (Err fault) some short is first stand law = tt

-- any operation may bear its mark where all marks are allowed
pub may_one : (program : Program) → MayMark (λ op mark effect. Unit {0}) program
may_one (program.Put put) = inr (λ pair is. tt)
may_one (program.Take take) = inr (λ pair is. tt)
may_one (program.Search search) = tt

pub may_all : (programs : List Program) → All (MayMark (λ op mark effect. Unit {0})) programs
may_all programs k d inside = may_one (get_or programs k d)

range-more : (from n : ℕ) → range_with_len from (n + 1) ≡ range_with_len from n ++ (from + n) ∷ []
range-more from n = rw add-one (by_number n from)
  where
    by_number : (n from : ℕ) → range_with_len from (suc n) ≡ range_with_len from n ++ (from + n) ∷ []
    by_number zero from = ap (λ k. k ∷ []) (let none : from ≡ from + 0 = omega arith in none)
    by_number (suc n) from = ap (λ rest. from ∷ rest) (by_number n (from + 1)) ∙ ap (λ k. from ∷ (range_with_len (from + 1) n ++ k ∷ [])) (let same : from + 1 + n ≡ from + suc n = omega arith in same)

pub numbers_more : (programs : List Program) (one : Program) (n : ℕ) → map op_of programs ≡ range_with_len 0 n → op_of one ≡ n → map op_of (programs ++ one ∷ []) ≡ range_with_len 0 (n + 1)
numbers_more programs one n before is =
    map_push op_of programs one ∙ ap (λ ops. ops ++ op_of one ∷ []) before ∙ ap (λ k. range_with_len 0 n ++ k ∷ []) (is ∙ (let none : n ≡ 0 + n = omega arith in none)) ∙ sym (range-more 0 n)

pub numbers_count : (programs : List Program) (n : ℕ) → map op_of programs ≡ range_with_len 0 n → length programs ≡ n
numbers_count programs n is = sym (length-map programs op_of) ∙ ap length is ∙ length-range_with_len 0 n

-- a put that was made for such an index is new
pub new_put : (put : Put) (key_len op : ℕ) (pair : Pair) → put.walk ≡ record { op = op; at = record { page = 0; index = 0 }; target = At pair } → put.stage ≡ stage.Start → put.moves ≡ 0 → length pair.key ≡ key_len → IsNew key_len (program.Put put)
new_put put key_len op pair walk starts still key = record {
  at = ap (λ (w : Walk). w.at) walk;
  starts = starts;
  still = still;
  ready = (subst (λ (w : Walk). IsPair w.target) (sym walk) tt, inl (subst IsPutting (sym starts) tt));
  key = λ other is. let both : At pair ≡ At other = sym (ap (λ (w : Walk). w.target) walk) ∙ is in let same : pair ≡ other = cc in ap (λ (p : Pair). length p.key) (sym same) ∙ key;
}

-- so is a search for the first pair
pub new_search : (search : Search) (key_len op : ℕ) → search.walk ≡ record { op = op; at = record { page = 0; index = 0 }; target = First } → search.stage ≡ stage.Start → search.moves ≡ 0 → IsNew key_len (program.Search search)
new_search search key_len op walk starts still = record {
  at = ap (λ (w : Walk). w.at) walk;
  starts = starts;
  still = still;
  ready = inl (subst (IsSearchingBy search.seek) (sym starts) (seek_start search.seek));
  key = λ other is. absurd (let no : First ≡ At other = sym (ap (λ (w : Walk). w.target) walk) ∙ is in cc);
}
