-- A list of programs after the turn of one of them, and a list of what happened.
use Rattle.std.proofs.Common.{◌≡◌, ℕ, ◌+◌, ◌<◌, ◌≤◌, List, [], ◌∷◌, ◌++◌, length, map, set, get_or, take, refl, sym, ap, ◌∙◌, arith, subst, ⊎_elim, Some}
use Rattle.std.specs.Prelude.{slice_get}
use Rattle.std.specs.List.{All}
use Rattle.std.proofs.lemmas.Bool.{cases_eq}
use Rattle.std.proofs.lemmas.List.{map-set, get_or-map, set-get_or, get_or-set_same, get_or-set_other, length-set, length-map, length_push, map_push, take_more}
use Rattle.std.proofs.lemmas.Option.{slice_get-get_or}
use Rattle.ct_disk.specs.declared.turn.Turn.{Turn}
use Rattle.ct_definitions.specs.Pairs.{Pair}
use Rattle.ct_node.specs.declared.root.Root.{Root}
use Rattle.ct_node.specs.declared.root.Mark.{Mark}
use Rattle.ct_node.specs.Worlds.{World, Effect, with_lost}
use Rattle.ct_tree_laws.specs.Trees.{Chain}
use Rattle.ct_tree_laws.specs.Stands.{Stands, Stepped}
use Rattle.ct_tree_laws.specs.declared.walk.Stage.{Stage}
use Rattle.ct_tree.specs.declared.program.Program.{Program}
use Rattle.ct_tree.specs.Moves.{spot_of}
use Rattle.ct_tree.specs.Counted.{IsCounted}
use Rattle.ct_tree.specs.Roles.{HasCome}
use Rattle.ct_tree.proofs.Counting.{counted_kept}
use Rattle.ct_tree.proofs.Coming.{come_kept}
use Rattle.ct_tree.specs.declared.program.Answer.{Answer}
use Rattle.ct_tree.specs.declared.program.Happened.{Happened}
use Rattle.ct_tree.specs.Schedules.{Task, walk_of, stage_of, moves_of, ways_of, task_of, op_of, mark_of, IsReady, MayDo, MayMark, IsStanding, AllStand, HaveOwnNumbers, Happens, HappensAt, Runs, places_of}

-- what the turn of one leaves of it stays of all
pub map-turned : {B : Type 0} (f : Program → B) (programs : List Program) (place : ℕ) (p q : Program) → place < length programs → p ≡ get_or programs place p → f q ≡ f p → map f (set programs place q) ≡ map f programs
map-turned f programs place p q within is same =
    map-set f programs place q ∙ ap (set (map f programs) place) (same ∙ ap f is ∙ sym (get_or-map f programs place p (f p) within)) ∙ set-get_or (map f programs) place (f p)

pub turned_ready : (programs : List Program) (place : ℕ) (q : Program) → place < length programs → IsReady q → All IsReady programs → All IsReady (set programs place q)
turned_ready programs place q within ready all k d inside = ⊎_elim
    (λ one. subst IsReady (sym (ap (λ j. get_or (set programs place q) j d) one ∙ get_or-set_same programs place q d within)) ready)
    (λ differ. subst IsReady (sym (get_or-set_other programs place k q d differ)) (all k d (let long = length-set programs place q in omega arith)))
    (cases_eq k place)

op_at : (programs : List Program) (k : ℕ) (d : Program) → k < length programs → get_or (map op_of programs) k 0 ≡ op_of (get_or programs k d)
op_at programs k d inside = get_or-map op_of programs k d 0 inside

pub turned_stand : (programs : List Program) (place : ℕ) (p q : Program) (w now : World) → place < length programs → p ≡ get_or programs place p → HaveOwnNumbers programs → walk_of q ≡ walk_of p → Stepped (walk_of p) (stage_of q) w now → IsCounted (stage_of q) (moves_of q) now → HasCome (stage_of q) (ways_of q) now → AllStand programs w → AllStand (set programs place q) now
turned_stand programs place p q w now within is own same stepped counted come all k d inside = ⊎_elim here elsewhere (cases_eq k place)
  where
    here : k ≡ place → IsStanding now (get_or (set programs place q) k d)
    here one =
        let there : get_or (set programs place q) k d ≡ q = ap (λ j. get_or (set programs place q) j d) one ∙ get_or-set_same programs place q d within in
        let stands : Stands (walk_of q) (stage_of q) now = subst (λ walk. Stands walk (stage_of q) now) (sym same) stepped.stands in
        subst (IsStanding now) (sym there) (record { stands = stands; counted = counted; come = come })

    others_count : (at : Stage) (moves : ℕ) → IsCounted at moves w → IsCounted at moves now
    others_count at moves counts = counted_kept w now (spot_of at) moves stepped.levels stepped.at counts

    elsewhere : (k ≡ place → ⊥) → IsStanding now (get_or (set programs place q) k d)
    elsewhere differ =
        let there : get_or (set programs place q) k d ≡ get_or programs k d = get_or-set_other programs place k q d differ in
        let long : length (set programs place q) ≡ length programs = length-set programs place q in
        let inside_old : k < length programs = omega arith in
        let other : (walk_of (get_or programs k d)).op ≡ (walk_of p).op → ⊥ = λ one. differ (own k place inside_old within (op_at programs k d inside_old ∙ one ∙ ap op_of is ∙ sym (op_at programs place p within))) in
        let was = all k d inside_old in
        subst (IsStanding now) (sym there) (record { stands = stepped.keeps (walk_of (get_or programs k d)) (stage_of (get_or programs k d)) other was.stands; counted = others_count (stage_of (get_or programs k d)) (moves_of (get_or programs k d)) was.counted; come = come_kept (walk_of p) (stage_of q) (stage_of (get_or programs k d)) (ways_of (get_or programs k d)) w now stepped was.come })

pub happens_at : (programs : List Program) (place : ℕ) (p : Program) (turn : Turn Answer) (w now : World) → place < length programs → p ≡ get_or programs place p → ((at : Root) (keys : List Pair) → Chain w at keys → (later : List Pair) × Happens at (task_of p) turn keys later × Chain now at later) → (at : Root) (keys : List Pair) → Chain w at keys → (later : List Pair) × HappensAt at (slice_get (map task_of programs) place) turn keys later × Chain now at later
happens_at programs place p turn w now within is happens at keys chain =
    let long : length (map task_of programs) ≡ length programs = length-map programs task_of in
    let found : slice_get (map task_of programs) place ≡ Some (task_of p) = slice_get-get_or (map task_of programs) place (task_of p) (omega arith) ∙ ap Some (get_or-map task_of programs place p (task_of p) within ∙ ap task_of (sym is)) in
    subst (λ task. (later : List Pair) × HappensAt at task turn keys later × Chain now at later) (sym found) (happens at keys chain)

-- one more turn at the end of a list
pub Runs-more : (at : Root) (tasks : List Task) (happened : List Happened) (one : Happened) (keys mid now : List Pair) → Runs at tasks happened keys mid → HappensAt at (slice_get tasks one.program) one.turn mid now → Runs at tasks (happened ++ one ∷ []) keys now
Runs-more at tasks [] one keys mid now before happens = (now, subst (λ from. HappensAt at (slice_get tasks one.program) one.turn from now) before happens, refl)
Runs-more at tasks (first ∷ happened) one keys mid now before happens = (before.0, before.1, Runs-more at tasks happened one before.0 mid now before.2 happens)

-- operations with the same numbers, marks and tasks may make the same steps
pub may_still : (allows : ℕ → Mark → Effect → Type 0) (programs current : List Program) → map op_of current ≡ map op_of programs → map mark_of current ≡ map mark_of programs → map task_of current ≡ map task_of programs → All (MayMark allows) programs → All (MayMark allows) current
may_still allows programs current ops marks tasks may k d inside =
    let long : length programs ≡ length current = sym (length-map programs op_of) ∙ ap length (sym ops) ∙ length-map current op_of in
    let within : k < length programs = omega arith in
    let op : op_of (get_or programs k d) ≡ op_of (get_or current k d) = at_same op_of programs current k d ops within inside in
    let mark : mark_of (get_or programs k d) ≡ mark_of (get_or current k d) = at_same mark_of programs current k d marks within inside in
    let task : task_of (get_or programs k d) ≡ task_of (get_or current k d) = at_same task_of programs current k d tasks within inside in
    subst (λ one. MayDo (allows (op_of (get_or current k d))) (mark_of (get_or current k d)) one) task
    (subst (λ one. MayDo (allows (op_of (get_or current k d))) one (task_of (get_or programs k d))) mark
    (subst (λ one. MayDo (allows one) (mark_of (get_or programs k d)) (task_of (get_or programs k d))) op (may k d within)))
  where
    at_same : {B : Type 0} (f : Program → B) (first second : List Program) (k : ℕ) (d : Program) → map f second ≡ map f first → k < length first → k < length second → f (get_or first k d) ≡ f (get_or second k d)
    at_same f first second k d same one two = sym (get_or-map f first k d (f d) one) ∙ ap (λ list. get_or list k (f d)) (sym same) ∙ get_or-map f second k d (f d) two

-- what holds when so many of the schedule's turns are made
pub record SoFar (programs current : List Program) (schedule : List ℕ) (index : ℕ) (happened : List Happened) (capacity : ℕ) (begun sound : List ℕ → Type 0) (w now : World) : Type 0 where
  pub stands : (lost : List ℕ) → begun lost → AllStand programs (with_lost lost w) → sound lost × AllStand current (with_lost lost now)
  pub numbers : map op_of current ≡ map op_of programs
  pub tasks : map task_of current ≡ map task_of programs
  pub ready : All IsReady current
  pub marks : map mark_of current ≡ map mark_of programs
  pub count : length happened ≡ index
  pub room : length schedule ≤ capacity
  pub places : places_of happened ≡ take index schedule
  pub runs : (lost : List ℕ) → begun lost → AllStand programs (with_lost lost w) → (at : Root) (keys : List Pair) → Chain (with_lost lost w) at keys → (later : List Pair) × Runs at (map task_of programs) happened keys later × Chain (with_lost lost now) at later

places_more : (happened : List Happened) (one : Happened) (schedule : List ℕ) (index : ℕ) → index < length schedule → places_of happened ≡ take index schedule → one.program ≡ get_or schedule index one.program → places_of (happened ++ one ∷ []) ≡ take (index + 1) schedule
places_more happened one schedule index within before is =
    map_push (λ (h : Happened). h.program) happened one ∙ ap (λ places. places ++ one.program ∷ []) before ∙ ap (λ place. take index schedule ++ place ∷ []) is ∙ sym (take_more schedule index one.program within)

runs_next : (programs current : List Program) (happened : List Happened) (one : Happened) (w mid now : World) → map task_of current ≡ map task_of programs → ((at : Root) (keys : List Pair) → Chain w at keys → (later : List Pair) × Runs at (map task_of programs) happened keys later × Chain mid at later) → ((at : Root) (keys : List Pair) → Chain mid at keys → (later : List Pair) × HappensAt at (slice_get (map task_of current) one.program) one.turn keys later × Chain now at later) → (at : Root) (keys : List Pair) → Chain w at keys → (later : List Pair) × Runs at (map task_of programs) (happened ++ one ∷ []) keys later × Chain now at later
runs_next programs current happened one w mid now tasks runs happens at keys chain =
    let before = runs at keys chain in
    let step = happens at before.0 before.2 in
    (step.0, Runs-more at (map task_of programs) happened one keys before.0 step.0 before.1 (subst (λ list. HappensAt at (slice_get list one.program) one.turn before.0 step.0) tasks step.1), step.2)

-- one turn more
module _ (one : Happened) (programs current after : List Program) (schedule : List ℕ) (index : ℕ) (happened items : List Happened) (room capacity : ℕ) (begun between sound : List ℕ → Type 0) (w mid now : World) where
  pub SoFar-next : items ≡ happened ++ one ∷ [] → SoFar programs current schedule index happened room begun between w mid → capacity ≡ room → index < length schedule → one.program ≡ get_or schedule index one.program → ((lost : List ℕ) → between lost → AllStand current (with_lost lost mid) → sound lost × AllStand after (with_lost lost now)) → map op_of after ≡ map op_of current → map task_of after ≡ map task_of current → All IsReady after → map mark_of after ≡ map mark_of current → ((lost : List ℕ) → between lost → AllStand current (with_lost lost mid) → (at : Root) (keys : List Pair) → Chain (with_lost lost mid) at keys → (later : List Pair) × HappensAt at (slice_get (map task_of current) one.program) one.turn keys later × Chain (with_lost lost now) at later) → SoFar programs after schedule (index + 1) items capacity begun sound w now
  SoFar-next is so_far same within place stands numbers tasks ready marks happens =
      subst (λ list. SoFar programs after schedule (index + 1) list capacity begun sound w now) (sym is) (record {
        stands = λ lost first all. let before = so_far.stands lost first all in stands lost before.0 before.1;
        numbers = numbers ∙ so_far.numbers;
        tasks = tasks ∙ so_far.tasks;
        ready = ready;
        marks = marks ∙ so_far.marks;
        count = length_push happened one ∙ ap (λ n. n + 1) so_far.count;
        room = let fits = so_far.room in omega arith;
        places = places_more happened one schedule index within so_far.places place;
        runs = λ lost first all. let before = so_far.stands lost first all in runs_next programs current happened one (with_lost lost w) (with_lost lost mid) (with_lost lost now) so_far.tasks (so_far.runs lost first all) (happens lost before.0 before.1);
      })
