-- A log that holds a history is read as this history, and as no other.
use Rattle.std.proofs.Common.{◌≡◌, ◌≢◌, ◌≤◌, ◌<◌, ◌+◌, ◌-◌, ◌^◌, ◌⊎◌, IsTrue, ℕ, zero, suc, Bool, true, false, not, cond, ◌&&◌, List, [], ◌∷◌, ◌++◌, length, map, flat_map, take, drop, slice_index_or, Option, Some, None, Ok, Err, inl, inr, refl, sym, ap, ap₂, ◌∙◌, subst, arith, append_assoc, length-append}
use Rattle.std.specs.Prelude.{All, slice_get, nat_lt}
use Rattle.std.proofs.lemmas.Bool.{cases_Bool, and_parts, ne_eqb, cond-true, cond-false}
use Rattle.std.proofs.lemmas.List.{take_at, drop_at, append-nil, map-append}
use Rattle.std.proofs.Math.Seq.{take-append-add}
use Rattle.std.proofs.lemmas.Grind.{flat_map-append}
use Rattle.ct_definitions.specs.declared.change.Transaction.{Transaction}
use Rattle.ct_definitions.specs.Changes.{State}
use Rattle.ct_definitions.specs.Histories.{History, IsHistory, after_transactions, are_defined}
use Rattle.ct_group.specs.Commit.{commit_text}
use Rattle.ct_group.specs.Groups.{FitsTransaction}
use Rattle.ct_laws.proofs.Histories.{are_defined-append, IsNext-from}
use Rattle.ct_log.specs.Chunks.{open_chunk, chunks_text, IsShort}
use Rattle.ct_log.specs.Front.{zeros}
use Rattle.ct_log.specs.Heads.{head_in, has_open_header, is_header, is_cell, is_cell_open, is_start, start_of, told_by, told_head, counting, closed_head, page_at, are_zero, number_at}
use Rattle.ct_log.specs.Reading.{found_in, nothing, chunk, damage, log_bytes}
use Rattle.ct_log.specs.declared.head.Head.{Head}
use Rattle.ct_log.specs.declared.head.Start.{Start}
use Rattle.ct_log.proofs.Founds.{whole_found, nothing_found}
use Rattle.ct_log.proofs.HeadReads.{pick}
use Rattle.ct_log.proofs.MadeHeads.{front_tells}
use Rattle.ct_yard.specs.Telling.{Telling}
use Rattle.ct_yard.specs.declared.yard.Yard.{Yard}
use Rattle.ct_yard.specs.Kept.{Founds}
use Rattle.ct_yard.specs.LogTexts.{groups_text, HasTransactions}
use Rattle.ct_yard.specs.Machine.{Machine, opened_machine}
use Rattle.ct_yard.specs.Yards.{StandsFor}
use Rattle.ct_recover.specs.Opening.{IsReadTo, IsReadToEnd, IsBad, HasBadGroup, HasCutChunk, IsNoNext, Opens, IsNoFinding, is_closed, extended}
use Rattle.ct_recover.specs.declared.fault.OpenFault.{OpenFault}
use Rattle.ct_recover.specs.declared.fault.OpenFault.TheVariants.{NotEmpty, Undone, BadLog, Device, Memory}
use Rattle.ct_recover.proofs.Commits.{same_commit, commit_some}
use Rattle.ct_recover.proofs.Fills.{filled_all, gate_told, head_within, start_behind}

-- ---- lists with one front

same_front : {A : Type 0} (a b u v : List A) → length a ≡ length b → a ++ u ≡ b ++ v → a ≡ b
same_front {A} a b u v long same = sym (take_at a u (length b) long) ∙ ap (λ (l : List A). take (length b) l) same ∙ take_at b v (length b) refl

same_back : {A : Type 0} (a b u v : List A) → length a ≡ length b → a ++ u ≡ b ++ v → u ≡ v
same_back {A} a b u v long same = sym (drop_at a u (length b) long) ∙ ap (λ (l : List A). drop (length b) l) same ∙ drop_at b v (length b) refl

fit_front : (ts us : List Transaction) → All FitsTransaction (ts ++ us) → All FitsTransaction ts
fit_front [] us all = λ k d below. absurd (omega arith)
fit_front (t ∷ ts) us all = one_more (all 0 t (omega arith)) (fit_front ts us (λ k d below. all (suc k) d (omega arith)))
  where
    one_more : FitsTransaction t → All FitsTransaction ts → (k : ℕ) (d : Transaction) → k < length (t ∷ ts) → FitsTransaction (slice_index_or (t ∷ ts) k d)
    one_more own rest zero d below = own
    one_more own rest (suc k) d below = rest k d (omega arith)

fit_back : (ts us : List Transaction) → All FitsTransaction (ts ++ us) → All FitsTransaction us
fit_back [] us all = all
fit_back (t ∷ ts) us all = fit_back ts us (λ k d below. all (suc k) d (omega arith))

-- ---- the commits of a chunk

-- what stands behind the first transactions of a chunk
record GoesOnTo (ts us : List Transaction) (tail : List ℕ) : Type 0 where
  more : List Transaction
  is : us ≡ ts ++ more
  rest : tail ≡ groups_text more

groups_go_on : (ts us : List Transaction) (tail : List ℕ) → All FitsTransaction ts → All FitsTransaction us → groups_text ts ++ tail ≡ groups_text us → GoesOnTo ts us tail
groups_go_on [] us tail fit also same = record { more = us; is = refl; rest = same }
groups_go_on (t ∷ ts) [] tail fit also same =
    let none : length ((commit_text t ++ groups_text ts) ++ tail) ≡ 0 = ap (λ (l : List ℕ). length l) same in
    absurd (omega (arith, none, commit_some t, length-append (commit_text t ++ groups_text ts) tail, length-append (commit_text t) (groups_text ts)))
groups_go_on (t ∷ ts) (u ∷ us) tail fit also same =
    let both = same_commit t u (groups_text ts ++ tail) (groups_text us) (fit 0 t (omega arith)) (also 0 u (omega arith)) (sym (append_assoc (commit_text t) (groups_text ts) tail) ∙ same) in
    let next = groups_go_on ts us tail (λ k d below. fit (suc k) d (omega arith)) (λ k d below. also (suc k) d (omega arith)) both.1 in
    record { more = next.more; is = ap₂ (λ (x : Transaction) (l : List Transaction). x ∷ l) (sym both.0) next.is; rest = next.rest }

no_groups : (ts : List Transaction) → [] ≡ groups_text ts → ts ≡ []
no_groups [] same = refl
no_groups (t ∷ ts) same =
    let none : 0 ≡ length (commit_text t ++ groups_text ts) = ap (λ (l : List ℕ). length l) same in
    absurd (omega (arith, none, commit_some t, length-append (commit_text t) (groups_text ts)))

groups_same : (ts us : List Transaction) → All FitsTransaction ts → All FitsTransaction us → groups_text ts ≡ groups_text us → ts ≡ us
groups_same ts us fit also same =
    let go = groups_go_on ts us [] fit also (append-nil (groups_text ts) ∙ same) in
    sym (go.is ∙ ap (λ (l : List Transaction). ts ++ l) (no_groups go.more go.rest) ∙ append-nil ts)

-- ---- the chunks of a log

abbrev joined : List (List Transaction) → List Transaction
joined chunks = flat_map (λ (chunk : List Transaction). chunk) chunks

abbrev texts : List (List Transaction) → List ℕ
texts chunks = chunks_text (map groups_text chunks)

first_short : (x : List ℕ) (xs : List (List ℕ)) → All IsShort (x ∷ xs) → IsShort x
first_short x xs short = short 0 [] (omega arith)

rest_short : (x : List ℕ) (xs : List (List ℕ)) → All IsShort (x ∷ xs) → All IsShort xs
rest_short x xs short = λ k d below. short (suc k) d (omega arith)

-- what stands behind the first chunks of a log
record LeadsTo (xs ys : List (List Transaction)) (gate : ℕ) (behind tail : List ℕ) : Type 0 where
  more : List (List Transaction)
  is : ys ≡ xs ++ more
  rest : tail ≡ texts more ++ gate ∷ behind

open_head_of : (x : List ℕ) (more rest : List ℕ) (gate : ℕ) (behind : List ℕ) → (open_chunk x ++ more) ++ rest ≡ gate ∷ behind → gate ≡ 1
open_head_of x more rest gate behind same = let is : 1 ≡ gate = cc same in sym is

-- chunks with one text are one
first_groups : (x y u v : List ℕ) → IsShort x → IsShort y → open_chunk x ++ u ≡ open_chunk y ++ v → (x ≡ y) × (u ≡ v)
first_groups x y u v short also same =
    let found : chunk x ≡ chunk y = sym (whole_found x u short) ∙ ap found_in same ∙ whole_found y v also in
    let is : x ≡ y = cc found in
    (is, same_back (open_chunk x) (open_chunk y) u v (ap (λ (l : List ℕ). length (open_chunk l)) is) same)

chunks_lead : (xs ys : List (List Transaction)) (gate : ℕ) (behind tail : List ℕ) → gate ≢ 1 → All IsShort (map groups_text xs) → All IsShort (map groups_text ys) → All FitsTransaction (joined xs) → All FitsTransaction (joined ys)
    → texts xs ++ tail ≡ texts ys ++ gate ∷ behind → LeadsTo xs ys gate behind tail
chunks_lead [] ys gate behind tail shut short also fit fits same = record { more = ys; is = refl; rest = same }
chunks_lead (x ∷ xs) [] gate behind tail shut short also fit fits same = absurd (shut (open_head_of (groups_text x) (texts xs) tail gate behind same))
chunks_lead (x ∷ xs) (y ∷ ys) gate behind tail shut short also fit fits same =
    let a = groups_text x in
    let b = groups_text y in
    let both = first_groups a b (texts xs ++ tail) (texts ys ++ gate ∷ behind) (first_short a (map groups_text xs) short) (first_short b (map groups_text ys) also)
    (sym (append_assoc (open_chunk a) (texts xs) tail) ∙ same ∙ append_assoc (open_chunk b) (texts ys) (gate ∷ behind)) in
    let one : x ≡ y = groups_same x y (fit_front x (joined xs) fit) (fit_front y (joined ys) fits) both.0 in
    let next = chunks_lead xs ys gate behind tail shut (rest_short a (map groups_text xs) short) (rest_short b (map groups_text ys) also) (fit_back x (joined xs) fit) (fit_back y (joined ys) fits) both.1 in
    record { more = next.more; is = ap₂ (λ (c : List Transaction) (l : List (List Transaction)). c ∷ l) (sym one) next.is; rest = next.rest }

-- ---- where reading starts

abbrev IsBehind : Option Start → Type 0
IsBehind None = Unit {0}
IsBehind (Some start) = 12288 ≤ start.place

cell_behind : (page : List ℕ) → is_cell page ≡ true → IsBehind (told_by page)
cell_behind page in_order = elim (cases_Bool (is_cell_open page)) [
  | inl there ↦
      (let both = sym (cond-true (is_cell_open page) (is_start (start_of page) && are_zero (drop 33 page)) true there) ∙ in_order in
      let start = (and_parts (is_start (start_of page)) (are_zero (drop 33 page)) both).0 in
      subst IsBehind (sym (cond-true (is_cell_open page) (Some (start_of page)) None there)) (start_behind (start_of page) start))
  | inr shut ↦ subst IsBehind (sym (cond-false (is_cell_open page) (Some (start_of page)) None shut)) tt
]

counting_behind : (base : ℕ) (first second : Option Start) → IsBehind first → IsBehind second → 12288 ≤ (counting base first second).place
counting_behind base None None one two = omega arith
counting_behind base None (Some second) one two = two
counting_behind base (Some first) None one two = one
counting_behind base (Some first) (Some second) one two = pick_one (nat_lt first.sequence second.sequence)
  where
    pick_one : (b : Bool) → 12288 ≤ (cond b second first).place
    pick_one true = two
    pick_one false = one

head_behind : (bytes : List ℕ) (head : Head) → head_in bytes ≡ Ok head → 12288 ≤ head.start.place
head_behind bytes head told = by_tests (has_open_header bytes) (is_header (page_at 0 bytes)) (is_cell (page_at 4096 bytes)) (is_cell (page_at 8192 bytes)) refl refl told
  where
    by_tests : (gate header first second : Bool) → is_cell (page_at 4096 bytes) ≡ first → is_cell (page_at 8192 bytes) ≡ second → pick gate header first second (told_head bytes) ≡ Ok head → 12288 ≤ head.start.place
    by_tests false header first second one two is = let same : closed_head ≡ head = cc is in subst (λ (h : Head). 12288 ≤ h.start.place) same (omega arith)
    by_tests true false first second one two is = let none : ⊥ = cc is in absurd none
    by_tests true true false second one two is = let none : ⊥ = cc is in absurd none
    by_tests true true true false one two is = let none : ⊥ = cc is in absurd none
    by_tests true true true true one two is =
        let same : told_head bytes ≡ head = cc is in
        subst (λ (h : Head). 12288 ≤ h.start.place) same
        (counting_behind (number_at 28 (page_at 0 bytes)) (told_by (page_at 4096 bytes)) (told_by (page_at 8192 bytes)) (cell_behind (page_at 4096 bytes) one) (cell_behind (page_at 8192 bytes) two))

-- ---- behind what was read

module _ (gate : ℕ) (behind : List ℕ) (shut : gate ≢ 1) where
  some_found : (x : List Transaction) (xs : List (List Transaction)) → All IsShort (map groups_text (x ∷ xs)) → found_in (texts (x ∷ xs) ++ gate ∷ behind) ≡ chunk (groups_text x)
  some_found x xs short =
      ap found_in (append_assoc (open_chunk (groups_text x)) (texts xs) (gate ∷ behind))
      ∙ whole_found (groups_text x) (texts xs ++ gate ∷ behind) (first_short (groups_text x) (map groups_text xs) short)

  -- no chunk goes on past the end
  not_cut : (more : List (List Transaction)) → All IsShort (map groups_text more) → found_in (texts more ++ gate ∷ behind) ≡ damage → ⊥
  not_cut [] short found = let none : nothing ≡ damage = sym (nothing_found gate behind shut) ∙ found in cc none
  not_cut (x ∷ xs) short found = let none : chunk (groups_text x) ≡ damage = sym (some_found x xs short) ∙ found in cc none

  -- there is no chunk where nothing is found
  no_more : (more : List (List Transaction)) → All IsShort (map groups_text more) → found_in (texts more ++ gate ∷ behind) ≡ nothing → more ≡ []
  no_more [] short found = refl
  no_more (x ∷ xs) short found = let none : chunk (groups_text x) ≡ nothing = sym (some_found x xs short) ∙ found in let no : ⊥ = cc none in absurd no

  -- the next transaction of a history is a next commit
  is_next : (history : History) (first : List Transaction) (tail : List ℕ) (t : Transaction) (more behind_it : List Transaction) → FitsTransaction t → tail ≡ groups_text (t ∷ more)
      → IsHistory (extended history ((first ++ t ∷ more) ++ behind_it)) → IsNoNext (extended history first) tail → ⊥
  is_next history first tail t more behind_it fits text defined bad =
      let ts = history.transactions in
      let so = ts ++ first in
      let rest = more ++ behind_it in
      let parts : ts ++ ((first ++ t ∷ more) ++ behind_it) ≡ so ++ t ∷ rest = ap (λ (l : List Transaction). ts ++ l) (append_assoc first (t ∷ more) behind_it) ∙ sym (append_assoc ts first (t ∷ rest)) in
      let here = after_transactions history.base so in
      let last = history.base_number + length so in
      let both : (are_defined history.base history.base_number so && are_defined here last (t ∷ rest)) ≡ true =
      sym (are_defined-append history.base history.base_number so (t ∷ rest)) ∙ ap (λ (l : List Transaction). are_defined history.base history.base_number l) (sym parts) ∙ defined in
      let next = IsNext-from here last t rest (and_parts (are_defined history.base history.base_number so) (are_defined here last (t ∷ rest)) both).1 in
      bad.none t (groups_text more) fits text next.number next.allowed

  not_bad_group : (history : History) (x : List Transaction) (xs : List (List Transaction)) (first : List Transaction) (tail : List ℕ) (left : List Transaction) → x ≡ first ++ left → tail ≡ groups_text left → All FitsTransaction x
      → IsHistory (extended history (x ++ joined xs)) → IsNoNext (extended history first) tail → ⊥
  not_bad_group history x xs first tail [] is text fits defined bad = bad.some text
  not_bad_group history x xs first tail (t ∷ left) is text fits defined bad =
      let own = fit_back first (t ∷ left) (subst (λ (l : List Transaction). All FitsTransaction l) is fits) in
      is_next history first tail t left (joined xs) (own 0 t (omega arith)) text (subst (λ (l : List Transaction). IsHistory (extended history (l ++ joined xs))) is defined) bad

  -- each group is a next commit
  not_bad : (history : History) (place at : ℕ) (more : List (List Transaction)) → All IsShort (map groups_text more) → All FitsTransaction (joined more) → IsHistory (extended history (joined more))
      → HasBadGroup history place (texts more ++ gate ∷ behind) at → ⊥
  not_bad history place at [] short fits defined bad = let none : nothing ≡ chunk (groups_text bad.first ++ bad.tail) = sym (nothing_found gate behind shut) ∙ bad.found in cc none
  not_bad history place at (x ∷ xs) short fits defined bad =
      let same : chunk (groups_text bad.first ++ bad.tail) ≡ chunk (groups_text x) = sym bad.found ∙ some_found x xs short in
      let text : groups_text bad.first ++ bad.tail ≡ groups_text x = cc same in
      let own = fit_front x (joined xs) fits in
      let go = groups_go_on bad.first x bad.tail bad.fit own text in
      not_bad_group history x xs bad.first bad.tail go.more go.is go.rest own defined bad.bad

short_back : (xs ys : List (List ℕ)) → All IsShort (xs ++ ys) → All IsShort ys
short_back [] ys all = all
short_back (x ∷ xs) ys all = short_back xs ys (rest_short x (xs ++ ys) all)

slice_get_at : (xs : List ℕ) (x : ℕ) (behind : List ℕ) → slice_get (xs ++ x ∷ behind) (length xs) ≡ Some x
slice_get_at [] x behind = refl
slice_get_at (y ∷ xs) x behind = slice_get_at xs x behind

abbrev made : State → ℕ → List Transaction → History
made base number ts = record { base = base; base_number = number; transactions = ts }

-- ---- a log with a history

module _ (head : Head) (front : List ℕ) (history : History) (bytes : List ℕ) (founds : Founds head front history) (has : HasTransactions front history.transactions bytes) where
  abbrev chunks : List (List Transaction)
  chunks = (has.is_text).chunks

  abbrev gate : ℕ
  gate = (has.ends).gate

  abbrev behind : List ℕ
  behind = (has.ends).behind

  parts : bytes ≡ front ++ (texts chunks ++ gate ∷ behind)
  parts = (has.ends).parts ∙ ap (λ (l : List ℕ). l ++ gate ∷ behind) (has.is_text).is ∙ append_assoc front (texts chunks) (gate ∷ behind)

  front_long : 12288 ≤ length front
  front_long = omega (arith, head_behind front head (founds.is_front).told, (founds.is_front).ends)

  pub head_told : head_in bytes ≡ Ok head
  head_told = ap head_in parts ∙ front_tells front (texts chunks ++ gate ∷ behind) front_long ∙ (founds.is_front).told

  fits : All FitsTransaction (joined chunks)
  fits = subst (λ (l : List Transaction). All FitsTransaction l) (sym ((has.is_text).in_chunks).joined) ((has.is_text).in_chunks).fit

  shut : gate ≢ 1
  shut = (has.ends).is_closed

  long : length front ≤ length bytes
  long = omega (arith, ap (λ (l : List ℕ). length l) parts, length-append front (texts chunks ++ gate ∷ behind))

  -- what was read of it is its beginning
  module _ (head' : Head) (front' : List ℕ) (history' : History) (place : ℕ) (rest : List ℕ) (read : IsReadTo head' front' history' place rest bytes) where
    abbrev chunks' : List (List Transaction)
    chunks' = read.chunks

    same_head : head' ≡ head
    same_head =
        let own = (read.founds).is_front in
        let n = head'.start.place - length bytes in
        let first : 12288 ≤ length front' = omega (arith, head_behind front' head' own.told, own.ends) in
        let found : head_in (bytes ++ zeros n) ≡ Ok head' = ap head_in (read.parts ∙ append_assoc front' (texts chunks') rest) ∙ front_tells front' (texts chunks' ++ rest) first ∙ own.told in
        let given : head_in (bytes ++ zeros n) ≡ Ok head = front_tells bytes (zeros n) (omega (arith, front_long, long)) ∙ head_told in
        cc (sym found ∙ given)

    one_place : head'.start.place ≡ head.start.place
    one_place = ap (λ (h : Head). h.start.place) same_head

    whole : bytes ≡ front' ++ (texts chunks' ++ rest)
    whole = sym (filled_all head'.start.place bytes (omega (arith, one_place, (founds.is_front).ends, long))) ∙ read.parts ∙ append_assoc front' (texts chunks') rest

    one_length : length front' ≡ length front
    one_length = omega (arith, one_place, (founds.is_front).ends, ((read.founds).is_front).ends)

    pub same_fronts : front' ≡ front
    same_fronts = same_front front' front (texts chunks' ++ rest) (texts chunks ++ gate ∷ behind) one_length (sym whole ∙ parts)

    fits' : All FitsTransaction (joined chunks')
    fits' = subst (λ (l : List Transaction). All FitsTransaction l) (sym (read.in_chunks).joined) (read.in_chunks).fit

    leads : LeadsTo chunks' chunks gate behind rest
    leads = chunks_lead chunks' chunks gate behind rest shut (read.in_chunks).short ((has.is_text).in_chunks).short fits' fits
        (same_back front' front (texts chunks' ++ rest) (texts chunks ++ gate ∷ behind) one_length (sym whole ∙ parts))

    all_joined : joined chunks ≡ joined chunks' ++ joined leads.more
    all_joined = ap joined leads.is ∙ flat_map-append (λ (c : List Transaction). c) chunks' leads.more

    fits_more : All FitsTransaction (joined leads.more)
    fits_more = fit_back (joined chunks') (joined leads.more) (subst (λ (l : List Transaction). All FitsTransaction l) all_joined fits)

    short_more : All IsShort (map groups_text leads.more)
    short_more = short_back (map groups_text chunks') (map groups_text leads.more)
        (subst (λ (l : List (List ℕ)). All IsShort l) (ap (λ (l : List (List Transaction)). map groups_text l) leads.is ∙ map-append groups_text chunks' leads.more) ((has.is_text).in_chunks).short)

    longer : history ≡ extended history' (joined leads.more)
    longer =
        ap (λ (s : State). made s history.base_number history.transactions) (founds.base ∙ sym (read.founds).base)
        ∙ ap (λ n. made history'.base n history.transactions) (founds.base_number ∙ ap (λ (h : Head). h.start.last) (sym same_head) ∙ sym (read.founds).base_number)
        ∙ ap (λ (l : List Transaction). made history'.base history'.base_number l) (sym ((has.is_text).in_chunks).joined ∙ all_joined ∙ ap (λ (l : List Transaction). l ++ joined leads.more) (read.in_chunks).joined)

    not_damaged : (at : ℕ) → HasCutChunk place rest at ⊎ HasBadGroup history' place rest at → ⊥
    not_damaged at (inl cut) = not_cut gate behind shut leads.more short_more (ap found_in (sym leads.rest) ∙ cut.found)
    not_damaged at (inr bad) = not_bad gate behind shut history' place at leads.more short_more fits_more (subst (λ (h : History). IsHistory h) longer founds.defined)
        (subst (λ (l : List ℕ). HasBadGroup history' place l at) leads.rest bad)

    module _ (ended : found_in rest ≡ nothing) where
      none_left : leads.more ≡ []
      none_left = no_more gate behind shut leads.more short_more (ap found_in (sym leads.rest) ∙ ended)

      same_history : history' ≡ history
      same_history =
          ap (λ (l : List Transaction). made history'.base history'.base_number l) (sym (append-nil history'.transactions))
          ∙ ap (λ (l : List (List Transaction)). extended history' (joined l)) (sym none_left) ∙ sym longer

      gate_there : slice_get bytes place ≡ Some gate
      gate_there =
          let text = front' ++ texts chunks' in
          let is_rest : rest ≡ gate ∷ behind = leads.rest ∙ ap (λ (l : List (List Transaction)). texts l ++ gate ∷ behind) none_left in
          let all : bytes ≡ text ++ gate ∷ behind = whole ∙ sym (append_assoc front' (texts chunks') rest) ∙ ap (λ (l : List ℕ). text ++ l) is_rest in
          ap (λ (l : List ℕ). slice_get l place) all ∙ ap (λ n. slice_get (text ++ gate ∷ behind) n) read.up_to ∙ slice_get_at text gate behind

      pub closed_there : is_closed (slice_get bytes place) ≡ true
      closed_there = ap is_closed gate_there ∙ ap not (ne_eqb gate 1 shut)

  -- it is not damaged
  pub not_refused : (at : ℕ) → IsBad bytes at → ⊥
  not_refused at (inl damaged) = let both : Err at ≡ Ok head = sym damaged ∙ head_told in cc both
  not_refused at (inr (head', front', history', place, rest, read, damaged)) = not_damaged head' front' history' place rest read at damaged

and_true : (b : Bool) → (b && true) ≡ b
and_true true = refl
and_true false = refl

module _ (content_of_log : List ℕ) (head : Head) (front : List ℕ) (history : History) (founds : Founds head front history) (has : HasTransactions front history.transactions (log_bytes content_of_log)) where
  -- a log with a history is refused only for want of memory or a device
  pub kept_refusal : (fault : OpenFault) → fault ≢ NotEmpty → (fault ≡ Undone → has_open_header content_of_log ≡ false) → ((place : ℕ) → fault ≡ BadLog place → IsBad (log_bytes content_of_log) place) → IsNoFinding fault
  kept_refusal NotEmpty full undone bad = full refl
  kept_refusal Undone full undone bad =
      let told : head_in content_of_log ≡ Ok head = sym (head_within content_of_log) ∙ head_told head front history (log_bytes content_of_log) founds has in
      let is_true : has_open_header content_of_log ≡ true = sym (gate_told content_of_log head told) ∙ (founds.is_front).gate in
      let both : true ≡ false = sym is_true ∙ undone refl in
      cc both
  kept_refusal (BadLog place) full undone bad = not_refused head front history (log_bytes content_of_log) founds has place (bad place refl)
  kept_refusal Device full undone bad = tt
  kept_refusal Memory full undone bad = tt

  -- and opened as it is
  pub kept_yard : {P L : Type 0} (disk : Telling L) (log : L) (yard : Yard P L) → IsTrue disk.tells → disk.content log ≡ content_of_log → Opens disk log yard
      → StandsFor disk.tells disk front (opened_machine history (disk.faults yard.log.device) yard.log.flow.end yard.log.flow.next) yard
  kept_yard {P} {L} disk log yard here is o =
      let bytes = log_bytes content_of_log in
      let end = yard.log.flow.end in
      let to = subst (λ (l : List ℕ). IsReadToEnd o.head o.front o.history end (log_bytes l)) is (o.read here) in
      let fronts = same_fronts head front history bytes founds has o.head o.front o.history end to.rest to.read in
      let histories = same_history head front history bytes founds has o.head o.front o.history end to.rest to.read to.ends in
      let closed_bytes = closed_there head front history bytes founds has o.head o.front o.history end to.rest to.read to.ends in
      let closed : is_closed (slice_get (log_bytes (disk.content log)) end) ≡ true = ap (λ (l : List ℕ). is_closed (slice_get (log_bytes l) end)) is ∙ closed_bytes in
      let founded : (disk.tells && is_closed (slice_get (log_bytes (disk.content log)) end)) ≡ disk.tells = ap (λ b. disk.tells && b) closed ∙ and_true disk.tells in
      let machine : History → Machine = λ h. opened_machine h (disk.faults yard.log.device) end yard.log.flow.next in
      subst (λ b. StandsFor b disk front (machine history) yard) founded
      (subst (λ (h : History). StandsFor (disk.tells && is_closed (slice_get (log_bytes (disk.content log)) end)) disk front (machine h) yard) histories
      (subst (λ (f : List ℕ). StandsFor (disk.tells && is_closed (slice_get (log_bytes (disk.content log)) end)) disk f (machine o.history) yard) fronts o.stands))

-- a history that a device holds stands within the log's limit
pub within_limit : (front : List ℕ) (ts : List Transaction) (bytes : List ℕ) → HasTransactions front ts bytes → HasTransactions front ts (log_bytes bytes)
within_limit front ts bytes has =
    let rest = (has.ends).gate ∷ (has.ends).behind in
    let more = 2 ^ 62 - length has.text - 1 in
    let whole : 2 ^ 62 ≡ length has.text + suc more = omega (arith, has.within) in
    record {
      text = has.text;
      is_text = has.is_text;
      within = has.within;
      ends = record {
        gate = (has.ends).gate;
        behind = take more (has.ends).behind;
        is_closed = (has.ends).is_closed;
        parts = ap (λ (l : List ℕ). take (2 ^ 62) l) (has.ends).parts ∙ ap (λ n. take n (has.text ++ rest)) whole ∙ take-append-add has.text rest (suc more);
      };
    }
