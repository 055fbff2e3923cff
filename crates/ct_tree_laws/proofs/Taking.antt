-- Latches taken and given back: what others have stays, and no two conflict.
use Rattle.std.proofs.Common.{◌≡◌, ℕ, Bool, true, false, not, ◌&&◌, ◌||◌, cond, List, refl, sym, ap, ◌∙◌, filter, subst, inl, inr, ⊎_elim, None, eqb}
use Rattle.std.specs.Prelude.{◌==◌, find, ◌⊎◌}
use Rattle.std.specs.List.{list_any}
use Rattle.std.proofs.lemmas.Bool.{cases_eq, false≢true, and_parts, eqb-true, eq-eqb, ne_eqb, and_from, and_left, and_right, or_right}
use Rattle.ct_latch.specs.declared.hold.Hold.{Hold}
use Rattle.ct_latch.specs.Latches.{is_of, bars, with_hold, with_share}
use Rattle.ct_node.specs.Worlds.{World, is_own_of, has_latch, has_own, with_holds}
use Rattle.ct_tree_laws.specs.Trees.{IsApart}
use Rattle.ct_tree_laws.proofs.Holders.{list_any_weaker, list_any-filter, list_any_filtered, list_any_not_found, list_any-with_hold_new, list_any-with_hold_other, list_any-with_hold_more, list_any-with_hold_old}

pub is_of_parts : (page op : ℕ) (hold : Hold) → is_of page op hold ≡ true → (hold.node ≡ page) × (hold.op ≡ op)
is_of_parts page op hold is =
    let parts = and_parts (eqb hold.node page) (eqb hold.op op) is in
    (eqb-true hold.node page parts.0, eqb-true hold.op op parts.1)

pub is_of_from : (page op : ℕ) (hold : Hold) → hold.node ≡ page → hold.op ≡ op → is_of page op hold ≡ true
is_of_from page op hold node is = and_from (eqb hold.node page) (eqb hold.op op) (eq-eqb hold.node page node) (eq-eqb hold.op op is)

pub is_own_parts : (page op : ℕ) (hold : Hold) → is_own_of op page hold ≡ true → (hold.node ≡ page) × (hold.op ≡ op) × (hold.own ≡ true)
is_own_parts page op hold is =
    let parts = and_parts (is_of page op hold) hold.own is in
    let of = is_of_parts page op hold parts.0 in
    (of.0, of.1, parts.1)

not_of : (page op : ℕ) (hold : Hold) → (hold.op ≡ op → ⊥) → is_of page op hold ≡ false
not_of page op hold apart = and_right (eqb hold.node page) (eqb hold.op op) (ne_eqb hold.op op apart)

not_own_of : (page op : ℕ) (hold : Hold) → (hold.op ≡ op → ⊥) → is_own_of op page hold ≡ false
not_own_of page op hold apart = and_left (is_of page op hold) hold.own (not_of page op hold apart)

-- an operation that has a page for itself has a latch on it
pub has_latch_from_own : (op page : ℕ) (w : World) → has_own op page w ≡ true → has_latch op page w ≡ true
has_latch_from_own op page w is = list_any_weaker (is_own_of op page) (is_of page op) w.holds (λ hold own. (and_parts (is_of page op hold) hold.own own).0) is

-- the new hold that an operation shares
abbrev pub shared : ℕ → ℕ → Hold
shared page op = record { node = page; op = op; own = false }

abbrev pub owned : ℕ → ℕ → Hold
owned page op = record { node = page; op = op; own = true }

-- a shared latch adds one hold at most
pub list_any-with_share_old : (p : Hold → Bool) (page op : ℕ) (holds : List Hold) → list_any p (with_share page op holds) ≡ true → (p (shared page op) ≡ true) ⊎ (list_any p holds ≡ true)
list_any-with_share_old p page op holds is = by_test (list_any (is_of page op) holds) is
  where
    by_test : (test : Bool) → list_any p (cond test holds (with_hold (shared page op) holds)) ≡ true → (p (shared page op) ≡ true) ⊎ (list_any p holds ≡ true)
    by_test true found = inr found
    by_test false found = list_any-with_hold_old p (shared page op) holds found

pub list_any-with_share_other : (p : Hold → Bool) (page op : ℕ) (holds : List Hold) → p (shared page op) ≡ false → ((hold : Hold) → is_of page op hold ≡ true → p hold ≡ false) → list_any p (with_share page op holds) ≡ list_any p holds
list_any-with_share_other p page op holds not_new apart = by_test (list_any (is_of page op) holds)
  where
    by_test : (test : Bool) → list_any p (cond test holds (with_hold (shared page op) holds)) ≡ list_any p holds
    by_test true = refl
    by_test false = list_any-with_hold_other p (shared page op) holds not_new apart

pub list_any-with_share_more : (p : Hold → Bool) (page op : ℕ) (holds : List Hold) → ((hold : Hold) → is_of page op hold ≡ true → p hold ≡ true → p (shared page op) ≡ true) → list_any p holds ≡ true → list_any p (with_share page op holds) ≡ true
list_any-with_share_more p page op holds kept is = by_test (list_any (is_of page op) holds)
  where
    by_test : (test : Bool) → list_any p (cond test holds (with_hold (shared page op) holds)) ≡ true
    by_test true = is
    by_test false = list_any-with_hold_more p (shared page op) holds kept is

pub has_latch-with_share_new : (page op : ℕ) (w : World) → has_latch op page (with_holds (with_share page op w.holds) w) ≡ true
has_latch-with_share_new page op w = by_test (list_any (is_of page op) w.holds) refl
  where
    by_test : (test : Bool) → list_any (is_of page op) w.holds ≡ test → list_any (is_of page op) (cond test w.holds (with_hold (shared page op) w.holds)) ≡ true
    by_test true is = is
    by_test false is = list_any-with_hold_new (is_of page op) (shared page op) w.holds (is_of_from page op (shared page op) refl refl)

pub has_own-with_hold_new : (page op : ℕ) (w : World) → has_own op page (with_holds (with_hold (owned page op) w.holds) w) ≡ true
has_own-with_hold_new page op w = list_any-with_hold_new (is_own_of op page) (owned page op) w.holds (and_from (is_of page op (owned page op)) true (is_of_from page op (owned page op) refl refl) refl)

-- a change of an operation's latches alone
pub record ChangesLatches (op : ℕ) (w now : World) : Type 0 where
  pub pages : now.pages ≡ w.pages
  pub fresh : now.fresh ≡ w.fresh
  pub latch : (other page : ℕ) → (other ≡ op → ⊥) → has_latch other page now ≡ has_latch other page w
  pub own : (other page : ℕ) → (other ≡ op → ⊥) → has_own other page now ≡ has_own other page w
  pub apart : IsApart w → IsApart now

-- an operation is not barred: no other has the page in conflict
not_barred : (page op other : ℕ) (own : Bool) (w : World) → find (bars page op own) w.holds ≡ None → (other ≡ op → ⊥) → own ≡ true → has_latch other page w ≡ true → ⊥
not_barred page op other own w free apart is latched =
    false≢true (sym (list_any_not_found (bars page op own) w.holds free) ∙ list_any_weaker (is_of page other) (bars page op own) w.holds barred latched)
  where
    barred : (hold : Hold) → is_of page other hold ≡ true → bars page op own hold ≡ true
    barred hold of =
        let parts = is_of_parts page other hold of in
        let others : not (eqb hold.op op) ≡ true = ap not (ne_eqb hold.op op (λ same. apart (sym parts.1 ∙ same))) in
        and_from (eqb hold.node page) (not (eqb hold.op op) && (own || hold.own)) (eq-eqb hold.node page parts.0) (and_from (not (eqb hold.op op)) (own || hold.own) others (ap (λ b. b || hold.own) is))

not_barred_by_own : (page op other : ℕ) (own : Bool) (w : World) → find (bars page op own) w.holds ≡ None → (other ≡ op → ⊥) → has_own other page w ≡ true → ⊥
not_barred_by_own page op other own w free apart latched =
    false≢true (sym (list_any_not_found (bars page op own) w.holds free) ∙ list_any_weaker (is_own_of other page) (bars page op own) w.holds barred latched)
  where
    barred : (hold : Hold) → is_own_of other page hold ≡ true → bars page op own hold ≡ true
    barred hold of =
        let parts = is_own_parts page other hold of in
        let others : not (eqb hold.op op) ≡ true = ap not (ne_eqb hold.op op (λ same. apart (sym parts.1 ∙ same))) in
        and_from (eqb hold.node page) (not (eqb hold.op op) && (own || hold.own)) (eq-eqb hold.node page parts.0) (and_from (not (eqb hold.op op)) (own || hold.own) others (or_right own hold.own parts.2))

-- a latch that nothing bars leaves all apart
apart_taken : (page op : ℕ) (own : Bool) (w : World) (holds : List Hold) → find (bars page op own) w.holds ≡ None → ((p : Hold → Bool) → list_any p holds ≡ true → (p (record { node = page; op = op; own = own }) ≡ true) ⊎ (list_any p w.holds ≡ true)) → IsApart w → IsApart (with_holds holds w)
apart_taken page op own w holds free old apart = record {
  latches = λ q o other has latched. by_own q o other (old (is_own_of o q) has) (old (is_of q other) latched);
  owners = apart.owners;
  within = apart.within;
  some = apart.some;
  zero = apart.zero;
  settled = apart.settled;
  files = apart.files;
}
  where
    new : Hold
    new = record { node = page; op = op; own = own }

    by_own : (q o other : ℕ) → (is_own_of o q (record { node = page; op = op; own = own }) ≡ true) ⊎ (list_any (is_own_of o q) w.holds ≡ true) → (is_of q other (record { node = page; op = op; own = own }) ≡ true) ⊎ (list_any (is_of q other) w.holds ≡ true) → other ≡ o
    by_own q o other (inl mine) (inl same) = sym (is_of_parts q other (record { node = page; op = op; own = own }) same).1 ∙ (is_own_parts q o (record { node = page; op = op; own = own }) mine).1
    by_own q o other (inl mine) (inr latched) =
        let parts = is_own_parts q o (record { node = page; op = op; own = own }) mine in
        ⊎_elim (λ same. same ∙ parts.1) (λ differ. absurd (not_barred page op other own w free differ parts.2 (subst (λ p. has_latch other p w ≡ true) (sym parts.0) latched))) (cases_eq other op)
    by_own q o other (inr has) (inl same) =
        let parts = is_of_parts q other (record { node = page; op = op; own = own }) same in
        ⊎_elim (λ one. sym parts.1 ∙ sym one) (λ differ. absurd (not_barred_by_own page op o own w free differ (subst (λ p. has_own o p w ≡ true) (sym parts.0) has))) (cases_eq o op)
    by_own q o other (inr has) (inr latched) = apart.latches q o other has latched

pub ChangesLatches-share : (page op : ℕ) (w : World) → find (bars page op false) w.holds ≡ None → ChangesLatches op w (with_holds (with_share page op w.holds) w)
ChangesLatches-share page op w free = record {
  pages = refl;
  fresh = refl;
  latch = λ other q differ. list_any-with_share_other (is_of q other) page op w.holds (not_of q other (shared page op) (λ same. differ (sym same))) (λ hold of. not_of q other hold (λ same. differ (sym same ∙ (is_of_parts page op hold of).1)));
  own = λ other q differ. list_any-with_share_other (is_own_of other q) page op w.holds (not_own_of q other (shared page op) (λ same. differ (sym same))) (λ hold of. not_own_of q other hold (λ same. differ (sym same ∙ (is_of_parts page op hold of).1)));
  apart = apart_taken page op false w (with_share page op w.holds) free (λ p. list_any-with_share_old p page op w.holds);
}

pub ChangesLatches-own : (page op : ℕ) (w : World) → find (bars page op true) w.holds ≡ None → ChangesLatches op w (with_holds (with_hold (owned page op) w.holds) w)
ChangesLatches-own page op w free = record {
  pages = refl;
  fresh = refl;
  latch = λ other q differ. list_any-with_hold_other (is_of q other) (owned page op) w.holds (not_of q other (owned page op) (λ same. differ (sym same))) (λ hold of. not_of q other hold (λ same. differ (sym same ∙ (is_of_parts page op hold of).1)));
  own = λ other q differ. list_any-with_hold_other (is_own_of other q) (owned page op) w.holds (not_own_of q other (owned page op) (λ same. differ (sym same))) (λ hold of. not_own_of q other hold (λ same. differ (sym same ∙ (is_of_parts page op hold of).1)));
  apart = apart_taken page op true w (with_hold (owned page op) w.holds) free (λ p. list_any-with_hold_old p (owned page op) w.holds);
}

-- holds given back are this operation's alone
ChangesLatches-given : (op : ℕ) (keeps : Hold → Bool) (w : World) → ((hold : Hold) → (hold.op ≡ op → ⊥) → keeps hold ≡ true) → ChangesLatches op w (with_holds (filter keeps w.holds) w)
ChangesLatches-given op keeps w kept = record {
  pages = refl;
  fresh = refl;
  latch = λ other q differ. list_any-filter (is_of q other) keeps w.holds (λ hold of. kept hold (λ same. differ (sym (is_of_parts q other hold of).1 ∙ same)));
  own = λ other q differ. list_any-filter (is_own_of other q) keeps w.holds (λ hold of. kept hold (λ same. differ (sym (is_own_parts q other hold of).1 ∙ same)));
  apart = λ apart. record {
    latches = λ q o other has latched. apart.latches q o other (list_any_filtered (is_own_of o q) keeps w.holds has) (list_any_filtered (is_of q other) keeps w.holds latched);
    owners = apart.owners;
    within = apart.within;
    some = apart.some;
    zero = apart.zero;
    settled = apart.settled;
    files = apart.files;
  };
}

pub ChangesLatches-free : (page op : ℕ) (w : World) → ChangesLatches op w (with_holds (filter (λ hold. not (is_of page op hold)) w.holds) w)
ChangesLatches-free page op w = ChangesLatches-given op (λ hold. not (is_of page op hold)) w (λ hold differ. ap not (not_of page op hold differ))

pub ChangesLatches-free_all : (op : ℕ) (w : World) → ChangesLatches op w (with_holds (filter (λ hold. not (hold.op == op)) w.holds) w)
ChangesLatches-free_all op w = ChangesLatches-given op (λ hold. not (hold.op == op)) w (λ hold differ. ap not (ne_eqb hold.op op differ))
