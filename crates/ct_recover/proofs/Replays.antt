-- Transactions that are replayed one after the other, from the groups of a chunk.
use Rattle.std.proofs.Common.{◌≡◌, ◌≢◌, ◌≤◌, ◌<◌, ◌+◌, ℕ, true, ◌&&◌, ◌==◌, List, [], ◌∷◌, ◌++◌, length, take, drop, refl, sym, ap, ◌∙◌, subst, arith, append_assoc, length-append, length-take, length-drop, Err}
use Rattle.std.proofs.lemmas.Bool.{and_from, eq-eqb}
use Rattle.std.proofs.lemmas.List.{take-append-drop, take_at, take_all, flat_map_more}
use Rattle.ct_definitions.specs.declared.change.Transaction.{Transaction}
use Rattle.ct_definitions.specs.Changes.{State}
use Rattle.ct_definitions.specs.Histories.{after_changes, after_transactions, allows_all, are_defined}
use Rattle.ct_group.specs.Commit.{commit_text}
use Rattle.ct_laws.proofs.Histories.{are_defined-append, after_transactions-append}
use Rattle.ct_yard.specs.LogTexts.{groups_text}
use Rattle.ct_yard.proofs.LogTexts.{fit_more}
use Rattle.ct_recover.proofs.Commits.{commit_some}
use Rattle.ct_recover.specs.Replaying.{IsWithin, BeginsWithCommit, HasNoNext, ordinal_after, ReplaysCommit, ReplaysGroup, ReplaysGroups, Replays, HasStop}
use Rattle.ct_recover.specs.declared.fault.OpenFault.{OpenFault}
use Rattle.ct_recover.specs.declared.fault.OpenFault.TheVariants.{NotEmpty, Undone, BadLog, Device, Memory}
use Rattle.ct_recover.specs.declared.replay.Replay.{Replay}

-- The groups so far are those of transactions that are replayed.
pub record IsReadUpTo (groups : List ℕ) (at : ℕ) (old new : Replay) : Type 0 where
  pub first : List Transaction
  pub inside : at ≤ length groups
  pub text : take at groups ≡ groups_text first
  pub replays : Replays first old new
  pub within : IsWithin new
  pub place : new.place ≡ old.place

-- the next transaction is defined
one_defined : (state : State) (last : ℕ) (t : Transaction) → t.number ≡ last + 1 → allows_all state t.changes ≡ true → are_defined state last (t ∷ []) ≡ true
one_defined state last t number allowed =
    and_from (t.number == last + 1 && allows_all state t.changes) true (and_from (t.number == last + 1) (allows_all state t.changes) (eq-eqb t.number (last + 1) number) allowed) refl

-- one transaction more
pub replay_more : (first : List Transaction) (bytes : List ℕ) (size : ℕ) (old mid new : Replay) → Replays first old mid → (one : ReplaysCommit bytes size mid new) → Replays (first ++ one.t ∷ []) old new
replay_more first bytes size old mid new so one =
    let t = one.t in
    let here = after_transactions old.state first in
    let last = old.number + length first in
    let number : t.number ≡ last + 1 = (one.begins).numbered ∙ ap (λ n. n + 1) so.number in
    let allowed : allows_all here t.changes ≡ true = ap (λ (s : State). allows_all s t.changes) (sym so.state) ∙ one.allowed in
    let more : length (first ++ t ∷ []) ≡ length first + 1 = length-append first (t ∷ []) in
    record {
      fit = fit_more first t so.fit (one.begins).fits;
      defined = are_defined-append old.state old.number first (t ∷ []) ∙ and_from (are_defined old.state old.number first) (are_defined here last (t ∷ [])) so.defined (one_defined here last t number allowed);
      state = one.state ∙ ap (λ (s : State). after_changes s t.changes) so.state ∙ sym (after_transactions-append old.state first (t ∷ []));
      number = omega (arith, one.number, so.number, more);
      ordinal = one.ordinal ∙ ap (λ n. ordinal_after n 1) so.ordinal ∙ counted old.ordinal (length first) ∙ ap (λ n. ordinal_after old.ordinal n) (sym more);
    }
  where
    counted : (n k : ℕ) → ordinal_after (ordinal_after n k) 1 ≡ ordinal_after n (k + 1)
    counted n k = omega arith

-- and its text
pub text_more : (groups : List ℕ) (at size number : ℕ) (first : List Transaction) (t : Transaction) → at ≤ length groups → take at groups ≡ groups_text first → BeginsWithCommit number (drop at groups) t size
    → take (at + size) groups ≡ groups_text (first ++ t ∷ [])
text_more groups at size number first t inside text begins =
    let parts : groups ≡ (groups_text first ++ commit_text t) ++ drop size (drop at groups) =
    sym (take-append-drop at groups) ∙ ap (λ (l : List ℕ). l ++ drop at groups) text ∙ ap (λ (l : List ℕ). groups_text first ++ l) begins.parts
    ∙ sym (append_assoc (groups_text first) (commit_text t) (drop size (drop at groups))) in
    let front : length (groups_text first) ≡ at = ap (λ (l : List ℕ). length l) (sym text) ∙ length-take at groups ∙ omega arith in
    let long : length (groups_text first ++ commit_text t) ≡ at + size = omega (arith, length-append (groups_text first) (commit_text t), begins.taken, front) in
    ap (λ (l : List ℕ). take (at + size) l) parts ∙ take_at (groups_text first ++ commit_text t) (drop size (drop at groups)) (at + size) long ∙ flat_map_more commit_text [] first t

-- one group more
pub read_more : (groups : List ℕ) (at size : ℕ) (old mid new : Replay) → IsReadUpTo groups at old mid → ReplaysCommit (drop at groups) size mid new → IsWithin new → new.place ≡ mid.place → IsReadUpTo groups (at + size) old new
read_more groups at size old mid new so one within stays = record {
  first = so.first ++ one.t ∷ [];
  inside = omega (arith, so.inside, (one.begins).within, length-drop at groups);
  text = text_more groups at size (mid.number + 1) so.first one.t so.inside so.text one.begins;
  replays = replay_more so.first (drop at groups) size old mid new so.replays one;
  within = within;
  place = stays ∙ so.place;
}

-- a group has some bytes
pub onward : (bytes : List ℕ) (size : ℕ) (old new : Replay) → ReplaysCommit bytes size old new → 0 < size
onward bytes size old new one = omega (arith, commit_some one.t, (one.begins).taken)

-- nothing is read
pub read_none : (groups : List ℕ) (old : Replay) → IsWithin old → IsReadUpTo groups 0 old old
read_none groups old within = record {
  first = [];
  inside = omega arith;
  text = refl;
  replays = record { fit = λ k d below. absurd (omega arith); defined = refl; state = refl; number = omega arith; ordinal = omega (arith, within.ordinal) };
  within = within;
  place = refl;
}

-- all of it is read
pub read_all : (groups : List ℕ) (at : ℕ) (old new : Replay) → length groups ≤ at → (so : IsReadUpTo groups at old new) → groups ≡ groups_text so.first
read_all groups at old new all so = sym (take_all at groups all) ∙ so.text

-- what comes is no next commit
pub read_to_stop : (groups : List ℕ) (at place : ℕ) (old mid : Replay) → at < length groups → IsReadUpTo groups at old mid → (place ≡ mid.place + 5 + at) × HasNoNext mid.state mid.number (drop at groups) → HasStop groups old place
read_to_stop groups at place old mid below so bad =
    let front : length (groups_text so.first) ≡ at = ap (λ (l : List ℕ). length l) (sym so.text) ∙ length-take at groups ∙ omega (arith, so.inside) in
    let some : drop at groups ≢ [] = λ none. let long : length (drop at groups) ≡ 0 = ap (λ (l : List ℕ). length l) none in omega (arith, length-drop at groups) in
    record {
      first = so.first;
      tail = drop at groups;
      fit = (so.replays).fit;
      parts = sym (take-append-drop at groups) ∙ ap (λ (l : List ℕ). l ++ drop at groups) so.text;
      defined = (so.replays).defined;
      some = some;
      none = subst (λ (n : ℕ). HasNoNext (after_transactions old.state so.first) n (drop at groups)) (so.replays).number
          (subst (λ (s : State). HasNoNext s mid.number (drop at groups)) (so.replays).state bad.1);
      here = bad.0 ∙ omega (arith, so.place, front);
    }

-- why the groups of a chunk are not replayed
pub groups_stopped : (groups : List ℕ) (at : ℕ) (old mid new : Replay) (fault : OpenFault) → at < length groups → IsReadUpTo groups at old mid → ReplaysGroup groups at (Err fault) mid new → ReplaysGroups groups (Err fault) old new
groups_stopped groups at old mid new (BadLog place) below so bad = read_to_stop groups at place old mid below so bad
groups_stopped groups at old mid new Memory below so bad = tt
groups_stopped groups at old mid new Device below so bad = bad
groups_stopped groups at old mid new NotEmpty below so bad = bad
groups_stopped groups at old mid new Undone below so bad = bad
