-- How lines are answered one after another, put and lost.
use Rattle.std.proofs.Common.{◌≡◌, ◌⊎◌, inl, inr, ◌<◌, ◌≤◌, ◌+◌, ◌^◌, ℕ, List, [], ◌∷◌, ◌++◌, take, drop, length, Bool, true, false, cond, IsTrue, Option, Some, Result, Ok, Err, refl, sym, ap, ◌∙◌, subst, append_assoc, arith, length-append, length-drop}
use Rattle.std.specs.Io.KnownBytes.{Appends, IsAtEnd, Keeps}
use Rattle.std.proofs.KnownBytes.{Appends-nil, Appends-trans, Appends-kept}
use Rattle.std.proofs.lemmas.List.{take-append-drop}
use Rattle.ct_transcript.specs.Transcript.{Served, Answered}
use Rattle.ct_transcript.proofs.Runs.{Served-append, Served-one, Answered-append, Answered-none, Answered-put}
use Rattle.ct_lines.specs.Lines.{HasNoEnd, lines_from, held_with, held_after, line_ended, line_unfinished, is_within_line, lines_of, last_line}
use Rattle.ct_lines.proofs.LineLemmas.{lines_from-line, lines_from-no_end, lines_from-append}
use Rattle.ct_link.specs.Sink.{AppendsPart, IsCauseOf}
use Rattle.ct_link.specs.declared.sink.SinkError.{SinkError}
use Rattle.ct_link.specs.declared.sink.SinkError.TheVariants.{Fault, Memory}
use Rattle.ct_yard.specs.declared.yard.Yard.{Yard}
use Rattle.ct_yard.specs.Telling.{Telling}
use Rattle.ct_yard.specs.Machine.{Machine}
use Rattle.ct_isam.specs.Replies.{Reply, no_memory, silent}
use Rattle.ct_session.specs.Replies.{spelling}
use Rattle.ct_session.specs.Steps.{Visit, Step}
use Rattle.ct_session.proofs.Served.{silent_step, memory_step}
use Rattle.ct_session.specs.Serving.{AnswersLine}
use Rattle.ct_tool.specs.declared.input.Stop.{Stop}
use Rattle.ct_tool.specs.declared.input.Stop.TheVariants.{End}
use Rattle.ct_tool.specs.declared.session.TheConstants.{BLOCK}
use Rattle.ct_tool.specs.Talking.{Scene, Moment, at_moment, KeptStep, Puts, Serves, Input, Output, Takes, StopsBy, TakenWhileOpen, Talks, SoFar, ServesInput, AreLines, IsLeft, stop_of}

-- a first part of what waits is put, and the rest not
pub part_put : (error : SinkError) (a b : Option (List ℕ)) (waiting now : List ℕ) → AppendsPart a b waiting → Puts {E = SinkError} (Err error) a b waiting now
part_put error a b waiting now part =
    (take part.0 waiting, drop part.0 waiting, part.2, sym (take-append-drop part.0 waiting), omega (arith, length-drop part.0 waiting, part.1))

append_none : {A : Type 0} → (xs : List A) → xs ++ [] ≡ xs
append_none [] = refl
append_none (x ∷ xs) = ap (λ rest. x ∷ rest) (append_none xs)

-- no line has begun, so none is left
pub nothing_left : (held : Option (List ℕ)) → is_within_line held ≡ false → last_line held ≡ []
nothing_left held none = ap (λ (b : Bool). cond b (line_unfinished held ∷ []) []) none

-- a line has begun, so it is the last
pub last_left : (held : Option (List ℕ)) → is_within_line held ≡ true → last_line held ≡ line_unfinished held ∷ []
last_left held some = ap (λ (b : Bool). cond b (line_unfinished held ∷ []) []) some

-- the reply with which nothing changes: after a session's end none, else want of memory
pad : Bool → Reply
pad true = silent
pad false = no_memory

pad_step : (ended : Bool) (machine : Machine) (visit : Visit) (line : Option (List ℕ)) → visit.ended ≡ ended → Step machine visit line (pad ended) machine visit
unfolding pad
pad_step true machine visit line is = silent_step machine machine visit visit line silent is (refl, refl, refl)
pad_step false machine visit line is = memory_step machine visit line is

refused : (error : SinkError) (left : Option (List ℕ)) (bytes : List ℕ) (lines : List (Option (List ℕ))) → (lines ≡ lines_from (Some []) bytes) ⊎ (IsAtEnd left × (lines ≡ lines_of bytes)) → AreLines (stop_of error) left bytes lines
refused Fault left bytes lines either = either
refused Memory left bytes lines either = either

some_left : (error : SinkError) (left : List ℕ) → 0 < length left → IsLeft (stop_of error) left
some_left Fault left some = some
some_left Memory left some = some

longer_left : (left more : List ℕ) → 0 < length left → 0 < length (left ++ more)
longer_left left more some = omega (arith, length-append left more, some)

-- why the sink's refusal stops the input
pub refused_by : (error : SinkError) (i i' : Input) (o o' o'' : Output) → i'.count ≤ i.count + 2 ^ 40 + BLOCK → i'.faults ≡ i.faults → o'.faults ≡ o.faults → IsCauseOf error o'.faults o''.faults → StopsBy (stop_of error) i i' o o''
refused_by Fault i i' o o' o'' within source sink cause = (within, source, omega (arith, sink, cause))
refused_by Memory i i' o o' o'' within source sink cause = (within, source, cause ∙ sink)

-- more bytes are taken
pub Takes-then : (a b c : Input) (bytes piece : List ℕ) → Takes a b bytes → Takes b c piece → Takes a c (bytes ++ piece)
Takes-then a b c bytes piece first second = record {
  took = Appends-trans a.taken b.taken c.taken bytes piece first.took second.took;
  counted = omega (arith, first.counted, second.counted, length-append bytes piece);
}

lines_then : (bytes piece : List ℕ) (held : Option (List ℕ)) → held ≡ held_after (Some []) bytes → lines_from (Some []) bytes ++ lines_from held piece ≡ lines_from (Some []) (bytes ++ piece)
lines_then bytes piece held held_is = sym (lines_from-append (Some []) bytes piece ∙ ap (λ (h : Option (List ℕ)). lines_from (Some []) bytes ++ lines_from h piece) (sym held_is))

lines_whole : (bytes : List ℕ) (held : Option (List ℕ)) → held ≡ held_after (Some []) bytes → lines_from (Some []) bytes ++ last_line held ≡ lines_of bytes
lines_whole bytes held held_is = ap (λ (h : Option (List ℕ)). lines_from (Some []) bytes ++ last_line h) held_is

module _ {L : Type 0} (disk : Telling L) where
  passed_by : (founded : Bool) (front : List ℕ) (moment : Moment L) (reply : Reply) → ((line : Option (List ℕ)) → KeptStep founded disk front moment line reply moment)
      → (lines : List (Option (List ℕ))) → (text : List ℕ) × Served (KeptStep founded disk front) spelling moment lines text moment
  passed_by founded front moment reply always [] = ([], (refl, refl))
  passed_by founded front moment reply always (line ∷ lines) =
      let rest = passed_by founded front moment reply always lines in (spelling reply ++ rest.0, (reply, moment, rest.0, always line, refl, rest.1))

  -- the lines that nobody looked at
  passed : (founded : Bool) (front : List ℕ) (moment : Moment L) (lines : List (Option (List ℕ))) → (text : List ℕ) × Served (KeptStep founded disk front) spelling moment lines text moment
  passed founded front moment lines =
      passed_by founded front moment (pad (moment.visit).ended) (λ line. (pad_step (moment.visit).ended moment.machine moment.visit line refl, record { idle = λ _. refl; moments = inl refl })) lines

  -- a session that had not ended goes on with a block more
  then_talks : (founded : Bool) (front : List ℕ) (old mid new : Moment L) (bytes piece : List ℕ) (more : List (Option (List ℕ))) (a b c : Output) (left : List ℕ) → (mid.visit).ended ≡ false → length piece ≤ BLOCK
      → Talks founded disk front old bytes (lines_from (Some []) bytes) mid a b [] → Answered (KeptStep founded disk front) spelling mid more new b.written c.written [] left
      → Talks founded disk front old (bytes ++ piece) (lines_from (Some []) bytes ++ more) new a c left
  then_talks founded front old mid new bytes piece more a b c left going short one two =
      let first = one.answered in record {
        answered = record {
          text = first.text ++ two.text;
          put = first.put ++ two.put;
          served = Served-append (KeptStep founded disk front) spelling old (lines_from (Some []) bytes) first.text mid more two.text new first.served two.served;
          wrote = Appends-trans a.written b.written c.written first.put two.put first.wrote two.wrote;
          same = ap (λ (t : List ℕ). t ++ two.text) (first.same ∙ append_none first.put) ∙ ap (λ (t : List ℕ). first.put ++ t) two.same ∙ sym (append_assoc first.put two.put left);
        };
        taken = record {
          before = bytes;
          last = piece;
          bytes_are = refl;
          short = short;
          more = more;
          lines_are = refl;
          first = first.text;
          others = two.text;
          text_is = refl;
          open_then = mid;
          served = first.served;
          is_open = going;
          goes_on = two.served;
        };
      }

  same_bytes : (founded : Bool) (front : List ℕ) (old new : Moment L) (bytes others : List ℕ) (lines more : List (Option (List ℕ))) (a c : Output) (left : List ℕ) → bytes ≡ others → lines ≡ more
      → Talks founded disk front old bytes lines new a c left → Talks founded disk front old others more new a c left
  same_bytes founded front old new bytes others lines more a c left is lines_are talks =
      subst (λ (ls : List (Option (List ℕ))). Talks founded disk front old others ls new a c left) lines_are
      (subst (λ (bs : List ℕ). Talks founded disk front old bs lines new a c left) is talks)

module _ {P L : Type 0} (disk : Telling L) where
  -- nothing answered yet
  pub none_served : (scene : Scene P L) (written : Option (List ℕ)) → Serves {E = SinkError} disk (Ok tt) scene [] scene written written
  none_served scene written founded front machine told stands = (machine, Answered-none (KeptStep founded disk front) spelling (at_moment machine scene) written scene.waiting, stands)

  -- where the sink refuses before the lines are looked at
  pub refused_serves : (error : SinkError) (scene : Scene P L) (now : List ℕ) (lines : List (Option (List ℕ))) (a b : Option (List ℕ))
      → Puts {E = SinkError} (Err error) a b scene.waiting now → Serves {E = SinkError} disk (Err error) scene lines (record scene { waiting = now }) a b
  refused_serves error scene now lines a b puts founded front machine told stands =
      let rest = passed disk founded front (at_moment machine scene) lines in (
        machine,
        (
          puts.1 ++ rest.0,
          longer_left puts.1 rest.0 puts.4,
          record {
            text = rest.0;
            put = puts.0;
            served = rest.1;
            wrote = puts.2;
            same = ap (λ (t : List ℕ). t ++ rest.0) puts.3 ∙ append_assoc puts.0 puts.1 rest.0;
          },
        ),
        stands,
      )

  -- a line answered, behind what was put
  pub line_served : (old new : Scene P L) (line : Option (List ℕ)) (a b : Option (List ℕ)) (mid : List ℕ)
      → Puts {E = SinkError} (Ok tt) a b old.waiting mid → AnswersLine disk old.yard old.visit line new.yard new.visit mid new.waiting → Serves {E = SinkError} disk (Ok tt) old (line ∷ []) new a b
  line_served old new line a b mid puts answers founded front machine told stands =
      let done = answers founded front machine told stands in (
        done.1,
        record {
          text = spelling done.0;
          put = puts.0;
          served = Served-one (KeptStep founded disk front) spelling (at_moment machine old) line done.0 (at_moment done.1 new) (done.2, done.4);
          wrote = puts.1;
          same = ap (λ (t : List ℕ). t ++ spelling done.0) puts.2 ∙ append_assoc puts.0 mid (spelling done.0) ∙ ap (λ (t : List ℕ). puts.0 ++ t) (sym done.5);
        },
        done.3,
      )

  -- one list of lines after another
  pub both_served : (result : Result Unit SinkError) (old mid new : Scene P L) (lines more : List (Option (List ℕ))) (a b c : Option (List ℕ))
      → Serves {E = SinkError} disk (Ok tt) old lines mid a b → Serves disk result mid more new b c → Serves disk result old (lines ++ more) new a c
  both_served (Ok done) old mid new lines more a b c first second founded front machine told stands =
      let one = first founded front machine told stands in
      let two = second founded front one.0 told one.2 in
      (two.0, Answered-append (KeptStep founded disk front) spelling (at_moment machine old) lines (at_moment one.0 mid) more (at_moment two.0 new) a b c old.waiting mid.waiting new.waiting one.1 two.1, two.2)
  both_served (Err error) old mid new lines more a b c first second founded front machine told stands =
      let one = first founded front machine told stands in
      let two = second founded front one.0 told one.2 in
      (two.0, (two.1.0, two.1.1, Answered-append (KeptStep founded disk front) spelling (at_moment machine old) lines (at_moment one.0 mid) more (at_moment two.0 new) a b c old.waiting mid.waiting two.1.0 one.1 two.1.2), two.2)

  -- after a refusal nobody looks at more lines
  pub lost_served : (error : SinkError) (old new : Scene P L) (lines more : List (Option (List ℕ))) (a b : Option (List ℕ))
      → Serves {E = SinkError} disk (Err error) old lines new a b → Serves {E = SinkError} disk (Err error) old (lines ++ more) new a b
  lost_served error old new lines more a b first founded front machine told stands =
      let one = first founded front machine told stands in
      let rest = passed disk founded front (at_moment one.0 new) more in
      let answered = one.1.2 in (
        one.0,
        (
          one.1.0 ++ rest.0,
          longer_left one.1.0 rest.0 one.1.1,
          record {
            text = answered.text ++ rest.0;
            put = answered.put;
            served = Served-append (KeptStep founded disk front) spelling (at_moment machine old) lines answered.text (at_moment one.0 new) more rest.0 (at_moment one.0 new) answered.served rest.1;
            wrote = answered.wrote;
            same = sym (append_assoc old.waiting answered.text rest.0) ∙ ap (λ (t : List ℕ). t ++ rest.0) answered.same ∙ append_assoc answered.put one.1.0 rest.0;
          },
        ),
        one.2,
      )

  -- what waits is put
  pub put_served : (result : Result Unit SinkError) (old new : Scene P L) (now : List ℕ) (lines : List (Option (List ℕ))) (a b c : Option (List ℕ))
      → Serves {E = SinkError} disk (Ok tt) old lines new a b → Puts result b c new.waiting now → Serves disk result old lines (record new { waiting = now }) a c
  put_served (Ok done) old new now lines a b c first puts founded front machine told stands =
      let one = first founded front machine told stands in
      (one.0, Answered-put (KeptStep founded disk front) spelling (at_moment machine old) lines (at_moment one.0 new) a b c old.waiting new.waiting puts.0 now one.1 puts.1 puts.2, one.2)
  put_served (Err error) old new now lines a b c first puts founded front machine told stands =
      let one = first founded front machine told stands in
      (one.0, (puts.1, puts.4, Answered-put (KeptStep founded disk front) spelling (at_moment machine old) lines (at_moment one.0 new) a b c old.waiting new.waiting puts.0 puts.1 one.1 puts.2 puts.3), one.2)

  -- the same of other lines that are the same
  pub same_lines : (result : Result Unit SinkError) (old new : Scene P L) (lines others : List (Option (List ℕ))) (a b : Option (List ℕ)) → others ≡ lines
      → Serves disk result old lines new a b → Serves disk result old others new a b
  same_lines result old new lines others a b same serves = subst (λ (ls : List (Option (List ℕ))). Serves disk result old ls new a b) (sym same) serves

  -- one more line of a block
  pub block_goes_on : (old mid new : Scene P L) (held : Option (List ℕ)) (whole rest piece behind : List ℕ) (done : List (Option (List ℕ))) (first held_first : Option (List ℕ)) (line : Option (List ℕ)) (a b c : Option (List ℕ))
      → HasNoEnd piece → rest ≡ piece ++ 10 ∷ behind → lines_from held whole ≡ done ++ lines_from first rest → held_first ≡ held_with first piece → line ≡ line_ended held_first
      → Serves {E = SinkError} disk (Ok tt) old done mid a b → Serves {E = SinkError} disk (Ok tt) mid (line ∷ []) new b c
      → (more : List (Option (List ℕ))) × (lines_from held whole ≡ more ++ lines_from (Some []) behind) × Serves {E = SinkError} disk (Ok tt) old more new a c
  block_goes_on old mid new held whole rest piece behind done first held_first line a b c none split so_far held_is line_is serves one = (
    done ++ line ∷ [],
    so_far ∙ ap (λ (r : List ℕ). done ++ lines_from first r) split
        ∙ ap (λ (ls : List (Option (List ℕ))). done ++ ls) (lines_from-line first piece behind none ∙ ap (λ (l : Option (List ℕ)). l ∷ lines_from (Some []) behind) (sym (line_is ∙ ap line_ended held_is)))
        ∙ sym (append_assoc done (line ∷ []) (lines_from (Some []) behind)),
    both_served (Ok tt) old mid new done (line ∷ []) a b c serves one,
  )

  -- a refusal at one line of a block
  pub block_cut : (error : SinkError) (old mid new : Scene P L) (held : Option (List ℕ)) (whole rest piece behind : List ℕ) (done : List (Option (List ℕ))) (first held_first : Option (List ℕ)) (line : Option (List ℕ)) (a b c : Option (List ℕ))
      → HasNoEnd piece → rest ≡ piece ++ 10 ∷ behind → lines_from held whole ≡ done ++ lines_from first rest → held_first ≡ held_with first piece → line ≡ line_ended held_first
      → Serves {E = SinkError} disk (Ok tt) old done mid a b → Serves {E = SinkError} disk (Err error) mid (line ∷ []) new b c
      → Serves {E = SinkError} disk (Err error) old (lines_from held whole) new a c
  block_cut error old mid new held whole rest piece behind done first held_first line a b c none split so_far held_is line_is serves one =
      let all : lines_from held whole ≡ (done ++ line ∷ []) ++ lines_from (Some []) behind =
      so_far ∙ ap (λ (r : List ℕ). done ++ lines_from first r) split
      ∙ ap (λ (ls : List (Option (List ℕ))). done ++ ls) (lines_from-line first piece behind none ∙ ap (λ (l : Option (List ℕ)). l ∷ lines_from (Some []) behind) (sym (line_is ∙ ap line_ended held_is)))
      ∙ sym (append_assoc done (line ∷ []) (lines_from (Some []) behind)) in
      same_lines (Err error) old new ((done ++ line ∷ []) ++ lines_from (Some []) behind) (lines_from held whole) a c all
      (lost_served error old new (done ++ line ∷ []) (lines_from (Some []) behind) a c
      (both_served (Err error) old mid new done (line ∷ []) a b c serves one))

  -- a block whose rest ends no line
  pub block_done : (old new : Scene P L) (held : Option (List ℕ)) (whole rest : List ℕ) (done : List (Option (List ℕ))) (last : Option (List ℕ)) (a b : Option (List ℕ))
      → HasNoEnd rest → lines_from held whole ≡ done ++ lines_from last rest
      → Serves {E = SinkError} disk (Ok tt) old done new a b → Serves {E = SinkError} disk (Ok tt) old (lines_from held whole) new a b
  block_done old new held whole rest done last a b none so_far serves =
      same_lines (Ok tt) old new done (lines_from held whole) a b (so_far ∙ ap (λ (ls : List (Option (List ℕ))). done ++ ls) (lines_from-no_end last rest none) ∙ append_none done) serves

  -- the same, where nothing waits before it and after it
  pub emptied : (old new : Scene P L) (lines : List (Option (List ℕ))) (a b : Option (List ℕ)) → old.waiting ≡ [] → new.waiting ≡ []
      → Serves {E = SinkError} disk (Ok tt) old lines new a b → Serves {E = SinkError} disk (Ok tt) (record old { waiting = [] }) lines (record new { waiting = [] }) a b
  emptied old new lines a b none none_left serves =
      subst (λ (w : List ℕ). Serves {E = SinkError} disk (Ok tt) (record old { waiting = [] }) lines (record new { waiting = w }) a b) none_left
      (subst (λ (w : List ℕ). Serves {E = SinkError} disk (Ok tt) (record old { waiting = w }) lines new a b) none serves)

  pub unwaited : (error : SinkError) (old new : Scene P L) (lines : List (Option (List ℕ))) (a b : Option (List ℕ)) → old.waiting ≡ []
      → Serves {E = SinkError} disk (Err error) old lines new a b → Serves {E = SinkError} disk (Err error) (record old { waiting = [] }) lines new a b
  unwaited error old new lines a b none serves = subst (λ (w : List ℕ). Serves {E = SinkError} disk (Err error) (record old { waiting = w }) lines new a b) none serves

  -- nothing taken yet
  pub begun : (scene : Scene P L) (input : Input) (output : Output) → (scene.visit).ended ≡ false → SoFar disk [] scene scene input input output output
  begun scene input output open_now = record {
    takes = record { took = Appends-nil input.taken; counted = omega arith };
    answers = λ founded front machine told stands. (
      machine,
      record {
        answered = record { text = []; put = []; served = (refl, refl); wrote = Appends-nil output.written; same = refl };
        taken = record {
          before = [];
          last = [];
          bytes_are = refl;
          short = omega arith;
          more = [];
          lines_are = refl;
          first = [];
          others = [];
          text_is = refl;
          open_then = at_moment machine scene;
          served = (refl, refl);
          is_open = open_now;
          goes_on = (refl, refl);
        };
      },
      stands,
    );
  }

  -- one block more
  pub goes_on : (bytes piece : List ℕ) (held : Option (List ℕ)) (old mid new : Scene P L) (i i' i'' : Input) (o o' o'' : Output) → held ≡ held_after (Some []) bytes → (mid.visit).ended ≡ false → length piece ≤ BLOCK
      → SoFar disk bytes old mid i i' o o' → Takes i' i'' piece → Serves {E = SinkError} disk (Ok tt) (record mid { waiting = [] }) (lines_from held piece) (record new { waiting = [] }) o'.written o''.written
      → SoFar disk (bytes ++ piece) old new i i'' o o''
  goes_on bytes piece held old mid new i i' i'' o o' o'' held_is going short so_far takes serves = record {
    takes = Takes-then i i' i'' bytes piece so_far.takes takes;
    answers = λ founded front machine told stands.
        let one = so_far.answers founded front machine told stands in
        let two = serves founded front one.0 told one.2 in (
          two.0,
          same_bytes disk founded front (at_moment machine old) (at_moment two.0 new) (bytes ++ piece) (bytes ++ piece) (lines_from (Some []) bytes ++ lines_from held piece) (lines_from (Some []) (bytes ++ piece)) o o'' [] refl (lines_then bytes piece held held_is)
              (then_talks disk founded front (at_moment machine old) (at_moment one.0 mid) (at_moment two.0 new) bytes piece (lines_from held piece) o o' o'' [] going short one.1 two.1),
          two.2,
        );
  }

  -- the source failed, the session ended, or the input was too long
  pub stopped : (stop : Stop) (bytes : List ℕ) (old new : Scene P L) (i i' i'' : Input) (o o' : Output) → ((lines : List (Option (List ℕ))) → lines ≡ lines_from (Some []) bytes → AreLines stop i''.left bytes lines) → IsLeft stop []
      → StopsBy stop i i'' o o' → SoFar disk bytes old new i i' o o' → Takes i' i'' [] → ServesInput disk stop bytes old new i i'' o o'
  stopped stop bytes old new i i' i'' o o' lines_are left stops so_far takes = record {
    takes = subst (λ (bs : List ℕ). Takes i i'' bs) (append_none bytes) (Takes-then i i' i'' bytes [] so_far.takes takes);
    stops = stops;
    answers = λ founded front machine told stands.
        let one = so_far.answers founded front machine told stands in (one.0, lines_from (Some []) bytes, [], lines_are (lines_from (Some []) bytes) refl, one.1, left, one.2);
  }

  -- the input ended, and its last line is answered
  pub ended : (bytes : List ℕ) (held : Option (List ℕ)) (old mid new : Scene P L) (i i' i'' : Input) (o o' o'' : Output) → held ≡ held_after (Some []) bytes → (mid.visit).ended ≡ false
      → StopsBy End i i'' o o'' → SoFar disk bytes old mid i i' o o' → Takes i' i'' [] → Serves {E = SinkError} disk (Ok tt) (record mid { waiting = [] }) (last_line held) (record new { waiting = [] }) o'.written o''.written
      → ServesInput disk End bytes old new i i'' o o''
  ended bytes held old mid new i i' i'' o o' o'' held_is going stops so_far takes serves = record {
    takes = subst (λ (bs : List ℕ). Takes i i'' bs) (append_none bytes) (Takes-then i i' i'' bytes [] so_far.takes takes);
    stops = stops;
    answers = λ founded front machine told stands.
        let one = so_far.answers founded front machine told stands in
        let two = serves founded front one.0 told one.2 in (
          two.0,
          lines_of bytes,
          [],
          refl,
          same_bytes disk founded front (at_moment machine old) (at_moment two.0 new) (bytes ++ []) bytes (lines_from (Some []) bytes ++ last_line held) (lines_of bytes) o o'' [] (append_none bytes) (lines_whole bytes held held_is)
              (then_talks disk founded front (at_moment machine old) (at_moment one.0 mid) (at_moment two.0 new) bytes [] (last_line held) o o' o'' [] going (omega arith) one.1 two.1),
          refl,
          two.2,
        );
  }

  -- the sink refused in a piece
  pub cut : (error : SinkError) (bytes piece : List ℕ) (held : Option (List ℕ)) (old mid new : Scene P L) (i i' i'' : Input) (o o' o'' : Output) → held ≡ held_after (Some []) bytes → (mid.visit).ended ≡ false → length piece ≤ BLOCK
      → StopsBy (stop_of error) i i'' o o'' → SoFar disk bytes old mid i i' o o' → Takes i' i'' piece → Serves {E = SinkError} disk (Err error) (record mid { waiting = [] }) (lines_from held piece) new o'.written o''.written
      → ServesInput disk (stop_of error) (bytes ++ piece) old new i i'' o o''
  cut error bytes piece held old mid new i i' i'' o o' o'' held_is going short stops so_far takes serves = record {
    takes = Takes-then i i' i'' bytes piece so_far.takes takes;
    stops = stops;
    answers = λ founded front machine told stands.
        let one = so_far.answers founded front machine told stands in
        let two = serves founded front one.0 told one.2 in (
          two.0,
          lines_from (Some []) (bytes ++ piece),
          two.1.0,
          refused error i''.left (bytes ++ piece) (lines_from (Some []) (bytes ++ piece)) (inl refl),
          same_bytes disk founded front (at_moment machine old) (at_moment two.0 new) (bytes ++ piece) (bytes ++ piece) (lines_from (Some []) bytes ++ lines_from held piece) (lines_from (Some []) (bytes ++ piece)) o o'' two.1.0 refl (lines_then bytes piece held held_is)
              (then_talks disk founded front (at_moment machine old) (at_moment one.0 mid) (at_moment two.0 new) bytes piece (lines_from held piece) o o' o'' two.1.0 going short one.1 two.1.2),
          some_left error two.1.0 two.1.1,
          two.2,
        );
  }

  -- the sink refused at the end
  pub cut_at_end : (error : SinkError) (bytes : List ℕ) (held : Option (List ℕ)) (old mid new : Scene P L) (i i' i'' : Input) (o o' o'' : Output) → held ≡ held_after (Some []) bytes → (mid.visit).ended ≡ false → IsAtEnd i''.left
      → StopsBy (stop_of error) i i'' o o'' → SoFar disk bytes old mid i i' o o' → Takes i' i'' [] → Serves {E = SinkError} disk (Err error) (record mid { waiting = [] }) (last_line held) new o'.written o''.written
      → ServesInput disk (stop_of error) bytes old new i i'' o o''
  cut_at_end error bytes held old mid new i i' i'' o o' o'' held_is going at_end stops so_far takes serves = record {
    takes = subst (λ (bs : List ℕ). Takes i i'' bs) (append_none bytes) (Takes-then i i' i'' bytes [] so_far.takes takes);
    stops = stops;
    answers = λ founded front machine told stands.
        let one = so_far.answers founded front machine told stands in
        let two = serves founded front one.0 told one.2 in (
          two.0,
          lines_of bytes,
          two.1.0,
          refused error i''.left bytes (lines_of bytes) (inr (at_end, refl)),
          same_bytes disk founded front (at_moment machine old) (at_moment two.0 new) (bytes ++ []) bytes (lines_from (Some []) bytes ++ last_line held) (lines_of bytes) o o'' two.1.0 (append_none bytes) (lines_whole bytes held held_is)
              (then_talks disk founded front (at_moment machine old) (at_moment one.0 mid) (at_moment two.0 new) bytes [] (last_line held) o o' o'' two.1.0 going (omega arith) one.1 two.1.2),
          some_left error two.1.0 two.1.1,
          two.2,
        );
  }
