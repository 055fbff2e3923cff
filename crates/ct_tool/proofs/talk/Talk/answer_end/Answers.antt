use Rattle.std.proofs.Common.{◌≡◌, sym, ap, ◌∙◌, ℕ, List, [], ◌∷◌, Option, Err, true, false}
use Rattle.std.specs.Option.{option_copied}
use Rattle.ct_lines.specs.Lines.{last_line, is_within_line}
use Rattle.ct_yard.specs.Telling.{telling}
use Rattle.ct_tool.specs.Talking.{scene_of}
use Rattle.ct_tool.proofs.Talks.{nothing_left, last_left, none_served, put_served, same_lines}
use Rattle.ct_tool.proofs.talk.Talk.answer_end.Goals as goal

pub returns-then-not-is_within_line-clause-serves : goal.returns-then-not-is_within_line-clause-serves
returns-then-not-is_within_line-clause-serves g c =
    let none : is_within_line c.args.held.now ≡ false = sym c.is_within_line.ensures ∙ c.if-not-is_within_line.true in
    let disk = telling g.L.Disk.tells g.L.Disk.faults g.L.Disk.content g.L.Disk.may_leave g.L.Disk.left_since in
    let old = scene_of c.args.self.now in
    let written = g.O.Sink.written c.args.out.now in
    let written' = g.O.Sink.written c.put_replies.new.out in
    same_lines disk c.put_replies.result old (record old { waiting = c.put_replies.new.replies.items }) [] (last_line c.args.held.now) written written' (nothing_left c.args.held.now none)
    (put_served disk c.put_replies.result old old c.put_replies.new.replies.items [] written written written' (none_served disk old written) c.put_replies.ensures.put)

pub returns-in-Err-clause-serves : goal.returns-in-Err-clause-serves
returns-in-Err-clause-serves g c =
    let some : is_within_line c.args.held.now ≡ true = sym c.is_within_line.ensures ∙ c.if-not-is_within_line.false in
    let lines : last_line c.args.held.now ≡ option_copied c.unfinished.result ∷ [] = last_left c.args.held.now some ∙ ap (λ (l : Option (List ℕ)). l ∷ []) (sym c.unfinished.ensures) in
    same_lines (telling g.L.Disk.tells g.L.Disk.faults g.L.Disk.content g.L.Disk.may_leave g.L.Disk.left_since) (Err c.in-Err.error) (scene_of c.args.self.now) (scene_of c.answer.new.self) (option_copied c.unfinished.result ∷ []) (last_line c.args.held.now)
    (g.O.Sink.written c.args.out.now) (g.O.Sink.written c.answer.new.out) lines c.in-Err.ensures.serves

pub returns-clause-serves : goal.returns-clause-serves
returns-clause-serves g c =
    let some : is_within_line c.args.held.now ≡ true = sym c.is_within_line.ensures ∙ c.if-not-is_within_line.false in
    let lines : last_line c.args.held.now ≡ option_copied c.unfinished.result ∷ [] = last_left c.args.held.now some ∙ ap (λ (l : Option (List ℕ)). l ∷ []) (sym c.unfinished.ensures) in
    let disk = telling g.L.Disk.tells g.L.Disk.faults g.L.Disk.content g.L.Disk.may_leave g.L.Disk.left_since in
    let old = scene_of c.args.self.now in
    let mid = scene_of c.answer.new.self in
    let written = g.O.Sink.written c.args.out.now in
    let written' = g.O.Sink.written c.put_replies-2.new.out in
    same_lines disk c.put_replies-2.result old (record mid { waiting = c.put_replies-2.new.replies.items }) (option_copied c.unfinished.result ∷ []) (last_line c.args.held.now) written written' lines
    (put_served disk c.put_replies-2.result old mid c.put_replies-2.new.replies.items (option_copied c.unfinished.result ∷ []) written (g.O.Sink.written c.answer.new.out) written' c.in_default.ensures.serves c.put_replies-2.ensures.put)
