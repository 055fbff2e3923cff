use Rattle.std.proofs.Common.{◌≡◌, sym, ap, ◌∙◌, refl, ℕ, List, [], ◌∷◌, ◌++◌, length, arith}
use Rattle.std.specs.Option.{option_copied}
use Rattle.ct_lines.specs.Lines.{held_after}
use Rattle.ct_lines.proofs.LineLemmas.{held_after-line, held_after-no_end}
use Rattle.ct_yard.specs.Telling.{telling}
use Rattle.ct_tool.specs.Talking.{scene_of}
use Rattle.ct_tool.proofs.Talks.{none_served, block_goes_on, block_cut, block_done}
use Rattle.ct_tool.proofs.talk.Talk.answer_block.Goals as goal

pub loop-line-init : goal.loop-line-init
loop-line-init g c = record {
  serves = ([], refl, none_served (telling g.L.Disk.tells g.L.Disk.faults g.L.Disk.content g.L.Disk.may_leave g.L.Disk.left_since) (scene_of c.args.self.now) (g.O.Sink.written c.args.out.now));
  held = refl;
  ready = c.requires.ready;
  pages = refl;
  faults = refl;
}

pub returns-in-Err-clause-serves : goal.returns-in-Err-clause-serves
returns-in-Err-clause-serves g c =
    let so_far = c.loop-line.invariant.serves in
    block_cut (telling g.L.Disk.tells g.L.Disk.faults g.L.Disk.content g.L.Disk.may_leave g.L.Disk.left_since) c.in-Err.error (scene_of c.args.self.now) (scene_of c.loop-line.self) (scene_of c.answer.new.self) c.args.held.now c.args.block.now c.loop-line.rest.now c.in-Some.line.now c.in-Some.behind.now
    so_far.0 c.loop-line.held c.hold.new.self (option_copied c.ended.result) (g.O.Sink.written c.args.out.now) (g.O.Sink.written c.loop-line.out) (g.O.Sink.written c.answer.new.out)
    c.in-Some.ensures.0 c.in-Some.ensures.1 so_far.1 c.hold.ensures c.ended.ensures so_far.2 c.in-Err.ensures.serves

pub loop-line-preserved : goal.loop-line-preserved
loop-line-preserved g c =
    let so_far = c.loop-line.invariant.serves in
    let on = block_goes_on (telling g.L.Disk.tells g.L.Disk.faults g.L.Disk.content g.L.Disk.may_leave g.L.Disk.left_since) (scene_of c.args.self.now) (scene_of c.loop-line.self) (scene_of c.answer.new.self) c.args.held.now c.args.block.now c.loop-line.rest.now c.in-Some.line.now c.in-Some.behind.now
    so_far.0 c.loop-line.held c.hold.new.self (option_copied c.ended.result) (g.O.Sink.written c.args.out.now) (g.O.Sink.written c.loop-line.out) (g.O.Sink.written c.answer.new.out)
    c.in-Some.ensures.0 c.in-Some.ensures.1 so_far.1 c.hold.ensures c.ended.ensures so_far.2 c.in_default-answer.ensures.serves in
    rw c.clear.ensures
    (record {
      serves = on;
      held = c.loop-line.invariant.held ∙ ap (λ (r : List ℕ). held_after c.loop-line.held r) c.in-Some.ensures.1 ∙ held_after-line c.loop-line.held c.in-Some.line.now c.in-Some.behind.now c.in-Some.ensures.0;
      ready = c.answer.ensures.ready;
      pages = c.answer.ensures.pages ∙ c.loop-line.invariant.pages;
      faults = c.in_default-answer.ensures.cause ∙ c.loop-line.invariant.faults;
    })

pub returns-clause-serves : goal.returns-clause-serves
returns-clause-serves g c =
    let so_far = c.loop-line.invariant.serves in
    block_done (telling g.L.Disk.tells g.L.Disk.faults g.L.Disk.content g.L.Disk.may_leave g.L.Disk.left_since) (scene_of c.args.self.now) (scene_of c.loop-line.self) c.args.held.now c.args.block.now c.loop-line.rest.now so_far.0 c.loop-line.held
    (g.O.Sink.written c.args.out.now) (g.O.Sink.written c.loop-line.out) c.in_default.ensures so_far.1 so_far.2

pub returns-clause-held : goal.returns-clause-held
returns-clause-held g c =
    c.hold-2.ensures ∙ sym (held_after-no_end c.loop-line.held c.loop-line.rest.now c.in_default.ensures) ∙ sym c.loop-line.invariant.held
