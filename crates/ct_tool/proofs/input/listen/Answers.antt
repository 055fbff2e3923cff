use Rattle.std.proofs.Common.{◌≡◌, ◌≤◌, sym, ap, ◌∙◌, refl, subst, ℕ, List, [], ◌++◌, Option, Some, Ok, Err, false, length, take, arith, length-append, length-take}
use Rattle.std.specs.Io.KnownBytes.{Appends}
use Rattle.std.proofs.KnownBytes.{Appends-nil, Appends-kept}
use Rattle.ct_lines.specs.Lines.{held_after, last_line, lines_from}
use Rattle.ct_lines.proofs.LineLemmas.{held_after-append}
use Rattle.ct_link.specs.declared.sink.SinkError.{SinkError}
use Rattle.ct_yard.specs.Telling.{telling}
use Rattle.ct_tool.specs.declared.input.Stop.{Stop}
use Rattle.ct_tool.specs.declared.input.Stop.TheVariants.{Source, Quit, Long}
use Rattle.ct_tool.specs.Talking.{scene_of, input_of, output_of, Takes, ServesInput, stop_of}
use Rattle.ct_tool.proofs.Talks.{begun, goes_on, stopped, ended, cut, cut_at_end, emptied, unwaited, refused_by}
use Rattle.ct_tool.proofs.input.listen.Goals as goal

pub loop-taken-init : goal.loop-taken-init
loop-taken-init g c = record {
  so_far = ([], refl, c.requires.beginning, begun (telling g.L.Disk.tells g.L.Disk.faults g.L.Disk.content g.L.Disk.may_leave g.L.Disk.left_since) (scene_of c.args.talk.now) (input_of g.I.Source.taken g.I.Source.left g.I.Source.count g.I.Source.faults c.args.input.now) (output_of g.O.Sink.written g.O.Sink.faults c.args.out.now) c.requires.open);
  none = c.requires.none;
  ready = c.requires.ready;
  pages = refl;
  small = omega arith;
  source = refl;
  sink = refl;
}

pub returns-then-has_ended-clause-serves : goal.returns-then-has_ended-clause-serves
returns-then-has_ended-clause-serves g c =
    let inv = c.loop-taken.invariant in
    let so_far = inv.so_far in
    let i = input_of g.I.Source.taken g.I.Source.left g.I.Source.count g.I.Source.faults c.args.input.now in
    let i' = input_of g.I.Source.taken g.I.Source.left g.I.Source.count g.I.Source.faults c.loop-taken.input in (
      so_far.0,
      stopped (telling g.L.Disk.tells g.L.Disk.faults g.L.Disk.content g.L.Disk.may_leave g.L.Disk.left_since) Quit so_far.0 (scene_of c.args.talk.now) (scene_of c.loop-taken.talk) i i' i' (output_of g.O.Sink.written g.O.Sink.faults c.args.out.now) (output_of g.O.Sink.written g.O.Sink.faults c.loop-taken.out) (λ lines same. same) refl
          (omega (arith, so_far.3.takes.counted, so_far.1, c.loop-taken-test.true), inv.source, inv.sink) so_far.3 (record { took = Appends-nil i'.taken; counted = omega arith }),
    )

pub returns-in-Err-clause-serves : goal.returns-in-Err-clause-serves
returns-in-Err-clause-serves g c =
    let inv = c.loop-taken.invariant in
    let so_far = inv.so_far in
    let i = input_of g.I.Source.taken g.I.Source.left g.I.Source.count g.I.Source.faults c.args.input.now in
    let i' = input_of g.I.Source.taken g.I.Source.left g.I.Source.count g.I.Source.faults c.loop-taken.input in
    let i'' = input_of g.I.Source.taken g.I.Source.left g.I.Source.count g.I.Source.faults c.take.new.self in (
      so_far.0,
      stopped (telling g.L.Disk.tells g.L.Disk.faults g.L.Disk.content g.L.Disk.may_leave g.L.Disk.left_since) Source so_far.0 (scene_of c.args.talk.now) (scene_of c.loop-taken.talk) i i' i'' (output_of g.O.Sink.written g.O.Sink.faults c.args.out.now) (output_of g.O.Sink.written g.O.Sink.faults c.loop-taken.out) (λ lines same. same) refl
          (omega (arith, so_far.3.takes.counted, so_far.1, c.loop-taken-test.true, c.in-Err.ensures.count), omega (arith, c.in-Err.ensures.cause, inv.source), inv.sink)
          so_far.3 (record { took = Appends-kept i'.taken i'.taken i''.taken [] (Appends-nil i'.taken) c.in-Err.ensures.taken; counted = omega (arith, c.in-Err.ensures.count) }),
    )

pub returns-in-Ok-answer_end-clause-serves : goal.returns-in-Ok-answer_end-clause-serves
returns-in-Ok-answer_end-clause-serves g c =
    let inv = c.loop-taken.invariant in
    let so_far = inv.so_far in
    let disk = telling g.L.Disk.tells g.L.Disk.faults g.L.Disk.content g.L.Disk.may_leave g.L.Disk.left_since in
    let old = scene_of c.args.talk.now in
    let mid = scene_of c.loop-taken.talk in
    let new = scene_of c.answer_end.new.self in
    let i = input_of g.I.Source.taken g.I.Source.left g.I.Source.count g.I.Source.faults c.args.input.now in
    let i' = input_of g.I.Source.taken g.I.Source.left g.I.Source.count g.I.Source.faults c.loop-taken.input in
    let i'' = input_of g.I.Source.taken g.I.Source.left g.I.Source.count g.I.Source.faults c.take.new.self in
    let o = output_of g.O.Sink.written g.O.Sink.faults c.args.out.now in
    let o' = output_of g.O.Sink.written g.O.Sink.faults c.loop-taken.out in
    let o'' = output_of g.O.Sink.written g.O.Sink.faults c.answer_end.new.out in
    let nothing : Appends i'.taken i''.taken [] = subst (λ (n : ℕ). Appends i'.taken i''.taken (take n c.take.new.into)) c.in-Ok-eq0.field-0-test c.in-Ok-eq0.ensures.taken in
    let count : i''.count ≡ i'.count = omega (arith, c.in-Ok-eq0.ensures.count, c.in-Ok-eq0.field-0-test) in
    let going : (mid.visit).ended ≡ false = sym c.has_ended.ensures ∙ c.if-has_ended.false in (
      so_far.0,
      ended disk so_far.0 c.loop-taken.held old mid new i i' i'' o o' o'' so_far.2 going
          (c.in-Ok-eq0.ensures.left.1 c.in-Ok-eq0.field-0-test (omega (arith, c.requires.some, c.loop-taken.auto.block)), omega (arith, so_far.3.takes.counted, so_far.1, c.loop-taken-test.true, count), c.in-Ok-eq0.ensures.cause ∙ inv.source, c.in-Ok-answer_end.ensures.cause ∙ inv.sink)
          so_far.3 (record { took = nothing; counted = omega (arith, count) })
          (emptied disk mid new (last_line c.loop-taken.held) o'.written o''.written inv.none c.in-Ok-answer_end.ensures.none c.in-Ok-answer_end.ensures.serves),
    )

pub returns-in-Err-answer_end-clause-serves : goal.returns-in-Err-answer_end-clause-serves
returns-in-Err-answer_end-clause-serves g c =
    let inv = c.loop-taken.invariant in
    let so_far = inv.so_far in
    let disk = telling g.L.Disk.tells g.L.Disk.faults g.L.Disk.content g.L.Disk.may_leave g.L.Disk.left_since in
    let old = scene_of c.args.talk.now in
    let mid = scene_of c.loop-taken.talk in
    let new = scene_of c.answer_end.new.self in
    let i = input_of g.I.Source.taken g.I.Source.left g.I.Source.count g.I.Source.faults c.args.input.now in
    let i' = input_of g.I.Source.taken g.I.Source.left g.I.Source.count g.I.Source.faults c.loop-taken.input in
    let i'' = input_of g.I.Source.taken g.I.Source.left g.I.Source.count g.I.Source.faults c.take.new.self in
    let o = output_of g.O.Sink.written g.O.Sink.faults c.args.out.now in
    let o' = output_of g.O.Sink.written g.O.Sink.faults c.loop-taken.out in
    let o'' = output_of g.O.Sink.written g.O.Sink.faults c.answer_end.new.out in
    let error = c.in-Err-answer_end.error in
    let nothing : Appends i'.taken i''.taken [] = subst (λ (n : ℕ). Appends i'.taken i''.taken (take n c.take.new.into)) c.in-Ok-eq0.field-0-test c.in-Ok-eq0.ensures.taken in
    let count : i''.count ≡ i'.count = omega (arith, c.in-Ok-eq0.ensures.count, c.in-Ok-eq0.field-0-test) in
    let going : (mid.visit).ended ≡ false = sym c.has_ended.ensures ∙ c.if-has_ended.false in (
      so_far.0,
      subst (λ (stop : Stop). ServesInput disk stop so_far.0 old new i i'' o o'') (sym c.from.ensures)
          (cut_at_end disk error so_far.0 c.loop-taken.held old mid new i i' i'' o o' o'' so_far.2 going (c.in-Ok-eq0.ensures.left.1 c.in-Ok-eq0.field-0-test (omega (arith, c.requires.some, c.loop-taken.auto.block)))
          (refused_by error i i'' o o' o'' (omega (arith, so_far.3.takes.counted, so_far.1, c.loop-taken-test.true, count)) (c.in-Ok-eq0.ensures.cause ∙ inv.source) inv.sink c.in-Err-answer_end.ensures.cause)
          so_far.3 (record { took = nothing; counted = omega (arith, count) })
          (unwaited disk error mid new (last_line c.loop-taken.held) o'.written o''.written inv.none c.in-Err-answer_end.ensures.serves)),
    )

pub returns-in-Err-answer_piece-clause-serves : goal.returns-in-Err-answer_piece-clause-serves
returns-in-Err-answer_piece-clause-serves g c =
    let inv = c.loop-taken.invariant in
    let so_far = inv.so_far in
    let disk = telling g.L.Disk.tells g.L.Disk.faults g.L.Disk.content g.L.Disk.may_leave g.L.Disk.left_since in
    let old = scene_of c.args.talk.now in
    let mid = scene_of c.loop-taken.talk in
    let new = scene_of c.answer_piece.new.self in
    let i = input_of g.I.Source.taken g.I.Source.left g.I.Source.count g.I.Source.faults c.args.input.now in
    let i' = input_of g.I.Source.taken g.I.Source.left g.I.Source.count g.I.Source.faults c.loop-taken.input in
    let i'' = input_of g.I.Source.taken g.I.Source.left g.I.Source.count g.I.Source.faults c.take.new.self in
    let o = output_of g.O.Sink.written g.O.Sink.faults c.args.out.now in
    let o' = output_of g.O.Sink.written g.O.Sink.faults c.loop-taken.out in
    let o'' = output_of g.O.Sink.written g.O.Sink.faults c.answer_piece.new.out in
    let error = c.in-Err-answer_piece.error in
    let piece = c.first_bytes-piece.result.now in
    let took : Appends i'.taken i''.taken piece = subst (λ (bytes : List ℕ). Appends i'.taken i''.taken bytes) (sym c.first_bytes-piece.ensures) c.in-Ok.ensures.taken in
    let len : length piece ≡ c.in-Ok.n = ap length c.first_bytes-piece.ensures ∙ length-take c.in-Ok.n c.take.new.into ∙ omega (arith, c.in-Ok.ensures.bound, c.loop-taken.auto.block) in
    let going : (mid.visit).ended ≡ false = sym c.has_ended.ensures ∙ c.if-has_ended.false in
    let short : c.in-Ok.n ≤ 65536 = omega (arith, c.in-Ok.ensures.bound, c.loop-taken.auto.block, c.requires.few) in (
      so_far.0 ++ piece,
      subst (λ (stop : Stop). ServesInput disk stop (so_far.0 ++ piece) old new i i'' o o'') (sym c.from-in-Err-answer_piece.ensures)
          (cut disk error so_far.0 piece c.loop-taken.held old mid new i i' i'' o o' o'' so_far.2 going (omega (arith, len, short))
          (refused_by error i i'' o o' o'' (omega (arith, so_far.3.takes.counted, so_far.1, c.loop-taken-test.true, c.in-Ok.ensures.count, short)) (c.in-Ok.ensures.cause ∙ inv.source) inv.sink c.in-Err-answer_piece.ensures.cause)
          so_far.3 (record { took = took; counted = omega (arith, c.in-Ok.ensures.count, len) })
          (unwaited disk error mid new (lines_from c.loop-taken.held piece) o'.written o''.written inv.none c.in-Err-answer_piece.ensures.serves)),
    )

pub loop-taken-preserved : goal.loop-taken-preserved
loop-taken-preserved g c =
    let inv = c.loop-taken.invariant in
    let so_far = inv.so_far in
    let disk = telling g.L.Disk.tells g.L.Disk.faults g.L.Disk.content g.L.Disk.may_leave g.L.Disk.left_since in
    let old = scene_of c.args.talk.now in
    let mid = scene_of c.loop-taken.talk in
    let new = scene_of c.answer_piece.new.self in
    let i = input_of g.I.Source.taken g.I.Source.left g.I.Source.count g.I.Source.faults c.args.input.now in
    let i' = input_of g.I.Source.taken g.I.Source.left g.I.Source.count g.I.Source.faults c.loop-taken.input in
    let i'' = input_of g.I.Source.taken g.I.Source.left g.I.Source.count g.I.Source.faults c.take.new.self in
    let o = output_of g.O.Sink.written g.O.Sink.faults c.args.out.now in
    let o' = output_of g.O.Sink.written g.O.Sink.faults c.loop-taken.out in
    let o'' = output_of g.O.Sink.written g.O.Sink.faults c.answer_piece.new.out in
    let piece = c.first_bytes-piece.result.now in
    let took : Appends i'.taken i''.taken piece = subst (λ (bytes : List ℕ). Appends i'.taken i''.taken bytes) (sym c.first_bytes-piece.ensures) c.in-Ok.ensures.taken in
    let len : length piece ≡ c.in-Ok.n = ap length c.first_bytes-piece.ensures ∙ length-take c.in-Ok.n c.take.new.into ∙ omega (arith, c.in-Ok.ensures.bound, c.loop-taken.auto.block) in
    let going : (mid.visit).ended ≡ false = sym c.has_ended.ensures ∙ c.if-has_ended.false in
    let short : c.in-Ok.n ≤ 65536 = omega (arith, c.in-Ok.ensures.bound, c.loop-taken.auto.block, c.requires.few) in
    record {
      so_far = (
        so_far.0 ++ piece,
        length-append so_far.0 piece ∙ omega (arith, so_far.1, len),
        c.in_default.ensures.held ∙ ap (λ (h : Option (List ℕ)). held_after h piece) so_far.2 ∙ sym (held_after-append (Some []) so_far.0 piece),
        goes_on disk so_far.0 piece c.loop-taken.held old mid new i i' i'' o o' o'' so_far.2 going (omega (arith, len, short))
            so_far.3 (record { took = took; counted = omega (arith, c.in-Ok.ensures.count, len) })
            (emptied disk mid new (lines_from c.loop-taken.held piece) o'.written o''.written inv.none c.in_default.ensures.none c.in_default.ensures.serves),
      );
      none = c.in_default.ensures.none;
      ready = c.answer_piece.ensures.ready;
      pages = c.answer_piece.ensures.pages ∙ inv.pages;
      small = omega (arith, c.loop-taken-test.true, short);
      source = c.in-Ok.ensures.cause ∙ inv.source;
      sink = c.in_default.ensures.cause ∙ inv.sink;
    }

pub returns-clause-serves : goal.returns-clause-serves
returns-clause-serves g c =
    let inv = c.loop-taken.invariant in
    let so_far = inv.so_far in
    let i = input_of g.I.Source.taken g.I.Source.left g.I.Source.count g.I.Source.faults c.args.input.now in
    let i' = input_of g.I.Source.taken g.I.Source.left g.I.Source.count g.I.Source.faults c.loop-taken.input in (
      so_far.0,
      stopped (telling g.L.Disk.tells g.L.Disk.faults g.L.Disk.content g.L.Disk.may_leave g.L.Disk.left_since) Long so_far.0 (scene_of c.args.talk.now) (scene_of c.loop-taken.talk) i i' i' (output_of g.O.Sink.written g.O.Sink.faults c.args.out.now) (output_of g.O.Sink.written g.O.Sink.faults c.loop-taken.out) (λ lines same. same) refl
          (omega (arith, so_far.3.takes.counted, so_far.1, c.loop-taken-test.false), omega (arith, so_far.3.takes.counted, so_far.1, inv.small), inv.source, inv.sink)
          so_far.3 (record { took = Appends-nil i'.taken; counted = omega arith }),
    )
