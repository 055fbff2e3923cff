use Rattle.std.proofs.Common.{◌≡◌, ◌+◌, ◌-◌, ◌*◌, true, false, ap, sym, ◌∙◌, arith}
use Rattle.ct_page.specs.Fields.{u16_at}
use Rattle.ct_slots.specs.Checks.{is_entry, images_begin}
use Rattle.ct_slots.proofs.Steps.{begin_stops, begin_goes, begin_all, entry_offset}
use Rattle.ct_slots.proofs.check.images_begin.Goals as goal

pub returns-then-not-is_entry-clause-begin : goal.returns-then-not-is_entry-clause-begin
returns-then-not-is_entry-clause-begin c =
    let stop : is_entry (128 + 8 * c.loop-place.place) c.loop-place.low c.loop-place.end c.args.page.now ≡ false = cc in
    sym (begin_stops c.loop-place.place c.args.count c.loop-place.low c.loop-place.end c.args.page.now (omega arith) stop) ∙ c.loop-place.invariant.rest

pub loop-place-preserved : goal.loop-place-preserved
loop-place-preserved c =
    let page = c.args.page.now in
    let place = c.loop-place.place in
    let goes : is_entry (128 + 8 * place) c.loop-place.low c.loop-place.end page ≡ true = cc in
    record {
      rest = ap (λ n. images_begin (c.args.count - (place + 1)) (128 + 8 * (place + 1)) (n + 1) c.u16_at-end.result page) c.u16_at.ensures ∙ ap (λ n. images_begin (c.args.count - (place + 1)) (128 + 8 * (place + 1)) (u16_at (128 + 8 * place) page + 1) n page) c.u16_at-end.ensures ∙ sym (begin_goes place c.args.count c.loop-place.low c.loop-place.end page (omega arith) goes) ∙ c.loop-place.invariant.rest;
      end = omega (arith, entry_offset (128 + 8 * place) c.loop-place.low c.loop-place.end page goes, c.loop-place.invariant.end);
    }

pub returns-clause-begin : goal.returns-clause-begin
returns-clause-begin c =
    sym (begin_all c.loop-place.place c.args.count c.loop-place.low c.loop-place.end c.args.page.now (omega arith)) ∙ c.loop-place.invariant.rest
