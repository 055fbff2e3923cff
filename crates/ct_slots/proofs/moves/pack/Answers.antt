use Rattle.std.proofs.Common.{◌≡◌, ℕ, ◌+◌, ◌-◌, ◌*◌, List, ap, sym, ◌∙◌, arith}
use Rattle.ct_page.specs.Fields.{u16_at, with_u16}
use Rattle.ct_slots.proofs.Steps.{pack_from, pack_more, pack_none, pack_all}
use Rattle.ct_slots.proofs.moves.pack.Goals as goal

pub overflow_cast-image_end : goal.overflow_cast-image_end
overflow_cast-image_end c = omega (arith, c.loop-place.invariant.end)

pub loop-place-preserved : goal.loop-place-preserved
loop-place-preserved c =
    let at = c.args.at in
    let place = c.loop-place.place in
    let page = c.loop-place.page in
    let end = c.loop-place.image_end in
    let next : c.saturating_sub-image_end.result ≡ end - u16_at (at + 8 * place + 4) page = c.saturating_sub-image_end.ensures ∙ ap (λ n. end - n) c.u16_at.ensures in
    record {
      same = ap (λ (l : List ℕ). pack_from at (place + 1) c.args.count c.saturating_sub-image_end.result l) c.set_u16.ensures ∙ ap (λ n. pack_from at (place + 1) c.args.count n (with_u16 (at + 8 * place + 2) n page)) next ∙ pack_more at place c.args.count end page (omega arith) (omega (arith, c.loop-place.invariant.long)) ∙ c.loop-place.invariant.same;
      end = omega (arith, c.loop-place.invariant.end);
      long = c.set_u16.array_long;
    }

pub returns : goal.returns
returns c =
    let all : c.loop-place.place ≡ c.args.count = omega arith in
    sym (pack_all c.args.at c.args.count c.loop-place.image_end c.loop-place.page) ∙ ap (λ n. pack_from c.args.at n c.args.count c.loop-place.image_end c.loop-place.page) (sym all) ∙ c.loop-place.invariant.same ∙ sym (pack_none c.args.at c.args.count c.args.end c.args.page.now)
