use Rattle.std.proofs.Common.{◌≡◌, ◌+◌, ◌-◌, ◌++◌, length, take, drop, replicate, ℕ, ap, ◌∙◌, arith}
use Rattle.ct_slots.proofs.Cuts.{over_end}
use Rattle.ct_slots.proofs.moves.exchange_image.Goals as goal

pub returns : goal.returns
returns c =
    let image = c.args.image.now in
    let page = c.args.page.now in
    let low = c.args.low in
    let len = c.args.len in
    let m = length image in
    let end = c.args.end in
    let moved = take (end - len - low) (drop low page) in
    let kept = λ (n k : ℕ). take n page ++ replicate {A = ℕ} k 0 ++ moved in
    let front : low - (low - (low + len - m)) ≡ low - (m - len) = omega (arith, c.requires.room) in
    let zeros : low + len - m - low ≡ len - m = omega (arith, c.requires.room) in
    over_end (kept (low - (low - (low + len - m))) (low + len - m - low)) page c.slide.new.page c.copy_from_slice.new.self image low len end c.slide.ensures c.copy_from_slice.ensures.after c.told-page c.slide.array_long c.requires.order c.requires.within c.requires.room
    ∙ ap (λ n. kept n (low + len - m - low) ++ image ++ drop end page) front ∙ ap (λ k. kept (low - (m - len)) k ++ image ++ drop end page) zeros
