use Rattle.std.proofs.Common.{◌≡◌, List, map, length, subst, sym, ap, ◌∙◌}
use Rattle.std.specs.List.{range_with_len}
use Rattle.ct_tree.specs.Schedules.{op_of}
use Rattle.ct_tree.proofs.News.{numbers_count}
use Rattle.ct_tree.proofs.tests.after_puts.Goals as goal

pub run_on-requires-clause-numbers : goal.run_on-requires-clause-numbers
run_on-requires-clause-numbers c =
    let items = c.in_ok-programs.programs.items in
    subst (λ list. map op_of list ≡ range_with_len 0 (length list)) (sym c.as_mut_slice.ensures.value) (c.in_ok-programs.ensures.numbers ∙ ap (range_with_len 0) (sym (numbers_count items c.args.count c.in_ok-programs.ensures.numbers)))
