use Rattle.std.proofs.Common.{◌≡◌, Ok, Err, Result, List, sym, subst, ap, false, ◌∙◌}
use Rattle.std.specs.List.Sorted.{IsStrictlySortedBy}
use Rattle.ct_definitions.specs.Pairs.{Pair, pair_cmp}
use Rattle.ct_pairs.specs.Finds.{has_pair}
use Rattle.ct_tran.specs.Overlays.{Overlaying}
use Rattle.ct_tran.proofs.Overlaying.{put_in_order}
use Rattle.ct_tran.proofs.overlay.Overlay.put.Goals as goal

pub invariant_of-self-2 : goal.invariant_of-self-2
invariant_of-self-2 c =
    let absent : has_pair c.args.pair c.self.inside.puts ≡ false = ap (λ (own : Overlaying). has_pair c.args.pair own.puts) c.self.view_is ∙ c.requires.once in
    put_in_order c.put.result c.args.pair c.self.inside.puts c.put.new.self absent c.self.invariant c.put.ensures.ok c.put.ensures.err
