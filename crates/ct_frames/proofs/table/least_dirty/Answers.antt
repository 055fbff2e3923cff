use Rattle.std.proofs.Common.{rules, tests, ◌≡◌, sym, ◌∙◌}
use Rattle.std.proofs.lemmas.Iterator.Consumers.{YieldsList-at, min_from_yields_List, YieldsList-from_filter_map, YieldsList-from_rest}
use Rattle.std.proofs.lemmas.Iterator.Adapters.{option_map_id}
use Rattle.std.specs.HashMap.{values}
use Rattle.ct_frames.proofs.table.least_dirty.Goals as goal

pub returns-clause-least : goal.returns-clause-least
returns-clause-least c =
    sym (option_map_id _) ∙ min_from_yields_List c.filter_map.result _ c.min.ensures.ran
    (YieldsList-from_filter_map _ (λ frame. frame.value.dirty_since) (YieldsList-at c.filter_map.ensures.source (YieldsList-from_rest (values c.args.frames.now) cc)) c.filter_map.ensures.closure (λ x r q k. search (rules, tests)))
