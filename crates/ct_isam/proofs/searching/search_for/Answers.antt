use Rattle.ct_isam.specs.Searches.{in_index, search_at}
use Rattle.ct_isam.proofs.Outcomes.{refusal_looks}
use Rattle.ct_isam.proofs.searching.search_for.Goals as goal

pub returns-in-Err : goal.returns-in-Err
returns-in-Err c =
    let look = search_at c.args.kind c.args.target.now c.args.session.now in
    refusal_looks (in_index c.args.state.now c.args.file.now c.args.index.now look) c.in-Err.refusal c.args.session.now (c.in-Err.ensures.err look)
