use Rattle.std.proofs.Common.{ap, sym, ◌∙◌}
use Rattle.ct_model.specs.Fitting.{are_fitting}
use Rattle.ct_model.specs.Stored.{are_rising}
use Rattle.ct_model.proofs.StoredFiles.{stored_fitting, stored_rising}
use Rattle.ct_model.proofs.state.State.files.Goals as goal

pub returns-clause-fitting : goal.returns-clause-fitting
returns-clause-fitting c = ap are_fitting (sym c.self.view_is) ∙ stored_fitting c.self.inside.files.items c.self.inside.caches.items c.self.invariant

pub returns-clause-rising : goal.returns-clause-rising
returns-clause-rising c = ap are_rising (sym c.self.view_is) ∙ stored_rising c.self.inside.files.items c.self.inside.caches.items c.self.invariant
