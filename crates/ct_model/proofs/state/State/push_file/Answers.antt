use Rattle.std.proofs.Common.{◌≡◌, List, [], ◌∷◌, ◌++◌, arith, sym, subst}
use Rattle.std.proofs.lemmas.Grind.{common_steps}
use Rattle.ct_definitions.specs.declared.store.File.{File}
use Rattle.ct_model.specs.declared.cache.Cache.{Cache}
use Rattle.ct_model.specs.Stored.{AreStored}
use Rattle.ct_model.proofs.StoredFiles.{stored_more}
use Rattle.ct_model.proofs.state.State.push_file.Goals as goal

pub invariant_of-self-else-is_err : goal.invariant_of-self-else-is_err
invariant_of-self-else-is_err c =
    let files : c.push.new.self.items ≡ c.self.inside.files.items ++ c.new_file-file.result ∷ [] = c.in_ok-push.ensures.items in
    let caches : c.push-2.new.self.items ≡ c.self.inside.caches.items ++ c.in_ok-cache.cache ∷ [] = grind (arith, common_steps) in
    subst (λ (beside : List Cache). AreStored c.push.new.self.items beside) (sym caches)
    (subst (λ (all : List File). AreStored all (c.self.inside.caches.items ++ c.in_ok-cache.cache ∷ [])) (sym files)
    (stored_more c.self.inside.files.items c.self.inside.caches.items c.new_file-file.result c.in_ok-cache.cache c.self.invariant c.in_ok-cache.ensures))
