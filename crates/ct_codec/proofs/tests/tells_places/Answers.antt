use Rattle.std.proofs.Common.{[], ◌∷◌, refl}
use Rattle.ct_codec.proofs.tests.tells_places.Goals as goal

pub front_of-requires : goal.front_of-requires
front_of-requires g c = (2 ∷ [], refl)
