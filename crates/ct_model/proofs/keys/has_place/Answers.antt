use Rattle.std.proofs.Common.{◌≡◌, nat_le, length, true}
use Rattle.std.specs.List.{list_all}
use Rattle.ct_definitions.specs.declared.store.Row.{Row}
use Rattle.ct_model.proofs.Kept.{none_longer_stored}
use Rattle.ct_model.proofs.keys.has_place.Goals as goal

pub has_room_beside-requires-clause-others : goal.has_room_beside-requires-clause-others
has_room_beside-requires-clause-others c =
    let none : list_all (λ (row : Row). nat_le (length row.image) c.longest_len-longest.result) c.as_slice.result.now ≡ true =
    rw (c.longest_len-longest.ensures, c.as_slice.ensures) (none_longer_stored c.args.file.now c.requires.fitting)
    in none
