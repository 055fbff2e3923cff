use Rattle.std.proofs.lemmas.Result.{on_err_weaker}
use Rattle.ct_codec.proofs.Writes.{KeepsFront-after}
use Rattle.ct_change_codec.proofs.write_definitions.push_index.Goals as goal

pub returns-clause-err : goal.returns-clause-err
returns-clause-err c =
    let new = c.push_segs.new.into.items in
    let named = c.write_sized_u8.new.into.items in
    let ruled = c.write_flag.new.into.items in
    let nulled = c.push_null.new.into.items in
    let counted = c.write_u8.new.into.items in
    on_err_weaker c.push_segs.result
    (λ keeps. KeepsFront-after c.args.into.now.items _ named new c.in_ok-write_sized_u8.ensures.ok (KeepsFront-after named _ ruled new c.in_ok-write_flag.ensures.ok (KeepsFront-after ruled _ nulled new c.in_ok-push_null.ensures.ok (KeepsFront-after nulled _ counted new c.in_ok-write_u8.ensures.ok keeps))))
    c.push_segs.ensures.err
