use Rattle.std.proofs.lemmas.Result.{on_err_weaker}
use Rattle.ct_codec.proofs.Writes.{KeepsFront-after}
use Rattle.ct_change_codec.proofs.write_changes.push_make.Goals as goal

pub returns-clause-err : goal.returns-clause-err
returns-clause-err c =
    let new = c.push_definition.new.into.items in
    let tagged = c.write_u8.new.into.items in
    let numbered = c.write_u16.new.into.items in
    on_err_weaker c.push_definition.result
    (λ keeps. KeepsFront-after c.args.into.now.items _ tagged new c.in_ok-write_u8.ensures.ok (KeepsFront-after tagged _ numbered new c.in_ok-write_u16.ensures.ok keeps))
    c.push_definition.ensures.err
