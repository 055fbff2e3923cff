use Rattle.std.proofs.Common.{◌≡◌, ◌-◌, false, length, Some, None, refl, ◌∙◌}
use Rattle.ct_text.specs.Splitting.{escape_at, is_parted}
use Rattle.ct_text.proofs.Reading.{begins_so, goes_on, read_fault}
use Rattle.ct_text.proofs.splitting.read_word.Goals as goal

pub loop-bytes-init : goal.loop-bytes-init
loop-bytes-init c = begins_so c.args.text.now c.in_ok-bytes.bytes c.split_at.result.1.now c.plain_len.result c.plain_len.ensures.value (c.in_ok-bytes.ensures ∙ c.split_at.ensures.front) c.split_at.ensures.back

pub returns-in_default-clause-cause : goal.returns-in_default-clause-cause
returns-in_default-clause-cause c =
    let parted : is_parted c.loop-bytes.rest.now ≡ false = cc in
    let none : escape_at c.loop-bytes.rest.now ≡ None = cc in
    (length c.args.text.now - length c.loop-bytes.rest.now, refl, read_fault c.args.text.now c.loop-bytes.bytes c.loop-bytes.rest.now c.loop-bytes.invariant parted none)

pub loop-bytes-preserved : goal.loop-bytes-preserved
loop-bytes-preserved c =
    let found : escape_at c.loop-bytes.rest.now ≡ Some c.in-Some.byte = cc in
    goes_on c.args.text.now c.loop-bytes.bytes c.loop-bytes.rest.now c.in-Some.byte c.plain_len-in-loop-bytes.result c.split_at-in-loop-bytes.result.1.now
    c.split_at-in-loop-bytes-2.result.0.now c.push.new.self c.extend_from_slice.new.self c.split_at-in-loop-bytes-2.result.1.now c.loop-bytes.invariant found
    c.split_at-in-loop-bytes.ensures.back c.plain_len-in-loop-bytes.ensures.value c.split_at-in-loop-bytes-2.ensures.front c.split_at-in-loop-bytes-2.ensures.back
    c.in_ok-push.ensures.ok c.in_ok-extend_from_slice.ensures.ok
