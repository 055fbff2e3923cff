use Rattle.std.proofs.Common.{◌≡◌, ◌+◌, ◌-◌, ◌<◌, ◌≤◌, List, ℕ, length, take, drop, ap, ◌∙◌, refl, arith, rules}
use Rattle.ct_log.specs.Reading.{log_bytes, chunk}
use Rattle.ct_log.proofs.ChunkReads.{damage_found, chunk_found, chunk_begins, length-log_from}
use Rattle.ct_log.proofs.Windows.{groups_seen, length-groups_seen}
use Rattle.ct_log.proofs.find.find_chunk.Goals as goal

pub returns-then-window-next-clause-found : goal.returns-then-window-next-clause-found
returns-then-window-next-clause-found g c = λ tells.
    let content = g.L.Disk.content c.args.device.now in
    let b = drop c.args.place (log_bytes content) in
    let n = c.groups_len-len.result in
    let size = length-log_from content c.args.place in
    let past : length b < 5 + n = omega (arith, g.met.L.Disk.sized c.args.device.now tells, c.in_ok-frame.ensures.window.end, c.in_ok-frame.ensures.size, c.from.ensures, c.if-window-next.true) in
    (damage_found b c.in_ok-frame.frame n (c.in_ok-frame.ensures.frame tells) (c.has_open_gate.ensures.0 c.if-not-has_open_gate.false) c.groups_len-len.ensures.len past, refl)

pub returns-clause-found : goal.returns-clause-found
returns-clause-found g c = λ tells.
    let content = g.L.Disk.content c.args.device.now in
    let window = c.cover.new.self in
    let place = c.args.place in
    let b = drop place (log_bytes content) in
    let n = c.groups_len-len.result in
    let size = length-log_from content place in
    let whole : 5 + n ≤ length b = omega (arith, g.met.L.Disk.sized c.args.device.now tells, c.in_ok-frame.ensures.window.end, c.in_ok-frame.ensures.size, c.from.ensures, c.if-window-next.false) in
    let found = chunk_found b c.in_ok-frame.frame n (c.in_ok-frame.ensures.frame tells) (c.has_open_gate.ensures.0 c.if-not-has_open_gate.false) c.groups_len-len.ensures.len whole in
    let same = (c.in_ok-cover.ensures.read tells).same ∙ (c.in_ok-frame.ensures.read tells).same in
    let are : window.bytes ≡ take (length window.bytes) (drop window.place (log_bytes content)) =
    c.in_ok-cover.ensures.window.bytes tells ∙ ap (λ (l : List ℕ). take (length window.bytes) (drop window.place (log_bytes l))) same in
    let covered = c.in_ok-cover.ensures.covered in
    let within : place + 5 + n ≤ window.place + length window.bytes = omega (arith, covered.up_to, c.from.ensures) in
    let long = length-groups_seen window.bytes (place + 5 - window.place) n (omega (arith, covered.from)) in
    (found ∙ ap chunk (groups_seen (log_bytes content) window.bytes window.place place n covered.from within are), omega (arith, long, c.from.ensures))

pub returns-clause-bytes : goal.returns-clause-bytes
returns-clause-bytes g c = λ tells.
    let content = g.L.Disk.content c.args.device.now in
    let window = c.cover.new.self in
    let place = c.args.place in
    let b = drop place (log_bytes content) in
    let n = c.groups_len-len.result in
    let size = length-log_from content place in
    let whole : 5 + n ≤ length b = omega (arith, g.met.L.Disk.sized c.args.device.now tells, c.in_ok-frame.ensures.window.end, c.in_ok-frame.ensures.size, c.from.ensures, c.if-window-next.false) in
    let same = (c.in_ok-cover.ensures.read tells).same ∙ (c.in_ok-frame.ensures.read tells).same in
    let are : window.bytes ≡ take (length window.bytes) (drop window.place (log_bytes content)) =
    c.in_ok-cover.ensures.window.bytes tells ∙ ap (λ (l : List ℕ). take (length window.bytes) (drop window.place (log_bytes l))) same in
    let covered = c.in_ok-cover.ensures.covered in
    let within : place + 5 + n ≤ window.place + length window.bytes = omega (arith, covered.up_to, c.from.ensures) in
    chunk_begins b c.in_ok-frame.frame (take n (drop (place + 5 - window.place) window.bytes)) n (c.in_ok-frame.ensures.frame tells) c.groups_len-len.ensures.bytes (c.has_open_gate.ensures.0 c.if-not-has_open_gate.false) c.groups_len-len.ensures.len (search rules) whole
    (groups_seen (log_bytes content) window.bytes window.place place n covered.from within are)
