use Rattle.std.proofs.Common.{◌≡◌, ◌-◌, min, length, ◌∙◌, arith}
use Rattle.ct_log.proofs.HeadReads.{page_read, cut_to_read}
use Rattle.ct_log.proofs.head.read_page.Goals as goal

pub returns-in_err-count-clause-read : goal.returns-in_err-count-clause-read
returns-in_err-count-clause-read g c = λ tells. record { same = c.read.ensures.content tells; goes_on = c.read.ensures.crash tells }

pub returns-clause-page : goal.returns-clause-page
returns-clause-page g c = λ tells.
    let device = c.args.device.now in
    let long : length c.as_mut_slice.result.now ≡ 4096 = omega (arith, c.as_mut_slice.ensures.len, c.in_ok-page.ensures.len) in
    let count : c.in_ok-count.count ≡ min 4096 (g.L.Disk.size device - c.args.place) = omega (arith, c.in_ok-count.ensures.count) in
    c.truncate.ensures.items
    ∙ cut_to_read c.read.new.into c.in_ok-page.page.items c.in_ok-count.count c.in_ok-page.page.len (omega (arith, c.in_ok-page.ensures.len)) (omega (arith, c.in_ok-page.ensures.len, c.read.auto.into))
    ∙ page_read (g.L.Disk.content device) c.read.new.into c.args.place c.in_ok-count.count 4096 (g.L.Disk.size device) (g.met.L.Disk.sized device tells) count (c.in_ok-count.ensures.bytes tells)

pub returns-clause-read : goal.returns-clause-read
returns-clause-read g c = λ tells. record { same = c.read.ensures.content tells; goes_on = c.read.ensures.crash tells }
