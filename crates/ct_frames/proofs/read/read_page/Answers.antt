use Rattle.ct_frames.proofs.PageReads.{page_read}
use Rattle.ct_frames.proofs.read.read_page.Goals as goal

pub returns-clause-page : goal.returns-clause-page
returns-clause-page g c =
    page_read g.P.Disk.tells (g.P.Disk.content c.args.device.now) c.args.bytes.now c.read.new.into (g.P.Disk.size c.args.device.now) c.args.page c.in_ok-read.field-0
    c.requires.zeros (g.met.P.Disk.sized c.args.device.now) c.in_ok-read.ensures.count c.in_ok-read.ensures.bytes c.in_ok-read.ensures.rest c.read.auto.into
