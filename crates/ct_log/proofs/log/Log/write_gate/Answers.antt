use Rattle.std.proofs.Common.{◌≡◌, [], ◌∷◌, ap, sym, ◌∙◌, arith, refl}
use Rattle.ct_disk.specs.Disk.{by_write, overlaid}
use Rattle.ct_log.specs.Log.{durable_text}
use Rattle.ct_log.specs.declared.stage.Stage.TheVariants.{Stable}
use Rattle.ct_log.proofs.Steps.{body_torn}
use Rattle.ct_log.proofs.Flushes.{gate_put, gate_not_put, left_at, length-text, left_by_write, stands_through, text_failed}
use Rattle.ct_log.proofs.log.Log.write_gate.Goals as goal

pub returns-in_err-write_at-clause-log : goal.returns-in_err-write_at-clause-log
returns-in_err-write_at-clause-log g c = λ tells is.
    let old = c.args.self.now in
    let text = durable_text g.L.Disk.content old in
    let long = length-text g.L.Disk.content g.L.Disk.may_leave old is in
    let place : c.end-place.result ≡ old.flow.end = omega arith in
    let left = left_at g.L.Disk.content g.L.Disk.may_leave old Stable is c.requires.stage in
    let after = left_by_write g.L.Disk.may_leave g.L.Disk.left_since old.device c.write_at.new.self Stable text old.flow.taken left c.write_at.result (c.end-place.result) (1)
    (λ d b was torn. body_torn was.0 text old.flow.taken d b c.end-place.result (place ∙ sym long) was.1 torn) in
    (gate_not_put g.L.Disk.content g.L.Disk.may_leave old (record { device = c.write_at.new.self; flow = old.flow }) c.end-place.result place c.in_err-write_at.field-0.0 is c.requires.stage refl (c.in_err-write_at.ensures.content tells)
    (λ b now. after b ((c.write_at.ensures.crash tells).now b now))).0

pub returns-in_err-write_at-clause-text : goal.returns-in_err-write_at-clause-text
returns-in_err-write_at-clause-text g c = λ tells is.
    let old = c.args.self.now in
    let text = durable_text g.L.Disk.content old in
    let long = length-text g.L.Disk.content g.L.Disk.may_leave old is in
    let place : c.end-place.result ≡ old.flow.end = omega arith in
    let left = left_at g.L.Disk.content g.L.Disk.may_leave old Stable is c.requires.stage in
    let after = left_by_write g.L.Disk.may_leave g.L.Disk.left_since old.device c.write_at.new.self Stable text old.flow.taken left c.write_at.result (c.end-place.result) (1)
    (λ d b was torn. body_torn was.0 text old.flow.taken d b c.end-place.result (place ∙ sym long) was.1 torn) in
    (gate_not_put g.L.Disk.content g.L.Disk.may_leave old (record { device = c.write_at.new.self; flow = old.flow }) c.end-place.result place c.in_err-write_at.field-0.0 is c.requires.stage refl (c.in_err-write_at.ensures.content tells)
    (λ b now. after b ((c.write_at.ensures.crash tells).now b now))).1 ∙ sym (text_failed c.from_residual.result text old.flow.taken c.from_residual.ensures.0)

pub returns-in_err-write_at-clause-any_moment : goal.returns-in_err-write_at-clause-any_moment
returns-in_err-write_at-clause-any_moment g c = λ tells is.
    let old = c.args.self.now in
    let text = durable_text g.L.Disk.content old in
    let long = length-text g.L.Disk.content g.L.Disk.may_leave old is in
    let place : c.end-place.result ≡ old.flow.end = omega arith in
    let left = left_at g.L.Disk.content g.L.Disk.may_leave old Stable is c.requires.stage in
    let after = left_by_write g.L.Disk.may_leave g.L.Disk.left_since old.device c.write_at.new.self Stable text old.flow.taken left c.write_at.result (c.end-place.result) (1)
    (λ d b was torn. body_torn was.0 text old.flow.taken d b c.end-place.result (place ∙ sym long) was.1 torn) in
    stands_through g.L.Disk.may_leave g.L.Disk.left_since old.device c.write_at.new.self Stable text old.flow.taken left
    (by_write c.write_at.result (c.end-place.result) (1)) (c.write_at.ensures.crash tells) (λ b here. g.met.L.Disk.only_now old.device b tells here) after

pub returns-clause-log : goal.returns-clause-log
returns-clause-log g c = λ tells is.
    let old = c.args.self.now in
    let text = durable_text g.L.Disk.content old in
    let long = length-text g.L.Disk.content g.L.Disk.may_leave old is in
    let place : c.end-place.result ≡ old.flow.end = omega arith in
    let left = left_at g.L.Disk.content g.L.Disk.may_leave old Stable is c.requires.stage in
    let after = left_by_write g.L.Disk.may_leave g.L.Disk.left_since old.device c.write_at.new.self Stable text old.flow.taken left c.write_at.result (c.end-place.result) (1)
    (λ d b was torn. body_torn was.0 text old.flow.taken d b c.end-place.result (place ∙ sym long) was.1 torn) in
    (gate_put g.L.Disk.content g.L.Disk.may_leave old (record { device = c.write_at.new.self; flow = c.open.new.self }) is c.open.ensures
    (c.in_ok-write_at.ensures.content tells ∙ ap (λ n. overlaid (g.L.Disk.content old.device) n (1 ∷ [])) place) (λ b now. after b ((c.write_at.ensures.crash tells).now b now))).0

pub returns-clause-text : goal.returns-clause-text
returns-clause-text g c = λ tells is.
    let old = c.args.self.now in
    let text = durable_text g.L.Disk.content old in
    let long = length-text g.L.Disk.content g.L.Disk.may_leave old is in
    let place : c.end-place.result ≡ old.flow.end = omega arith in
    let left = left_at g.L.Disk.content g.L.Disk.may_leave old Stable is c.requires.stage in
    let after = left_by_write g.L.Disk.may_leave g.L.Disk.left_since old.device c.write_at.new.self Stable text old.flow.taken left c.write_at.result (c.end-place.result) (1)
    (λ d b was torn. body_torn was.0 text old.flow.taken d b c.end-place.result (place ∙ sym long) was.1 torn) in
    (gate_put g.L.Disk.content g.L.Disk.may_leave old (record { device = c.write_at.new.self; flow = c.open.new.self }) is c.open.ensures
    (c.in_ok-write_at.ensures.content tells ∙ ap (λ n. overlaid (g.L.Disk.content old.device) n (1 ∷ [])) place) (λ b now. after b ((c.write_at.ensures.crash tells).now b now))).1

pub returns-clause-any_moment : goal.returns-clause-any_moment
returns-clause-any_moment g c = λ tells is.
    let old = c.args.self.now in
    let text = durable_text g.L.Disk.content old in
    let long = length-text g.L.Disk.content g.L.Disk.may_leave old is in
    let place : c.end-place.result ≡ old.flow.end = omega arith in
    let left = left_at g.L.Disk.content g.L.Disk.may_leave old Stable is c.requires.stage in
    let after = left_by_write g.L.Disk.may_leave g.L.Disk.left_since old.device c.write_at.new.self Stable text old.flow.taken left c.write_at.result (c.end-place.result) (1)
    (λ d b was torn. body_torn was.0 text old.flow.taken d b c.end-place.result (place ∙ sym long) was.1 torn) in
    stands_through g.L.Disk.may_leave g.L.Disk.left_since old.device c.write_at.new.self Stable text old.flow.taken left
    (by_write c.write_at.result (c.end-place.result) (1)) (c.write_at.ensures.crash tells) (λ b here. g.met.L.Disk.only_now old.device b tells here) after
