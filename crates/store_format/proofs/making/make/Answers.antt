use Rattle.std.proofs.Common.{sym, ◌∙◌, subst, arith}
use Rattle.std.specs.Prelude.{IsTrue}
use Rattle.store_format.specs.FreshStore.{IsFormatted}
use Rattle.store_format.proofs.Made.{all_made, fresh_contents, stopped_early, stopped_first, holds_front}
use Rattle.store_format.proofs.making.make.Goals as goal

pub returns-in_err-close_gate-clause-any_moment : goal.returns-in_err-close_gate-clause-any_moment
returns-in_err-close_gate-clause-any_moment g c =
    stopped_first c.args.layout.now (g.D.Disk.told c.args.disk.now) (g.D.Disk.told c.close_gate.new.disk) c.close_gate.ensures.any_moment

pub returns-in_err-write_rest-clause-any_moment : goal.returns-in_err-write_rest-clause-any_moment
returns-in_err-write_rest-clause-any_moment g c =
    stopped_early c.args.layout.now (g.D.Disk.told c.args.disk.now) (g.D.Disk.told c.close_gate.new.disk) (g.D.Disk.told c.write_rest.new.disk) c.close_gate.ensures.any_moment c.write_rest.ensures.any_moment

pub returns-in_err-open_gate-clause-any_moment : goal.returns-in_err-open_gate-clause-any_moment
returns-in_err-open_gate-clause-any_moment g c =
    let layout = c.args.layout.now in
    let one = g.D.Disk.told c.close_gate.new.disk in
    let mid = g.D.Disk.told c.write_rest.new.disk in
    all_made layout c.pages_fill_the_disk.ensures mid c.in_ok-write_rest.ensures.stable (g.met.D.Disk.contents_fit c.write_rest.new.disk) (g.met.D.Disk.images_need_contents c.write_rest.new.disk)
    (omega (arith, c.write_rest.ensures.any_moment.size, c.close_gate.ensures.any_moment.size, c.requires.size, holds_front layout))
    (λ tells. c.in_ok-write_rest.ensures.blank (sym c.write_rest.ensures.any_moment.tells_contents ∙ tells))
    (g.D.Disk.told c.args.disk.now) one (g.D.Disk.told c.open_gate.new.disk) c.close_gate.ensures.any_moment c.write_rest.ensures.any_moment c.open_gate.ensures.any_moment

pub returns-clause-any_moment : goal.returns-clause-any_moment
returns-clause-any_moment g c =
    let layout = c.args.layout.now in
    let one = g.D.Disk.told c.close_gate.new.disk in
    let mid = g.D.Disk.told c.write_rest.new.disk in
    all_made layout c.pages_fill_the_disk.ensures mid c.in_ok-write_rest.ensures.stable (g.met.D.Disk.contents_fit c.write_rest.new.disk) (g.met.D.Disk.images_need_contents c.write_rest.new.disk)
    (omega (arith, c.write_rest.ensures.any_moment.size, c.close_gate.ensures.any_moment.size, c.requires.size, holds_front layout))
    (λ tells. c.in_ok-write_rest.ensures.blank (sym c.write_rest.ensures.any_moment.tells_contents ∙ tells))
    (g.D.Disk.told c.args.disk.now) one (g.D.Disk.told c.open_gate.new.disk) c.close_gate.ensures.any_moment c.write_rest.ensures.any_moment c.open_gate.ensures.any_moment

pub returns-clause-bytes : goal.returns-clause-bytes
returns-clause-bytes g c tells =
    let layout = c.args.layout.now in
    let mid = g.D.Disk.told c.write_rest.new.disk in
    let on : IsTrue mid.tells_contents = c.write_rest.ensures.any_moment.tells_contents ∙ (c.close_gate.ensures.any_moment.tells_contents ∙ tells) in
    fresh_contents layout c.pages_fill_the_disk.ensures mid c.in_ok-write_rest.ensures.stable (g.met.D.Disk.contents_fit c.write_rest.new.disk) (g.met.D.Disk.images_need_contents c.write_rest.new.disk)
    (omega (arith, c.write_rest.ensures.any_moment.size, c.close_gate.ensures.any_moment.size, c.requires.size, holds_front layout))
    (λ tells. c.in_ok-write_rest.ensures.blank (sym c.write_rest.ensures.any_moment.tells_contents ∙ tells))
    (g.D.Disk.told c.open_gate.new.disk).contents on (c.in_ok-open_gate.ensures.opened on)

pub returns-clause-made : goal.returns-clause-made
returns-clause-made g c image now =
    let layout = c.args.layout.now in
    let mid = g.D.Disk.told c.write_rest.new.disk in
    let new = g.D.Disk.told c.open_gate.new.disk in
    let on : IsTrue mid.tells_contents = sym c.open_gate.ensures.any_moment.tells_contents ∙ g.met.D.Disk.images_need_contents c.open_gate.new.disk image now in
    subst (IsFormatted layout) (sym (c.in_ok-open_gate.ensures.stable image now))
    (fresh_contents layout c.pages_fill_the_disk.ensures mid c.in_ok-write_rest.ensures.stable (g.met.D.Disk.contents_fit c.write_rest.new.disk) (g.met.D.Disk.images_need_contents c.write_rest.new.disk)
    (omega (arith, c.write_rest.ensures.any_moment.size, c.close_gate.ensures.any_moment.size, c.requires.size, holds_front layout))
    (λ tells. c.in_ok-write_rest.ensures.blank (sym c.write_rest.ensures.any_moment.tells_contents ∙ tells))
    new.contents on (c.in_ok-open_gate.ensures.opened on))

pub close_gate-requires : goal.close_gate-requires
close_gate-requires g c = record { size = omega (arith, c.requires.size, holds_front c.args.layout.now) }

pub open_gate-requires : goal.open_gate-requires
open_gate-requires g c = record { size = omega (arith, c.write_rest.ensures.any_moment.size, c.close_gate.ensures.any_moment.size, c.requires.size, holds_front c.args.layout.now) }
