use Rattle.std.proofs.Common.{◌∙◌, arith}
use Rattle.std.specs.Prelude.{IsTrue}
use Rattle.store_layout.specs.DiskLayout.{area_offset}
use Rattle.disk_trait.specs.Torn.{Torn}
use Rattle.store_format.proofs.Lists.{same_front}
use Rattle.store_format.proofs.Made.{areas_written, holds_front, byte_torn, byte_written}
use Rattle.store_format.proofs.making.close_areas.Goals as goal

pub returns-clause-areas : goal.returns-clause-areas
returns-clause-areas g c tells =
    let layout = c.args.layout.now in
    let old = g.D.Disk.told c.args.disk.now in
    let mid = g.D.Disk.told c.put_behind.new.disk in
    let new = g.D.Disk.told c.put_behind-2.new.disk in
    let on : IsTrue mid.tells_contents = c.put_behind.ensures.any_moment.tells_contents ∙ tells in
    let one : Torn (area_offset layout 0) 1 old.contents mid.contents = byte_torn (area_offset layout 0) c.area_at.result old.contents mid.contents c.area_at.ensures (c.put_behind.ensures.others tells) in
    let two : Torn (area_offset layout 1) 1 mid.contents new.contents = byte_torn (area_offset layout 1) c.area_at-2.result mid.contents new.contents c.area_at-2.ensures (c.put_behind-2.ensures.others on) in
    areas_written layout (omega (arith, c.known.ensures.sizes.some_log_pages)) old.contents mid.contents new.contents
    (omega (arith, g.met.D.Disk.contents_fit c.args.disk.now tells, c.requires.size, holds_front layout)) one.length
    (byte_written (area_offset layout 0) c.area_at.result old.contents mid.contents c.area_at.ensures (c.in_ok-put_behind.ensures.written tells))
    (byte_written (area_offset layout 1) c.area_at-2.result mid.contents new.contents c.area_at-2.ensures (c.in_ok-put_behind-2.ensures.written on)) two.before

pub returns-in_err-put_behind-clause-front : goal.returns-in_err-put_behind-clause-front
returns-in_err-put_behind-clause-front g c tells =
    let layout = c.args.layout.now in
    let old = g.D.Disk.told c.args.disk.now in
    let mid = g.D.Disk.told c.put_behind.new.disk in
    let one : Torn (area_offset layout 0) 1 old.contents mid.contents = byte_torn (area_offset layout 0) c.area_at.result old.contents mid.contents c.area_at.ensures (c.put_behind.ensures.others tells) in
    same_front 8192 (area_offset layout 0) mid.contents old.contents (omega arith) one.before

pub returns-in_err-put_behind-2-clause-front : goal.returns-in_err-put_behind-2-clause-front
returns-in_err-put_behind-2-clause-front g c tells =
    let layout = c.args.layout.now in
    let old = g.D.Disk.told c.args.disk.now in
    let mid = g.D.Disk.told c.put_behind.new.disk in
    let new = g.D.Disk.told c.put_behind-2.new.disk in
    let on : IsTrue mid.tells_contents = c.put_behind.ensures.any_moment.tells_contents ∙ tells in
    let one : Torn (area_offset layout 0) 1 old.contents mid.contents = byte_torn (area_offset layout 0) c.area_at.result old.contents mid.contents c.area_at.ensures (c.put_behind.ensures.others tells) in
    let two : Torn (area_offset layout 1) 1 mid.contents new.contents = byte_torn (area_offset layout 1) c.area_at-2.result mid.contents new.contents c.area_at-2.ensures (c.put_behind-2.ensures.others on) in
    same_front 8192 (area_offset layout 1) new.contents mid.contents (omega arith) two.before ∙ same_front 8192 (area_offset layout 0) mid.contents old.contents (omega arith) one.before

pub returns-clause-front : goal.returns-clause-front
returns-clause-front g c tells =
    let layout = c.args.layout.now in
    let old = g.D.Disk.told c.args.disk.now in
    let mid = g.D.Disk.told c.put_behind.new.disk in
    let new = g.D.Disk.told c.put_behind-2.new.disk in
    let on : IsTrue mid.tells_contents = c.put_behind.ensures.any_moment.tells_contents ∙ tells in
    let one : Torn (area_offset layout 0) 1 old.contents mid.contents = byte_torn (area_offset layout 0) c.area_at.result old.contents mid.contents c.area_at.ensures (c.put_behind.ensures.others tells) in
    let two : Torn (area_offset layout 1) 1 mid.contents new.contents = byte_torn (area_offset layout 1) c.area_at-2.result mid.contents new.contents c.area_at-2.ensures (c.put_behind-2.ensures.others on) in
    same_front 8192 (area_offset layout 1) new.contents mid.contents (omega arith) two.before ∙ same_front 8192 (area_offset layout 0) mid.contents old.contents (omega arith) one.before

pub put_behind-requires-clause-size : goal.put_behind-requires-clause-size
put_behind-requires-clause-size g c = omega (arith, c.area_at.ensures, c.requires.size, c.known.ensures.sizes.some_log_pages, holds_front c.args.layout.now)

pub put_behind-requires-2-clause-size : goal.put_behind-requires-2-clause-size
put_behind-requires-2-clause-size g c =
    omega (arith, c.area_at-2.ensures, c.put_behind.ensures.any_moment.size, c.requires.size, c.known.ensures.sizes.some_log_pages, holds_front c.args.layout.now)
