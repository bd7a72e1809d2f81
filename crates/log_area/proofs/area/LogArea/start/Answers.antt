use Rattle.std.proofs.Common.{◌≤◌, ℕ, sym, ap, subst, arith}
use Rattle.std.specs.Prelude.{IsTrue}
use Rattle.byte_fields.specs.Fields.{field_at}
use Rattle.store_layout.specs.DiskLayout.{disk_size}
use Rattle.disk_trait.specs.Told.{Told}
use Rattle.log_area.specs.Frames.{HoldsFrames}
use Rattle.log_area.specs.Log.{Log, areas_end}
use Rattle.log_area.proofs.Standing.{area_high}
use Rattle.log_area.proofs.Starting.{areas_on_disk, started_stands}
use Rattle.log_area.proofs.area.LogArea.start.Goals as goal

pub area_byte-requires : goal.area_byte-requires
area_byte-requires g c = omega (arith, c.requires.size, areas_on_disk c.args.layout.now)

pub read_frames-requires-clause-some : goal.read_frames-requires-clause-some
read_frames-requires-clause-some g c = omega (arith, c.area_size-room.ensures.exact, c.known.ensures.sizes.some_log_pages)

pub read_frames-requires-clause-size : goal.read_frames-requires-clause-size
read_frames-requires-clause-size g c =
    let log : Log = record { room = c.area_size-room.result; byte = c.in-Ok.byte; used = 0 } in
    let end : areas_end log.room ≤ disk_size c.args.layout.now = subst (λ (k : ℕ). areas_end k ≤ disk_size c.args.layout.now) (sym c.area_size-room.ensures.exact) (areas_on_disk c.args.layout.now) in
    omega (arith, area_high log, c.start_of_area.ensures, ap (λ (d : Told). d.size) c.area_byte.ensures.same, end, c.requires.size)

pub returns-clause-areas : goal.returns-clause-areas
returns-clause-areas g c =
    (c.area_size-room.ensures.exact, subst (λ (k : ℕ). areas_end k ≤ disk_size c.args.layout.now) (sym c.area_size-room.ensures.exact) (areas_on_disk c.args.layout.now))

pub returns-clause-stands : goal.returns-clause-stands
returns-clause-stands g c tells =
    let contents = (g.D.Disk.told c.args.disk.now).contents in
    let room = c.area_size-room.result in
    let holds =
    subst (λ (d : Told). IsTrue d.tells_contents → HoldsFrames (field_at d.contents c.start_of_area.result room) c.in-Ok-read_frames.read.0) c.area_byte.ensures.same c.in-Ok-read_frames.ensures.holds tells in
    started_stands room c.in-Ok.byte c.in-Ok-read_frames.read.1 c.in-Ok-read_frames.read.0 contents (c.in-Ok.ensures.byte tells)
    (subst (λ (k : ℕ). HoldsFrames (field_at contents k room) c.in-Ok-read_frames.read.0) c.start_of_area.ensures holds)
    c.in-Ok-read_frames.ensures.used.0
