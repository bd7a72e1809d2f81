use Rattle.std.proofs.Common.{◌<◌, ◌%◌, arith}
use Rattle.std.specs.Prelude.{slice_index}
use Rattle.recovery.proofs.Sizes.{area_is, area_low, some_disk}
use Rattle.recovery.proofs.control.read_control.Goals as goal

pub returns-then-size-clause-cause : goal.returns-then-size-clause-cause
returns-then-size-clause-cause g c = (λ tells layout store. omega (arith, c.if-size.true, c.size-size.ensures, store.sized, some_disk layout), omega arith)

pub returns-in-Ok-read-clause-area : goal.returns-in-Ok-read-clause-area
returns-in-Ok-read-clause-area g c = λ tells.
    area_is c.in-Ok-read.layout c.area_at-area.result c.area_of.result (g.D.Disk.told c.args.disk.now).contents c.read.new.into c.area_at-area.ensures c.area_of.ensures (c.in-Ok.ensures.bytes tells)

pub returns-in-Ok-read-clause-low : goal.returns-in-Ok-read-clause-low
returns-in-Ok-read-clause-low g c =
    area_low c.in-Ok-read.layout.sizes.log_pages c.area_of.result c.area_at-area.result c.known.ensures.sizes.few_log_pages (let small : slice_index c.read.new.into 1 % 2 < 2 = omega arith in omega (arith, c.area_of.ensures, small)) c.area_at-area.ensures
