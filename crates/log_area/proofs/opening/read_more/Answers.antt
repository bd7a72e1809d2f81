use Rattle.std.proofs.Common.{◌+◌, arith}
use Rattle.log_area.proofs.Reading.{front_read}
use Rattle.log_area.proofs.opening.read_more.Goals as goal

pub returns-in-Ok-clause-known : goal.returns-in-Ok-clause-known
returns-in-Ok-clause-known g c tells =
    front_read c.args.area.start (c.args.area.start + c.len-2.result) _ c.args.bytes.now.items c.read_piece.new.bytes.items (g.D.Disk.told c.args.disk.now).contents (c.requires.known tells) (omega (arith, c.len-2.ensures)) (c.in-Ok.ensures.read tells)
