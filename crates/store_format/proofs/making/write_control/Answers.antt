use Rattle.std.proofs.Common.{arith}
use Rattle.store_format.proofs.Made.{rest_written, holds_front}
use Rattle.store_format.proofs.making.write_control.Goals as goal

pub returns-clause-rest : goal.returns-clause-rest
returns-clause-rest g c tells =
    let old = g.D.Disk.told c.args.disk.now in
    let new = g.D.Disk.told c.put_behind.new.disk in
    rest_written c.args.layout.now c.write.new.out c.behind_gate.result.now old.contents new.contents c.write.ensures.written c.behind_gate.ensures.bytes c.behind_gate.ensures.count
    (omega (arith, g.met.D.Disk.contents_fit c.args.disk.now tells, c.requires.size, holds_front c.args.layout.now)) (c.in_ok-put_behind.ensures.written tells)

pub put_behind-requires-clause-size : goal.put_behind-requires-clause-size
put_behind-requires-clause-size g c = omega (arith, c.behind_gate.ensures.count, c.requires.size, holds_front c.args.layout.now)
