use Rattle.std.proofs.Common.{arith}
use Rattle.store_format.proofs.Gates.{synced, read_on, gate_read, closed_found, closed_written, closed_throughout, is_open_gate, not_open_gate}
use Rattle.store_format.proofs.gate.close_gate.Goals as goal

pub returns-in_err-sync-clause-any_moment : goal.returns-in_err-sync-clause-any_moment
returns-in_err-sync-clause-any_moment g c =
    synced (g.D.Disk.told c.args.disk.now) (g.D.Disk.told c.sync.new.self) (g.met.D.Disk.since_now_is_now c.args.disk.now) c.sync.ensures.images c.sync.ensures.moments

pub returns-in_err-read-clause-any_moment : goal.returns-in_err-read-clause-any_moment
returns-in_err-read-clause-any_moment g c =
    let old = g.D.Disk.told c.args.disk.now in
    let mid = g.D.Disk.told c.sync.new.self in
    read_on old mid (g.D.Disk.told c.read.new.self) c.read.ensures.same (synced old mid (g.met.D.Disk.since_now_is_now c.args.disk.now) c.sync.ensures.images c.sync.ensures.moments)

pub returns-then-not-is_open-clause-any_moment : goal.returns-then-not-is_open-clause-any_moment
returns-then-not-is_open-clause-any_moment g c =
    let old = g.D.Disk.told c.args.disk.now in
    let mid = g.D.Disk.told c.sync.new.self in
    read_on old mid (g.D.Disk.told c.read.new.self) c.read.ensures.same (synced old mid (g.met.D.Disk.since_now_is_now c.args.disk.now) c.sync.ensures.images c.sync.ensures.moments)

pub returns-then-not-is_open-clause-closed : goal.returns-then-not-is_open-clause-closed
returns-then-not-is_open-clause-closed g c =
    let mid = g.D.Disk.told c.sync.new.self in
    let gate = c.read.new.into in
    closed_found mid (g.D.Disk.told c.read.new.self) gate c.read.ensures.same
    (gate_read mid gate c.in_ok-sync.ensures.stable (g.met.D.Disk.images_need_contents c.sync.new.self) c.in_ok-read.ensures.bytes)
    (not_open_gate gate c.if-not-is_open.ensures)

pub returns-in_err-write_and_sync-clause-any_moment : goal.returns-in_err-write_and_sync-clause-any_moment
returns-in_err-write_and_sync-clause-any_moment g c =
    let old = g.D.Disk.told c.args.disk.now in
    let mid = g.D.Disk.told c.sync.new.self in
    let after = g.D.Disk.told c.read.new.self in
    let gate = c.read.new.into in
    closed_throughout old mid after (g.D.Disk.told c.write_and_sync.new.disk) gate c.read.ensures.same
    (synced old mid (g.met.D.Disk.since_now_is_now c.args.disk.now) c.sync.ensures.images c.sync.ensures.moments)
    c.sync.ensures.images c.in_ok-sync.ensures.stable (g.met.D.Disk.images_fit c.sync.new.self) (omega (arith, c.sync.ensures.moments.size, c.requires))
    (gate_read mid gate c.in_ok-sync.ensures.stable (g.met.D.Disk.images_need_contents c.sync.new.self) c.in_ok-read.ensures.bytes)
    (is_open_gate gate c.if-not-is_open.ensures) c.write_and_sync.ensures.any_moment

pub returns-clause-any_moment : goal.returns-clause-any_moment
returns-clause-any_moment g c =
    let old = g.D.Disk.told c.args.disk.now in
    let mid = g.D.Disk.told c.sync.new.self in
    let after = g.D.Disk.told c.read.new.self in
    let gate = c.read.new.into in
    closed_throughout old mid after (g.D.Disk.told c.write_and_sync.new.disk) gate c.read.ensures.same
    (synced old mid (g.met.D.Disk.since_now_is_now c.args.disk.now) c.sync.ensures.images c.sync.ensures.moments)
    c.sync.ensures.images c.in_ok-sync.ensures.stable (g.met.D.Disk.images_fit c.sync.new.self) (omega (arith, c.sync.ensures.moments.size, c.requires))
    (gate_read mid gate c.in_ok-sync.ensures.stable (g.met.D.Disk.images_need_contents c.sync.new.self) c.in_ok-read.ensures.bytes)
    (is_open_gate gate c.if-not-is_open.ensures) c.write_and_sync.ensures.any_moment

pub returns-clause-closed : goal.returns-clause-closed
returns-clause-closed g c =
    closed_written (g.D.Disk.told c.read.new.self) (g.D.Disk.told c.write_and_sync.new.disk) c.in_ok-write_and_sync.ensures.stable (g.met.D.Disk.images_need_contents c.write_and_sync.new.disk)
    c.write_and_sync.ensures.any_moment.tells_contents c.in_ok-write_and_sync.ensures.written
