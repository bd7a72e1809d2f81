use Rattle.std.proofs.Common.{inl, refl, subst}
use Rattle.std.specs.Prelude.{Ok}
use Rattle.buffer_pool.specs.PoolState.{PoolState}
use Rattle.buffer_pool.specs.WritesPage.{CleansOne}
use Rattle.recovery.proofs.Rooms.{may_clean, one_is_clean}
use Rattle.recovery.proofs.room.hold.Goals as goal

pub returns-in-Ok-clause-held : goal.returns-in-Ok-clause-held
returns-in-Ok-clause-held g c = record { mid = c.args.pool.now; cleans = inl (refl, refl); sets = c.in-Ok.ensures.set }

pub unreachable-requires : goal.unreachable-requires
unreachable-requires g c =
    let old = g.D.Disk.told c.args.disk.now in
    let new = g.D.Disk.told c.clean_one.new.disk in
    let cleans = subst (λ (p : PoolState). CleansOne p c.clean_one.new.self 0 0 old new (Ok c.in_ok-clean_one.field-0)) c.in-Err.ensures.same c.in_ok-clean_one.ensures.cleans in
    one_is_clean c.args.pool.now c.clean_one.new.self c.args.number old new c.in_ok-clean_one.field-0 c.requires.durable c.requires.frames c.in-Err.ensures.refused cleans c.in-Err-set.ensures.refused

pub returns-clause-held : goal.returns-clause-held
returns-clause-held g c =
    let old = g.D.Disk.told c.args.disk.now in
    let new = g.D.Disk.told c.clean_one.new.disk in
    let cleans = subst (λ (p : PoolState). CleansOne p c.clean_one.new.self 0 0 old new (Ok c.in_ok-clean_one.field-0)) c.in-Err.ensures.same c.in_ok-clean_one.ensures.cleans in
    record { mid = c.clean_one.new.self; cleans = may_clean c.args.pool.now c.clean_one.new.self old new c.in_ok-clean_one.field-0 cleans; sets = c.in-Ok-set.ensures.set }
