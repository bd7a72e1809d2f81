use Rattle.std.proofs.Common.{◌≡◌, ◌<◌, sym, ap, subst, ◌∙◌, arith}
use Rattle.buffer_pool.specs.PoolState.{PoolState, IsDirty}
use Rattle.page_store.specs.KeptPages.{kept_on}
use Rattle.page_store.specs.LoggedState.{store_of}
use Rattle.store_layout.specs.DiskLayout.{DiskLayout}
use Rattle.page_store.proofs.FullPool.{some_dirty}
use Rattle.page_store.proofs.logged.LoggedPages.clean_some.Goals as goal

pub returns-in_err-flush-clause-kept : goal.returns-in_err-flush-clause-kept
returns-in_err-flush-clause-kept g c =
    let told = g.D.Disk.told in
    kept_on told (store_of told c.args.self.now) (store_of told c.clean_one.new.self) (store_of told c.flush.new.self) c.clean_one.ensures.kept c.flush.ensures.kept

pub returns-in_err-clean_one-2-clause-kept : goal.returns-in_err-clean_one-2-clause-kept
returns-in_err-clean_one-2-clause-kept g c =
    let told = g.D.Disk.told in
    kept_on told (store_of told c.args.self.now) (store_of told c.clean_one.new.self) (store_of told c.clean_one-2.new.self) c.clean_one.ensures.kept
    (kept_on told (store_of told c.clean_one.new.self) (store_of told c.flush.new.self) (store_of told c.clean_one-2.new.self) c.flush.ensures.kept c.clean_one-2.ensures.kept)

pub returns-then-branch-2-clause-kept : goal.returns-then-branch-2-clause-kept
returns-then-branch-2-clause-kept g c =
    let told = g.D.Disk.told in
    kept_on told (store_of told c.args.self.now) (store_of told c.clean_one.new.self) (store_of told c.clean_one-2.new.self) c.clean_one.ensures.kept
    (kept_on told (store_of told c.clean_one.new.self) (store_of told c.flush.new.self) (store_of told c.clean_one-2.new.self) c.flush.ensures.kept c.clean_one-2.ensures.kept)

pub unreachable-requires : goal.unreachable-requires
unreachable-requires g c =
    let frames : 0 < c.args.self.now.pool.frames = omega (arith, c.known.ensures.frames, c.known-2.ensures.sizes.some_frames, ap (λ (l : DiskLayout). l.sizes.frames) c.layout.ensures) in
    let pool : c.flush.new.self.pool ≡ c.args.self.now.pool = c.flush.ensures.pool ∙ c.in_ok-clean_one.ensures.none c.if-branch.false in
    some_dirty c.args.self.now.pool c.requires.full.0 frames c.requires.full.1
    (λ number waits dirty. c.in_ok-clean_one-2.ensures.dirty c.if-branch-2.false c.in_ok-flush.ensures.empty number waits (subst (λ (p : PoolState). IsDirty p number waits) (sym pool) dirty))
