use Rattle.page_store.specs.KeptPages.{kept_on}
use Rattle.page_store.specs.LoggedState.{store_of}
use Rattle.page_store.proofs.logged.LoggedPages.checkpoint.Goals as goal

pub returns-in_err-write_dirty-clause-kept : goal.returns-in_err-write_dirty-clause-kept
returns-in_err-write_dirty-clause-kept g c =
    let told = g.D.Disk.told in
    kept_on told (store_of told c.args.self.now) (store_of told c.flush.new.self) (store_of told c.write_dirty.new.self) c.flush.ensures.kept c.write_dirty.ensures.kept

pub returns-clause-kept : goal.returns-clause-kept
returns-clause-kept g c =
    let told = g.D.Disk.told in
    kept_on told (store_of told c.args.self.now) (store_of told c.flush.new.self) (store_of told c.begin_log.new.self) c.flush.ensures.kept
    (kept_on told (store_of told c.flush.new.self) (store_of told c.write_dirty.new.self) (store_of told c.begin_log.new.self) c.write_dirty.ensures.kept c.begin_log.ensures.kept)
