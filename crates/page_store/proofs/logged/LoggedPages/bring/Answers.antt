use Rattle.page_store.specs.KeptPages.{kept_on}
use Rattle.page_store.specs.LoggedState.{store_of}
use Rattle.page_store.proofs.logged.LoggedPages.bring.Goals as goal

pub returns-then-set-clause-kept : goal.returns-then-set-clause-kept
returns-then-set-clause-kept g c =
    let told = g.D.Disk.told in
    kept_on told (store_of told c.args.self.now) (store_of told c.fetch.new.self) (store_of told c.set.new.self) c.fetch.ensures.kept c.set.ensures.kept

pub returns-in_err-clean_some-clause-kept : goal.returns-in_err-clean_some-clause-kept
returns-in_err-clean_some-clause-kept g c =
    let told = g.D.Disk.told in
    kept_on told (store_of told c.args.self.now) (store_of told c.fetch.new.self) (store_of told c.clean_some.new.self) c.fetch.ensures.kept
    (kept_on told (store_of told c.fetch.new.self) (store_of told c.set.new.self) (store_of told c.clean_some.new.self) c.set.ensures.kept c.clean_some.ensures.kept)

pub returns-then-set-2-clause-kept : goal.returns-then-set-2-clause-kept
returns-then-set-2-clause-kept g c =
    let told = g.D.Disk.told in
    kept_on told (store_of told c.args.self.now) (store_of told c.fetch.new.self) (store_of told c.set-2.new.self) c.fetch.ensures.kept
    (kept_on told (store_of told c.fetch.new.self) (store_of told c.set.new.self) (store_of told c.set-2.new.self) c.set.ensures.kept (kept_on told (store_of told c.set.new.self) (store_of told c.clean_some.new.self) (store_of told c.set-2.new.self) c.clean_some.ensures.kept c.set-2.ensures.kept))

pub unreachable-requires : goal.unreachable-requires
unreachable-requires g c =
    c.set-2.ensures.refused c.if-set-2.false c.in_ok-clean_some.ensures.clean.0 c.in_ok-clean_some.ensures.clean.1
