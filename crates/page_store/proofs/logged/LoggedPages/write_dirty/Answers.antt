use Rattle.std.proofs.Common.{refl, sym, ap, subst, ◌∙◌, arith}
use Rattle.buffer_pool.specs.PoolState.{IsDirty}
use Rattle.recovery.specs.ShownPages.{content_at}
use Rattle.page_store.specs.KeptPages.{KeptPages, kept_on}
use Rattle.page_store.specs.LoggedState.{LoggedState, store_of}
use Rattle.page_store.proofs.Steps.{DiskLaws}
use Rattle.buffer_pool.specs.NextDirty.{IsNextDirty}
use Rattle.page_store.specs.Clean.{AreClean}
use Rattle.page_store.proofs.CleanExits.{below_more, clean_at, on_ok}
use Rattle.page_store.proofs.Exits.{keeps_all}
use Rattle.page_store.proofs.logged.LoggedPages.write_dirty.Goals as goal

pub pages-init : goal.pages-init
pages-init g c =
    let told = g.D.Disk.told in
    let laws : DiskLaws told = record { need = g.met.D.Disk.images_need_contents; counts = g.met.D.Disk.now_is_since; only = g.met.D.Disk.since_now_is_now; fit = g.met.D.Disk.contents_fit } in
    record {
      kept = keeps_all told laws c.args.self.now;
      failed = c.requires.failed;
      empty = c.requires.empty;
      marks = refl;
      alike = λ number. refl;
      below = λ number waits low dirty. absurd (omega (arith, low));
    }

pub pages-preserved : goal.pages-preserved
pages-preserved g c =
    let told = g.D.Disk.told in
    let mid : KeptPages told (store_of told c.args.self.now) (store_of told c.next_dirty.new.self) = subst (λ (x : LoggedState g.row.D.Denot). KeptPages told (store_of told c.args.self.now) (store_of told x)) (sym c.next_dirty.ensures.same) c.pages.invariant.kept in
    let same = c.next_dirty.ensures.same in
    record {
      kept = kept_on told (store_of told c.args.self.now) (store_of told c.next_dirty.new.self) (store_of told c.write.new.self) mid c.write.ensures.kept;
      failed = c.in_ok-write.ensures.outcome.1;
      empty = c.write.ensures.empty;
      marks = c.write.ensures.marks ∙ ap (λ (x : LoggedState g.row.D.Denot). x.marks) same ∙ c.pages.invariant.marks;
      alike = λ number. c.write.ensures.alike number ∙ ap (λ (x : LoggedState g.row.D.Denot). content_at x.pool number) same ∙ c.pages.invariant.alike number;
      below = below_more c.pages.self.pool c.write.new.self.pool c.pages.from c.in-Some.number c.pages.invariant.below (subst (IsNextDirty c.pages.self.pool c.pages.from) c.in-Some.is c.next_dirty.ensures.next) c.in_ok-write.ensures.clean
          (λ other log dirty. subst (λ (x : LoggedState g.row.D.Denot). IsDirty x.pool other log) same (c.write.ensures.dirty other log dirty));
    }

pub returns-in_err-write-clause-kept : goal.returns-in_err-write-clause-kept
returns-in_err-write-clause-kept g c =
    let told = g.D.Disk.told in
    let mid : KeptPages told (store_of told c.args.self.now) (store_of told c.next_dirty.new.self) = subst (λ (x : LoggedState g.row.D.Denot). KeptPages told (store_of told c.args.self.now) (store_of told x)) (sym c.next_dirty.ensures.same) c.pages.invariant.kept in
    kept_on told (store_of told c.args.self.now) (store_of told c.next_dirty.new.self) (store_of told c.write.new.self) mid c.write.ensures.kept

pub returns-in_err-write-clause-alike : goal.returns-in_err-write-clause-alike
returns-in_err-write-clause-alike g c =
    λ number. c.write.ensures.alike number ∙ ap (λ (x : LoggedState g.row.D.Denot). content_at x.pool number) c.next_dirty.ensures.same ∙ c.pages.invariant.alike number

pub returns-clause-kept : goal.returns-clause-kept
returns-clause-kept g c =
    let told = g.D.Disk.told in
    let mid : KeptPages told (store_of told c.args.self.now) (store_of told c.next_dirty.new.self) = subst (λ (x : LoggedState g.row.D.Denot). KeptPages told (store_of told c.args.self.now) (store_of told x)) (sym c.next_dirty.ensures.same) c.pages.invariant.kept in
    kept_on told (store_of told c.args.self.now) (store_of told c.next_dirty.new.self) (store_of told c.sync.new.self) mid c.sync.ensures.kept

pub returns-clause-alike : goal.returns-clause-alike
returns-clause-alike g c =
    λ number. ap (λ (x : LoggedState g.row.D.Denot). content_at x.pool number) c.sync.ensures.same ∙ ap (λ (x : LoggedState g.row.D.Denot). content_at x.pool number) c.next_dirty.ensures.same ∙ c.pages.invariant.alike number

pub returns-clause-clean : goal.returns-clause-clean
returns-clause-clean g c =
    on_ok c.sync.result (subst (λ (x : LoggedState g.row.D.Denot). AreClean x.pool) (sym c.sync.ensures.same)
    (subst (λ (x : LoggedState g.row.D.Denot). AreClean x.pool) (sym c.next_dirty.ensures.same)
    (clean_at c.pages.self.pool c.pages.from c.pages.invariant.below c.next_dirty.result c.in_default.not-Some c.next_dirty.ensures.next)))
