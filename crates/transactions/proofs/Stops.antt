-- The tables that images have at the moments of calls.
use Rattle.std.proofs.Common.{◌≡◌, ℕ, List, inl, sym, subst}
use Rattle.block_model.specs.TableState.{TableState}
use Rattle.store_layout.specs.DiskLayout.{DiskLayout}
use Rattle.disk_trait.specs.Told.{Told}
use Rattle.page_map.specs.PageMap.{PageMap, View}
use Rattle.recovery.specs.Opens.{Opens}
use Rattle.recovery.specs.Reaches.{OpensWith}
use Rattle.heap_rows.specs.Survives.{Survives, each_image_has, each_moment_has}
use Rattle.snapshot_core.specs.declared.statuses.Status.TheVariants.{Committed}
use Rattle.tx_table.specs.Durable.{HasPart, IsBefore}
use Rattle.transactions.specs.Sessions.{committed_by}
use Rattle.transactions.specs.FoundLaws.{FindsEither, OneTableIsFound, table_committed}
use Rattle.transactions.specs.FoundTable.{FoundTable}
use Rattle.transactions.specs.StopLaws.{CommitLeavesEither, EachImage, EachStop, HasTable, OneTableInImage, StepKeepsTable, StopsKeepEither, StopsKeepTable, StopsLeaveEither, SureDatabaseIsLeft, SureTableIsLeft}
use Rattle.transactions.proofs.Commits.{commit_finds_either}
use Rattle.transactions.proofs.FoundAtStop.{found_shown}

pub one_table_in_image : (layout : DiskLayout) → ((image : List ℕ) (a b : PageMap) → Opens layout image a → Opens layout image b → a ≡ b) → OneTableIsFound → OneTableInImage layout
one_table_in_image layout one_map one_table image a b has other =
    one_table layout has.0 a b has.2 (subst (λ (pages : PageMap). FoundTable layout pages b) (sym (one_map image has.0 other.0 has.1.opens other.1.opens)) other.2)

module _ {D : Type 0} (told : D → Told) where
  -- calls that pass only pages with P, from images that open to such ones
  each_stop : (Passed P : PageMap → Type 0) (old new : View D) → EachImage told old (OpensWith old.layout P) → Survives told Passed old new → ((pages : PageMap) → Passed pages → P pages) → EachStop told old new (OpensWith old.layout P)
  each_stop Passed P old new each survives has = record {
    moments = each_moment_has told Passed old new survives P each (λ tells pages passed. has pages passed);
    images = each_image_has told Passed old new survives P each (λ tells pages passed. has pages passed);
  }

  -- an image with a table has one of two
  as_either : (old : View D) (a b : TableState) → EachImage told old (HasTable old.layout a) → EachImage told old (OpensWith old.layout (FindsEither old.layout a b))
  as_either old a b each image now = let opens = each image now in (opens.0, opens.1, inl opens.2)

  pub stops_keep_table : StopsKeepTable told
  stops_keep_table old new table each survives = each_stop (λ pages. FoundTable old.layout pages table) (λ pages. FoundTable old.layout pages table) old new each survives (λ pages found. found)

  pub stops_keep_either : StopsKeepEither told
  stops_keep_either old new a b each survives = each_stop (FindsEither old.layout a b) (FindsEither old.layout a b) old new each survives (λ pages found. found)

  pub stops_leave_either : StopsLeaveEither told
  stops_leave_either old new a b each survives = stops_keep_either old new a b (as_either old a b each) survives

  pub sure_table_is_left : SureTableIsLeft told
  sure_table_is_left store table sure found image now = (store.pages, sure image now, found)

  pub step_keeps_table : StepKeepsTable told
  step_keeps_table old new t s shows each survives =
      each_stop (IsBefore old) (λ pages. FoundTable old.layout pages s.table) old new each survives
      (λ pages same. subst (λ (pages : PageMap). FoundTable old.layout pages s.table) (sym same) (found_shown old.layout old.pages t s shows))

  pub commit_leaves_either : CommitLeavesEither told
  commit_leaves_either old new t s n o shows was each survives =
      each_stop (HasPart old.layout old.pages (committed_by o) Committed) (FindsEither old.layout s.table (table_committed s n)) old new (as_either old s.table (table_committed s n) each) survives
      (λ pages part. commit_finds_either old.layout old.pages pages t s n o shows was part)

  pub sure_database_is_left : SureDatabaseIsLeft told
  sure_database_is_left store t s sure shows = sure_table_is_left store s.table sure (found_shown store.layout store.pages t s shows)
