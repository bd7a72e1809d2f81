use Rattle.std.proofs.Common.{◌≡◌, ℕ, ◌+◌, List, [], ◌∷◌, ◌++◌, drop, refl, sym, ap, subst, ◌∙◌}
use Rattle.std.proofs.lemmas.List.{drop_more}
use Rattle.std.proofs.lemmas.Result.{err_from_is_err_and}
use Rattle.block_model.specs.declared.place.Spot.{Spot}
use Rattle.block_model.specs.declared.row.Row.{Row}
use Rattle.page_store.specs.SurvivesLaws.{survives_on, survives_still}
use Rattle.page_map.specs.Keeps.{keeps_on}
use Rattle.store_layout.specs.DiskLayout.{DiskLayout}
use Rattle.snapshot_core.specs.declared.statuses.Status.{Status}
use Rattle.heap_rows.specs.declared.rows.Stored.{Stored}
use Rattle.bitmap_scan.specs.Finds.{FaultNamesStatuses, visible_matches}
use Rattle.bitmap_scan.specs.LastStatuses.{Remembers}
use Rattle.bitmap_scan.proofs.Held.{keeps_same, told_after, told_before}
use Rattle.bitmap_scan.proofs.Ordered.{IsAhead, begins_ahead, goes_ahead}
use Rattle.bitmap_scan.proofs.VisibleRows.{one_more, sight_of}
use Rattle.bitmap_scan.proofs.scan.find_among.Goals as goal

pub rows-init : goal.rows-init
rows-init g c = record {
  kept = keeps_same g.D.Disk.told c.args.pages.now;
  survives = survives_still g.D.Disk.told c.args.pages.now c.known.ensures.stays;
  started = c.requires.ready;
  ready = c.requires.ready;
  ahead = begins_ahead c.args.block c.requires.order.0 c.args.found.now.items c.args.rows.now c.requires.order.1;
  so_far = λ tells statuses has. refl;
  remembers = c.requires.remembers;
}

pub add_visible-requires-clause-remembers : goal.add_visible-requires-clause-remembers
add_visible-requires-clause-remembers g c =
    told_after g.D.Disk.told c.args.pages.now c.rows.pages c.rows.invariant.kept (λ (statuses : List Status). Remembers (sight_of c.args.snapshot.now c.args.own c.args.tx.now.first statuses) c.rows.last)
    c.rows.invariant.remembers

pub rows-preserved : goal.rows-preserved
rows-preserved g c =
    let told = g.D.Disk.told in
    let first = c.args.pages.now in
    let mid = c.rows.pages in
    let query = c.args.query.now in
    let block : ℕ = c.args.block in
    let rows : List Stored = c.args.rows.now in
    let i : ℕ = c.rows.row-index in
    let row : Stored = c.row-item.result in
    let rest : List Stored = drop (i + 1) rows in
    let found : List (Row × Spot) = c.rows.found.items in
    let found' : List (Row × Spot) = c.add_visible.new.found.items in
    let is : drop i rows ≡ row ∷ rest = drop_more rows i row c.rows-test.true ∙ ap (λ (r : Stored). r ∷ rest) (sym c.row-item.is) in
    record {
      kept = keeps_on told first mid c.add_visible.new.pages c.rows.invariant.kept c.in_ok-add_visible.ensures.kept;
      survives = survives_on told first mid c.add_visible.new.pages c.rows.invariant.kept c.rows.invariant.survives c.in_ok-add_visible.ensures.survives;
      started = c.requires.ready;
      ready = c.in_ok-add_visible.ensures.outcome.1;
      ahead = goes_ahead query.table block c.args.found.now.items found found' row rest (subst (λ (l : List Stored). IsAhead block c.args.found.now.items found l) is c.rows.invariant.ahead) c.in_ok-add_visible.ensures.added;
      so_far = λ tells statuses has.
          let sight = sight_of c.args.snapshot.now c.args.own c.args.tx.now.first statuses in
          let all : List (Row × Spot) = c.args.found.now.items ++ visible_matches sight query block rows in
          one_more sight query block row rest found found' all
          (told_before told first mid c.rows.invariant.kept (λ (l : List Status). found' ≡ found ++ visible_matches (sight_of c.args.snapshot.now c.args.own c.args.tx.now.first l) query block (row ∷ [])) c.in_ok-add_visible.ensures.visible tells statuses has)
          (subst (λ (l : List Stored). found ++ visible_matches sight query block l ≡ all) is (c.rows.invariant.so_far tells statuses has));
      remembers = told_before told first mid c.rows.invariant.kept (λ (statuses : List Status). Remembers (sight_of c.args.snapshot.now c.args.own c.args.tx.now.first statuses) c.add_visible.new.last)
          c.in_ok-add_visible.ensures.remembers;
    }

pub returns-in_err-add_visible-clause-names : goal.returns-in_err-add_visible-clause-names
returns-in_err-add_visible-clause-names g c =
    let p = err_from_is_err_and c.from_residual.result c.from_residual.ensures.1 in
    rw (p.1, p.2) (subst (λ (l : DiskLayout). FaultNamesStatuses l c.in_err-add_visible.field-0.0) c.rows.invariant.kept.leaves.layout c.in_err-add_visible.ensures.names)

pub returns-in_err-add_visible-clause-survives : goal.returns-in_err-add_visible-clause-survives
returns-in_err-add_visible-clause-survives g c = survives_on g.D.Disk.told c.args.pages.now c.rows.pages c.add_visible.new.pages c.rows.invariant.kept c.rows.invariant.survives c.in_err-add_visible.ensures.survives
