use Rattle.std.proofs.Common.{◌≡◌, ◌<◌, ℕ, List, length, ap, sym, subst, ◌∙◌, arith}
use Rattle.store_layout.specs.DiskLayout.{DiskLayout}
use Rattle.snapshot_core.specs.declared.statuses.Status.{Status}
use Rattle.page_store.specs.SurvivesLaws.{survives_on}
use Rattle.page_map.specs.Keeps.{Tells, keeps_on}
use Rattle.heap_rows.specs.DroppedRows.{AreAscending, AreInUse, FreesSlots, with_slots_free}
use Rattle.heap_rows.specs.HeapBlocks.{OfBlocks}
use Rattle.heap_rows.specs.Heaps.{kinds_at, no_table, relation_of, slots_a_page}
use Rattle.heap_rows.specs.declared.rows.Stored.{Stored}
use Rattle.vacuum_core.specs.DeadRows.{DropsFrom, IsPicked, dead_slots, living}
use Rattle.vacuum_core.proofs.Onward.{statuses_before}
use Rattle.vacuum_core.proofs.Picking.{few_picked}
use Rattle.vacuum_core.proofs.Pruned.{dead_ascend, dead_used, few_rows, prune_drops, prunes_the_dead, tables_then}
use Rattle.page_map.specs.Outcome.{NamesPage}
use Rattle.tx_table.specs.LeavesRest.{NamesStatuses}
use Rattle.vacuum_core.proofs.Naming.{names_statuses, names_table}
use Rattle.vacuum_core.proofs.pruning.prune.Goals as goal

pub returns-in-Err-list_dead-clause-survives : goal.returns-in-Err-list_dead-clause-survives
returns-in-Err-list_dead-clause-survives g c = survives_on g.D.Disk.told c.args.pages.now c.rows_of.new.pages c.list_dead.new.pages c.in-Ok.ensures.kept c.in-Ok.ensures.survives c.in-Err-list_dead.ensures.survives

pub drop_dead-requires-clause-ascending : goal.drop_dead-requires-clause-ascending
drop_dead-requires-clause-ascending g c =
    let store = c.args.pages.now in
    subst (λ (l : List ℕ). AreAscending 0 (slots_a_page c.list_dead.new.pages.layout c.args.table) l) (sym c.as_slice-2.ensures.value) (
    let kept = keeps_on g.D.Disk.told store c.rows_of.new.pages c.list_dead.new.pages c.in-Ok.ensures.kept c.in-Ok-list_dead.ensures.kept in
    subst (λ (l : DiskLayout). AreAscending 0 (slots_a_page l c.args.table) c.list_dead.new.dead.items) (sym kept.leaves.layout)
    (dead_ascend (kinds_at store.layout c.args.table) (slots_a_page store.layout c.args.table) c.rows_of.new.out.rows c.list_dead.new.dead.items c.in-Ok.ensures.sound (subst (λ (l : List Stored). IsPicked c.list_dead.new.dead.items l) c.as_slice.ensures c.in-Ok-list_dead.ensures.picked)))

pub drop_dead-requires-clause-used : goal.drop_dead-requires-clause-used
drop_dead-requires-clause-used g c =
    let store = c.args.pages.now in
    subst (λ (l : List ℕ). Tells g.D.Disk.told c.list_dead.new.pages → AreInUse c.list_dead.new.pages.layout c.list_dead.new.pages.pages c.args.table c.args.block l) (sym c.as_slice-2.ensures.value) (
    let kept = keeps_on g.D.Disk.told store c.rows_of.new.pages c.list_dead.new.pages c.in-Ok.ensures.kept c.in-Ok-list_dead.ensures.kept in
    dead_used g.D.Disk.told store c.list_dead.new.pages c.args.table c.args.block c.rows_of.new.out.rows c.list_dead.new.dead.items kept c.requires.heap c.in-Ok.ensures.rows (subst (λ (l : List Stored). IsPicked c.list_dead.new.dead.items l) c.as_slice.ensures c.in-Ok-list_dead.ensures.picked))

pub returns-in-Ok-drop_dead-clause-drops : goal.returns-in-Ok-drop_dead-clause-drops
returns-in-Ok-drop_dead-clause-drops g c =
    let store = c.args.pages.now in
    let kept = keeps_on g.D.Disk.told store c.rows_of.new.pages c.list_dead.new.pages c.in-Ok.ensures.kept c.in-Ok-list_dead.ensures.kept in
    subst (λ (n : ℕ). OfBlocks g.D.Disk.told store c.args.table (λ blocks. DropsFrom blocks (with_slots_free blocks c.args.block c.list_dead.new.dead.items) c.args.block n)) (let e : length c.list_dead.new.dead.items ≡ c.len.result = omega (arith, c.len.ensures, c.list_dead.new.dead.ok.0) in e) (
    prune_drops g.D.Disk.told store c.list_dead.new.pages c.args.table c.args.block (slots_a_page store.layout c.args.table) (kinds_at store.layout c.args.table) c.rows_of.new.out.rows c.list_dead.new.dead.items kept c.in-Ok.ensures.rows c.in-Ok.ensures.sound (subst (λ (l : List Stored). IsPicked c.list_dead.new.dead.items l) c.as_slice.ensures c.in-Ok-list_dead.ensures.picked) (subst (λ (l : List ℕ). OfBlocks g.D.Disk.told c.list_dead.new.pages c.args.table (FreesSlots c.args.block l)) c.as_slice-2.ensures.value c.in-Ok-drop_dead.ensures.slots))

pub returns-in-Ok-drop_dead-clause-pruned : goal.returns-in-Ok-drop_dead-clause-pruned
returns-in-Ok-drop_dead-clause-pruned g c = λ tells statuses has.
    let store = c.args.pages.now in
    let kept = keeps_on g.D.Disk.told store c.rows_of.new.pages c.list_dead.new.pages c.in-Ok.ensures.kept c.in-Ok-list_dead.ensures.kept in
    let is = statuses_before g.D.Disk.told store c.rows_of.new.pages c.in-Ok.ensures.kept (λ (l : List Status). c.list_dead.new.dead.items ≡ dead_slots (living c.args.live.now c.args.tx.now.first l) c.rows_of.new.out.rows)
    (λ t l h. c.in-Ok-list_dead.ensures.dead t l h ∙ ap (dead_slots (living c.args.live.now c.args.tx.now.first l)) c.as_slice.ensures) tells statuses has in
    prunes_the_dead g.D.Disk.told store c.list_dead.new.pages c.args.table c.args.block (living c.args.live.now c.args.tx.now.first statuses) c.rows_of.new.out.rows c.list_dead.new.dead.items kept c.in-Ok.ensures.rows is (subst (λ (l : List ℕ). OfBlocks g.D.Disk.told c.list_dead.new.pages c.args.table (FreesSlots c.args.block l)) c.as_slice-2.ensures.value c.in-Ok-drop_dead.ensures.slots)

pub returns-in-Ok-drop_dead-clause-few : goal.returns-in-Ok-drop_dead-clause-few
returns-in-Ok-drop_dead-clause-few g c =
    let picked = few_picked c.list_dead.new.dead.items c.as_slice.result.now c.in-Ok-list_dead.ensures.picked in
    let read = ap (length {A = Stored}) c.as_slice.ensures in
    let most = few_rows c.layout.result.now c.args.table (c.tables_have_forms.ensures.forms c.args.table no_table (subst (λ (l : DiskLayout). c.args.table < length l.schema.tables) (sym c.layout.ensures) c.requires.table)).form in
    let same = ap (λ (l : DiskLayout). slots_a_page l c.args.table) c.layout.ensures in
    omega (arith, picked, read, most, same, c.in-Ok.ensures.sound.few, c.len.ensures)

pub returns-in-Ok-drop_dead-clause-others : goal.returns-in-Ok-drop_dead-clause-others
returns-in-Ok-drop_dead-clause-others g c =
    let store = c.args.pages.now in
    let kept = keeps_on g.D.Disk.told store c.rows_of.new.pages c.list_dead.new.pages c.in-Ok.ensures.kept c.in-Ok-list_dead.ensures.kept in
    tables_then g.D.Disk.told c.args.table store c.list_dead.new.pages c.drop_dead.new.pages kept c.in-Ok-drop_dead.ensures.others

pub returns-in-Ok-drop_dead-clause-survives : goal.returns-in-Ok-drop_dead-clause-survives
returns-in-Ok-drop_dead-clause-survives g c =
    let store = c.args.pages.now in
    let kept = keeps_on g.D.Disk.told store c.rows_of.new.pages c.list_dead.new.pages c.in-Ok.ensures.kept c.in-Ok-list_dead.ensures.kept in
    let first = survives_on g.D.Disk.told store c.rows_of.new.pages c.list_dead.new.pages c.in-Ok.ensures.kept c.in-Ok.ensures.survives c.in-Ok-list_dead.ensures.survives in
    survives_on g.D.Disk.told store c.list_dead.new.pages c.drop_dead.new.pages kept first c.in-Ok-drop_dead.ensures.survives

pub returns-in-Err-drop_dead-clause-survives : goal.returns-in-Err-drop_dead-clause-survives
returns-in-Err-drop_dead-clause-survives g c =
    let store = c.args.pages.now in
    let kept = keeps_on g.D.Disk.told store c.rows_of.new.pages c.list_dead.new.pages c.in-Ok.ensures.kept c.in-Ok-list_dead.ensures.kept in
    let first = survives_on g.D.Disk.told store c.rows_of.new.pages c.list_dead.new.pages c.in-Ok.ensures.kept c.in-Ok.ensures.survives c.in-Ok-list_dead.ensures.survives in
    survives_on g.D.Disk.told store c.list_dead.new.pages c.drop_dead.new.pages kept first c.in-Err-drop_dead.ensures.survives

pub returns-in-Err-clause-at : goal.returns-in-Err-clause-at
returns-in-Err-clause-at g c = names_table c.args.pages.now.layout c.args.table c.args.block c.in-Err.error c.requires.table c.requires.block c.in-Err.ensures.at

pub returns-in-Err-list_dead-clause-at : goal.returns-in-Err-list_dead-clause-at
returns-in-Err-list_dead-clause-at g c =
    names_statuses c.args.pages.now.layout c.args.table c.in-Err-list_dead.error (subst (λ (l : DiskLayout). NamesStatuses l c.in-Err-list_dead.error) c.in-Ok.ensures.kept.leaves.layout c.in-Err-list_dead.ensures.at)

pub returns-in-Err-drop_dead-clause-at : goal.returns-in-Err-drop_dead-clause-at
returns-in-Err-drop_dead-clause-at g c =
    let store = c.args.pages.now in
    let kept = keeps_on g.D.Disk.told store c.rows_of.new.pages c.list_dead.new.pages c.in-Ok.ensures.kept c.in-Ok-list_dead.ensures.kept in
    names_table store.layout c.args.table c.args.block c.in-Err-drop_dead.error c.requires.table c.requires.block
    (subst (λ (l : DiskLayout). NamesPage l (record { relation = relation_of c.args.table; block = c.args.block }) c.in-Err-drop_dead.error) kept.leaves.layout c.in-Err-drop_dead.ensures.at)
