use Rattle.std.proofs.Common.{◌≡◌, ◌==◌, ℕ, List, length, ap, sym, subst, ◌∙◌, arith}
use Rattle.std.specs.Prelude.{slice_index}
use Rattle.std.specs.Vec.{vec_len}
use Rattle.store_layout.specs.DiskLayout.{DiskLayout}
use Rattle.page_map.specs.Keeps.{Tells, keeps_on}
use Rattle.page_map.specs.PageMap.{page_at}
use Rattle.index_layout.specs.IndexPages.{IsRegular}
use Rattle.index_layout.specs.IndexReading.{slots_of}
use Rattle.index_layout.specs.IndexWrites.{CanDrop, dropped, trimmed}
use Rattle.page_store.specs.SurvivesLaws.{survives_on}
use Rattle.index_contents.specs.IndexContents.{relation_of}
use Rattle.vacuum_core.proofs.SlotBytes.{none_there, some_there}
use Rattle.vacuum_core.proofs.SweptStore.{place_of, sweep_can, sweep_counts, sweep_done, sweep_of_none, sweep_order}
use Rattle.index_steps.specs.DamagedPages.{names_there}
use Rattle.page_map.specs.Outcome.{NamesPage}
use Rattle.vacuum_core.proofs.sweeping.sweep.Goals as goal

pub returns-in-Err-list_unnamed-clause-survives : goal.returns-in-Err-list_unnamed-clause-survives
returns-in-Err-list_unnamed-clause-survives g c = survives_on g.D.Disk.told c.args.pages.now c.copy_page.new.pages c.list_unnamed.new.pages c.in-Ok.ensures.kept c.in-Ok.ensures.survives c.in-Err-list_unnamed.ensures.survives

pub returns-then-is_empty-clause-swept : goal.returns-then-is_empty-clause-swept
returns-then-is_empty-clause-swept g c =
    sweep_of_none g.D.Disk.told c.args.index c.args.block c.args.pages.now c.copy_page.new.pages c.list_unnamed.new.pages c.in-Ok.ensures.kept c.in-Ok-list_unnamed.ensures.kept c.copy_page.new.out c.list_unnamed.new.unnamed.items
    c.in-Ok.ensures.page c.in-Ok-list_unnamed.ensures.listed (none_there c.list_unnamed.new.unnamed.items c.is_empty.result (c.is_empty.ensures ∙ ap (λ (n : ℕ). n == 0) (let e : vec_len c.list_unnamed.new.unnamed ≡ length c.list_unnamed.new.unnamed.items = omega (arith, c.list_unnamed.new.unnamed.ok.0) in e)) c.if-is_empty.true)

pub returns-then-is_empty-clause-counted : goal.returns-then-is_empty-clause-counted
returns-then-is_empty-clause-counted g c =
    sweep_counts g.D.Disk.told c.args.index c.args.block c.args.pages.now c.copy_page.new.pages c.list_unnamed.new.pages c.in-Ok.ensures.kept c.in-Ok-list_unnamed.ensures.kept c.copy_page.new.out c.list_unnamed.new.unnamed.items
    c.in-Ok.ensures.page c.in-Ok-list_unnamed.ensures.listed c.in-Ok-list_unnamed.count c.in-Ok-list_unnamed.ensures.counted

pub returns-then-is_empty-clause-survives : goal.returns-then-is_empty-clause-survives
returns-then-is_empty-clause-survives g c = survives_on g.D.Disk.told c.args.pages.now c.copy_page.new.pages c.list_unnamed.new.pages c.in-Ok.ensures.kept c.in-Ok.ensures.survives c.in-Ok-list_unnamed.ensures.survives

pub drop_tuples-requires-clause-slots : goal.drop_tuples-requires-clause-slots
drop_tuples-requires-clause-slots g c =
    let store = c.args.pages.now in
    subst (λ (l : List ℕ). Tells g.D.Disk.told c.list_unnamed.new.pages → CanDrop (page_at c.list_unnamed.new.pages.pages (place_of c.relation_of-relation.result c.args.block)) l) (sym c.as_slice.ensures.value) (
    let kept = keeps_on g.D.Disk.told store c.copy_page.new.pages c.list_unnamed.new.pages c.in-Ok.ensures.kept c.in-Ok-list_unnamed.ensures.kept in
    sweep_can g.D.Disk.told c.args.index c.args.block c.args.pages.now c.copy_page.new.pages c.list_unnamed.new.pages c.in-Ok.ensures.kept c.in-Ok-list_unnamed.ensures.kept c.copy_page.new.out c.list_unnamed.new.unnamed.items
    c.in-Ok.ensures.page c.in-Ok-list_unnamed.ensures.listed c.relation_of-relation.result (c.relation_of-relation.ensures.number ∙ ap (λ (l : DiskLayout). relation_of l c.args.index) (c.layout.ensures ∙ kept.leaves.layout))
    c.in-Ok-list_unnamed.ensures.ascending (some_there c.list_unnamed.new.unnamed.items c.is_empty.result (c.is_empty.ensures ∙ ap (λ (n : ℕ). n == 0) (let e : vec_len c.list_unnamed.new.unnamed ≡ length c.list_unnamed.new.unnamed.items = omega (arith, c.list_unnamed.new.unnamed.ok.0) in e)) c.if-is_empty.false))

pub returns-in-Ok-drop_tuples-clause-swept : goal.returns-in-Ok-drop_tuples-clause-swept
returns-in-Ok-drop_tuples-clause-swept g c =
    let store = c.args.pages.now in
    let kept = keeps_on g.D.Disk.told store c.copy_page.new.pages c.list_unnamed.new.pages c.in-Ok.ensures.kept c.in-Ok-list_unnamed.ensures.kept in
    sweep_done g.D.Disk.told c.args.index c.args.block c.args.pages.now c.copy_page.new.pages c.list_unnamed.new.pages c.in-Ok.ensures.kept c.in-Ok-list_unnamed.ensures.kept c.copy_page.new.out c.list_unnamed.new.unnamed.items
    c.in-Ok.ensures.page c.in-Ok-list_unnamed.ensures.listed c.relation_of-relation.result (c.relation_of-relation.ensures.number ∙ ap (λ (l : DiskLayout). relation_of l c.args.index) (c.layout.ensures ∙ kept.leaves.layout))
    c.in-Ok-list_unnamed.ensures.ascending (some_there c.list_unnamed.new.unnamed.items c.is_empty.result (c.is_empty.ensures ∙ ap (λ (n : ℕ). n == 0) (let e : vec_len c.list_unnamed.new.unnamed ≡ length c.list_unnamed.new.unnamed.items = omega (arith, c.list_unnamed.new.unnamed.ok.0) in e)) c.if-is_empty.false) c.drop_tuples.new.pages c.an_index_page_has_one_list.ensures.slots c.a_put_changes_one_slot.ensures.trimmed c.in-Ok-drop_tuples.ensures.others (subst (λ (l : List ℕ). Tells g.D.Disk.told c.list_unnamed.new.pages → IsRegular (slice_index (page_at c.list_unnamed.new.pages.pages (place_of c.relation_of-relation.result c.args.block)) 0) (trimmed (dropped (slots_of (page_at c.list_unnamed.new.pages.pages (place_of c.relation_of-relation.result c.args.block))) l)) (page_at c.drop_tuples.new.pages.pages (place_of c.relation_of-relation.result c.args.block))) c.as_slice.ensures.value c.in-Ok-drop_tuples.ensures.dropped)

pub returns-in-Ok-drop_tuples-clause-counted : goal.returns-in-Ok-drop_tuples-clause-counted
returns-in-Ok-drop_tuples-clause-counted g c =
    sweep_counts g.D.Disk.told c.args.index c.args.block c.args.pages.now c.copy_page.new.pages c.list_unnamed.new.pages c.in-Ok.ensures.kept c.in-Ok-list_unnamed.ensures.kept c.copy_page.new.out c.list_unnamed.new.unnamed.items
    c.in-Ok.ensures.page c.in-Ok-list_unnamed.ensures.listed c.in-Ok-list_unnamed.count c.in-Ok-list_unnamed.ensures.counted

pub returns-in-Ok-drop_tuples-clause-order : goal.returns-in-Ok-drop_tuples-clause-order
returns-in-Ok-drop_tuples-clause-order g c =
    let store = c.args.pages.now in
    let kept = keeps_on g.D.Disk.told store c.copy_page.new.pages c.list_unnamed.new.pages c.in-Ok.ensures.kept c.in-Ok-list_unnamed.ensures.kept in
    sweep_order g.D.Disk.told c.args.index c.args.block c.args.pages.now c.copy_page.new.pages c.list_unnamed.new.pages c.in-Ok.ensures.kept c.in-Ok-list_unnamed.ensures.kept c.copy_page.new.out c.list_unnamed.new.unnamed.items
    c.in-Ok.ensures.page c.in-Ok-list_unnamed.ensures.listed c.relation_of-relation.result (c.relation_of-relation.ensures.number ∙ ap (λ (l : DiskLayout). relation_of l c.args.index) (c.layout.ensures ∙ kept.leaves.layout))
    c.in-Ok-list_unnamed.ensures.ascending (some_there c.list_unnamed.new.unnamed.items c.is_empty.result (c.is_empty.ensures ∙ ap (λ (n : ℕ). n == 0) (let e : vec_len c.list_unnamed.new.unnamed ≡ length c.list_unnamed.new.unnamed.items = omega (arith, c.list_unnamed.new.unnamed.ok.0) in e)) c.if-is_empty.false) c.drop_tuples.new.pages c.requires.block c.in-Ok-drop_tuples.ensures.others (subst (λ (l : List ℕ). Tells g.D.Disk.told c.list_unnamed.new.pages → IsRegular (slice_index (page_at c.list_unnamed.new.pages.pages (place_of c.relation_of-relation.result c.args.block)) 0) (trimmed (dropped (slots_of (page_at c.list_unnamed.new.pages.pages (place_of c.relation_of-relation.result c.args.block))) l)) (page_at c.drop_tuples.new.pages.pages (place_of c.relation_of-relation.result c.args.block))) c.as_slice.ensures.value c.in-Ok-drop_tuples.ensures.dropped)

pub returns-in-Ok-drop_tuples-clause-survives : goal.returns-in-Ok-drop_tuples-clause-survives
returns-in-Ok-drop_tuples-clause-survives g c =
    let store = c.args.pages.now in
    let kept = keeps_on g.D.Disk.told store c.copy_page.new.pages c.list_unnamed.new.pages c.in-Ok.ensures.kept c.in-Ok-list_unnamed.ensures.kept in
    let first = survives_on g.D.Disk.told store c.copy_page.new.pages c.list_unnamed.new.pages c.in-Ok.ensures.kept c.in-Ok.ensures.survives c.in-Ok-list_unnamed.ensures.survives in
    survives_on g.D.Disk.told store c.list_unnamed.new.pages c.drop_tuples.new.pages kept first c.in-Ok-drop_tuples.ensures.survives

pub returns-in-Err-drop_tuples-clause-survives : goal.returns-in-Err-drop_tuples-clause-survives
returns-in-Err-drop_tuples-clause-survives g c =
    let store = c.args.pages.now in
    let kept = keeps_on g.D.Disk.told store c.copy_page.new.pages c.list_unnamed.new.pages c.in-Ok.ensures.kept c.in-Ok-list_unnamed.ensures.kept in
    let first = survives_on g.D.Disk.told store c.copy_page.new.pages c.list_unnamed.new.pages c.in-Ok.ensures.kept c.in-Ok.ensures.survives c.in-Ok-list_unnamed.ensures.survives in
    survives_on g.D.Disk.told store c.list_unnamed.new.pages c.drop_tuples.new.pages kept first c.in-Err-drop_tuples.ensures.survives

pub returns-in-Err-drop_tuples-clause-at : goal.returns-in-Err-drop_tuples-clause-at
returns-in-Err-drop_tuples-clause-at g c =
    let store = c.args.pages.now in
    let kept = keeps_on g.D.Disk.told store c.copy_page.new.pages c.list_unnamed.new.pages c.in-Ok.ensures.kept c.in-Ok-list_unnamed.ensures.kept in
    names_there store.layout c.args.index c.relation_of-relation.result c.args.block c.in-Err-drop_tuples.error (c.relation_of-relation.ensures.number ∙ ap (λ (l : DiskLayout). relation_of l c.args.index) (c.layout.ensures ∙ kept.leaves.layout)) c.requires.index c.requires.block
    (subst (λ (l : DiskLayout). NamesPage l (place_of c.relation_of-relation.result c.args.block) c.in-Err-drop_tuples.error) kept.leaves.layout c.in-Err-drop_tuples.ensures.at)
