-- how the rows on pages go on, and what a snapshot has of their transactions
use Rattle.std.proofs.Common.{◌≡◌, ◌≢◌, ◌⊎◌, inl, inr, ℕ, ◌<◌, List, length, None, Some, refl, sym, ap, subst, ◌∙◌, arith}
use Rattle.std.specs.Prelude.{IsTrue}
use Rattle.std.proofs.lemmas.Bool.{cases_eq}
use Rattle.block_model.specs.declared.place.Spot.{Spot}
use Rattle.block_model.specs.declared.row.RowId.{RowId}
use Rattle.store_layout.specs.DiskLayout.{DiskLayout}
use Rattle.page_layout.specs.PageContents.{Slot}
use Rattle.page_layout.specs.PageWrites.{marked}
use Rattle.page_layout.specs.RowBytes.{StoredRow}
use Rattle.page_map.specs.PageMap.{PageMap, block_at}
use Rattle.heap_rows.specs.Heaps.{relation_of, slots_a_page}
use Rattle.heap_rows.specs.HeapBlocks.{HasBlocks}
use Rattle.heap_rows.specs.RowPlaces.{ChangesSlot, slot_at, with_row, with_slot}
use Rattle.heap_rows.proofs.Spots.{mark_slot}
use Rattle.snapshot_core.specs.declared.snapshots.Snapshot.{Snapshot}
use Rattle.snapshot_core.specs.Visibility.{had_ended}
use Rattle.snapshot_core.specs.declared.sessions.Open.{Open}
use Rattle.snapshot_core.specs.StoredVersions.{transaction_of}
use Rattle.transactions.specs.StoredRows.{OtherRelationsStay, StandsAt}
use Rattle.transactions.specs.TransactionsState.{TransactionsState}
use Rattle.transactions.proofs.Shown.{blocks_kept}
use Rattle.transactions.proofs.Standing.{one_blocks}
use Rattle.session_parts.specs.FrontsStand.{DeletersFollow}
use Rattle.session_parts.specs.RowsFollow.{DropFollows, IsOfOpen, MarkFollows, PutFollows, RowsFollow, SameHeapsFollow, StoodBefore}

-- ---- where heaps stay

-- a row of a table whose pages stay stood there
stood : (layout : DiskLayout) (old new : PageMap) (table : ℕ) (spot : Spot) (row : StoredRow) → ((block : ℕ) → block_at new (relation_of table) block ≡ block_at old (relation_of table) block)
    → StandsAt layout new table spot row → StoodBefore layout old table row
stood layout old new table spot row same stands =
    (spot, row, record { blocks = stands.blocks; has = blocks_kept layout new old table stands.blocks (λ block. sym (same block)) stands.has; there = stands.there }, refl, refl)

pub same_heaps_follow : SameHeapsFollow
same_heaps_follow layout old new t same table spot row below stands = inl (stood layout old new table spot row (λ block. same table block below) stands)

-- ---- where one table changes

same_spot : (a b : Spot) → (a ≡ b) ⊎ (a ≢ b)
same_spot a b = elim (cases_eq a.block b.block) [
  | inl block ↦ elim (cases_eq a.slot b.slot) [
    | inl slot ↦ inl (λ i. record { block = block i; slot = slot i })
    | inr apart ↦ inr (λ e. apart (ap (λ (x : Spot). x.slot) e))
  ]
  | inr apart ↦ inr (λ e. apart (ap (λ (x : Spot). x.block) e))
]

module _ (layout : DiskLayout) (old new : PageMap) (t : TransactionsState) (table : ℕ) (blocks later : List (List Slot)) (has : HasBlocks layout old table blocks) (leaves : HasBlocks layout new table later) (others : OtherRelationsStay old new table) where
  -- what is known of a row in a slot
  abbrev ComesFrom : StoredRow → Type 0
  ComesFrom row = StoodBefore layout old table row ⊎ ((row.deleter ≡ 0) ⊎ IsOfOpen t row.deleter)

  stood_there : (spot : Spot) (row : StoredRow) → slot_at blocks spot ≡ Some row → ComesFrom row
  stood_there spot row there = inl (spot, row, record { blocks = blocks; has = has; there = there }, refl, refl)

  by_slots : ((spot : Spot) (row : StoredRow) → slot_at later spot ≡ Some row → ComesFrom row) → RowsFollow layout old new t
  by_slots slots other spot row below stands = elim (cases_eq other table) [
    | inl is ↦ subst (λ k. StoodBefore layout old k row ⊎ ((row.deleter ≡ 0) ⊎ IsOfOpen t row.deleter)) (sym is)
        (slots spot row (ap (λ (blocks : List (List Slot)). slot_at blocks spot) (sym (one_blocks layout new table stands.blocks later (subst (λ k. HasBlocks layout new k stands.blocks) is stands.has) leaves)) ∙ stands.there))
    | inr apart ↦ inl (stood layout old new other spot row (λ block. others (record { relation = relation_of other; block = block }) (λ e. apart (omega (arith, e)))) stands)
  ]

  -- one slot alone changes
  by_slot : (at : Spot) (slot : Slot) → ChangesSlot blocks later at slot → ((row : StoredRow) → slot ≡ Some row → ComesFrom row) → RowsFollow layout old new t
  by_slot at slot changes here = by_slots (λ spot row there. elim (same_spot spot at) [
    | inl is ↦ here row (sym changes.there ∙ ap (slot_at later) (sym is) ∙ there)
    | inr apart ↦ stood_there spot row (sym (changes.others spot apart) ∙ there)
  ])

pub put_follows : PutFollows
put_follows layout old new t table spot row puts fresh =
    by_slot layout old new t table puts.blocks (with_row (slots_a_page layout table) puts.blocks spot row) puts.has puts.takes puts.others spot (Some row) puts.fills.1
    (λ there is. let same : row ≡ there = cc in inr (inl (ap (λ (r : StoredRow). r.deleter) (sym same) ∙ fresh)))

pub mark_follows : MarkFollows
mark_follows layout old new t table spot row deleter marks under =
    let now : Slot = Some (marked row deleter) in
    by_slot layout old new t table marks.blocks (with_slot marks.blocks spot now) marks.has marks.marks marks.others spot now (mark_slot marks.blocks spot row now marks.there)
    (λ there is. let same : marked row deleter ≡ there = cc in inr (inr (subst (IsOfOpen t) (ap (λ (r : StoredRow). r.deleter) same) under)))

pub drop_follows : DropFollows
drop_follows layout old new t table drops =
    by_slots layout old new t table drops.blocks drops.later drops.has drops.leaves drops.others (λ spot row there. elim (drops.slots spot) [
      | inl stays ↦ stood_there layout old new t table drops.blocks drops.later drops.has drops.leaves drops.others spot row (sym stays ∙ there)
      | inr free ↦ absurd (let none : None ≡ Some row = sym free ∙ there in cc)
    ])

-- ---- what a snapshot has

-- of each row's transactions, as DeletersFollow says it of one
abbrev pub HasBoth : DiskLayout → PageMap → Snapshot → Type 0
HasBoth layout pages snapshot = (table : ℕ) (spot : Spot) (row : StoredRow) → table < length layout.schema.tables → StandsAt layout pages table spot row → row.deleter ≢ 0
    → IsTrue (had_ended snapshot row.deleter) → IsTrue (had_ended snapshot row.id.t)

-- one that has none of the open transactions goes on to have both
pub both_follow : (layout : DiskLayout) (old new : PageMap) (t : TransactionsState) (snapshot : Snapshot) → RowsFollow layout old new t → HasBoth layout old snapshot
    → ((u : ℕ) → IsOfOpen t u → IsTrue (had_ended snapshot u) → ⊥) → HasBoth layout new snapshot
both_follow layout old new t snapshot follow both none table spot row below stands some had = elim (follow table spot row below stands) [
  | inl before ↦ subst (λ (id : RowId). IsTrue (had_ended snapshot id.t)) before.3
      (both table before.0 before.1 below before.2 (λ e. some (sym before.4 ∙ e)) (subst (λ u. IsTrue (had_ended snapshot u)) (sym before.4) had))
  | inr rest ↦ elim rest [ inl fresh ↦ absurd (some fresh) | inr under ↦ absurd (none row.deleter under had) ]
]

pub all_follow : (layout : DiskLayout) (pages : PageMap) (t : TransactionsState) → ((n : ℕ) (o : Open) → transaction_of t.opens n ≡ Some o → HasBoth layout pages o.snapshot) → DeletersFollow layout pages t
all_follow layout pages t each table spot row below stands some n o was had = each n o was table spot row below stands some had
