-- the order of the pages of every index, after a step that changes one relation
use Rattle.std.proofs.Common.{◌≡◌, ◌≢◌, ℕ, ◌<◌, length, inl, inr, sym, subst, arith}
use Rattle.std.proofs.lemmas.Bool.{cases_eq}
use Rattle.block_model.specs.declared.place.Place.{Place}
use Rattle.disk_trait.specs.Told.{Told}
use Rattle.page_map.specs.Keeps.{Tells}
use Rattle.page_map.specs.PageMap.{View, page_at}
use Rattle.heap_rows.specs.Heaps.{relation_of as heap_of}
use Rattle.heap_rows.specs.LeavesOthers.{LeavesOthers as LeavesOtherTables}
use Rattle.index_contents.specs.PageOrder.{IsIndexInOrder}
use Rattle.index_contents.specs.IndexContents.{index_page, relation_of}
use Rattle.index_contents.specs.IndexChanges.{LeavesOthers}
use Rattle.index_contents.specs.KeepsOrder.{KeepsOrder}

module _ {D : Type 0} (told : D → Told) (old new : View D) where
  -- an index whose pages stay
  keeps_by_others : (relation index : ℕ) → relation_of old.layout index ≢ relation → (Tells told old → (place : Place) → place.relation ≢ relation → page_at new.pages place ≡ page_at old.pages place) → KeepsOrder told index old new
  keeps_by_others relation index apart stay tells order = subst (IsIndexInOrder old.layout.sizes.index_blocks) (sym same) order
    where
      same : index_page old.layout new.pages index ≡ index_page old.layout old.pages index
      same = λ i block. stay tells (record { relation = relation_of old.layout index; block = block }) apart i

  -- the step puts the row
  pub keeps_by_heap : (table index : ℕ) → table < length old.layout.schema.tables → LeavesOtherTables told table old new → KeepsOrder told index old new
  keeps_by_heap table index low others = keeps_by_others (heap_of table) index (λ same. absurd (omega (arith, same, low))) others.pages

  -- it is one in an index
  pub keeps_by_index : (at index : ℕ) → LeavesOthers told at old new → KeepsOrder told at old new → KeepsOrder told index old new
  keeps_by_index at index others own = elim (cases_eq index at) [
    | inl is ↦ subst (λ (n : ℕ). KeepsOrder told n old new) (sym is) own
    | inr other ↦ keeps_by_others (relation_of old.layout at) index (λ same. other (omega (arith, same))) others.pages
  ]
