-- the summarise lock of a vacuum's table, and which pages its step leaves
use Rattle.std.proofs.Common.{◌≡◌, ◌≢◌, inl, inr, ℕ, ◌<◌, List, length, Option, Some, refl, sym, ap, subst, ◌∙◌, arith}
use Rattle.std.specs.Prelude.{slice_get}
use Rattle.std.proofs.lemmas.Option.{none-some, same_Some, slice_get-get_or}
use Rattle.disk_trait.specs.Told.{Told}
use Rattle.block_model.specs.declared.place.Place.{Place}
use Rattle.store_layout.specs.DiskLayout.{DiskLayout}
use Rattle.page_map.specs.Keeps.{Tells}
use Rattle.page_map.specs.PageMap.{PageMap, View, page_at}
use Rattle.page_locks.specs.declared.did.Did.{Did}
use Rattle.page_locks.specs.declared.did.Did.TheVariants as did
use Rattle.page_locks.specs.RightHolders.{right_of}
use Rattle.heap_rows.specs.Heaps.{relation_of as heap_of}
use Rattle.index_contents.specs.IndexContents.{relation_of as index_relation}
use Rattle.index_steps.specs.IndexTuples.{index_at}
use Rattle.index_steps.specs.ShownTable.{indexes_of}
use Rattle.index_steps.proofs.Listed.{is_counted}
use Rattle.vacuum_core.specs.declared.standing.Standing.{Standing}
use Rattle.vacuum_core.specs.declared.standing.Standing.TheVariants as standings
use Rattle.vacuum_core.specs.DeadRows.{DropsFrom}
use Rattle.vacuum_core.specs.Vacuums.{Begins, LacksRight, LeavesTheRest, PrunesBlock, RightAnswers, StandsWell, SweepsPageOf, VacuumDoes, VacuumState, VacuumStep, Waits, index_of}
use Rattle.session_parts.specs.HandFits.{right_cleaning}
use Rattle.session_parts.specs.Leaving.{IsRelationOf}
use Rattle.session_maintenance.proofs.SummariseLocks.{OthersStay, same_stays, set_stays, set_there}
use Rattle.session_maintenance.proofs.StillShown.{IsBeside}

-- ---- the summarise lock

-- a step that is made
abbrev pub IsMade : Did → Type 0
IsMade (did.Moved point) = Unit {0}
IsMade (did.Finished point) = Unit {0}
IsMade answer = ⊥

-- behind its first step
abbrev pub IsBegun : Standing → Type 0
IsBegun standings.Begins = ⊥
IsBegun standing = Unit {0}

pub right_left : (table s : ℕ) (rights righted : List (Option ℕ)) (standing : Standing) (answer : Did) → table < length rights → RightAnswers table s rights righted standing answer → OthersStay table s rights righted
right_left own s rights righted standings.Begins (did.Moved point) below right = set_stays own s (Some s) rights righted below (λ m is. sym (same_Some s m is)) right.1
right_left own s rights righted standings.Begins (did.Finished point) below right = set_stays own s (Some s) rights righted below (λ m is. sym (same_Some s m is)) right.1
right_left own s rights righted standings.Begins (did.Blocked held) below right = set_stays own s (Some s) rights righted below (λ m is. sym (same_Some s m is)) right.1
right_left own s rights righted standings.Begins (did.NoRight by) below right = same_stays own s rights righted right.2
right_left own s rights righted (standings.Prunes block) answer below right = same_stays own s rights righted right
right_left own s rights righted (standings.Sweeps at block) answer below right = same_stays own s rights righted right
right_left own s rights righted standings.Done answer below right = same_stays own s rights righted right

pub right_same : (table s : ℕ) (rights righted : List (Option ℕ)) (standing : Standing) (answer : Did) → IsBegun standing → RightAnswers table s rights righted standing answer → righted ≡ rights
right_same own s rights righted standings.Begins answer begun right = absurd begun
right_same own s rights righted (standings.Prunes block) answer begun right = right
right_same own s rights righted (standings.Sweeps at block) answer begun right = right
right_same own s rights righted standings.Done answer begun right = right

pub right_taken : (table s : ℕ) (rights righted : List (Option ℕ)) (standing : Standing) (answer : Did) → RightAnswers table s rights righted standing answer → IsMade answer → table < length rights
    → (IsBegun standing → right_of rights table ≡ Some s) → right_of righted table ≡ Some s
right_taken own s rights righted standings.Begins (did.Moved point) right made below held = set_there own (Some s) rights righted below right.1
right_taken own s rights righted standings.Begins (did.Finished point) right made below held = set_there own (Some s) rights righted below right.1
right_taken own s rights righted standings.Begins (did.Blocked h) right made below held = absurd made
right_taken own s rights righted standings.Begins (did.NoRight by) right made below held = absurd made
right_taken own s rights righted (standings.Prunes block) answer right made below held = ap (λ (l : List (Option ℕ)). right_of l own) right ∙ held tt
right_taken own s rights righted (standings.Sweeps at block) answer right made below held = ap (λ (l : List (Option ℕ)). right_of l own) right ∙ held tt
right_taken own s rights righted standings.Done answer right made below held = ap (λ (l : List (Option ℕ)). right_of l own) right ∙ held tt

pub its_right : (own table : ℕ) (standing : Standing) → right_cleaning own standing ≡ Some table → table ≡ own
its_right own table standings.Begins has = absurd (none-some table has)
its_right own table (standings.Prunes block) has = sym (same_Some own table has)
its_right own table (standings.Sweeps at block) has = sym (same_Some own table has)
its_right own table standings.Done has = sym (same_Some own table has)

pub right_begun : (own : ℕ) (standing : Standing) → standing ≢ standings.Begins → right_cleaning own standing ≡ Some own
right_begun own standings.Begins begun = absurd (begun refl)
right_begun own (standings.Prunes block) begun = refl
right_begun own (standings.Sweeps at block) begun = refl
right_begun own standings.Done begun = refl

-- ---- the rows that go at its block

pub drops_from : (step : VacuumStep) (a b : VacuumState) (answer : Did) → VacuumDoes step a b answer → (block : ℕ) → a.standing ≡ standings.Prunes block → (count : ℕ) × DropsFrom step.blocks step.blocked block count
drops_from step a _ _ (LacksRight by is held other stays) block at = absurd (let same = sym is ∙ at in cc)
drops_from step a _ _ (Begins next is takes comes) block at = absurd (let same = sym is ∙ at in cc)
drops_from step a _ _ (PrunesBlock other count next is drops indexes rights comes) block at =
    let same = sym is ∙ at in
    let there : other ≡ block = cc in
    (count, subst (λ (b : ℕ). DropsFrom step.blocks step.blocked b count) there drops)
drops_from step a _ _ (SweepsPageOf place other index count next is there sweeps comes) block at = absurd (let same = sym is ∙ at in cc)
drops_from step a _ _ (Waits place other index held is there page anothers stays) block at = absurd (let same = sym is ∙ at in cc)

-- ---- the pages

-- the index at that place is one of the layout, and of the table
pub record IsIndexOf (layout : DiskLayout) (table at index : ℕ) : Type 0 where
  pub there : slice_get (indexes_of layout table) at ≡ Some index
  pub below : index < length layout.schema.indexes
  pub of : (index_at layout index).table ≡ table

listed : (layout : DiskLayout) (table at index : ℕ) → slice_get (indexes_of layout table) at ≡ Some index → IsIndexOf layout table at index
unfolding indexes_of
listed layout table at index there =
    let counted = is_counted table 0 layout.schema.indexes at index there in
    let same : counted.by ≡ index = omega (arith, counted.is) in
    record { there = there; below = omega (arith, counted.is, counted.below); of = subst (λ (k : ℕ). (index_at layout k).table ≡ table) same counted.of }

pub its_index : (layout : DiskLayout) (a : VacuumState) (at : ℕ) → a.indexes ≡ indexes_of layout a.table → at < length a.indexes → IsIndexOf layout a.table at (index_of a at)
its_index layout a at numbers below = listed layout a.table at (index_of a at) (ap (λ (l : List ℕ). slice_get l at) (sym numbers) ∙ slice_get-get_or a.indexes at 0 below)

module _ {D : Type 0} (told : D → Told) (a : VacuumState) (old new : View D) (numbers : a.indexes ≡ indexes_of old.layout a.table) (tells : Tells told old) where
  -- a step changes no page but those of its table
  pub rest_left : (standing : Standing) → StandsWell old.layout a standing → LeavesTheRest told a standing old new → (place : Place) → (IsRelationOf old.layout a.table place.relation → ⊥) → page_at new.pages place ≡ page_at old.pages place
  rest_left standings.Begins well rest place apart = ap (λ (m : PageMap). page_at m place) (rest.pages tells)
  rest_left (standings.Prunes block) well rest place apart = rest.pages tells place (λ same. apart (inl same))
  rest_left (standings.Sweeps at block) well rest place apart =
      let index = its_index old.layout a at numbers well.0 in
      rest.0.pages tells place (λ same. apart (inr (index_of a at, index.below, index.of, same)))
  rest_left standings.Done well rest place apart = ap (λ (m : PageMap). page_at m place) (rest.pages tells)

  -- and at no block none of a heap
  pub heaps_left : (standing : Standing) → IsBeside standing → LeavesTheRest told a standing old new → (table block : ℕ) → table < length old.layout.schema.tables
      → page_at new.pages (record { relation = heap_of table; block = block }) ≡ page_at old.pages (record { relation = heap_of table; block = block })
  heaps_left standings.Begins beside rest table block below = ap (λ (m : PageMap). page_at m (record { relation = heap_of table; block = block })) (rest.pages tells)
  heaps_left (standings.Prunes other) beside rest table block below = absurd beside
  heaps_left (standings.Sweeps at other) beside rest table block below =
      rest.0.pages tells (record { relation = heap_of table; block = block }) (λ (same : heap_of table ≡ index_relation old.layout (index_of a at)). absurd (omega (arith, same, below)))
  heaps_left standings.Done beside rest table block below = absurd beside
