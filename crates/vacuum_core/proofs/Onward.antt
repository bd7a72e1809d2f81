-- one call of the page store after another
use Rattle.std.proofs.Common.{◌≡◌, ◌++◌, inl, inr, ℕ, suc, ◌+◌, ◌≤◌, ◌==◌, Bool, true, false, cond, List, [], ◌∷◌, length, refl, sym, ap, subst, ◌∙◌, arith}
use Rattle.std.proofs.lemmas.Bool.{eq-eqb, ne_eqb}
use Rattle.std.proofs.lemmas.List.{append_assoc}
use Rattle.block_model.specs.declared.schema.Index.{Index}
use Rattle.disk_trait.specs.Told.{Told}
use Rattle.page_map.specs.Keeps.{Keeps, Tells}
use Rattle.page_map.specs.PageMap.{PageMap, View}
use Rattle.page_layout.specs.PageContents.{Slot}
use Rattle.snapshot_core.specs.declared.statuses.Status.{Status}
use Rattle.store_layout.specs.DiskLayout.{DiskLayout}
use Rattle.tx_table.specs.Statuses.{HasStatuses, OfStatuses}
use Rattle.heap_rows.specs.HeapBlocks.{HasBlocks, OfBlocks}
use Rattle.index_contents.specs.IndexContents.{IndexContents, contents}
use Rattle.vacuum_core.specs.SweptPages.{IsUnnamedOn, Judges}
use Rattle.index_steps.specs.ShownTable.{indexes_of, numbers_from}

-- before any call a store is as it is
pub keeps_same : {D : Type 0} (told : D → Told) (store : View D) → Keeps told store store
keeps_same told store = record { leaves = record { layout = refl; tells = refl; faults = omega arith }; pages = λ tells. refl }

-- what holds of the statuses, the blocks or an index before and after a call that changes no page
module _ {D : Type 0} (told : D → Told) (old new : View D) (kept : Keeps told old new) where
  pub statuses_before : (P : List Status → Type 0) → OfStatuses told new P → OfStatuses told old P
  statuses_before P of tells statuses has =
      of (kept.leaves.tells ∙ tells) statuses
      (subst (λ (l : DiskLayout). HasStatuses l new.pages statuses) (sym kept.leaves.layout) (subst (λ (p : PageMap). HasStatuses old.layout p statuses) (sym (kept.pages tells)) has))

  pub blocks_before : (table : ℕ) (P : List (List Slot) → Type 0) → OfBlocks told new table P → OfBlocks told old table P
  blocks_before table P of tells blocks has =
      of (kept.leaves.tells ∙ tells) blocks
      (subst (λ (l : DiskLayout). HasBlocks l new.pages table blocks) (sym kept.leaves.layout) (subst (λ (p : PageMap). HasBlocks old.layout p table blocks) (sym (kept.pages tells)) has))

  pub tells_after : Tells told old → Tells told new
  tells_after tells = kept.leaves.tells ∙ tells

  pub tells_before : Tells told new → Tells told old
  tells_before tells = sym kept.leaves.tells ∙ tells

  pub contents_same : (index : ℕ) → Tells told old → contents new.layout new.pages index ≡ contents old.layout old.pages index
  contents_same index tells = λ i. contents (kept.leaves.layout i) (kept.pages tells i) index

  pub of_contents : (index : ℕ) (P : IndexContents → Type 0) → (Tells told new → P (contents new.layout new.pages index)) → Tells told old → P (contents old.layout old.pages index)
  of_contents index P of tells = subst P (contents_same index tells) (of (tells_after tells))

-- one index more of those of a table
pub lists_this : (table number : ℕ) (index : Index) (rest : List Index) (before all : List ℕ) → index.table ≡ table → before ++ numbers_from table number (index ∷ rest) ≡ all → (before ++ number ∷ []) ++ numbers_from table (number + 1) rest ≡ all
lists_this table number index rest before all is so_far =
    append_assoc before (number ∷ []) (numbers_from table (number + 1) rest)
    ∙ sym (ap (λ (b : Bool). before ++ cond b (number ∷ numbers_from table (number + 1) rest) (numbers_from table (number + 1) rest)) (eq-eqb index.table table is)) ∙ so_far

pub lists_not : (table number : ℕ) (index : Index) (rest : List Index) (before all : List ℕ) → (index.table ≡ table → ⊥) → before ++ numbers_from table number (index ∷ rest) ≡ all → before ++ numbers_from table (number + 1) rest ≡ all
lists_not table number index rest before all not so_far =
    sym (ap (λ (b : Bool). before ++ cond b (number ∷ numbers_from table (number + 1) rest) (numbers_from table (number + 1) rest)) (ne_eqb index.table table not)) ∙ so_far

few_by_test : (table n : ℕ) (rest : List Index) → length (numbers_from table (n + 1) rest) ≤ length rest → (b : Bool) → length (cond b (n ∷ numbers_from table (n + 1) rest) (numbers_from table (n + 1) rest)) ≤ suc (length rest)
few_by_test table n rest few true = omega (arith, few)
few_by_test table n rest few false = omega (arith, few)

few_from : (table n : ℕ) (l : List Index) → length (numbers_from table n l) ≤ length l
few_from table n [] = omega arith
few_from table n (index ∷ rest) = few_by_test table n rest (few_from table (n + 1) rest) (index.table == table)

pub few_indexes : (layout : DiskLayout) (table : ℕ) → length (indexes_of layout table) ≤ length layout.schema.indexes
unfolding indexes_of
few_indexes layout table = few_from table 0 layout.schema.indexes

pub indexes_are : (layout : DiskLayout) (table : ℕ) → indexes_of layout table ≡ numbers_from table 0 layout.schema.indexes
unfolding indexes_of
indexes_are layout table = refl

-- what was judged of an index after a call that changes no page was so before it
pub judged_before : {D : Type 0} (told : D → Told) (old new : View D) → Keeps told old new → (index : ℕ) (page : List ℕ) (block slot one : ℕ) (before after : List ℕ)
    → Judges (Tells told new) (IsUnnamedOn (contents new.layout new.pages index) page (record { block = block; slot = slot })) slot before after one
    → Judges (Tells told old) (IsUnnamedOn (contents old.layout old.pages index) page (record { block = block; slot = slot })) slot before after one
judged_before told old new kept index page block slot one before after judged = elim judged [
  | inl is ↦ inl (is.0, is.1, λ tells. subst (λ (c : IndexContents). IsUnnamedOn c page (record { block = block; slot = slot })) (contents_same told old new kept index tells) (is.2 (tells_after told old new kept tells)))
  | inr none ↦ inr (none.0, none.1, λ tells unnamed. none.2 (tells_after told old new kept tells) (subst (λ (c : IndexContents). IsUnnamedOn c page (record { block = block; slot = slot })) (sym (contents_same told old new kept index tells)) unnamed))
]
