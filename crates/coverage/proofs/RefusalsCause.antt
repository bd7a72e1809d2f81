-- A statement of a table ends without its reply only for a cause.
use Rattle.std.proofs.Common.{◌≡◌, ◌≢◌, ◌⊎◌, inl, inr, ⊎_elim, ℕ, ◌*◌, ◌≤◌, ◌<◌, Option, Some, None, sym, ◌∙◌, subst, arith, suc}
use Rattle.std.specs.Prelude.{refl, ◌↔◌}
use Rattle.std.proofs.lemmas.Option.{same_Some, none-some}
use Rattle.std.proofs.lemmas.Bool.{cases_eq}
use Rattle.std.proofs.Math.Nat.{lt-suc_self, lt_of_le_of_lt, not-le_of_lt}
use Rattle.block_model.specs.declared.row.Row.{Row}
use Rattle.coverage.specs.IndexView.{IndexView}
use Rattle.coverage.specs.Statements.{Phase}
use Rattle.coverage.proofs.Numbers.{lt_or_ge, lowest_below}
use Rattle.coverage.proofs.FullApart.{full_swap, full_phase}
use Rattle.coverage.specs.Table.{Job, Task, Resting, Maintains, Prunes, Sweeps, Restarts, Scans, TableState, index_view_at}
use Rattle.coverage.specs.TableSteps.{range_in, IsVacantPlace, IsFirstPlace, IsHeapFull, IsVacuuming, IsRowRefused, HeapFull, RowLacksMemory, IsInsertRefused}
use Rattle.coverage.specs.TableSteps.{IndexFull, IsMaintainRefused, NoPage, Does, PutsRow, RefusesRow, AsksSummary, InsertGoes, InsertCompletes, RefusesInsert}
use Rattle.coverage.specs.TableSteps.{TakesLock, MaintainGoes, MaintainCompletes, RefusesMaintain, RefusesVacuum, PrunesBlock, SweepsPage, RestartsIndex}
use Rattle.coverage.specs.TableSteps.{BeginsScan, Judges, ReadsBlock, RefusesScan, MarksRow, Conflicts, Blocked, Transacts}
use Rattle.coverage.specs.Refusals.{Relation, Heap, IndexNumber, Refusal, LacksMemory, IsFull, HasConflict, row_refusal, insert_refusal, maintain_refusal}
use Rattle.coverage.specs.Refusals.{does_refusal, MayLackMemory, IsTaskFull, InsertFull, MaintainFull}

vacuuming_may : (task : Task) → IsVacuuming task → MayLackMemory task
vacuuming_may Resting is = tt
vacuuming_may (Prunes extent next) is = tt
vacuuming_may (Sweeps at page) is = tt
vacuuming_may (Restarts at) is = tt
vacuuming_may (Scans scan) is = tt
vacuuming_may _ is = absurd is

full_no_memory : (w : TableState) (s b k : ℕ) (r : Row) (task : Task) (refused : IsInsertRefused w s b k r task) → insert_refusal refused ≡ LacksMemory → ⊥
full_no_memory w s b k r _ (IndexFull number at x old new verdict) is = cc

page_no_memory : (at : ℕ) (w : IndexView) (s range : ℕ) (phase : Phase) (refused : IsMaintainRefused w s range phase)
    → maintain_refusal at refused ≡ LacksMemory → ⊥
page_no_memory at w s range _ (NoPage number phase full) is = cc

module _ (s : ℕ) (w v : TableState) where
  may : (task : Task) → w.task s ≡ task → MayLackMemory task → MayLackMemory (w.task s)
  may task was is = subst MayLackMemory (sym was) is

  pub lacks_memory : (does : Does s w v) → does_refusal s w v does ≡ Some LacksMemory → MayLackMemory (w.task s)
  lacks_memory (RefusesRow t refused turns fails) is = may Resting turns.was tt
  lacks_memory (RefusesInsert b k r old refused turns fails) is = absurd (full_no_memory w s b k r old refused (same_Some _ _ is))
  lacks_memory (RefusesMaintain job at range phase refused turns stepped passes) is =
      absurd (page_no_memory at (index_view_at at w) s range phase refused (same_Some _ _ is))
  lacks_memory (RefusesVacuum old vacuuming turns given rows indexes) is = may old turns.was (vacuuming_may old vacuuming)
  lacks_memory (RefusesScan scan t turns how) is = may (Scans scan) turns.was tt
  lacks_memory (Conflicts scan id rest t turns fails) is = absurd (is_conflict (same_Some _ _ is))
    where
      is_conflict : HasConflict id ≡ LacksMemory → ⊥
      is_conflict e = cc
  lacks_memory _ is = absurd (none-some _ is)

-- what is told as full is full, and the number is its size
data TellsFull (w : TableState) (s : ℕ) : Task → Refusal → Type 0 where
  TellsHeap : IsHeapFull w → TellsFull w s Resting (IsFull Heap (w.heap_limit * w.rows_per_page))
  TellsIndex : (task : Task) (at number : ℕ) → IsTaskFull w s task at number → number ≡ (w.index at).pages.limit
      → TellsFull w s task (IsFull (IndexNumber at) number)
  TellsOther : (task : Task) (refusal : Refusal) → ((relation : Relation) (number : ℕ) → refusal ≡ IsFull relation number → ⊥) → TellsFull w s task refusal

module _ (s : ℕ) (w v : TableState) where
  row_tells : (refused : IsRowRefused w) → TellsFull w s Resting (row_refusal w refused)
  row_tells (HeapFull full) = TellsHeap full
  row_tells RowLacksMemory = TellsOther Resting LacksMemory (λ relation number is. cc)

  insert_tells : (b k : ℕ) (r : Row) (task : Task) (refused : IsInsertRefused w s b k r task) → TellsFull w s task (insert_refusal refused)
  insert_tells b k r _ (IndexFull number at x old new verdict) =
      TellsIndex _ at number (InsertFull b k r _ at number (IndexFull number at x old new verdict) refl)
      (full_swap (index_view_at at w) s (range_in w at b) number x old new verdict)

  maintain_tells : (job : Job) (at range : ℕ) (phase : Phase) (refused : IsMaintainRefused (index_view_at at w) s range phase)
      → TellsFull w s (Maintains job at range phase) (maintain_refusal at refused)
  maintain_tells job at range _ (NoPage number phase full) =
      TellsIndex _ at number (MaintainFull job at range number phase (NoPage number phase full) refl) (full_phase (index_view_at at w) s range number phase full)

  tells_at : (task : Task) (refusal said : Refusal) → w.task s ≡ task → TellsFull w s task refusal → Some refusal ≡ Some said → TellsFull w s (w.task s) said
  tells_at task refusal said was tells is = subst (λ t. TellsFull w s t said) (sym was) (subst (TellsFull w s task) (same_Some _ _ is) tells)

  other : (refusal : Refusal) → ((relation : Relation) (number : ℕ) → refusal ≡ IsFull relation number → ⊥) → (said : Refusal) → Some refusal ≡ Some said
      → TellsFull w s (w.task s) said
  other refusal apart said is = subst (TellsFull w s (w.task s)) (same_Some _ _ is) (TellsOther (w.task s) refusal apart)

  does_tell : (does : Does s w v) (said : Refusal) → does_refusal s w v does ≡ Some said → TellsFull w s (w.task s) said
  does_tell (RefusesRow t refused turns fails) said is = tells_at Resting _ said turns.was (row_tells refused) is
  does_tell (RefusesInsert b k r old refused turns fails) said is = tells_at old _ said turns.was (insert_tells b k r old refused) is
  does_tell (RefusesMaintain job at range phase refused turns stepped passes) said is =
      tells_at (Maintains job at range phase) _ said turns.was (maintain_tells job at range phase refused) is
  does_tell (RefusesVacuum old vacuuming turns given rows indexes) said is = other LacksMemory (λ relation number e. cc) said is
  does_tell (RefusesScan scan t turns how) said is = other LacksMemory (λ relation number e. cc) said is
  does_tell (Conflicts scan id rest t turns fails) said is = other (HasConflict id) (λ relation number e. cc) said is
  does_tell _ said is = absurd (none-some _ is)

abbrev number_of : Refusal → ℕ
number_of (IsFull relation number) = number
number_of refusal = 0

abbrev at_of : Refusal → ℕ
at_of (IsFull (IndexNumber at) number) = at
at_of refusal = 0

abbrev IsHeap : Refusal → Type 0
IsHeap (IsFull Heap number) = Unit
IsHeap refusal = ⊥

abbrev IsIndex : Refusal → Type 0
IsIndex (IsFull (IndexNumber at) number) = Unit
IsIndex refusal = ⊥

heap_told : (w : TableState) (s : ℕ) (task : Task) (said : Refusal) → TellsFull w s task said → IsHeap said
    → IsHeapFull w × (number_of said ≡ w.heap_limit * w.rows_per_page)
heap_told w s _ _ (TellsHeap full) is = (full, refl)
heap_told w s _ _ (TellsOther task (IsFull relation number) apart) is = absurd (apart relation number refl)
heap_told w s _ _ _ is = absurd is

index_told : (w : TableState) (s : ℕ) (task : Task) (said : Refusal) → TellsFull w s task said → IsIndex said
    → IsTaskFull w s task (at_of said) (number_of said) × (number_of said ≡ (w.index (at_of said)).pages.limit)
index_told w s _ _ (TellsIndex task at number full size) is = (full, size)
index_told w s _ _ (TellsOther task (IsFull relation number) apart) is = absurd (apart relation number refl)
index_told w s _ _ _ is = absurd is

pub heap_full : (s : ℕ) (w v : TableState) (does : Does s w v) (number : ℕ) → does_refusal s w v does ≡ Some (IsFull Heap number)
    → IsHeapFull w × (number ≡ w.heap_limit * w.rows_per_page)
heap_full s w v does number is = heap_told w s (w.task s) (IsFull Heap number) (does_tell s w v does (IsFull Heap number) is) tt

pub index_full : (s : ℕ) (w v : TableState) (does : Does s w v) (at number : ℕ) → does_refusal s w v does ≡ Some (IsFull (IndexNumber at) number)
    → IsTaskFull w s (w.task s) at number × (number ≡ (w.index at).pages.limit)
index_full s w v does at number is =
    index_told w s (w.task s) (IsFull (IndexNumber at) number) (does_tell s w v does (IsFull (IndexNumber at) number) is) tt

-- where a heap isn't full, an insert has a place for its row, and nowhere else
vacant_or_not : (w : TableState) (b k : ℕ) → IsVacantPlace w b k ⊎ (IsVacantPlace w b k → ⊥)
vacant_or_not w b k = elim (lt_or_ge k w.rows_per_page) [ inl low ↦ by low (w.row b k) refl | inr high ↦ inr (λ vacant. not-le_of_lt vacant.0 high) ]
  where
    by : k < w.rows_per_page → (o : Option Row) → w.row b k ≡ o → IsVacantPlace w b k ⊎ (IsVacantPlace w b k → ⊥)
    by low None is = inl (low, is)
    by low (Some r) is = inr (λ vacant. none-some _ (sym vacant.1 ∙ is))

module _ (w : TableState) (no_place : (b k : ℕ) → IsFirstPlace w b k → ⊥) where
  abbrev HasVacant : ℕ → Type 0
  HasVacant b = (k : ℕ) × IsVacantPlace w b k × ((j : ℕ) → IsVacantPlace w b j → k ≤ j)

  lowest_slot : (b k : ℕ) → IsVacantPlace w b k → HasVacant b
  lowest_slot b k vacant = ⊎_elim
      (λ (none : (j : ℕ) → j < suc k → IsVacantPlace w b j → ⊥). absurd (none k (lt-suc_self k) vacant))
      (λ (one : (j : ℕ) × IsVacantPlace w b j × ((i : ℕ) → IsVacantPlace w b i → j ≤ i)). one)
      (lowest_below (IsVacantPlace w b) (vacant_or_not w b) (suc k))

  block_or_not : (b : ℕ) → HasVacant b ⊎ (HasVacant b → ⊥)
  block_or_not b = ⊎_elim
      (λ (none : (j : ℕ) → j < w.rows_per_page → IsVacantPlace w b j → ⊥). inr (λ has. none has.0 has.1.0 has.1))
      (λ (one : (j : ℕ) × IsVacantPlace w b j × ((i : ℕ) → IsVacantPlace w b i → j ≤ i)). inl one)
      (lowest_below (IsVacantPlace w b) (vacant_or_not w b) w.rows_per_page)

  no_block : (b : ℕ) → HasVacant b → ((c : ℕ) → HasVacant c → b ≤ c) → b < w.heap_limit → ⊥
  no_block b has lowest below = no_place b has.0 (record {
    vacant = has.1;
    below = below;
    first = λ c j vacant.
        let le = lowest c (lowest_slot c j vacant) in
        ⊎_elim
        (λ (same : b ≡ c). inr (same, has.2 j (subst (λ m. IsVacantPlace w m j) (sym same) vacant)))
        (λ (other : b ≢ c). inl (omega arith))
        (cases_eq b c);
  })

  pub no_place_full : IsHeapFull w
  no_place_full b k vacant = ⊎_elim
      (λ (low : b < w.heap_limit). absurd (⊎_elim
      (λ (none : (c : ℕ) → c < suc b → HasVacant c → ⊥). none b (lt-suc_self b) (lowest_slot b k vacant))
      (λ (one : (c : ℕ) × HasVacant c × ((i : ℕ) → HasVacant i → c ≤ i)).
      no_block one.0 one.1 one.2 (lt_of_le_of_lt (one.2 b (lowest_slot b k vacant)) low))
      (lowest_below HasVacant block_or_not (suc b))))
      (λ (high : w.heap_limit ≤ b). high)
      (lt_or_ge b w.heap_limit)

pub full_exactly : (w : TableState) → ((b k : ℕ) → IsFirstPlace w b k → ⊥) ↔ IsHeapFull w
full_exactly w = ((λ none. no_place_full w none), λ full b k place. not-le_of_lt place.below (full b k place.vacant))

-- a statement that comes to rest by what its step does is refused
abbrev IsRefused : Option Refusal → Type 0
IsRefused None = ⊥
IsRefused (Some refusal) = Unit

module _ (s : ℕ) (w v : TableState) (busy : w.task s ≡ Resting → ⊥) (rests : v.task s ≡ Resting) where
  goes : (task : Task) → v.task s ≡ task → (task ≡ Resting → ⊥) → ⊥
  goes task now apart = apart (sym now ∙ rests)

  pub refused_ends : (does : Does s w v) → does_refusal s w v does ≢ None
  refused_ends (PutsRow b k r place turns takes) = absurd (busy turns.was)
  refused_ends (RefusesRow t refused turns fails) = absurd (busy turns.was)
  refused_ends (AsksSummary b k r at turns only) = absurd (goes _ turns.now (λ e. cc))
  refused_ends (InsertGoes b k r at old new turns stepped step) = absurd (goes _ turns.now (λ e. cc))
  refused_ends (InsertCompletes b k r at old turns stepped step) = absurd (goes _ turns.now (λ e. cc))
  refused_ends (TakesLock first begins turns free held rows indexes) = absurd (busy turns.was)
  refused_ends (MaintainGoes job at range old new turns stepped step) = absurd (goes _ turns.now (λ e. cc))
  refused_ends (MaintainCompletes job at range old turns stepped step) = absurd (goes _ turns.now (λ e. cc))
  refused_ends (PrunesBlock extent next dropped inside spared turns drops) = absurd (goes _ turns.now (λ e. cc))
  refused_ends (SweepsPage at page turns stepped sweeps) = absurd (goes _ turns.now (λ e. cc))
  refused_ends (RestartsIndex at turns only) = absurd (goes _ turns.now (λ e. cc))
  refused_ends (BeginsScan scan begins turns only) = absurd (busy turns.was)
  refused_ends (Judges old new inside low step turns only) = absurd (goes _ turns.now (λ e. cc))
  refused_ends (ReadsBlock scan next found reads turns only) = absurd (goes _ turns.now (λ e. cc))
  refused_ends (MarksRow scan id rest turns only) = absurd (goes _ turns.now (λ e. cc))
  refused_ends (Blocked task blocked turns only) = absurd (busy (turns.was ∙ sym turns.now ∙ rests))
  refused_ends (Transacts counts resting few same) = absurd (busy resting)
  refused_ends _ = λ is. none-some _ (sym is)
