-- A summariser that waits does so for one page, which another session locks.
use Rattle.std.proofs.Common.{◌≡◌, ℕ, length, sym, ◌∙◌, ap, subst}
use Rattle.std.specs.Prelude.{refl, [], ◌∷◌}
use Rattle.block_model.specs.declared.place.Spot.{Spot}
use Rattle.coverage.specs.IndexView.{IndexTuple, PageKind, Unstarted, Mapping, Regular, Emptying, IndexView, next_map_page, IsPastMap, placeholder_length}
use Rattle.coverage.specs.Changes.{IsFree}
use Rattle.coverage.specs.Verdicts.{IsLocked, IsFirstLocked, Verdict, Waits, PutVerdict}
use Rattle.coverage.specs.Statements.{Copied, Phase, Vacant, IsAt}
use Rattle.coverage.specs.Waiting.{IsNextTuple, Grows, IsPhaseWaiting, FinalWaits, PlaceWaits, GrowWaits, CountWaits, FlagWaits, EvacuateWaits}
use Rattle.coverage.specs.Waiting.{EvacuatePutWaits, TurnWaits}
use Rattle.coverage.proofs.Verdicts.{free_not_locked, first_locked_once, first_is_locked, put_once, swap_once, put_waits, swap_waits}
use Rattle.coverage.proofs.NextSteps.{next_once}

abbrev pub waited : ℕ → Verdict → ℕ
waited q (Waits p) = p
waited q verdict = q

pub waits_same : (p q : ℕ) → Waits p ≡ Waits q → p ≡ q
waits_same p q is = ap (waited q) is

-- the page that is waited for while a page is emptied
data EmptyingWait (w : IndexView) (s : ℕ) : ℕ → Type 0 where
  ForNext : (x : Spot) (t : IndexTuple) → IsNextTuple w.tuple (next_map_page w.pages) x t → IsLocked w.lock s (next_map_page w.pages)
      → EmptyingWait w s (next_map_page w.pages)
  ForTarget : (q : ℕ) (x : Spot) (t : IndexTuple) → IsNextTuple w.tuple (next_map_page w.pages) x t → IsFree w.lock s x.block
      → PutVerdict w s t.range (length t.bytes) (Waits q) → EmptyingWait w s q
  ForTurn : (q : ℕ) → ((x : Spot) (t : IndexTuple) → IsNextTuple w.tuple (next_map_page w.pages) x t → ⊥)
      → IsFirstLocked w.lock s (next_map_page w.pages ∷ 0 ∷ []) q → EmptyingWait w s q

-- and while the map grows, by the kind of its next page
abbrev KindWait : IndexView → ℕ → PageKind → ℕ → Type 0
KindWait w s Unstarted q = IsFirstLocked w.lock s (next_map_page w.pages ∷ 0 ∷ []) q
KindWait w s Mapping q = q ≡ 0
KindWait w s Regular q = q ≡ next_map_page w.pages
KindWait w s Emptying q = EmptyingWait w s q

data VacantWait (w : IndexView) (s range : ℕ) : ℕ → Type 0 where
  ForPlace : (q : ℕ) → (IsPastMap w.pages range → ⊥) → PutVerdict w s range (placeholder_length w range) (Waits q) → VacantWait w s range q
  ForMap : (kind : PageKind) (q : ℕ) → Grows w.pages range kind → KindWait w s kind q → VacantWait w s range q

module _ (w : IndexView) (s range : ℕ) where
  vacant_wait : (q : ℕ) → IsPhaseWaiting w s range Vacant q → VacantWait w s range q
  vacant_wait q (PlaceWaits _ long verdict) = ForPlace q long verdict
  vacant_wait q (GrowWaits _ grows locked) = ForMap Unstarted q grows locked
  vacant_wait _ (CountWaits grows locked) = ForMap Mapping 0 grows refl
  vacant_wait _ (FlagWaits grows locked) = ForMap Regular (next_map_page w.pages) grows refl
  vacant_wait _ (EvacuateWaits x t grows next locked) = ForMap Emptying (next_map_page w.pages) grows (ForNext x t next locked)
  vacant_wait q (EvacuatePutWaits _ x t grows next named free verdict) = ForMap Emptying q grows (ForTarget q x t next free verdict)
  vacant_wait q (TurnWaits _ grows none locked) = ForMap Emptying q grows (ForTurn q none locked)

  -- the page of the next tuple isn't locked and free at once
  locked_or_not : (x : Spot) (t : IndexTuple) → IsNextTuple w.tuple (next_map_page w.pages) x t → IsLocked w.lock s (next_map_page w.pages)
      → IsFree w.lock s x.block → ⊥
  locked_or_not x t next locked free = free_not_locked w s (next_map_page w.pages) (subst (IsFree w.lock s) next.on free) locked

  emptying_once : (p q : ℕ) → EmptyingWait w s p → EmptyingWait w s q → p ≡ q
  emptying_once _ _ (ForNext x t next locked) (ForNext x' t' next' locked') = refl
  emptying_once _ q (ForNext x t next locked) (ForTarget _ x' t' next' free verdict) = absurd (locked_or_not x' t' next' locked free)
  emptying_once _ q (ForNext x t next locked) (ForTurn _ none first) = absurd (none x t next)
  emptying_once p _ (ForTarget _ x t next free verdict) (ForNext x' t' next' locked) = absurd (locked_or_not x t next locked free)
  emptying_once p q (ForTarget _ x t next free verdict) (ForTarget _ x' t' next' free' verdict') =
      let same = next_once w (next_map_page w.pages) x x' t t' next next' in
      waits_same p q (put_once w s t.range (length t.bytes) (Waits p) (Waits q) verdict
      (subst (λ (u : IndexTuple). PutVerdict w s u.range (length u.bytes) (Waits q)) (sym same.1) verdict'))
  emptying_once p q (ForTarget _ x t next free verdict) (ForTurn _ none first) = absurd (none x t next)
  emptying_once p _ (ForTurn _ none first) (ForNext x t next locked) = absurd (none x t next)
  emptying_once p q (ForTurn _ none first) (ForTarget _ x t next free verdict) = absurd (none x t next)
  emptying_once p q (ForTurn _ none first) (ForTurn _ none' first') = first_locked_once w s (next_map_page w.pages ∷ 0 ∷ []) p q first first'

  kind_wait_once : (kind : PageKind) (p q : ℕ) → KindWait w s kind p → KindWait w s kind q → p ≡ q
  kind_wait_once Unstarted p q one two = first_locked_once w s (next_map_page w.pages ∷ 0 ∷ []) p q one two
  kind_wait_once Mapping p q one two = one ∙ sym two
  kind_wait_once Regular p q one two = one ∙ sym two
  kind_wait_once Emptying p q one two = emptying_once p q one two

  vacant_once : (p q : ℕ) → VacantWait w s range p → VacantWait w s range q → p ≡ q
  vacant_once p q (ForPlace _ long verdict) (ForPlace _ long' verdict') =
      waits_same p q (put_once w s range (placeholder_length w range) (Waits p) (Waits q) verdict verdict')
  vacant_once p q (ForPlace _ long verdict) (ForMap kind _ grows at) = absurd (long grows.short)
  vacant_once p q (ForMap kind _ grows at) (ForPlace _ long verdict) = absurd (long grows.short)
  vacant_once p q (ForMap kind _ grows at) (ForMap kind' _ grows' at') =
      kind_wait_once kind p q at (subst (λ l. KindWait w s l q) (sym grows'.is ∙ grows.is) at')

  pub phase_wait_once : (phase : Phase) (p q : ℕ) → IsPhaseWaiting w s range phase p → IsPhaseWaiting w s range phase q → p ≡ q
  phase_wait_once _ p q (FinalWaits _ progress x old new one) two = by_final two
    where
      by_final : IsPhaseWaiting w s range (IsAt progress (Copied x old new)) q → p ≡ q
      by_final (FinalWaits _ _ _ _ _ other) = waits_same p q (swap_once w s range x old new (Waits p) (Waits q) one other)
  phase_wait_once _ p q (PlaceWaits r long verdict) two = vacant_once p q (vacant_wait p (PlaceWaits r long verdict)) (vacant_wait q two)
  phase_wait_once _ p q (GrowWaits r grows locked) two = vacant_once p q (vacant_wait p (GrowWaits r grows locked)) (vacant_wait q two)
  phase_wait_once _ p q (CountWaits grows locked) two = vacant_once p q (vacant_wait p (CountWaits grows locked)) (vacant_wait q two)
  phase_wait_once _ p q (FlagWaits grows locked) two = vacant_once p q (vacant_wait p (FlagWaits grows locked)) (vacant_wait q two)
  phase_wait_once _ p q (EvacuateWaits x t grows next locked) two = vacant_once p q (vacant_wait p (EvacuateWaits x t grows next locked)) (vacant_wait q two)
  phase_wait_once _ p q (EvacuatePutWaits r x t grows next named free verdict) two =
      vacant_once p q (vacant_wait p (EvacuatePutWaits r x t grows next named free verdict)) (vacant_wait q two)
  phase_wait_once _ p q (TurnWaits r grows none locked) two = vacant_once p q (vacant_wait p (TurnWaits r grows none locked)) (vacant_wait q two)

  pub phase_wait_locked : (phase : Phase) (q : ℕ) → IsPhaseWaiting w s range phase q → IsLocked w.lock s q
  phase_wait_locked _ q (FinalWaits _ progress x old new verdict) = swap_waits w s range x old new q verdict
  phase_wait_locked _ q (PlaceWaits _ long verdict) = put_waits w s range (placeholder_length w range) q verdict
  phase_wait_locked _ q (GrowWaits _ grows locked) = first_is_locked w s (next_map_page w.pages ∷ 0 ∷ []) q locked
  phase_wait_locked _ _ (CountWaits grows locked) = locked
  phase_wait_locked _ _ (FlagWaits grows locked) = locked
  phase_wait_locked _ _ (EvacuateWaits x t grows next locked) = locked
  phase_wait_locked _ q (EvacuatePutWaits _ x t grows next named free verdict) = put_waits w s t.range (length t.bytes) q verdict
  phase_wait_locked _ q (TurnWaits _ grows none locked) = first_is_locked w s (next_map_page w.pages ∷ 0 ∷ []) q locked
