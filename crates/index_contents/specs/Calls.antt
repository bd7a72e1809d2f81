-- one call of the page store after another, and where damage is told
use Rattle.std.specs.Prelude.{◌≡◌, ℕ, ◌≤◌, ◌<◌, List, [], length, None, Result, Ok, Err}
use Rattle.std.proofs.Common.{sym, ap, ◌∙◌, get_or, arith}
use Rattle.std.proofs.lemmas.List.{get_or-map, get_or_past, length-map}
use Rattle.std.proofs.lemmas.Option.{none-some}
use Rattle.block_model.specs.Causes.{rose_earlier}
use Rattle.block_model.specs.declared.place.Place.{Place}
use Rattle.store_layout.specs.DiskLayout.{DiskLayout, relation_blocks}
use Rattle.disk_trait.specs.Told.{Told}
use Rattle.recovery.specs.StoreError.{StoreError}
use Rattle.recovery.specs.StoreError.TheVariants as errors
use Rattle.recovery.specs.Keeps.{Keeps, Untold, keeps_then}
use Rattle.recovery.specs.Outcome.{Outcome, Refused}
use Rattle.recovery.specs.PageMap.{IsWhole, PageMap, View, block_at, block_limit, page_at, unstarted_page}
use Rattle.index_contents.specs.IndexChanges.{LeavesOtherPages}

-- an error of a second call is one of both
pub refused_then : {D : Type 0} (told : D → Told) (old mid new : View D) (error : StoreError) → Keeps told old mid → old.failed ≡ None → mid.failed ≡ None → (told old.disk).faults ≤ (told mid.disk).faults
    → Refused told (Untold told mid) mid new error → Refused told (Untold told old) old new error
refused_then told old mid new errors.Disk kept before between later (was, rose, now) = (before, rose_earlier (told old.disk).faults (told mid.disk).faults (told new.disk).faults later rose, now)
refused_then told old mid new (errors.Reopen faults) kept before between later (was, now, more) = absurd (none-some _ (sym between ∙ was))
refused_then told old mid new (errors.Damaged at) kept before between later (was, now, more, untold) = (before, now, omega (arith, later, more), λ tells. untold (kept.leaves.tells ∙ tells))

-- so is its outcome
pub outcome_then : {D T : Type 0} (told : D → Told) (old mid new : View D) (result : Result T StoreError) → Keeps told old mid → old.failed ≡ None → mid.failed ≡ None → (told old.disk).faults ≤ (told mid.disk).faults
    → Outcome told (Untold told mid) mid new result → Outcome told (Untold told old) old new result
outcome_then told old mid new (Ok value) kept before between later (was, now, more) = (before, now, omega (arith, later, more))
outcome_then told old mid new (Err error) kept before between later refused = refused_then told old mid new error kept before between later refused

-- a call that changes no page, and then one that changes a page
pub leaves_then : {D : Type 0} (told : D → Told) (place : Place) (old mid new : View D) → Keeps told old mid → LeavesOtherPages told place mid new → LeavesOtherPages told place old new
leaves_then told place old mid new kept leaves = record {
  leaves = keeps_then told old mid new kept leaves.leaves;
  pages = λ tells other apart. leaves.pages (kept.leaves.tells ∙ tells) other apart ∙ ap (λ (pages : PageMap). page_at pages other) (kept.pages tells);
}

-- a call that changes no page leaves every other
pub kept_leaves : {D : Type 0} (told : D → Told) (place : Place) (old new : View D) → Keeps told old new → LeavesOtherPages told place old new
kept_leaves told place old new kept = record { leaves = kept.leaves; pages = λ tells other apart. ap (λ (pages : PageMap). page_at pages other) (kept.pages tells) }

-- a block that the relation can't have isn't started
pub past_the_limit : (layout : DiskLayout) (pages : PageMap) (relation block : ℕ) → IsWhole layout pages → relation < length (relation_blocks layout) → block_limit layout relation ≤ block → block_at pages relation block ≡ unstarted_page
past_the_limit layout pages relation block whole there past =
    let many : length pages ≡ length (relation_blocks layout) = sym (length-map pages (length {A = List ℕ})) ∙ ap (length {A = ℕ}) whole in
    let long : length (get_or pages relation []) ≡ block_limit layout relation = sym (get_or-map (length {A = List ℕ}) pages relation [] 0 (omega (arith, there, many))) ∙ ap (λ (l : List ℕ). get_or l relation 0) whole in
    get_or_past (get_or pages relation []) block unstarted_page (omega (arith, past, long))
