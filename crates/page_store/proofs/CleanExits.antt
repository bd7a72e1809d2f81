-- what is left where a page is cleaned
use Rattle.std.proofs.Common.{◌≡◌, ◌≢◌, inl, inr, ⊎_elim, ℕ, ◌+◌, ◌<◌, ◌≤◌, Bool, true, false, length, refl, sym, ap, subst, ◌∙◌, arith}
use Rattle.std.specs.Prelude.{Option, None, Some, Result, Ok, Err, OnOk}
use Rattle.std.specs.Option.{option_map}
use Rattle.std.proofs.lemmas.Bool.{cases_eq, cases_lt}
use Rattle.block_model.specs.NumberMaps.{none_Some, same_Some}
use Rattle.store_layout.specs.PagesFillDisk.{PagesFillDisk}
use Rattle.disk_trait.specs.Told.{Told}
use Rattle.disk_trait.specs.declared.disk.DiskFault.{DiskFault}
use Rattle.buffer_pool.specs.NextDirty.{IsNextDirty}
use Rattle.buffer_pool.specs.PoolState.{HeldPage, PoolState, IsClean, IsDirty, held_at}
use Rattle.buffer_pool.specs.WritesPage.{Cleans, CleansOne, CleansPage, Fails}
use Rattle.recovery.specs.Log.{Log}
use Rattle.wal_record.specs.Waiting.{Waiting, no_changes}
use Rattle.page_store.specs.Clean.{AreClean}
use Rattle.page_store.specs.Contents.{HoldsAlike}
use Rattle.page_store.proofs.Exits.{read_keeps, write_keeps}
use Rattle.page_store.specs.KeptPages.{KeptPages}
use Rattle.page_store.specs.LoggedState.{LoggedState, store_of}
use Rattle.page_store.proofs.PoolSteps.{Forgets, cleaned_alike, put_apart, put_here, write_failed, write_standing}
use Rattle.page_store.specs.Room.{IsDurable}
use Rattle.page_store.specs.Standing.{IsStanding}
use Rattle.page_store.proofs.Steps.{DiskLaws, OneByOne}

-- what a page that was cleaned leaves
pub record LeavesClean {D : Type 0} (told : D → Told) (s : LoggedState D) (d : D) (pool : PoolState) : Type 0 where
  pub standing : IsStanding (told d) s.layout s.log pool s.marks s.waiting None
  pub keeps : KeptPages told (store_of told s) (store_of told (record { disk = d; layout = s.layout; log = s.log; pool = pool; marks = s.marks; waiting = s.waiting; failed = s.failed }))
  pub alike : HoldsAlike s.pool pool
  pub dirty : (other log : ℕ) → IsDirty pool other log → IsDirty s.pool other log

-- what a write that failed leaves
pub record LeavesBroken {D : Type 0} (told : D → Told) (s : LoggedState D) (d : D) (pool : PoolState) (faults : ℕ) : Type 0 where
  pub standing : IsStanding (told d) s.layout s.log pool s.marks s.waiting (Some faults)
  pub keeps : KeptPages told (store_of told s) (store_of told (record { disk = d; layout = s.layout; log = s.log; pool = pool; marks = s.marks; waiting = s.waiting; failed = Some faults }))
  pub same : pool ≡ s.pool

module _ {D : Type 0} (told : D → Told) (laws : DiskLaws told) (one : OneByOne) (forgets : Forgets) (s : LoggedState D) (fill : PagesFillDisk s.layout) (standing : IsStanding (told s.disk) s.layout s.log s.pool s.marks s.waiting None) (d : D) (later : (told s.disk).faults ≤ (told d).faults)
    (pool : PoolState) (durable : ℕ) (sure : IsDurable s.log s.waiting durable) where
  pub cleaned_leaves : (it : Cleans s.pool pool 0 durable (told s.disk) (told d)) → LeavesClean told s d pool × IsClean pool it.page
  cleaned_leaves it =
      let alike = cleaned_alike one forgets s.layout fill s.log s.pool s.marks s.waiting (told s.disk) (told d) standing durable it.page it.held sure it.cleanable in
      let same : HoldsAlike s.pool pool = subst (HoldsAlike s.pool) (sym it.clean) alike in (
        record {
          standing = subst (λ (p : PoolState). IsStanding (told d) s.layout s.log p s.marks s.waiting None) (sym it.clean)
              (write_standing one forgets s.layout fill s.log s.pool s.marks s.waiting (told s.disk) (told d) standing durable it.page it.held sure it.cleanable it.writes it.written (laws.fit s.disk));
          keeps = write_keeps told laws one s fill standing d later forgets durable it.page it.held sure it.cleanable pool s.failed same it.writes;
          alike = same;
          dirty = λ other log dirty. ⊎_elim
              (λ (e : other ≡ it.page).
              let here : held_at pool other ≡ Some (record it.held { log = None }) = ap (held_at pool) e ∙ ap (λ (p : PoolState). held_at p it.page) it.clean ∙ put_here s.pool it.page (record it.held { log = None }) in
              let is : dirty.0 ≡ record it.held { log = None } = same_Some dirty.0 (record it.held { log = None }) (sym dirty.1 ∙ here) in
              absurd (none_Some log (sym (ap (λ (h : HeldPage). h.log) is) ∙ dirty.2)))
              (λ (apart : other ≢ it.page). (dirty.0, sym (ap (λ (p : PoolState). held_at p other) it.clean ∙ put_apart s.pool it.page other (record it.held { log = None }) apart) ∙ dirty.1, dirty.2))
              (cases_eq other it.page);
        },
        (record it.held { log = None }, ap (λ (p : PoolState). held_at p it.page) it.clean ∙ put_here s.pool it.page (record it.held { log = None }), refl),
      )

  pub failed_leaves : (faults : ℕ) (it : Fails s.pool pool 0 durable (told s.disk) (told d)) → LeavesBroken told s d pool faults
  failed_leaves faults it = record {
    standing = subst (λ (p : PoolState). IsStanding (told d) s.layout s.log p s.marks s.waiting (Some faults)) (sym it.same)
        (write_failed one forgets s.layout fill s.log s.pool s.marks s.waiting (told s.disk) (told d) standing durable it.page it.held sure it.cleanable faults it.writes);
    keeps = write_keeps told laws one s fill standing d later forgets durable it.page it.held sure it.cleanable pool (Some faults)
        (λ number. ap (λ (p : PoolState). option_map (λ (h : HeldPage). h.content) (held_at p number)) it.same) it.writes;
    same = it.same;
  }

  -- a page that is named, and is dirty
  pub page_cleaned : (number : ℕ) (b : Bool) → CleansPage s.pool pool 0 number durable (told s.disk) (told d) (Ok b) → ((log : ℕ) → IsDirty s.pool number log → log ≤ durable) → (log : ℕ) → IsDirty s.pool number log → LeavesClean told s d pool × IsClean pool number
  page_cleaned number true it within log dirty = let all = cleaned_leaves it.0 in (all.0, subst (IsClean pool) it.1 all.1)
  page_cleaned number false it within log dirty = absurd (omega (arith, it.waits log dirty, within log dirty))

  pub page_failed : (number faults : ℕ) (fault : DiskFault) → CleansPage s.pool pool 0 number durable (told s.disk) (told d) (Err fault) → LeavesBroken told s d pool faults
  page_failed number faults fault it = failed_leaves faults it.0

  -- any one
  pub untouched_leaves : pool ≡ s.pool → told d ≡ told s.disk → LeavesClean told s d pool
  untouched_leaves same untouched = record {
    standing = subst (λ (p : PoolState). IsStanding (told d) s.layout s.log p s.marks s.waiting None) (sym same) (subst (λ (t : Told). IsStanding t s.layout s.log s.pool s.marks s.waiting None) (sym untouched) standing);
    keeps = subst (λ (p : PoolState). KeptPages told (store_of told s) (store_of told (record { disk = d; layout = s.layout; log = s.log; pool = p; marks = s.marks; waiting = s.waiting; failed = s.failed }))) (sym same)
        (read_keeps told laws s d s.failed (untouched ∙ ap (λ (f : ℕ). record (told s.disk) { faults = f }) (ap (λ (t : Told). t.faults) (sym untouched))) later);
    alike = λ number. ap (λ (p : PoolState). option_map (λ (h : HeldPage). h.content) (held_at p number)) same;
    dirty = λ other log dirty. (dirty.0, sym (ap (λ (p : PoolState). held_at p other) same) ∙ dirty.1, dirty.2);
  }

  pub one_cleaned : (b : Bool) → CleansOne s.pool pool 0 durable (told s.disk) (told d) (Ok b) → LeavesClean told s d pool
  one_cleaned true it = (cleaned_leaves it).0
  one_cleaned false it = untouched_leaves it.same it.untouched

  pub one_clean : (b : Bool) → CleansOne s.pool pool 0 durable (told s.disk) (told d) (Ok b) → b ≡ true → (other : ℕ) × IsClean pool other
  one_clean true it e = (it.page, (cleaned_leaves it).1)
  one_clean false it e = absurd cc

-- A walk over the dirty pages

pub not_both : (pool : PoolState) (number waits : ℕ) → IsClean pool number → IsDirty pool number waits → ⊥
not_both pool number waits clean dirty =
    let same = same_Some clean.0 dirty.0 (sym clean.1 ∙ dirty.1) in
    none_Some waits (sym clean.2 ∙ ap (λ (h : HeldPage). h.log) same ∙ dirty.2)

-- none is left below the next one
pub below_more : (mid new : PoolState) (from next : ℕ) → ((number waits : ℕ) → number < from → IsDirty mid number waits → ⊥) → IsNextDirty mid from (Some next) → IsClean new next → ((other log : ℕ) → IsDirty new other log → IsDirty mid other log)
    → (number waits : ℕ) → number < next + 1 → IsDirty new number waits → ⊥
below_more mid new from next below is clean less number waits low dirty = ⊎_elim
    (λ (e : number ≡ next). not_both new next waits clean (subst (λ (n : ℕ). IsDirty new n waits) e dirty))
    (λ (apart : number ≢ next). ⊎_elim
    (λ (early : number < from). below number waits early (less number waits dirty))
    (λ (late : from ≤ number). omega (arith, is.2 number waits late (less number waits dirty), low, apart))
    (cases_lt number from))
    (cases_eq number next)

-- none is left at all
pub all_clean : (pool : PoolState) (from : ℕ) → ((number waits : ℕ) → number < from → IsDirty pool number waits → ⊥) → IsNextDirty pool from None → AreClean pool
all_clean pool from below none number waits dirty = ⊎_elim (λ (early : number < from). below number waits early dirty) (λ (late : from ≤ number). none number waits late dirty) (cases_lt number from)

pub clean_at : (pool : PoolState) (from : ℕ) → ((number waits : ℕ) → number < from → IsDirty pool number waits → ⊥) → (next : Option ℕ) → ((number : ℕ) → next ≡ Some number → ⊥) → IsNextDirty pool from next → AreClean pool
clean_at pool from below None none is = all_clean pool from below is
clean_at pool from below (Some number) none is = absurd (none number refl)

-- where none is cleaned the pool is as it was, and none is dirty that waits for what is durable

pub one_none : (old pool : PoolState) (durable : ℕ) (disk after : Told) (b : Bool) → CleansOne old pool 0 durable disk after (Ok b) → b ≡ false → pool ≡ old
one_none old pool durable disk after true it e = absurd cc
one_none old pool durable disk after false it e = it.same

pub one_dirty : (old pool : PoolState) (durable : ℕ) (disk after : Told) (b : Bool) → CleansOne old pool 0 durable disk after (Ok b) → b ≡ false → {n : ℕ} → (page log : ℕ) → IsDirty old page log → log ≤ n → durable ≡ n → ⊥
one_dirty old pool durable disk after true it e page log dirty within is = absurd cc
one_dirty old pool durable disk after false it e page log dirty within is = omega (arith, it.none page log dirty, within, is)

pub durable_all : (log : Log) (waiting : Waiting) (durable : ℕ) → IsDurable log waiting durable → waiting ≡ no_changes → durable ≡ log.used + 1
durable_all log waiting durable (inl is) empty = let none : length waiting.bytes ≡ 0 = ap (λ (w : Waiting). length w.bytes) empty in absurd (omega (arith, none, is.1))
durable_all log waiting durable (inr is) empty = is.1

pub on_ok : {T E Q : Type 0} (r : Result T E) → Q → OnOk r Q
on_ok (Ok value) q = q
on_ok (Err error) q = tt
