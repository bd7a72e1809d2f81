-- what is left where a change is made
use Rattle.std.proofs.lemmas.Bool.{cases_eq, false≢true}
use Rattle.std.proofs.Common.{◌≡◌, ◌≢◌, ⊎_elim, ℕ, ◌+◌, ◌*◌, ◌<◌, ◌≤◌, Bool, true, List, [], ◌∷◌, length, refl, sym, ap, subst, ◌∙◌, arith}
use Rattle.std.specs.Prelude.{IsTrue, IsSome, Option, None, Some, unwrap_or}
use Rattle.std.specs.Option.{option_map}
use Rattle.block_model.specs.declared.limits.TheConstants.{PAGE_SIZE}
use Rattle.block_model.specs.declared.place.Place.{Place}
use Rattle.block_model.specs.NumberMaps.{none_Some, same_Some}
use Rattle.store_layout.specs.DiskLayout.{DiskLayout, IsPlace}
use Rattle.store_layout.specs.PagesFillDisk.{PagesFillDisk}
use Rattle.disk_trait.specs.Told.{Told}
use Rattle.wal_record.specs.Changes.{LoggedChange, place_of}
use Rattle.buffer_pool.specs.PoolState.{HeldPage, PoolState, held_at}
use Rattle.wal_record.specs.Waiting.{Waiting}
use Rattle.recovery.specs.Redo.{Fits}
use Rattle.page_map.specs.Changed.{Changed}
use Rattle.page_map.specs.PageMap.{page_at}
use Rattle.recovery.specs.Opens.{disk_page}
use Rattle.page_map.specs.Forms.{FitsIn, IsPageIn, form_of}
use Rattle.recovery.specs.PageNumbers.{page_number}
use Rattle.recovery.specs.Safe.{is_marked}
use Rattle.recovery.specs.ShownLaws.{one_number, shown_at}
use Rattle.recovery.specs.ShownPages.{content_at}
use Rattle.page_store.specs.Begun.{HoldsOf, MakesHeld, RedoesHeld, Touched}
use Rattle.page_store.specs.Contents.{HoldsAlike}
use Rattle.page_store.specs.KeptPages.{LeftStore}
use Rattle.page_store.specs.LoggedState.{LoggedState, store_of}
use Rattle.page_store.specs.Made.{MakesPage, Misfits}
use Rattle.page_store.proofs.MakeSteps.{GoesBehind, length_now, make_changed, make_standing, mark_own, put_else, put_own}
use Rattle.page_store.proofs.PoolSteps.{put_alike, put_apart, put_here}
use Rattle.page_store.specs.Room.{HasRoom, bytes_for}
use Rattle.page_store.specs.Standing.{IsStanding}
use Rattle.page_store.proofs.Steps.{DiskLaws, leaves_still}

-- the page of a place that is held is one of its form
pub holds_of : {D : Type 0} (told : D → Told) (s : LoggedState D) (failed : Option ℕ) → PagesFillDisk s.layout → IsStanding (told s.disk) s.layout s.log s.pool s.marks s.waiting failed → (place : Place) → IsPlace s.layout place → IsSome (held_at s.pool (page_number s.layout place))
    → HoldsOf (form_of s.layout place.relation) (page_number s.layout place) s.pool
holds_of told s failed fill standing place is some = by (held_at s.pool (page_number s.layout place)) refl some
  where
    by : (o : Option HeldPage) → held_at s.pool (page_number s.layout place) ≡ o → IsSome o → HoldsOf (form_of s.layout place.relation) (page_number s.layout place) s.pool
    by None there some = absurd (false≢true some)
    by (Some held) there some =
        let page = standing.held (page_number s.layout place) held there in
        let e = one_number s.layout fill page.place place page.is is page.number in
        record { page = held; held = there; passes = subst (λ (p : Place). IsPageIn s.layout p.relation held.content) e page.passes }

-- and so is what is held there
pub content_passes : {D : Type 0} (told : D → Told) (s : LoggedState D) (failed : Option ℕ) → PagesFillDisk s.layout → IsStanding (told s.disk) s.layout s.log s.pool s.marks s.waiting failed → (place : Place) → IsPlace s.layout place → (bytes : List ℕ) → content_at s.pool (page_number s.layout place) ≡ Some bytes
    → IsPageIn s.layout place.relation bytes
content_passes told s failed fill standing place is bytes there = by (held_at s.pool (page_number s.layout place)) refl
  where
    by : (o : Option HeldPage) → held_at s.pool (page_number s.layout place) ≡ o → IsPageIn s.layout place.relation bytes
    by None none = absurd (none_Some bytes (sym (ap (option_map (λ (h : HeldPage). h.content)) none) ∙ there))
    by (Some held) got =
        let page = standing.held (page_number s.layout place) held got in
        let e = one_number s.layout fill page.place place page.is is page.number in
        let same : held.content ≡ bytes = same_Some held.content bytes (sym (ap (option_map (λ (h : HeldPage). h.content)) got) ∙ there) in
        subst (IsPageIn s.layout place.relation) same (subst (λ (p : Place). IsPageIn s.layout p.relation held.content) e page.passes)

pub record LeavesMade {D : Type 0} (told : D → Told) (s : LoggedState D) (place : Place) (change : LoggedChange) (waiting : Waiting) (marks : List Bool) (pool : PoolState) : Type 0 where
  pub standing : IsStanding (told s.disk) s.layout s.log pool marks waiting None
  pub leaves : LeftStore told (store_of told s) (store_of told (record { disk = s.disk; layout = s.layout; log = s.log; pool = pool; marks = marks; waiting = waiting; failed = s.failed }))
  pub changed : Changed s.layout place (change ∷ []) (store_of told s).pages (store_of told (record { disk = s.disk; layout = s.layout; log = s.log; pool = pool; marks = marks; waiting = waiting; failed = s.failed })).pages
  pub made : MakesPage (form_of s.layout place.relation) (page_number s.layout place) change s.pool pool
  pub long : length waiting.bytes ≡ length s.waiting.bytes + bytes_for (is_marked s.marks s.layout place) change
  pub marked : is_marked marks s.layout place ≡ true

pub made_leaves : {D : Type 0} (told : D → Told) → DiskLaws told → GoesBehind → (s : LoggedState D) (fill : PagesFillDisk s.layout) (standing : IsStanding (told s.disk) s.layout s.log s.pool s.marks s.waiting None) (place : Place) (is : IsPlace s.layout place) (change : LoggedChange)
    → place_of change ≡ place → page_number s.layout place < length s.marks → HasRoom s.log s.waiting (bytes_for (is_marked s.marks s.layout place) change) → (waiting : Waiting) (marks : List Bool) (pool : PoolState)
    → MakesHeld (form_of s.layout place.relation) place (page_number s.layout place) (s.log.used + 1) change (record { waiting = s.waiting; marks = s.marks; pool = s.pool }) (record { waiting = waiting; marks = marks; pool = pool })
    → LeavesMade told s place change waiting marks pool
made_leaves told laws behind s fill standing place is change own low room waiting marks pool makes =
    let old : Touched = record { waiting = s.waiting; marks = s.marks; pool = s.pool } in
    let new : Touched = record { waiting = waiting; marks = marks; pool = pool } in
    record {
      standing = make_standing behind s.layout fill s.log old new (told s.disk) standing place is change own low room makes (ap (λ (p : PoolState). p.frames) makes.redoes.is);
      leaves = leaves_still told laws s (record { disk = s.disk; layout = s.layout; log = s.log; pool = pool; marks = marks; waiting = waiting; failed = s.failed }) refl refl;
      changed = make_changed behind s.layout fill s.log old new (told s.disk) standing place is change own low room makes;
      made = record {
        before = makes.redoes.before.content;
        after = makes.redoes.after;
        was = ap (option_map (λ (h : HeldPage). h.content)) makes.redoes.was;
        is = ap (option_map (λ (h : HeldPage). h.content)) (put_own behind s.layout fill s.log old new (told s.disk) standing place is change own low room makes);
        redone = makes.redoes.redone;
        passes = makes.redoes.passes;
        others = λ other apart. ap (option_map (λ (h : HeldPage). h.content)) (put_else behind s.layout fill s.log old new (told s.disk) standing place is change own low room makes other apart);
      };
      long = length_now behind s.layout fill s.log old new (told s.disk) standing place is change own low room makes;
      marked = mark_own behind s.layout fill s.log old new (told s.disk) standing place is change own low room makes;
    }

-- where it doesn't fit, which is so only where the disk doesn't tell its contents

module _ (layout : DiskLayout) (pool after : PoolState) (place : Place) (number waits : ℕ) (redoes : RedoesHeld (form_of layout place.relation) number waits [] pool after) where
  pub misfit_alike : HoldsAlike pool after
  misfit_alike = subst (HoldsAlike pool) (sym redoes.is)
      (put_alike pool number (record { content = redoes.after; log = Some waits }) (ap (option_map (λ (h : HeldPage). h.content)) redoes.was ∙ ap (λ (b : List ℕ). Some b) (sym redoes.redone)))

-- for then it would fit
pub misfit_untold : {D : Type 0} (told : D → Told) (s : LoggedState D) (place : Place) → IsPlace s.layout place → (change : LoggedChange) (pool : PoolState) (waits : ℕ) → RedoesHeld (form_of s.layout place.relation) (page_number s.layout place) waits [] s.pool pool
    → Misfits (form_of s.layout place.relation) (page_number s.layout place) change s.pool → (IsTrue (told s.disk).tells_contents → FitsIn s.layout place.relation (page_at (store_of told s).pages place) change) → IsTrue (told s.disk).tells_contents → ⊥
misfit_untold told s place is change pool waits redoes misfits fits tells =
    let there = ap (option_map (λ (h : HeldPage). h.content)) redoes.was in
    let shown = shown_at s.layout s.pool (told s.disk).contents place is ∙ ap (λ (o : Option (List ℕ)). unwrap_or o (disk_page s.layout (told s.disk).contents place)) there in
    misfits redoes.before.content there (subst (λ (p : List ℕ). Fits (form_of s.layout place.relation) p change) shown (fits tells))

pub misfit_standing : {D : Type 0} (told : D → Told) (s : LoggedState D) → PagesFillDisk s.layout → IsStanding (told s.disk) s.layout s.log s.pool s.marks s.waiting None → (place : Place) → IsPlace s.layout place
    → (waiting : Waiting) (marks : List Bool) (pool : PoolState) → RedoesHeld (form_of s.layout place.relation) (page_number s.layout place) (s.log.used + 1) [] s.pool pool → length marks ≡ length s.marks
    → (change : LoggedChange) → length waiting.bytes ≤ length s.waiting.bytes + bytes_for (is_marked s.marks s.layout place) change → HasRoom s.log s.waiting (bytes_for (is_marked s.marks s.layout place) change)
    → (IsTrue (told s.disk).tells_contents → ⊥) → IsStanding (told s.disk) s.layout s.log pool marks waiting None
misfit_standing told s fill standing place is waiting marks pool redoes long change few room untold = record {
  size = standing.size;
  area = standing.area;
  frames = ap (λ (p : PoolState). p.frames) redoes.is ∙ standing.frames;
  marked = ap (λ (n : ℕ). 8192 * n) long ∙ standing.marked;
  room = λ some. omega (arith, few, room.area);
  held = λ number held there. ⊎_elim
      (λ (e : number ≡ page_number s.layout place).
      let own = now number held there e in
      record { place = place; is = is; number = sym e; whole = subst (λ (h : HeldPage). length h.content ≡ PAGE_SIZE) (sym own) redoes.whole; passes = subst (λ (h : HeldPage). IsPageIn s.layout place.relation h.content) (sym own) redoes.passes })
      (λ (apart : number ≢ page_number s.layout place). standing.held number held (elsewhere number held there apart))
      (cases_eq number (page_number s.layout place));
  waits = λ number waits held there log. ⊎_elim
      (λ (e : number ≡ page_number s.layout place). let w = same_Some waits (s.log.used + 1) (sym log ∙ ap (λ (h : HeldPage). h.log) (now number held there e)) in omega (arith, w))
      (λ (apart : number ≢ page_number s.layout place). standing.waits number waits held (elsewhere number held there apart) log)
      (cases_eq number (page_number s.layout place));
  checked = λ tells. absurd (untold tells);
  sound = λ none tells. absurd (untold tells);
}
  where
    now : (number : ℕ) (held : HeldPage) → held_at pool number ≡ Some held → number ≡ page_number s.layout place → held ≡ record { content = redoes.after; log = Some (s.log.used + 1) }
    now number held there e =
        same_Some held (record { content = redoes.after; log = Some (s.log.used + 1) })
        (sym there ∙ ap (held_at pool) e ∙ ap (λ (p : PoolState). held_at p (page_number s.layout place)) redoes.is ∙ put_here s.pool (page_number s.layout place) (record { content = redoes.after; log = Some (s.log.used + 1) }))

    elsewhere : (number : ℕ) (held : HeldPage) → held_at pool number ≡ Some held → number ≢ page_number s.layout place → held_at s.pool number ≡ Some held
    elsewhere number held there apart = sym (ap (λ (p : PoolState). held_at p number) redoes.is ∙ put_apart s.pool (page_number s.layout place) number (record { content = redoes.after; log = Some (s.log.used + 1) }) apart) ∙ there
