-- a page that is read from the disk is held
use Rattle.std.proofs.Common.{◌≡◌, ◌≢◌, ◌⊎◌, inl, inr, ⊎_elim, ℕ, ◌+◌, Bool, List, length, refl, sym, ap, subst, ◌∙◌}
use Rattle.std.specs.Prelude.{IsTrue, Option, None, Some, unwrap_or}
use Rattle.std.specs.FinMap as map
use Rattle.std.specs.Option.{option_map}
use Rattle.std.proofs.lemmas.Bool.{cases_eq}
use Rattle.std.proofs.lemmas.Cmp.{nat_cmp_total}
use Rattle.block_model.specs.declared.limits.TheConstants.{PAGE_SIZE}
use Rattle.block_model.specs.declared.place.Place.{Place}
use Rattle.block_model.specs.NumberMaps.{get_put_apart, get_put_here, get_removed_apart, get_removed_here, none_Some, numbers_apart, same_Some}
use Rattle.store_layout.specs.DiskLayout.{DiskLayout, IsPlace}
use Rattle.store_layout.specs.PagesFillDisk.{PagesFillDisk}
use Rattle.disk_trait.specs.Told.{Told}
use Rattle.recovery.specs.Log.{Log}
use Rattle.buffer_pool.specs.PoolState.{HeldPage, PoolState, IsClean, held_at}
use Rattle.buffer_pool.specs.SetsPage.{SetsPage}
use Rattle.buffer_pool.specs.SetLaws.{held_after}
use Rattle.wal_record.specs.Waiting.{Waiting}
use Rattle.page_map.specs.Forms.{IsPageIn}
use Rattle.page_map.specs.PageMap.{PageMap, page_at}
use Rattle.recovery.specs.Opens.{disk_page}
use Rattle.recovery.specs.PageNumbers.{page_number}
use Rattle.recovery.specs.Safe.{IsSafe}
use Rattle.recovery.specs.ShownLaws.{one_number, same_place, same_shown, shown_at}
use Rattle.recovery.specs.ShownPages.{content_at, shown_page, shown_pages}
use Rattle.page_store.specs.Contents.{AddsOnly}
use Rattle.page_store.specs.Standing.{IsStanding}

module _ (layout : DiskLayout) (fill : PagesFillDisk layout) (log : Log) (pool after : PoolState) (marks : List Bool) (waiting : Waiting) (disk : Told) (standing : IsStanding disk layout log pool marks waiting None)
    (place : Place) (is : IsPlace layout place) (bytes : List ℕ) (whole : length bytes ≡ PAGE_SIZE) (passes : IsPageIn layout place.relation bytes) (absent : held_at pool (page_number layout place) ≡ None)
    (stored : IsTrue disk.tells_contents → bytes ≡ page_at (shown_pages layout pool disk.contents) place) (sets : SetsPage pool (page_number layout place) (record { content = bytes; log = None }) after) where
  abbrev pub clean_page : HeldPage
  clean_page = record { content = bytes; log = None }

  -- what is held then
  held_then : (q : ℕ) (it : HeldPage) → held_at after q ≡ Some it → ((q ≡ page_number layout place) × (clean_page ≡ it)) ⊎ (held_at pool q ≡ Some it)
  held_then q it got = held_after pool after (page_number layout place) clean_page sets q it got

  pub set_adds : AddsOnly (page_number layout place) pool after
  set_adds q page got = from (held_at after q) refl
    where
      from : (o : Option HeldPage) → held_at after q ≡ o → (q ≡ page_number layout place) ⊎ (content_at pool q ≡ Some page)
      from None is = absurd (none_Some page (sym (ap (option_map (λ (h : HeldPage). h.content)) is) ∙ got))
      from (Some it) is = ⊎_elim (λ (own : (q ≡ page_number layout place) × (clean_page ≡ it)). inl own.0)
          (λ (other : held_at pool q ≡ Some it). inr (ap (option_map (λ (h : HeldPage). h.content)) (other ∙ sym is) ∙ got)) (held_then q it is)

  pub here : held_at after (page_number layout place) ≡ Some clean_page
  here = ⊎_elim
      (λ (kept : _). ap (λ (p : PoolState). held_at p (page_number layout place)) kept.1 ∙ get_put_here nat_cmp_total pool.pages (page_number layout place) clean_page)
      (λ (gone : _). ap (λ (p : PoolState). held_at p (page_number layout place)) gone.4 ∙ get_put_here nat_cmp_total (map.remove pool.pages gone.0) (page_number layout place) clean_page)
      sets

  -- and elsewhere: the same, or a clean page that went
  elsewhere : (q : ℕ) → q ≢ page_number layout place → (held_at after q ≡ held_at pool q) ⊎ ((held_at after q ≡ None) × IsClean pool q)
  elsewhere q apart = ⊎_elim
      (λ (kept : _). inl (ap (λ (p : PoolState). held_at p q) kept.1 ∙ get_put_apart nat_cmp_total pool.pages (page_number layout place) q clean_page (numbers_apart q (page_number layout place) apart)))
      (λ (gone : _).
      let other = ap (λ (p : PoolState). held_at p q) gone.4 ∙ get_put_apart nat_cmp_total (map.remove pool.pages gone.0) (page_number layout place) q clean_page (numbers_apart q (page_number layout place) apart) in
      ⊎_elim
      (λ (e : q ≡ gone.0). inr (other ∙ ap (λ (n : ℕ). map.get (map.remove pool.pages gone.0) n) e ∙ get_removed_here nat_cmp_total pool.pages gone.0, subst (IsClean pool) (sym e) gone.3))
      (λ (differ : q ≢ gone.0). inl (other ∙ get_removed_apart nat_cmp_total pool.pages gone.0 q (numbers_apart q gone.0 differ)))
      (cases_eq q gone.0))
      sets

  -- the pages stay
  stored_page : IsTrue disk.tells_contents → bytes ≡ disk_page layout disk.contents place
  stored_page tells = stored tells ∙ shown_at layout pool disk.contents place is ∙ ap (λ (o : Option HeldPage). unwrap_or (option_map (λ (h : HeldPage). h.content) o) (disk_page layout disk.contents place)) absent

  set_shown : IsTrue disk.tells_contents → (q : Place) → IsPlace layout q → shown_page layout after disk.contents q ≡ shown_page layout pool disk.contents q
  set_shown tells q isq = ⊎_elim
      (λ (e : q ≡ place).
      ap (shown_page layout after disk.contents) e
      ∙ ap (λ (o : Option HeldPage). unwrap_or (option_map (λ (h : HeldPage). h.content) o) (disk_page layout disk.contents place)) here
      ∙ stored tells ∙ shown_at layout pool disk.contents place is ∙ ap (shown_page layout pool disk.contents) (sym e))
      (λ (differ : q ≢ place). ⊎_elim
      (λ (same : held_at after (page_number layout q) ≡ held_at pool (page_number layout q)). ap (λ (o : Option HeldPage). unwrap_or (option_map (λ (h : HeldPage). h.content) o) (disk_page layout disk.contents q)) same)
      (λ (gone : (held_at after (page_number layout q) ≡ None) × IsClean pool (page_number layout q)).
      ap (λ (o : Option HeldPage). unwrap_or (option_map (λ (h : HeldPage). h.content) o) (disk_page layout disk.contents q)) gone.0
      ∙ sym ((standing.sound refl tells).pooled.clean q gone.1.0 isq gone.1.1 gone.1.2)
      ∙ sym (ap (λ (o : Option HeldPage). unwrap_or (option_map (λ (h : HeldPage). h.content) o) (disk_page layout disk.contents q)) gone.1.1))
      (elsewhere (page_number layout q) (λ same. differ (one_number layout fill q place isq is same))))
      (same_place q place)

  pub set_pages : IsTrue disk.tells_contents → shown_pages layout after disk.contents ≡ shown_pages layout pool disk.contents
  set_pages tells = same_shown layout after pool disk.contents disk.contents (set_shown tells)

  pub set_standing : after.frames ≡ pool.frames → IsStanding disk layout log after marks waiting None
  set_standing frames = record {
    size = standing.size;
    area = standing.area;
    frames = frames ∙ standing.frames;
    marked = standing.marked;
    room = standing.room;
    held = λ q it got. ⊎_elim
        (λ (own : (q ≡ page_number layout place) × (clean_page ≡ it)). record { place = place; is = is; number = sym own.0; whole = subst (λ (h : HeldPage). length h.content ≡ PAGE_SIZE) own.1 whole; passes = subst (λ (h : HeldPage). IsPageIn layout place.relation h.content) own.1 passes })
        (standing.held q it) (held_then q it got);
    waits = λ q waits it got log. ⊎_elim
        (λ (own : (q ≡ page_number layout place) × (clean_page ≡ it)). absurd (none_Some waits (ap (λ (h : HeldPage). h.log) own.1 ∙ log)))
        (λ (other : held_at pool q ≡ Some it). standing.waits q waits it other log) (held_then q it got);
    checked = λ tells q isq. subst (IsPageIn layout q.relation) (sym (set_shown tells q isq)) (standing.checked tells q isq);
    sound = λ none tells.
        let sound = standing.sound refl tells in
        record {
          changes = sound.changes;
          bytes = sound.bytes;
          count = sound.count;
          pooled = record {
            clean = λ q it isq got log. ⊎_elim
                (λ (own : (page_number layout q ≡ page_number layout place) × (clean_page ≡ it)).
                sym (ap (λ (h : HeldPage). h.content) own.1) ∙ stored_page tells ∙ ap (disk_page layout disk.contents) (sym (one_number layout fill q place isq is own.0)))
                (λ (other : held_at pool (page_number layout q) ≡ Some it). sound.pooled.clean q it isq other log) (held_then (page_number layout q) it got);
            dirty = λ q it waits isq got log. ⊎_elim
                (λ (own : (page_number layout q ≡ page_number layout place) × (clean_page ≡ it)). absurd (none_Some waits (ap (λ (h : HeldPage). h.log) own.1 ∙ log)))
                (λ (other : held_at pool (page_number layout q) ≡ Some it). sound.pooled.dirty q it waits isq other log) (held_then (page_number layout q) it got);
            waits = λ q isq some.
                let waits = sound.pooled.waits q isq some in (
                  waits.0,
                  ⊎_elim
                      (λ (same : held_at after (page_number layout q) ≡ held_at pool (page_number layout q)). same ∙ waits.1)
                      (λ (gone : (held_at after (page_number layout q) ≡ None) × IsClean pool (page_number layout q)).
                      let it = same_Some gone.1.0 waits.0 (sym gone.1.1 ∙ waits.1) in
                      absurd (none_Some (log.used + 1) (sym gone.1.2 ∙ ap (λ (h : HeldPage). h.log) it ∙ waits.2)))
                      (elsewhere (page_number layout q) (λ same. none_Some waits.0 (sym absent ∙ ap (held_at pool) (sym same) ∙ waits.1))),
                  waits.2,
                );
          };
          safe = λ image now. subst (λ (p : PageMap). IsSafe layout log marks sound.changes p image) (sym (set_pages tells)) (sound.safe image now);
        };
  }
