-- steps of a store with pages of its pool
use Rattle.std.proofs.Common.{◌≡◌, ◌≢◌, ◌⊎◌, inl, inr, ⊎_elim, ℕ, ◌+◌, ◌<◌, ◌≤◌, Bool, true, List, [], ◌∷◌, ◌++◌, length, take, drop, refl, sym, ap, subst, ◌∙◌, arith, append_assoc}
use Rattle.std.proofs.lemmas.List.{drop_at, length-take-le, take_at}
use Rattle.std.specs.Prelude.{IsTrue, Option, None, Some, unwrap_or}
use Rattle.std.specs.Option.{option_map}
use Rattle.std.proofs.lemmas.Bool.{cases_eq}
use Rattle.std.proofs.lemmas.Cmp.{nat_cmp_total}
use Rattle.block_model.specs.declared.limits.TheConstants.{PAGE_SIZE}
use Rattle.block_model.specs.declared.place.Place.{Place}
use Rattle.block_model.specs.NumberMaps.{get_put_apart, get_put_here, none_Some, numbers_apart, same_Some}
use Rattle.store_layout.specs.DiskLayout.{DiskLayout, IsPlace, page_offset}
use Rattle.store_layout.specs.PagesFillDisk.{PagesFillDisk}
use Rattle.disk_trait.specs.RangeLaws.{torn_apart}
use Rattle.disk_trait.specs.Spliced.{spliced}
use Rattle.disk_trait.specs.Throughout.{Throughout}
use Rattle.disk_trait.specs.ThroughoutLaws.{goes_on, started}
use Rattle.disk_trait.specs.Told.{Told}
use Rattle.disk_trait.specs.Torn.{Torn}
use Rattle.disk_trait.specs.TornLaws.{torn_same}
use Rattle.recovery.specs.Log.{ComesBy, Log}
use Rattle.page_layout.specs.declared.page.Form.{Form}
use Rattle.recovery.specs.Redo.{ForgetPage, IsAnew}
use Rattle.wal_record.specs.Changes.{LoggedChange}
use Rattle.buffer_pool.specs.PoolState.{HeldPage, PoolState, held_at, with_page}
use Rattle.buffer_pool.specs.WritesPage.{IsCleanable, WritesAt, place_of}
use Rattle.wal_record.specs.Waiting.{Waiting, no_changes}
use Rattle.page_map.specs.Forms.{IsPageIn}
use Rattle.page_map.specs.PageMap.{PageMap}
use Rattle.recovery.specs.LoggedChanges.{AreChangesOf, changes_at}
use Rattle.recovery.specs.Opens.{disk_page}
use Rattle.recovery.specs.Reaches.{OpensToOr}
use Rattle.recovery.specs.InPool.{Holds, IsHeldPage}
use Rattle.recovery.specs.PageNumbers.{page_number}
use Rattle.recovery.specs.Safe.{IsSafe, is_marked}
use Rattle.recovery.proofs.SafeLaws.{torn_reaches, torn_safe}
use Rattle.recovery.specs.ShownLaws.{offset_of, one_number, same_place, same_shown}
use Rattle.recovery.specs.ShownPages.{content_at, shown_page, shown_pages}
use Rattle.page_store.specs.Contents.{HoldsAlike}
use Rattle.page_store.specs.Room.{IsDurable}
use Rattle.page_store.specs.Standing.{IsSound, IsStanding}
use Rattle.page_store.proofs.Steps.{OneByOne, no_bytes}

-- a change that makes the whole page forgets what stood there
abbrev pub Forgets : Type 0
Forgets = (form : Form) (change : LoggedChange) (changes : List LoggedChange) → IsAnew change → ForgetPage form (change ∷ changes)

spliced_field : (old : List ℕ) (at : ℕ) (bytes : List ℕ) → at + length bytes ≤ length old → take (length bytes) (drop at (spliced old at bytes)) ≡ bytes
spliced_field old at bytes fits =
    let rest = drop (at + length bytes) old in
    ap (λ (l : List ℕ). take (length bytes) (drop at l)) (append_assoc (take at old) bytes rest)
    ∙ ap (take (length bytes)) (drop_at (take at old) (bytes ++ rest) at (length-take-le at old (omega (arith, fits))))
    ∙ take_at bytes rest (length bytes) refl

none_or_some : (l : List LoggedChange) → (l ≡ []) ⊎ (0 < length l)
none_or_some [] = inl refl
none_or_some (c ∷ l) = inr (omega arith)

-- What is held at a number after another page was put

pub put_here : (pool : PoolState) (number : ℕ) (held : HeldPage) → held_at (with_page pool number held) number ≡ Some held
put_here pool number held = get_put_here nat_cmp_total pool.pages number held

pub put_apart : (pool : PoolState) (number other : ℕ) (held : HeldPage) → other ≢ number → held_at (with_page pool number held) other ≡ held_at pool other
put_apart pool number other held apart = get_put_apart nat_cmp_total pool.pages number other held (numbers_apart other number apart)

-- the same bytes are held where a page is put with the bytes that it has
pub put_alike : (pool : PoolState) (number : ℕ) (held : HeldPage) → content_at pool number ≡ Some held.content → HoldsAlike pool (with_page pool number held)
put_alike pool number held there other = ⊎_elim
    (λ (e : other ≡ number). subst (λ (n : ℕ). content_at (with_page pool number held) n ≡ content_at pool n) (sym e) (ap (option_map (λ (h : HeldPage). h.content)) (put_here pool number held) ∙ sym there))
    (λ (apart : other ≢ number). ap (option_map (λ (h : HeldPage). h.content)) (put_apart pool number other held apart))
    (cases_eq other number)

-- A page is written to its place

module _ (one : OneByOne) (forgets : Forgets) (layout : DiskLayout) (fill : PagesFillDisk layout) (log : Log) (pool : PoolState) (marks : List Bool) (waiting : Waiting) (old new : Told) (standing : IsStanding old layout log pool marks waiting None)
    (durable number : ℕ) (held : HeldPage) (sure : IsDurable log waiting durable) (it : IsCleanable pool durable number held) where
  page : IsHeldPage layout number held.content
  page = standing.held number held it.held

  there : Holds layout pool page.place held
  there = ap (held_at pool) page.number ∙ it.held

  at : place_of 0 number ≡ page_offset layout page.place
  at = let e = offset_of layout page.place in omega (arith, e, page.number)

  torn_at : (d c : List ℕ) → Torn (place_of 0 number) PAGE_SIZE d c → Torn (page_offset layout page.place) PAGE_SIZE d c
  torn_at d c torn = subst (λ (k : ℕ). Torn k PAGE_SIZE d c) at torn

  others_same : (d c : List ℕ) → Torn (place_of 0 number) PAGE_SIZE d c → (q : Place) → IsPlace layout q → q ≢ page.place → disk_page layout c q ≡ disk_page layout d q
  unfolding disk_page
  others_same d c torn q isq other = torn_apart (page_offset layout q) PAGE_SIZE (page_offset layout page.place) PAGE_SIZE d c (fill.disjoint q page.place isq page.is other) (torn_at d c torn)

  marked : IsSound old layout log pool marks waiting → is_marked marks layout page.place ≡ true
  marked sound = sound.pooled.dirty page.place held it.log page.is there it.dirty

  -- no change of it waits
  unwaiting : (sound : IsSound old layout log pool marks waiting) → changes_at page.place sound.changes ≡ []
  unwaiting sound = ⊎_elim (λ (none : changes_at page.place sound.changes ≡ []). none)
      (λ (some : 0 < length (changes_at page.place sound.changes)).
      let waits = sound.pooled.waits page.place page.is some in
      let same : waits.0 ≡ held = same_Some waits.0 held (sym waits.1 ∙ there) in
      let number : log.used + 1 ≡ it.log = same_Some (log.used + 1) it.log (sym waits.2 ∙ ap (λ (h : HeldPage). h.log) same ∙ it.dirty) in
      absurd (⊎_elim (λ (is : (durable ≡ log.used) × (0 < length waiting.bytes)). omega (arith, is.0, number, it.within))
      (λ (is : (waiting ≡ no_changes) × (durable ≡ log.used + 1)).
      let none = no_bytes sound.changes (subst (λ (w : Waiting). AreChangesOf w.bytes sound.changes) is.0 sound.bytes) in
      let few : 0 < 0 = subst (λ (l : List LoggedChange). 0 < length (changes_at page.place l)) none some in
      omega (arith, few)) sure))
      (none_or_some (changes_at page.place sound.changes))

  -- the pages stay
  pub write_shown : (after : PoolState) → HoldsAlike pool after → Torn (place_of 0 number) PAGE_SIZE old.contents new.contents → (q : Place) → IsPlace layout q → shown_page layout after new.contents q ≡ shown_page layout pool old.contents q
  write_shown after alike torn q isq = ap (λ (o : Option (List ℕ)). unwrap_or o (disk_page layout new.contents q)) (alike (page_number layout q)) ∙ ⊎_elim
      (λ (e : q ≡ page.place).
      let here : content_at pool (page_number layout q) ≡ Some held.content = ap (λ (p : Place). content_at pool (page_number layout p)) e ∙ ap (option_map (λ (h : HeldPage). h.content)) there in
      ap (λ (o : Option (List ℕ)). unwrap_or o (disk_page layout new.contents q)) here ∙ sym (ap (λ (o : Option (List ℕ)). unwrap_or o (disk_page layout old.contents q)) here))
      (λ (other : q ≢ page.place). ap (unwrap_or (content_at pool (page_number layout q))) (others_same old.contents new.contents torn q isq other))
      (same_place q page.place)

  pub write_pages : (after : PoolState) → HoldsAlike pool after → Torn (place_of 0 number) PAGE_SIZE old.contents new.contents → shown_pages layout after new.contents ≡ shown_pages layout pool old.contents
  write_pages after alike torn = same_shown layout after pool new.contents old.contents (write_shown after alike torn)

  write_checked : (after : PoolState) → HoldsAlike pool after → (writes : WritesAt (place_of 0 number) old new) → IsTrue new.tells_contents → (place : Place) → IsPlace layout place → IsPageIn layout place.relation (shown_page layout after new.contents place)
  write_checked after alike writes now place is =
      let was : IsTrue old.tells_contents = sym writes.moments.tells_contents ∙ now in
      subst (IsPageIn layout place.relation) (sym (write_shown after alike (writes.others was) place is)) (standing.checked was place is)

  abbrev pub cleaned : PoolState
  cleaned = with_page pool number (record held { log = None })

  pub cleaned_alike : HoldsAlike pool cleaned
  cleaned_alike = put_alike pool number (record held { log = None }) (ap (option_map (λ (h : HeldPage). h.content)) it.held)

  -- what is held then was held before, but that one page is clean
  cleaned_holds : (q : ℕ) (h : HeldPage) → held_at cleaned q ≡ Some h → ((q ≡ number) × (h ≡ record held { log = None })) ⊎ ((q ≢ number) × (held_at pool q ≡ Some h))
  cleaned_holds q h got = ⊎_elim
      (λ (e : q ≡ number). inl (e, same_Some h (record held { log = None }) (sym got ∙ ap (held_at cleaned) e ∙ put_here pool number (record held { log = None }))))
      (λ (apart : q ≢ number). inr (apart, sym (put_apart pool number q (record held { log = None }) apart) ∙ got))
      (cases_eq q number)

  -- what was written stands there
  stands_there : new.contents ≡ spliced old.contents (place_of 0 number) held.content → length old.contents ≡ old.size → disk_page layout new.contents page.place ≡ held.content
  unfolding disk_page
  stands_there is long =
      ap (λ (k : ℕ). take PAGE_SIZE (drop k new.contents)) (sym at)
      ∙ ap (λ (c : List ℕ). take PAGE_SIZE (drop (place_of 0 number) c)) is
      ∙ ap (λ (n : ℕ). take n (drop (place_of 0 number) (spliced old.contents (place_of 0 number) held.content))) (sym page.whole)
      ∙ spliced_field old.contents (place_of 0 number) held.content (omega (arith, page.whole, at, fill.ends page.place page.is, long, standing.size))

  -- once it is written it is clean
  pub write_standing : (writes : WritesAt (place_of 0 number) old new) → (IsTrue old.tells_contents → new.contents ≡ spliced old.contents (place_of 0 number) held.content) → (IsTrue old.tells_contents → length old.contents ≡ old.size)
      → IsStanding new layout log cleaned marks waiting None
  write_standing writes written fit = record {
    size = writes.moments.size ∙ standing.size;
    area = standing.area;
    frames = standing.frames;
    marked = standing.marked;
    room = standing.room;
    held = λ q h got. ⊎_elim
        (λ (own : (q ≡ number) × (h ≡ record held { log = None })). subst (λ (n : ℕ). IsHeldPage layout n h.content) (sym own.0) (subst (λ (x : HeldPage). IsHeldPage layout number x.content) (sym own.1) page))
        (λ (other : (q ≢ number) × (held_at pool q ≡ Some h)). standing.held q h other.1)
        (cleaned_holds q h got);
    waits = λ q waits h got log. ⊎_elim
        (λ (own : (q ≡ number) × (h ≡ record held { log = None })). absurd (none_Some waits (sym (ap (λ (x : HeldPage). x.log) own.1) ∙ log)))
        (λ (other : (q ≢ number) × (held_at pool q ≡ Some h)). standing.waits q waits h other.1 log)
        (cleaned_holds q h got);
    checked = write_checked cleaned cleaned_alike writes;
    sound = λ none now.
        let was : IsTrue old.tells_contents = sym writes.moments.tells_contents ∙ now in
        let sound = standing.sound refl was in
        let torn = writes.others was in
        record {
          changes = sound.changes;
          bytes = sound.bytes;
          count = sound.count;
          pooled = record {
            clean = λ q h isq got log. ⊎_elim
                (λ (e : q ≡ page.place).
                let own : h ≡ record held { log = None } = same_Some h (record held { log = None }) (sym got ∙ ap (λ (p : Place). held_at cleaned (page_number layout p)) e ∙ ap (held_at cleaned) page.number ∙ put_here pool number (record held { log = None })) in
                ap (λ (x : HeldPage). x.content) own ∙ sym (ap (disk_page layout new.contents) e ∙ stands_there (written was) (fit was)))
                (λ (other : q ≢ page.place).
                sound.pooled.clean q h isq (sym (put_apart pool number (page_number layout q) (record held { log = None }) (λ same. other (one_number layout fill q page.place isq page.is (same ∙ sym page.number)))) ∙ got) log
                ∙ sym (others_same old.contents new.contents torn q isq other))
                (same_place q page.place);
            dirty = λ q h waits isq got log. ⊎_elim
                (λ (own : (page_number layout q ≡ number) × (h ≡ record held { log = None })). absurd (none_Some waits (sym (ap (λ (x : HeldPage). x.log) own.1) ∙ log)))
                (λ (other : (page_number layout q ≢ number) × (held_at pool (page_number layout q) ≡ Some h)). sound.pooled.dirty q h waits isq other.1 log)
                (cleaned_holds (page_number layout q) h got);
            waits = λ q isq some.
                let waits = sound.pooled.waits q isq some in (
                  waits.0,
                  put_apart pool number (page_number layout q) (record held { log = None })
                      (λ same.
                      let e = one_number layout fill q page.place isq page.is (same ∙ sym page.number) in
                      let few : 0 < 0 = subst (λ (l : List LoggedChange). 0 < length l) (ap (λ (p : Place). changes_at p sound.changes) e ∙ unwaiting sound) some in
                      omega (arith, few)) ∙ waits.1,
                  waits.2,
                );
          };
          safe = λ image there.
              let come = writes.images image there in
              subst (λ (p : PageMap). IsSafe layout log marks sound.changes p image) (sym (write_pages cleaned cleaned_alike torn))
              (torn_safe layout fill log marks sound.changes (shown_pages layout pool old.contents) standing.area forgets page.place page.is come.0 image (torn_at come.0 image come.2) (marked sound) (sound.safe come.0 come.1));
        };
  }

  -- where it fails the store fails
  pub write_failed : (faults : ℕ) → (writes : WritesAt (place_of 0 number) old new) → IsStanding new layout log pool marks waiting (Some faults)
  write_failed faults writes = record {
    size = writes.moments.size ∙ standing.size;
    area = standing.area;
    frames = standing.frames;
    marked = standing.marked;
    room = standing.room;
    held = standing.held;
    waits = standing.waits;
    checked = write_checked pool (λ q. refl) writes;
    sound = λ none now. absurd cc;
  }

  -- and each image opens as it did
  pub write_opens : ((image : List ℕ) → IsTrue (old.now image) → IsTrue old.tells_contents) → (before image : List ℕ) → IsTrue (old.now before) → Torn (place_of 0 number) PAGE_SIZE before image → OpensToOr layout (shown_pages layout pool old.contents) before image
  write_opens need before image now torn =
      let sound = standing.sound refl (need before now) in
      torn_reaches layout fill log marks sound.changes (shown_pages layout pool old.contents) standing.area forgets page.place page.is one before image (torn_at before image torn) (marked sound) (unwaiting sound) (sound.safe before now)

-- the moments of a write
pub write_moments : (place : ℕ) (old new : Told) → ((image : List ℕ) → IsTrue (old.since old.moment image) → IsTrue (old.now image)) → WritesAt place old new → Throughout old new (ComesBy (Torn place PAGE_SIZE) old)
write_moments place old new only writes =
    goes_on old old new (ComesBy (Torn place PAGE_SIZE) old) (started old (ComesBy (Torn place PAGE_SIZE) old) (λ image since. (image, only image since, torn_same place PAGE_SIZE image))) writes.moments writes.images
