-- a change of a page that is held
use Rattle.std.proofs.Common.{◌≡◌, ◌≢◌, ◌⊎◌, inl, inr, ⊎_elim, ℕ, ◌+◌, ◌*◌, ◌<◌, ◌≤◌, Bool, true, false, cond, ◌&&◌, ◌||◌, ◌==◌, List, [], ◌∷◌, ◌++◌, length, set, get_or, refl, sym, ap, subst, ◌∙◌, arith, append_assoc, length-append, eq-eqb}
use Rattle.std.specs.Prelude.{Option, None, Some, unwrap_or}
use Rattle.std.specs.List.{AllByRecursion}
use Rattle.std.specs.Option.{option_map}
use Rattle.std.proofs.lemmas.Bool.{and_from, and_parts, cases_Bool, cases_eq, cases_lt, eqb-true, false≢true}
use Rattle.std.proofs.lemmas.List.{append-nil, get_or-set_other, get_or-set_same, get_or_past, length-set}
use Rattle.block_model.specs.declared.limits.TheConstants.{PAGE_SIZE}
use Rattle.block_model.specs.declared.place.Place.{Place}
use Rattle.block_model.specs.NumberMaps.{none_Some, same_Some}
use Rattle.store_layout.specs.DiskLayout.{DiskLayout, IsPlace, relation_blocks}
use Rattle.store_layout.specs.PagesFillDisk.{PagesFillDisk}
use Rattle.disk_trait.specs.Told.{Told}
use Rattle.recovery.specs.Log.{Log}
use Rattle.page_layout.specs.declared.page.Form.{Form}
use Rattle.recovery.specs.Redo.{IsAnew, Redone}
use Rattle.wal_record.specs.Changes.{IsChange, LoggedChange, FullPage, PageStart, RowPut, RowMark, RowsDrop, TuplePut, TupleReplace, TupleDrop, Evacuate, MapPage, MapSet, MetaSet, StatusSet, place_of}
use Rattle.wal_record.specs.ChangeBytes.{bytes_of, place_bytes}
use Rattle.buffer_pool.specs.PoolState.{HeldPage, PoolState, held_at}
use Rattle.wal_record.specs.Waiting.{Waiting, with_change}
use Rattle.page_map.specs.Changed.{Changed}
use Rattle.page_map.specs.Forms.{IsPageIn, form_of}
use Rattle.page_map.specs.PageMap.{PageMap, block_limit, page_at, unstarted_page}
use Rattle.page_map.proofs.Maps.{blocks_in, relations_in}
use Rattle.recovery.specs.LoggedChanges.{AreChangesOf, BeginAnew, changes_at}
use Rattle.recovery.specs.Opens.{disk_page}
use Rattle.recovery.specs.PageNumbers.{page_number}
use Rattle.recovery.specs.Safe.{Rebuilds, is_marked}
use Rattle.recovery.proofs.SafeLaws.{all_append, at_append}
use Rattle.recovery.specs.ShownLaws.{one_number, same_place, shown_at, shown_whole}
use Rattle.recovery.specs.ShownPages.{shown_page, shown_pages}
use Rattle.page_store.specs.Begun.{MakesHeld, Touched, logged_for, with_changes}
use Rattle.page_store.proofs.PoolSteps.{put_apart, put_here}
use Rattle.page_store.specs.Room.{HasRoom, bytes_for, is_anew}
use Rattle.page_store.specs.Standing.{IsStanding}

-- changes go on behind others
abbrev pub GoesBehind : Type 0
GoesBehind = (form : Form) (page mid new : List ℕ) (first more : List LoggedChange) → Redone form page first mid → Redone form mid more new → Redone form page (first ++ more) new

-- Changes of one place

abbrev pub AreAt : Place → List LoggedChange → Type 0
AreAt place changes = AllByRecursion (λ change. place_of change ≡ place) changes

same_test : (p q : Place) → p ≡ q → (p.relation == q.relation && p.block == q.block) ≡ true
same_test p q e = and_from (p.relation == q.relation) (p.block == q.block) (eq-eqb p.relation q.relation (ap (λ (x : Place). x.relation) e)) (eq-eqb p.block q.block (ap (λ (x : Place). x.block) e))

other_test : (p q : Place) → p ≢ q → (p.relation == q.relation && p.block == q.block) ≡ false
other_test p q other = ⊎_elim
    (λ (yes : (p.relation == q.relation && p.block == q.block) ≡ true).
    let parts = and_parts (p.relation == q.relation) (p.block == q.block) yes in
    let r = eqb-true p.relation q.relation parts.0 in
    let b = eqb-true p.block q.block parts.1 in
    absurd (other (λ i. record { relation = r i; block = b i })))
    (λ no. no)
    (cases_Bool (p.relation == q.relation && p.block == q.block))

pub at_own : (place : Place) (changes : List LoggedChange) → AreAt place changes → changes_at place changes ≡ changes
at_own place [] all = refl
at_own place (c ∷ changes) all =
    ap (λ (b : Bool). cond b (c ∷ changes_at place changes) (changes_at place changes)) (same_test (place_of c) place all.0) ∙ ap (λ (l : List LoggedChange). c ∷ l) (at_own place changes all.1)

pub at_other : (place other : Place) (changes : List LoggedChange) → AreAt place changes → other ≢ place → changes_at other changes ≡ []
at_other place other [] all apart = refl
at_other place other (c ∷ changes) all apart =
    ap (λ (b : Bool). cond b (c ∷ changes_at other changes) (changes_at other changes)) (other_test (place_of c) other (λ e. apart (sym e ∙ all.0))) ∙ at_other place other changes all.1 apart

begin_append : (l k : List LoggedChange) → 0 < length l → BeginAnew l → BeginAnew (l ++ k)
begin_append [] k some begun = absurd (omega (arith, some))
begin_append (c ∷ l) k some begun = begun

-- The changes of a place are made behind others

module _ (behind : GoesBehind) (layout : DiskLayout) (fill : PagesFillDisk layout) (marks : List Bool) (place : Place) (is : IsPlace layout place) (low : page_number layout place < length marks)
    (xs cs : List LoggedChange) (own : AreAt place cs) (some : 0 < length cs) (pages after : PageMap) (image : List ℕ)
    (redone : Redone (form_of layout place.relation) (page_at pages place) cs (page_at after place)) (others : (q : Place) → IsPlace layout q → q ≢ place → page_at after q ≡ page_at pages q)
    (begun : (is_marked marks layout place ≡ true) ⊎ BeginAnew cs) (rebuilds : Rebuilds layout marks xs pages image) where
  here : changes_at place (xs ++ cs) ≡ changes_at place xs ++ cs
  here = at_append place xs cs ∙ ap (λ (l : List LoggedChange). changes_at place xs ++ l) (at_own place cs own)

  there : (q : Place) → q ≢ place → changes_at q (xs ++ cs) ≡ changes_at q xs
  there q other = at_append q xs cs ∙ ap (λ (l : List LoggedChange). changes_at q xs ++ l) (at_other place q cs own other) ∙ append-nil (changes_at q xs)

  set_other : (q : Place) → IsPlace layout q → q ≢ place → is_marked (set marks (page_number layout place) true) layout q ≡ is_marked marks layout q
  set_other q isq other = get_or-set_other marks (page_number layout place) (page_number layout q) true false (λ same. other (one_number layout fill q place isq is same))

  set_own : is_marked (set marks (page_number layout place) true) layout place ≡ true
  set_own = get_or-set_same marks (page_number layout place) true false low

  begins : BeginAnew (changes_at place xs ++ cs)
  begins = ⊎_elim
      (λ (yes : is_marked marks layout place ≡ true). begin_append (changes_at place xs) cs (rebuilds.marked place is yes) (rebuilds.anew place))
      (λ (anew : BeginAnew cs). ⊎_elim
      (λ (yes : is_marked marks layout place ≡ true). begin_append (changes_at place xs) cs (rebuilds.marked place is yes) (rebuilds.anew place))
      (λ (no : is_marked marks layout place ≡ false). subst (λ (l : List LoggedChange). BeginAnew (l ++ cs)) (sym (rebuilds.unmarked place is no)) anew)
      (cases_Bool (is_marked marks layout place)))
      begun

  pub rebuilds_more : Rebuilds layout (set marks (page_number layout place) true) (xs ++ cs) after image
  rebuilds_more = record {
    places = all_append (λ change. IsPlace layout (place_of change)) xs cs rebuilds.places (all_in cs own);
    anew = λ q. ⊎_elim
        (λ (e : q ≡ place). subst (λ (p : Place). BeginAnew (changes_at p (xs ++ cs))) (sym e) (subst BeginAnew (sym here) begins))
        (λ (other : q ≢ place). subst BeginAnew (sym (there q other)) (rebuilds.anew q))
        (same_place q place);
    redone = λ q isq. ⊎_elim
        (λ (e : q ≡ place). subst (λ (p : Place). Redone (form_of layout p.relation) (disk_page layout image p) (changes_at p (xs ++ cs)) (page_at after p)) (sym e)
        (subst (λ (l : List LoggedChange). Redone (form_of layout place.relation) (disk_page layout image place) l (page_at after place)) (sym here)
        (behind (form_of layout place.relation) (disk_page layout image place) (page_at pages place) (page_at after place) (changes_at place xs) cs (rebuilds.redone place is) redone)))
        (λ (other : q ≢ place). subst (λ (l : List LoggedChange). Redone (form_of layout q.relation) (disk_page layout image q) l (page_at after q)) (sym (there q other))
        (subst (Redone (form_of layout q.relation) (disk_page layout image q) (changes_at q xs)) (sym (others q isq other)) (rebuilds.redone q isq)))
        (same_place q place);
    marked = λ q isq yes. ⊎_elim
        (λ (e : q ≡ place). subst (λ (p : Place). 0 < length (changes_at p (xs ++ cs))) (sym e) (omega (arith, some, ap (length {A = LoggedChange}) here, length-append (changes_at place xs) cs)))
        (λ (other : q ≢ place). subst (λ (l : List LoggedChange). 0 < length l) (sym (there q other)) (rebuilds.marked q isq (sym (set_other q isq other) ∙ yes)))
        (same_place q place);
    unmarked = λ q isq no. ⊎_elim
        (λ (e : q ≡ place). absurd (false≢true (sym no ∙ ap (is_marked (set marks (page_number layout place) true) layout) e ∙ set_own)))
        (λ (other : q ≢ place). there q other ∙ rebuilds.unmarked q isq (sym (set_other q isq other) ∙ no))
        (same_place q place);
  }
    where
      all_in : (l : List LoggedChange) → AreAt place l → AllByRecursion (λ change. IsPlace layout (place_of change)) l
      all_in [] all = tt
      all_in (c ∷ l) all = (subst (IsPlace layout) (sym all.0) is, all_in l all.1)

-- The bytes of changes that wait

changes_more : (bytes : List ℕ) (xs : List LoggedChange) (c : LoggedChange) → AreChangesOf bytes xs → IsChange c → AreChangesOf (bytes ++ bytes_of c) (xs ++ c ∷ [])
changes_more bytes [] c are is = ([], is, ap (λ (l : List ℕ). l ++ bytes_of c) are ∙ sym (append-nil (bytes_of c)), refl)
changes_more bytes (x ∷ xs) c are is = (are.0 ++ bytes_of c, are.1, ap (λ (l : List ℕ). l ++ bytes_of c) are.2 ∙ append_assoc (bytes_of x) are.0 (bytes_of c), changes_more are.0 xs c are.3 is)

pub all_more : (waiting : Waiting) (xs cs : List LoggedChange) → AreChangesOf waiting.bytes xs → AllByRecursion IsChange cs → AreChangesOf (with_changes waiting cs).bytes (xs ++ cs)
all_more waiting xs [] are all = subst (AreChangesOf waiting.bytes) (sym (append-nil xs)) are
all_more waiting xs (c ∷ cs) are all =
    subst (AreChangesOf (with_changes (with_change waiting c) cs).bytes) (append_assoc xs (c ∷ []) cs) (all_more (with_change waiting c) (xs ++ c ∷ []) cs (changes_more waiting.bytes xs c are all.0) all.1)

pub count_more : (waiting : Waiting) (cs : List LoggedChange) → (with_changes waiting cs).count ≡ waiting.count + length cs
count_more waiting [] = omega arith
count_more waiting (c ∷ cs) = omega (arith, count_more (with_change waiting c) cs)

pub full_length : (place : Place) (page : List ℕ) → length page ≡ PAGE_SIZE → length (bytes_of (FullPage place page)) ≡ 8198
unfolding bytes_of
full_length place page whole = omega (arith, whole, length-append (place_bytes place) page)

pub bytes_more : (waiting : Waiting) (marked : Bool) (place : Place) (page : List ℕ) (change : LoggedChange) → length page ≡ PAGE_SIZE
    → length (with_changes waiting (logged_for (marked || is_anew change) place page change)).bytes ≡ length waiting.bytes + bytes_for marked change
bytes_more waiting marked place page change whole = by (marked || is_anew change)
  where
    by : (begun : Bool) → length (with_changes waiting (logged_for begun place page change)).bytes ≡ length waiting.bytes + (cond begun 0 8198 + length (bytes_of change))
    by true = omega (arith, length-append waiting.bytes (bytes_of change))
    by false = omega (arith, full_length place page whole, length-append waiting.bytes (bytes_of (FullPage place page)), length-append (waiting.bytes ++ bytes_of (FullPage place page)) (bytes_of change))

anew_is : (c : LoggedChange) → is_anew c ≡ true → IsAnew c
anew_is (FullPage place bytes) e = tt
anew_is (PageStart place kind) e = tt
anew_is (RowPut place slot bytes) e = absurd (false≢true e)
anew_is (RowMark place slot deleter) e = absurd (false≢true e)
anew_is (RowsDrop place slots) e = absurd (false≢true e)
anew_is (TuplePut place slot bytes) e = absurd (false≢true e)
anew_is (TupleReplace place slot bytes) e = absurd (false≢true e)
anew_is (TupleDrop place slots) e = absurd (false≢true e)
anew_is (Evacuate place) e = absurd (false≢true e)
anew_is (MapPage place) e = absurd (false≢true e)
anew_is (MapSet place entry spot) e = absurd (false≢true e)
anew_is (MetaSet place maps) e = absurd (false≢true e)
anew_is (StatusSet place entry status) e = absurd (false≢true e)

logged_begins : (marked : Bool) (place : Place) (page : List ℕ) (change : LoggedChange) → (marked ≡ true) ⊎ BeginAnew (logged_for (marked || is_anew change) place page change)
logged_begins true place page change = inl refl
logged_begins false place page change = by (is_anew change) refl
  where
    by : (b : Bool) → is_anew change ≡ b → (false ≡ true) ⊎ BeginAnew (logged_for b place page change)
    by true e = inr (anew_is change e)
    by false e = inr tt

logged_at : (begun : Bool) (place : Place) (page : List ℕ) (change : LoggedChange) → place_of change ≡ place → AreAt place (logged_for begun place page change)
logged_at true place page change own = (own, tt)
logged_at false place page change own = (refl, (own, tt))

logged_some : (begun : Bool) (place : Place) (page : List ℕ) (change : LoggedChange) → 0 < length (logged_for begun place page change)
logged_some true place page change = omega arith
logged_some false place page change = omega arith

-- What is shown at a place, whether the layout has it or not

pub at_agree : (layout : DiskLayout) (pool other : PoolState) (contents : List ℕ) (q : Place) → (IsPlace layout q → shown_page layout pool contents q ≡ shown_page layout other contents q)
    → page_at (shown_pages layout pool contents) q ≡ page_at (shown_pages layout other contents) q
at_agree layout pool other contents q agree =
    let one : PageMap = shown_pages layout pool contents in
    let two : PageMap = shown_pages layout other contents in
    let long : length one ≡ length (relation_blocks layout) = relations_in layout one (shown_whole layout pool contents) in
    let also : length two ≡ length (relation_blocks layout) = relations_in layout two (shown_whole layout other contents) in
    ⊎_elim
    (λ (low : q.relation < length (relation_blocks layout)). ⊎_elim
    (λ (small : q.block < block_limit layout q.relation).
    let is : IsPlace layout q = record { relation = low; block = small } in
    shown_at layout pool contents q is ∙ agree is ∙ sym (shown_at layout other contents q is))
    (λ (past : block_limit layout q.relation ≤ q.block).
    get_or_past (get_or one q.relation []) q.block unstarted_page (omega (arith, past, blocks_in layout one q.relation (shown_whole layout pool contents) (omega (arith, low, long))))
    ∙ sym (get_or_past (get_or two q.relation []) q.block unstarted_page (omega (arith, past, blocks_in layout two q.relation (shown_whole layout other contents) (omega (arith, low, also))))))
    (cases_lt q.block (block_limit layout q.relation)))
    (λ (past : length (relation_blocks layout) ≤ q.relation).
    ap (λ (l : List (List ℕ)). get_or l q.block unstarted_page) (get_or_past one q.relation [] (omega (arith, past, long)) ∙ sym (get_or_past two q.relation [] (omega (arith, past, also)))))
    (cases_lt q.relation (length (relation_blocks layout)))

-- The change is made

module _ (behind : GoesBehind) (layout : DiskLayout) (fill : PagesFillDisk layout) (log : Log) (old new : Touched) (disk : Told) (standing : IsStanding disk layout log old.pool old.marks old.waiting None)
    (place : Place) (is : IsPlace layout place) (change : LoggedChange) (own : place_of change ≡ place) (low : page_number layout place < length old.marks)
    (room : HasRoom log old.waiting (bytes_for (is_marked old.marks layout place) change))
    (makes : MakesHeld (form_of layout place.relation) place (page_number layout place) (log.used + 1) change old new) where
  abbrev number : ℕ
  number = page_number layout place

  abbrev made : HeldPage
  made = record { content = makes.redoes.after; log = Some (log.used + 1) }

  abbrev cs : List LoggedChange
  cs = logged_for (is_marked old.marks layout place || is_anew change) place makes.redoes.before.content change

  pub put_own : held_at new.pool number ≡ Some made
  put_own = ap (λ (p : PoolState). held_at p (page_number layout place)) makes.redoes.is ∙ put_here old.pool (page_number layout place) (record { content = makes.redoes.after; log = Some (log.used + 1) })

  pub put_else : (q : ℕ) → q ≢ number → held_at new.pool q ≡ held_at old.pool q
  put_else q apart = ap (λ (p : PoolState). held_at p q) makes.redoes.is ∙ put_apart old.pool (page_number layout place) q (record { content = makes.redoes.after; log = Some (log.used + 1) }) apart

  apart_of : (q : Place) → IsPlace layout q → q ≢ place → page_number layout q ≢ page_number layout place
  apart_of q isq other same = other (one_number layout fill q place isq is same)

  shown_own : shown_page layout new.pool disk.contents place ≡ makes.redoes.after
  shown_own = ap (λ (o : Option HeldPage). unwrap_or (option_map (λ (h : HeldPage). h.content) o) (disk_page layout disk.contents place)) put_own

  shown_was : shown_page layout old.pool disk.contents place ≡ makes.redoes.before.content
  shown_was = ap (λ (o : Option HeldPage). unwrap_or (option_map (λ (h : HeldPage). h.content) o) (disk_page layout disk.contents place)) makes.redoes.was

  shown_else : (q : Place) → IsPlace layout q → q ≢ place → shown_page layout new.pool disk.contents q ≡ shown_page layout old.pool disk.contents q
  shown_else q isq other = ap (λ (o : Option HeldPage). unwrap_or (option_map (λ (h : HeldPage). h.content) o) (disk_page layout disk.contents q)) (put_else (page_number layout q) (apart_of q isq other))

  at_own_place : page_at (shown_pages layout new.pool disk.contents) place ≡ makes.redoes.after
  at_own_place = shown_at layout new.pool disk.contents place is ∙ shown_own

  at_was : page_at (shown_pages layout old.pool disk.contents) place ≡ makes.redoes.before.content
  at_was = shown_at layout old.pool disk.contents place is ∙ shown_was

  pub make_changed : Changed layout place (change ∷ []) (shown_pages layout old.pool disk.contents) (shown_pages layout new.pool disk.contents)
  make_changed = record {
    redone = subst (λ (p : List ℕ). Redone (form_of layout place.relation) p (change ∷ []) (page_at (shown_pages layout new.pool disk.contents) place)) (sym at_was)
        (subst (Redone (form_of layout place.relation) makes.redoes.before.content (change ∷ [])) (sym at_own_place) makes.redoes.redone);
    others = λ q other. at_agree layout new.pool old.pool disk.contents q (λ isq. shown_else q isq other);
  }

  pub mark_own : is_marked new.marks layout place ≡ true
  mark_own = ap (λ (l : List Bool). is_marked l layout place) makes.marks ∙ get_or-set_same old.marks (page_number layout place) true false low

  mark_else : (q : Place) → IsPlace layout q → q ≢ place → is_marked new.marks layout q ≡ is_marked old.marks layout q
  mark_else q isq other = ap (λ (l : List Bool). is_marked l layout q) makes.marks ∙ get_or-set_other old.marks (page_number layout place) (page_number layout q) true false (apart_of q isq other)

  -- what is held then
  held_now : (q : ℕ) (h : HeldPage) → held_at new.pool q ≡ Some h → ((q ≡ number) × (h ≡ made)) ⊎ ((q ≢ number) × (held_at old.pool q ≡ Some h))
  held_now q h got = ⊎_elim
      (λ (e : q ≡ page_number layout place). inl (e, same_Some h (record { content = makes.redoes.after; log = Some (log.used + 1) }) (sym got ∙ ap (held_at new.pool) e ∙ put_own)))
      (λ (apart : q ≢ page_number layout place). inr (apart, sym (put_else q apart) ∙ got))
      (cases_eq q (page_number layout place))

  pub length_now : length new.waiting.bytes ≡ length old.waiting.bytes + bytes_for (is_marked old.marks layout place) change
  length_now =
      let page = standing.held (page_number layout place) makes.redoes.before makes.redoes.was in
      ap (λ (w : Waiting). length w.bytes) makes.waiting ∙ bytes_more old.waiting (is_marked old.marks layout place) place makes.redoes.before.content change page.whole

  pub make_standing : new.pool.frames ≡ old.pool.frames → IsStanding disk layout log new.pool new.marks new.waiting None
  make_standing frames = record {
    size = standing.size;
    area = standing.area;
    frames = frames ∙ standing.frames;
    marked = ap (λ (l : List Bool). 8192 * length l) makes.marks ∙ ap (λ (n : ℕ). 8192 * n) (length-set old.marks (page_number layout place) true) ∙ standing.marked;
    room = λ some. omega (arith, room.area, length_now);
    held = λ q h got. ⊎_elim
        (λ (now : (q ≡ page_number layout place) × (h ≡ record { content = makes.redoes.after; log = Some (log.used + 1) })).
        record { place = place; is = is; number = sym now.0; whole = subst (λ (x : HeldPage). length x.content ≡ PAGE_SIZE) (sym now.1) makes.redoes.whole; passes = subst (λ (x : HeldPage). IsPageIn layout place.relation x.content) (sym now.1) makes.redoes.passes })
        (λ (was : (q ≢ page_number layout place) × (held_at old.pool q ≡ Some h)). standing.held q h was.1)
        (held_now q h got);
    waits = λ q waits h got log_is. ⊎_elim
        (λ (now : (q ≡ page_number layout place) × (h ≡ record { content = makes.redoes.after; log = Some (log.used + 1) })).
        let e = same_Some waits (log.used + 1) (sym log_is ∙ ap (λ (x : HeldPage). x.log) now.1) in omega (arith, e))
        (λ (was : (q ≢ page_number layout place) × (held_at old.pool q ≡ Some h)). standing.waits q waits h was.1 log_is)
        (held_now q h got);
    checked = λ tells q isq. ⊎_elim
        (λ (e : q ≡ place). subst (λ (p : Place). IsPageIn layout p.relation (shown_page layout new.pool disk.contents p)) (sym e) (subst (IsPageIn layout place.relation) (sym shown_own) makes.redoes.passes))
        (λ (other : q ≢ place). subst (IsPageIn layout q.relation) (sym (shown_else q isq other)) (standing.checked tells q isq))
        (same_place q place);
    sound = λ none tells.
        let sound = standing.sound refl tells in
        record {
          changes = sound.changes ++ logged_for (is_marked old.marks layout place || is_anew change) place makes.redoes.before.content change;
          bytes = subst (λ (w : Waiting). AreChangesOf w.bytes (sound.changes ++ logged_for (is_marked old.marks layout place || is_anew change) place makes.redoes.before.content change)) (sym makes.waiting)
              (all_more old.waiting sound.changes (logged_for (is_marked old.marks layout place || is_anew change) place makes.redoes.before.content change) sound.bytes makes.changes);
          count = ap (λ (w : Waiting). w.count) makes.waiting ∙ count_more old.waiting (logged_for (is_marked old.marks layout place || is_anew change) place makes.redoes.before.content change)
              ∙ (let e = length-append sound.changes (logged_for (is_marked old.marks layout place || is_anew change) place makes.redoes.before.content change) in omega (arith, e, sound.count));
          pooled = record {
            clean = λ q h isq got log_is. ⊎_elim
                (λ (now : (page_number layout q ≡ page_number layout place) × (h ≡ record { content = makes.redoes.after; log = Some (log.used + 1) })). absurd (none_Some (log.used + 1) (sym log_is ∙ ap (λ (x : HeldPage). x.log) now.1)))
                (λ (was : (page_number layout q ≢ page_number layout place) × (held_at old.pool (page_number layout q) ≡ Some h)). sound.pooled.clean q h isq was.1 log_is)
                (held_now (page_number layout q) h got);
            dirty = λ q h waits isq got log_is. ⊎_elim
                (λ (e : q ≡ place). ap (is_marked new.marks layout) e ∙ mark_own)
                (λ (other : q ≢ place). mark_else q isq other ∙ sound.pooled.dirty q h waits isq (sym (put_else (page_number layout q) (apart_of q isq other)) ∙ got) log_is)
                (same_place q place);
            waits = λ q isq some. ⊎_elim
                (λ (e : q ≡ place). (record { content = makes.redoes.after; log = Some (log.used + 1) }, ap (λ (p : Place). held_at new.pool (page_number layout p)) e ∙ put_own, refl))
                (λ (other : q ≢ place).
                let none_more = at_other place q (logged_for (is_marked old.marks layout place || is_anew change) place makes.redoes.before.content change) (logged_at (is_marked old.marks layout place || is_anew change) place makes.redoes.before.content change own) other in
                let same = at_append q sound.changes (logged_for (is_marked old.marks layout place || is_anew change) place makes.redoes.before.content change) ∙ ap (λ (l : List LoggedChange). changes_at q sound.changes ++ l) none_more ∙ append-nil (changes_at q sound.changes) in
                let waits = sound.pooled.waits q isq (subst (λ (l : List LoggedChange). 0 < length l) same some) in
                (waits.0, put_else (page_number layout q) (apart_of q isq other) ∙ waits.1, waits.2))
                (same_place q place);
          };
          safe = λ image now.
              let safe = sound.safe image now in
              record {
                frames = safe.frames;
                done = safe.done;
                control = safe.control;
                stands = safe.stands;
                decoded = safe.decoded;
                rebuilds = subst (λ (l : List LoggedChange). Rebuilds layout new.marks l (shown_pages layout new.pool disk.contents) image) (append_assoc safe.done sound.changes (logged_for (is_marked old.marks layout place || is_anew change) place makes.redoes.before.content change))
                    (subst (λ (m : List Bool). Rebuilds layout m ((safe.done ++ sound.changes) ++ logged_for (is_marked old.marks layout place || is_anew change) place makes.redoes.before.content change) (shown_pages layout new.pool disk.contents) image) (sym makes.marks)
                    (rebuilds_more behind layout fill old.marks place is low (safe.done ++ sound.changes) (logged_for (is_marked old.marks layout place || is_anew change) place makes.redoes.before.content change)
                    (logged_at (is_marked old.marks layout place || is_anew change) place makes.redoes.before.content change own) (logged_some (is_marked old.marks layout place || is_anew change) place makes.redoes.before.content change)
                    (shown_pages layout old.pool disk.contents) (shown_pages layout new.pool disk.contents) image
                    (subst (λ (p : List ℕ). Redone (form_of layout place.relation) p (logged_for (is_marked old.marks layout place || is_anew change) place makes.redoes.before.content change) (page_at (shown_pages layout new.pool disk.contents) place)) (sym at_was)
                    (subst (Redone (form_of layout place.relation) makes.redoes.before.content (logged_for (is_marked old.marks layout place || is_anew change) place makes.redoes.before.content change)) (sym at_own_place) makes.redone))
                    (λ q isq other. shown_at layout new.pool disk.contents q isq ∙ shown_else q isq other ∙ sym (shown_at layout old.pool disk.contents q isq))
                    (logged_begins (is_marked old.marks layout place) place makes.redoes.before.content change) safe.rebuilds));
              };
        };
  }
