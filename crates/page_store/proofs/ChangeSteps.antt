-- the parts of a change of a page, one after the other
use Rattle.std.proofs.Common.{◌≡◌, ℕ, ◌≤◌, ◌+◌, ◌||◌, Bool, true, false, List, [], ◌∷◌, length, refl, sym, ap, subst, ◌∙◌, arith, length-append}
use Rattle.std.specs.Option.{option_map}
use Rattle.std.specs.Prelude.{IsTrue, Option, Some, None, Result, Ok, Err, IfErr, OnErr, OnOk, IsSome}
use Rattle.block_model.specs.declared.place.Place.{Place}
use Rattle.disk_trait.specs.Throughout.{Throughout}
use Rattle.disk_trait.specs.Told.{Told}
use Rattle.store_layout.specs.DiskLayout.{DiskLayout, IsPlace, page_offset}
use Rattle.wal_record.specs.Changes.{LoggedChange, PageStart}
use Rattle.wal_record.specs.ChangeBytes.{bytes_of, place_bytes}
use Rattle.recovery.specs.Redo.{Redone}
use Rattle.page_map.specs.Changed.{Changed, redone_once}
use Rattle.page_map.specs.declared.faults.StoreError.{StoreError}
use Rattle.page_map.specs.declared.faults.StoreError.TheVariants as errors
use Rattle.page_map.specs.Forms.{FitInTurn, FitsIn, form_of}
use Rattle.page_map.specs.Keeps.{Tells, Untold}
use Rattle.page_map.specs.Outcome.{NamesPage, Outcome}
use Rattle.page_map.specs.PageMap.{PageMap, View, page_at}
use Rattle.buffer_pool.specs.PoolState.{HeldPage, PoolState, held_at}
use Rattle.wal_record.specs.Waiting.{Waiting}
use Rattle.recovery.specs.Log.{Log}
use Rattle.page_store.specs.Contents.{HoldsAlike}
use Rattle.page_store.specs.KeptPages.{KeptPages, LeftStore}
use Rattle.page_store.specs.Made.{IsDamaged, IsOfDisk}
use Rattle.page_store.specs.Room.{HasRoom, IsLoggable, bytes_for, bytes_with}
use Rattle.recovery.specs.Reaches.{Reaches}

-- What is said of the pages after a call that changes none

module _ {D : Type 0} (told : D → Told) (old mid : View D) (keeps : KeptPages told old mid) (place : Place) where
  pub place_from : IsPlace old.layout place → IsPlace mid.layout place
  place_from is = subst (λ (l : DiskLayout). IsPlace l place) (sym keeps.leaves.layout) is

  pub fits_from : (change : LoggedChange) → (Tells told old → FitsIn old.layout place.relation (page_at old.pages place) change) → Tells told mid → FitsIn mid.layout place.relation (page_at mid.pages place) change
  fits_from change fits tells =
      let before : Tells told old = sym keeps.leaves.tells ∙ tells in
      subst (λ (m : PageMap). FitsIn mid.layout place.relation (page_at m place) change) (sym (keeps.pages before))
      (subst (λ (l : DiskLayout). FitsIn l place.relation (page_at old.pages place) change) (sym keeps.leaves.layout) (fits before))

  pub turn_from : (changes : List LoggedChange) → (Tells told old → FitInTurn (form_of old.layout place.relation) (page_at old.pages place) changes) → Tells told mid → FitInTurn (form_of mid.layout place.relation) (page_at mid.pages place) changes
  turn_from changes fits tells =
      let before : Tells told old = sym keeps.leaves.tells ∙ tells in
      subst (λ (m : PageMap). FitInTurn (form_of mid.layout place.relation) (page_at m place) changes) (sym (keeps.pages before))
      (subst (λ (l : DiskLayout). FitInTurn (form_of l place.relation) (page_at old.pages place) changes) (sym keeps.leaves.layout) (fits before))

  pub untold_from : Untold told mid → Untold told old
  untold_from untold tells = untold (keeps.leaves.tells ∙ tells)

  pub changed_from : (new : View D) (changes : List LoggedChange) → (Tells told mid → Changed mid.layout place changes mid.pages new.pages) → Tells told old → Changed old.layout place changes old.pages new.pages
  changed_from new changes changed tells =
      subst (λ (m : PageMap). Changed old.layout place changes m new.pages) (keeps.pages tells)
      (subst (λ (l : DiskLayout). Changed l place changes mid.pages new.pages) keeps.leaves.layout (changed (keeps.leaves.tells ∙ tells)))

  pub made_changed : {T : Type 0} (new : View D) (changes : List LoggedChange) (result : Result T StoreError) → OnOk result (Tells told mid → Changed mid.layout place changes mid.pages new.pages) → OnOk result (Tells told old → Changed old.layout place changes old.pages new.pages)
  made_changed new changes (Ok value) changed = changed_from new changes changed
  made_changed new changes (Err error) changed = tt

  pub made_at : {T : Type 0} (result : Result T StoreError) → IfErr result (IsDamaged mid.layout place) → IfErr result (λ error. NamesPage old.layout place error)
  made_at (Ok value) damaged = tt
  made_at (Err errors.Disk) damaged = tt
  made_at (Err (errors.Reopen faults)) damaged = tt
  made_at (Err (errors.Damaged at)) damaged = damaged ∙ ap (λ (l : DiskLayout). page_offset l place) keeps.leaves.layout

  pub damaged_at : (error : StoreError) → IsDamaged mid.layout place error → NamesPage old.layout place error
  damaged_at errors.Disk damaged = tt
  damaged_at (errors.Reopen faults) damaged = tt
  damaged_at (errors.Damaged at) damaged = damaged ∙ ap (λ (l : DiskLayout). page_offset l place) keeps.leaves.layout

-- a call that tells that the disk doesn't tell its contents changes no page that is told
pub untold_keeps : {D : Type 0} (told : D → Told) (old new : View D) → LeftStore told old new → Untold told old → KeptPages told old new
untold_keeps told old new leaves untold = record { leaves = leaves; pages = λ tells. absurd (untold tells) }

pub made_kept : {D T : Type 0} (told : D → Told) (old mid new : View D) → KeptPages told old mid → LeftStore told old new → (result : Result T StoreError) → OnErr result (Untold told mid) → OnErr result (KeptPages told old new)
made_kept told old mid new keeps leaves (Ok value) untold = tt
made_kept told old mid new keeps leaves (Err error) untold = untold_keeps told old new leaves (λ tells. untold (keeps.leaves.tells ∙ tells))

pub disk_at : (layout : DiskLayout) (place : Place) (error : StoreError) → IsOfDisk error → NamesPage layout place error
disk_at layout place errors.Disk is = tt
disk_at layout place (errors.Reopen faults) is = tt
disk_at layout place (errors.Damaged at) is = absurd is

-- damage that is told where the disk doesn't tell its contents has its cause
pub damage_outcome : {D : Type 0} (T : Type 0) (told : D → Told) (old new : View D) (layout : DiskLayout) (place : Place) (error : StoreError) → old.failed ≡ None → new.failed ≡ None → (told old.disk).faults ≤ (told new.disk).faults → IsDamaged layout place error → Untold told old → Outcome {T = T} told (Untold told old) old new (Err error)
damage_outcome T told old new layout place errors.Disk was is faults damaged untold = absurd damaged
damage_outcome T told old new layout place (errors.Reopen n) was is faults damaged untold = absurd damaged
damage_outcome T told old new layout place (errors.Damaged at) was is faults damaged untold = (was, is, faults, untold)

pub made_outcome : {D : Type 0} (T : Type 0) (told : D → Told) (old new : View D) (layout : DiskLayout) (place : Place) (result : Result T StoreError) → old.failed ≡ None → new.failed ≡ None → (told old.disk).faults ≤ (told new.disk).faults → IfErr result (IsDamaged layout place) → OnErr result (Untold told old) → Outcome told (Untold told old) old new result
made_outcome T told old new layout place (Ok value) was is faults damaged untold = (was, is, faults)
made_outcome T told old new layout place (Err error) was is faults damaged untold = damage_outcome T told old new layout place error was is faults damaged untold

-- What is held, and the room

pub alike_held : (old new : PoolState) → HoldsAlike old new → (number : ℕ) → IsSome (held_at old number) → IsSome (held_at new number)
alike_held old new alike number some = held_by (held_at old number) (held_at new number) (alike number) some
  where
    held_by : (was is : Option HeldPage) → option_map (λ held. held.content) is ≡ option_map (λ held. held.content) was → IsSome was → IsSome is
    held_by (Some page) (Some other) same some = refl
    held_by (Some page) None same some = absurd cc
    held_by None is same some = absurd cc

pub room_for : (log : Log) (waiting : Waiting) (more less : ℕ) → less ≤ more → HasRoom log waiting more → HasRoom log waiting less
room_for log waiting more less few room = record { buffer = omega (arith, few, room.buffer); area = omega (arith, few, room.area) }

-- the start of a page can be logged
pub start_length : (place : Place) (kind : ℕ) → length (bytes_of (PageStart place kind)) ≡ 7
unfolding bytes_of
start_length place kind = omega (arith, length-append (place_bytes place) (kind ∷ []))

pub start_loggable : (place : Place) (kind : ℕ) → IsLoggable (PageStart place kind)
start_loggable place kind = record { sizes = tt; few = omega (arith, start_length place kind) }

-- Two changes, one after the other

pub changed_twice : (layout : DiskLayout) (place : Place) (first second : LoggedChange) (old mid new : PageMap) → Changed layout place (first ∷ []) old mid → Changed layout place (second ∷ []) mid new → Changed layout place (first ∷ second ∷ []) old new
changed_twice layout place first second old mid new one two = record {
  redone = (one.redone.0, one.redone.1, one.redone.2, one.redone.3, subst (λ (p : List ℕ). Redone (form_of layout place.relation) p (second ∷ []) (page_at new place)) one.redone.4 two.redone);
  others = λ other apart. two.others other apart ∙ one.others other apart;
}

-- the second change fits the page that the first one makes
pub second_fits : (layout : DiskLayout) (place : Place) (first second : LoggedChange) (old mid : PageMap) → FitInTurn (form_of layout place.relation) (page_at old place) (first ∷ second ∷ []) → Changed layout place (first ∷ []) old mid → FitsIn layout place.relation (page_at mid place) second
second_fits layout place first second old mid turn one =
    (turn.1 (page_at mid place) (redone_once (form_of layout place.relation) (page_at old place) first (page_at mid place) one.redone)).0

-- two changes in memory
pub twice_leaves : {D : Type 0} (told : D → Told) (old mid new : View D) → LeftStore told old mid → mid.disk ≡ old.disk → LeftStore told mid new → new.disk ≡ mid.disk → LeftStore told old new
twice_leaves {D} told old mid new first kept second still = record {
  layout = second.layout ∙ first.layout;
  tells = second.tells ∙ first.tells;
  faults = omega (arith, second.faults, first.faults);
  survives = record {
    moments = subst (λ (d : D). Throughout (told old.disk) (told d) (Reaches old.layout (told old.disk) old.pages)) (sym still) first.survives.moments;
    images = subst (λ (d : D). (image : List ℕ) → IsTrue ((told d).now image) → Reaches old.layout (told old.disk) old.pages image) (sym still) first.survives.images;
    seen = first.survives.seen;
  };
}

-- what is said of the second change is said of both

pub untold_back : {D T : Type 0} (told : D → Told) (old mid : View D) → (told mid.disk).tells_contents ≡ (told old.disk).tells_contents → (result : Result T StoreError) → OnErr result (Untold told mid) → OnErr result (Untold told old)
untold_back told old mid same (Ok value) untold = tt
untold_back told old mid same (Err error) untold = λ tells. untold (same ∙ tells)

pub damage_back : {T : Type 0} (old mid : DiskLayout) (place : Place) → mid ≡ old → (result : Result T StoreError) → IfErr result (IsDamaged mid place) → IfErr result (IsDamaged old place)
damage_back old mid place same result damaged = subst (λ (l : DiskLayout). IfErr result (IsDamaged l place)) same damaged

pub turn_changed : {D T : Type 0} (told : D → Told) (old room first new : View D) → KeptPages told old room → (place : Place) (start change : LoggedChange) (result : Result T StoreError) → first.layout ≡ room.layout → (told first.disk).tells_contents ≡ (told room.disk).tells_contents
    → (Tells told room → Changed room.layout place (start ∷ []) room.pages first.pages) → OnOk result (Tells told first → Changed first.layout place (change ∷ []) first.pages new.pages) → OnOk result (Tells told old → Changed old.layout place (start ∷ change ∷ []) old.pages new.pages)
turn_changed told old room first new keeps place start change (Ok value) layout same one two =
    changed_from told old room keeps place new (start ∷ change ∷ [])
    (λ tells. changed_twice room.layout place start change room.pages first.pages new.pages (one tells) (subst (λ (l : DiskLayout). Changed l place (change ∷ []) first.pages new.pages) layout (two (same ∙ tells))))
turn_changed told old room first new keeps place start change (Err error) layout same one two = tt

-- the room of both is that of each

begun_or : (b : Bool) → (b || true) ≡ true
begun_or true = refl
begun_or false = refl

pub room_start : (log : Log) (waiting : Waiting) (marked : Bool) (place : Place) (kind size : ℕ) → HasRoom log waiting (bytes_with (marked || true) (7 + size)) → HasRoom log waiting (bytes_for marked (PageStart place kind))
room_start log waiting marked place kind size room =
    let all : HasRoom log waiting (0 + (7 + size)) = subst (λ (b : Bool). HasRoom log waiting (bytes_with b (7 + size))) (begun_or marked) room in
    subst (λ (b : Bool). HasRoom log waiting (bytes_with b (length (bytes_of (PageStart place kind))))) (sym (begun_or marked))
    (room_for log waiting (0 + (7 + size)) (0 + length (bytes_of (PageStart place kind))) (omega (arith, start_length place kind)) all)

pub room_second : (log after : Log) (waiting more : Waiting) (marked begun : Bool) (place : Place) (kind : ℕ) (change : LoggedChange) (size : ℕ) → size ≡ length (bytes_of change) → HasRoom log waiting (bytes_with (marked || true) (7 + size)) → after ≡ log
    → length more.bytes ≡ length waiting.bytes + bytes_for marked (PageStart place kind) → begun ≡ true → HasRoom after more (bytes_for begun change)
room_second log after waiting more marked begun place kind change size long room same grown is =
    let all : HasRoom log waiting (0 + (7 + size)) = subst (λ (b : Bool). HasRoom log waiting (bytes_with b (7 + size))) (begun_or marked) room in
    let own : bytes_for marked (PageStart place kind) ≡ 0 + length (bytes_of (PageStart place kind)) = ap (λ (b : Bool). bytes_with b (length (bytes_of (PageStart place kind)))) (begun_or marked) in
    let seven : bytes_for marked (PageStart place kind) ≡ 7 = omega (arith, own, start_length place kind) in
    subst (λ (l : Log). HasRoom l more (bytes_for begun change)) (sym same)
    (subst (λ (b : Bool). HasRoom log more (bytes_for b change)) (sym is)
    (record { buffer = omega (arith, all.buffer, grown, seven, long); area = omega (arith, all.area, grown, seven, long) }))
