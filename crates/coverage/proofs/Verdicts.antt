-- A verdict is one alone, and there always is one.
use Rattle.std.proofs.Common.{◌≡◌, ◌≢◌, ◌⊎◌, inl, inr, ⊎_elim, ℕ, ◌≤◌, ◌<◌, Option, Some, None, sym, ◌∙◌, ap, subst, arith, suc}
use Rattle.std.proofs.lemmas.Option.{same_Some, none-some}
use Rattle.std.proofs.lemmas.Bool.{cases_eq}
use Rattle.std.specs.Prelude.{refl, List, [], ◌∷◌, length}
use Rattle.std.proofs.Math.Nat.{le_antisymm, not-le_of_lt}
use Rattle.block_model.specs.declared.place.Spot.{Spot}
use Rattle.coverage.specs.IndexView.{IndexTuple, PageKind, Unstarted, Regular, IndexView, map_page_of}
use Rattle.coverage.specs.Changes.{IsFree}
use Rattle.coverage.specs.Verdicts.{IsLocked, IsFirstLocked, First, Later, IsLowestNumber, PageHasRoom, IsPageUnstarted, IsTarget, OnStarted, OnNew, IsFreeSlot}
use Rattle.coverage.specs.Verdicts.{HasFreeSlots, IsTargetPlace, Verdict, Waits, Differs, Fits, Puts, Full, PutVerdict, NoTarget, PutWaits, PutGoes, MustMove}
use Rattle.coverage.specs.Verdicts.{SwapVerdict, SwapWaits, SwapDiffers, SwapFits, SwapMoves, ClearVerdict, ClearWaits, ClearDiffers, ClearFits}
use Rattle.coverage.specs.PageOrder.{AreOrdered}
use Rattle.coverage.specs.Rooms.{bytes_of, place_room, page_room}
use Rattle.coverage.proofs.Numbers.{lt_or_ge, lowest_below}

pub free_not_locked : (w : IndexView) (s p : ℕ) → IsFree w.lock s p → IsLocked w.lock s p → ⊥
free_not_locked w s p free locked = locked.2 (free locked.0 locked.1)

pub locked_or_free : (w : IndexView) (s p : ℕ) → IsLocked w.lock s p ⊎ IsFree w.lock s p
locked_or_free w s p = by (w.lock p) refl
  where
    by : (o : Option ℕ) → w.lock p ≡ o → IsLocked w.lock s p ⊎ IsFree w.lock s p
    by None none = inr (λ n is. absurd (none-some _ (sym none ∙ is)))
    by (Some n) locked = ⊎_elim
        (λ (own : n ≡ s). inr (λ m is. same_Some _ _ (sym is ∙ locked) ∙ own))
        (λ (other : n ≢ s). inl (n, locked, other))
        (cases_eq n s)

lowest_once : (Is : ℕ → Type 0) (p q : ℕ) → IsLowestNumber Is p → IsLowestNumber Is q → p ≡ q
lowest_once Is p q one two = le_antisymm (one.1 q two.0) (two.1 p one.0)

target_once : (w : IndexView) (need p q : ℕ) → IsTarget w.pages (bytes_of w.tuple) need p → IsTarget w.pages (bytes_of w.tuple) need q → p ≡ q
target_once w need p q (OnStarted one) (OnStarted two) = lowest_once (PageHasRoom w.pages (bytes_of w.tuple) need) p q one two
target_once w need p q (OnStarted one) (OnNew none two below) = absurd (none p one.0)
target_once w need p q (OnNew none one below) (OnStarted two) = absurd (none q two.0)
target_once w need p q (OnNew none one below) (OnNew none' two below') = lowest_once (IsPageUnstarted w.pages) p q one two

pub first_locked_once : (w : IndexView) (s : ℕ) (pages : List ℕ) (p q : ℕ) → IsFirstLocked w.lock s pages p → IsFirstLocked w.lock s pages q → p ≡ q
first_locked_once w s _ p q (First m more one) (First m' more' two) = refl
first_locked_once w s _ p q (First m more one) (Later m' q' more' free two) = absurd (free_not_locked w s m free one)
first_locked_once w s _ p q (Later m p' more free one) (First m' more' two) = absurd (free_not_locked w s m free two)
first_locked_once w s _ p q (Later m p' more free one) (Later m' q' more' free' two) = first_locked_once w s more p q one two

-- what is free isn't the first locked page
pub both_free : (w : IndexView) (s p m q : ℕ) → IsFree w.lock s p → IsFree w.lock s m → IsFirstLocked w.lock s (p ∷ m ∷ []) q → ⊥
both_free w s p m q one two (First _ _ locked) = free_not_locked w s p one locked
both_free w s p m q one two (Later _ _ _ _ (First _ _ locked)) = free_not_locked w s m two locked
both_free w s p m q one two (Later _ _ _ _ (Later _ _ _ _ none)) = elim none [ ]

place_once : (w : IndexView) (need : ℕ) (y z : Spot) → IsTargetPlace w.pages w.tuple need y → IsTargetPlace w.pages w.tuple need z → y ≡ z
place_once w need y z one two =
    let block : y.block ≡ z.block = target_once w need y.block z.block one.0 two.0 in
    let slot : y.slot ≡ z.slot =
    lowest_once (IsFreeSlot w.tuple y.block) y.slot z.slot one.1 (subst (λ p. IsLowestNumber (IsFreeSlot w.tuple p) z.slot) (sym block) two.1) in
    λ i. record { block = block i; slot = slot i }

pub put_once : (w : IndexView) (s range need : ℕ) (p q : Verdict) → PutVerdict w s range need p → PutVerdict w s range need q → p ≡ q
put_once w s range need _ _ (NoTarget none) (NoTarget none') = refl
put_once w s range need _ _ (NoTarget none) (PutWaits p q target locked) = absurd (none p target)
put_once w s range need _ _ (NoTarget none) (PutGoes y target free map) = absurd (none y.block target.0)
put_once w s range need _ _ (PutWaits p q target locked) (NoTarget none) = absurd (none p target)
put_once w s range need _ _ (PutWaits p q target locked) (PutWaits p' q' target' locked') =
    ap Waits (first_locked_once w s (p ∷ map_page_of range ∷ []) q q' locked
    (subst (λ m. IsFirstLocked w.lock s (m ∷ map_page_of range ∷ []) q') (target_once w need p' p target' target) locked'))
put_once w s range need _ _ (PutWaits p q target locked) (PutGoes y target' free map) =
    absurd (both_free w s y.block (map_page_of range) q free map
    (subst (λ m. IsFirstLocked w.lock s (m ∷ map_page_of range ∷ []) q) (target_once w need p y.block target target'.0) locked))
put_once w s range need _ _ (PutGoes y target free map) (NoTarget none) = absurd (none y.block target.0)
put_once w s range need _ _ (PutGoes y target free map) (PutWaits p q target' locked) =
    absurd (both_free w s y.block (map_page_of range) q free map
    (subst (λ m. IsFirstLocked w.lock s (m ∷ map_page_of range ∷ []) q) (target_once w need p y.block target' target.0) locked))
put_once w s range need _ _ (PutGoes y target free map) (PutGoes z target' free' map') = ap Puts (place_once w need y z target target')

abbrev IsNotStarted : PageKind → Type 0
IsNotStarted Unstarted = Unit
IsNotStarted kind = ⊥

-- a tuple is put at a free place of a page past the map that has room and isn't being emptied, or of one that isn't started
pub put_place : (w : IndexView) (s range need : ℕ) (y : Spot) → PutVerdict w s range need (Puts y) → (w.tuple y ≡ None)
    × (((w.pages.map_pages < y.block) × (w.pages.kind y.block ≡ Regular) × (need ≤ page_room (bytes_of w.tuple) y.block))
    ⊎ ((w.pages.kind y.block ≡ Unstarted) × (y.block < w.pages.limit)))
put_place w s range need y (PutGoes _ place free map) = (place.1.0, by place.0)
  where
    by : IsTarget w.pages (bytes_of w.tuple) need y.block → ((w.pages.map_pages < y.block) × (w.pages.kind y.block ≡ Regular) × (need ≤ page_room (bytes_of w.tuple) y.block))
        ⊎ ((w.pages.kind y.block ≡ Unstarted) × (y.block < w.pages.limit))
    by (OnStarted lowest) = inl lowest.0
    by (OnNew none lowest below) = inr (lowest.0, below)

-- where the pages are in order, that place lies past the map and below the limit
pub put_past_map : (w : IndexView) (s range need : ℕ) (y : Spot) → AreOrdered w → PutVerdict w s range need (Puts y)
    → (w.pages.map_pages < y.block) × (y.block < w.pages.limit)
put_past_map w s range need y ordered verdict = ⊎_elim
    (λ (started : (w.pages.map_pages < y.block) × (w.pages.kind y.block ≡ Regular) × (need ≤ page_room (bytes_of w.tuple) y.block)).
    (started.0, ordered.below y.block (λ is. subst IsNotStarted (sym is ∙ started.1) tt)))
    (λ (next : (w.pages.kind y.block ≡ Unstarted) × (y.block < w.pages.limit)). (
      elim (lt_or_ge w.pages.map_pages y.block) [ inl past ↦ past | inr inside ↦ absurd (subst IsNotStarted (sym next.0 ∙ ordered.map y.block inside) tt) ],
      next.1,
    ))
    (put_place w s range need y verdict).1

-- what fits in its place needn't move
fits_or_moves : (w : IndexView) (x : Spot) (new : IndexTuple) → w.pages.kind x.block ≡ Regular → length new.bytes ≤ place_room (bytes_of w.tuple) x
    → MustMove w.pages (bytes_of w.tuple) x (length new.bytes)
    → ⊥
fits_or_moves w x new regular room must = elim must [ inl other ↦ other regular | inr tight ↦ not-le_of_lt tight room ]

pub swap_once : (w : IndexView) (s range : ℕ) (x : Spot) (old new : IndexTuple) (p q : Verdict) → SwapVerdict w s range x old new p
    → SwapVerdict w s range x old new q → p ≡ q
swap_once w s range x old new _ _ (SwapWaits locked) (SwapDiffers free not) = absurd (free_not_locked w s x.block free locked)
swap_once w s range x old new _ _ (SwapWaits locked) (SwapFits free here kind room) = absurd (free_not_locked w s x.block free locked)
swap_once w s range x old new _ q (SwapWaits locked) (SwapMoves verdict free here must puts) = absurd (free_not_locked w s x.block free locked)
swap_once w s range x old new _ _ (SwapDiffers free not) (SwapWaits locked) = absurd (free_not_locked w s x.block free locked)
swap_once w s range x old new _ _ (SwapDiffers free not) (SwapFits free' here kind room) = absurd (not here)
swap_once w s range x old new _ q (SwapDiffers free not) (SwapMoves verdict free' here must puts) = absurd (not here)
swap_once w s range x old new _ _ (SwapFits free here kind room) (SwapWaits locked) = absurd (free_not_locked w s x.block free locked)
swap_once w s range x old new _ _ (SwapFits free here kind room) (SwapDiffers free' not) = absurd (not here)
swap_once w s range x old new _ q (SwapFits free here kind room) (SwapMoves verdict free' here' must puts) = absurd (fits_or_moves w x new kind room must)
swap_once w s range x old new p _ (SwapMoves verdict free here must puts) (SwapWaits locked) = absurd (free_not_locked w s x.block free locked)
swap_once w s range x old new p _ (SwapMoves verdict free here must puts) (SwapDiffers free' not) = absurd (not here)
swap_once w s range x old new p _ (SwapMoves verdict free here must puts) (SwapFits free' here' kind room) = absurd (fits_or_moves w x new kind room must)
swap_once w s range x old new p q (SwapMoves verdict free here must puts) (SwapMoves verdict' free' here' must' puts') =
    put_once w s range (length new.bytes) p q puts puts'
swap_once w s range x old new _ _ _ _ = refl

pub clear_once : (w : IndexView) (s range : ℕ) (x : Spot) (p q : Verdict) → ClearVerdict w s range x p → ClearVerdict w s range x q → p ≡ q
clear_once w s range x _ _ (ClearWaits q locked) (ClearWaits q' locked') =
    ap Waits (first_locked_once w s (x.block ∷ map_page_of range ∷ []) q q' locked locked')
clear_once w s range x _ _ (ClearWaits q locked) (ClearDiffers free map not) = absurd (both_free w s x.block (map_page_of range) q free map locked)
clear_once w s range x _ _ (ClearWaits q locked) (ClearFits free map is) = absurd (both_free w s x.block (map_page_of range) q free map locked)
clear_once w s range x _ _ (ClearDiffers free map not) (ClearWaits q locked) = absurd (both_free w s x.block (map_page_of range) q free map locked)
clear_once w s range x _ _ (ClearDiffers free map not) (ClearDiffers free' map' not') = refl
clear_once w s range x _ _ (ClearDiffers free map not) (ClearFits free' map' is) = absurd (not is)
clear_once w s range x _ _ (ClearFits free map is) (ClearWaits q locked) = absurd (both_free w s x.block (map_page_of range) q free map locked)
clear_once w s range x _ _ (ClearFits free map is) (ClearDiffers free' map' not) = absurd (not is)
clear_once w s range x _ _ (ClearFits free map is) (ClearFits free' map' is') = refl

-- a page that is waited for is one that another session locks
pub first_is_locked : (w : IndexView) (s : ℕ) (pages : List ℕ) (p : ℕ) → IsFirstLocked w.lock s pages p → IsLocked w.lock s p
first_is_locked w s _ p (First _ more locked) = locked
first_is_locked w s _ p (Later q _ more free later) = first_is_locked w s more p later

pub put_waits : (w : IndexView) (s range need p : ℕ) → PutVerdict w s range need (Waits p) → IsLocked w.lock s p
put_waits w s range need p (PutWaits q _ target locked) = first_is_locked w s (q ∷ map_page_of range ∷ []) p locked

pub swap_waits : (w : IndexView) (s range : ℕ) (x : Spot) (old new : IndexTuple) (p : ℕ) → SwapVerdict w s range x old new (Waits p) → IsLocked w.lock s p
swap_waits w s range x old new _ (SwapWaits locked) = locked
swap_waits w s range x old new p (SwapMoves _ free here must puts) = put_waits w s range (length new.bytes) p puts

pub swap_differs : (w : IndexView) (s range : ℕ) (x : Spot) (old new : IndexTuple) → SwapVerdict w s range x old new Differs → w.tuple x ≢ Some old
swap_differs w s range x old new (SwapDiffers free other) = other
swap_differs w s range x old new (SwapMoves _ free here must puts) = elim puts [ ]

pub clear_waits : (w : IndexView) (s range p : ℕ) (x : Spot) → ClearVerdict w s range x (Waits p) → IsLocked w.lock s p
clear_waits w s range p x (ClearWaits _ locked) = first_is_locked w s (x.block ∷ map_page_of range ∷ []) p locked

pub clear_differs : (w : IndexView) (s range : ℕ) (x : Spot) → ClearVerdict w s range x Differs → w.entry range ≢ Some x
clear_differs w s range x (ClearDiffers free map other) = other

-- of two pages, the first one that another session locks, or none
pub two_pages : (w : IndexView) (s p m : ℕ) → ((q : ℕ) × IsFirstLocked w.lock s (p ∷ m ∷ []) q) ⊎ (IsFree w.lock s p × IsFree w.lock s m)
two_pages w s p m = ⊎_elim
    (λ (locked : IsLocked w.lock s p). inl (p, First p (m ∷ []) locked))
    (λ (free : IsFree w.lock s p). ⊎_elim
    (λ (locked : IsLocked w.lock s m). inl (m, Later p m (m ∷ []) free (First m [] locked)))
    (λ (free' : IsFree w.lock s m). inr (free, free'))
    (locked_or_free w s m))
    (locked_or_free w s p)

slot_decides : (w : IndexView) (p k : ℕ) → IsFreeSlot w.tuple p k ⊎ (IsFreeSlot w.tuple p k → ⊥)
slot_decides w p k = by (w.tuple (record { block = p; slot = k })) refl
  where
    by : (o : Option IndexTuple) → w.tuple (record { block = p; slot = k }) ≡ o → IsFreeSlot w.tuple p k ⊎ (IsFreeSlot w.tuple p k → ⊥)
    by None none = inl none
    by (Some t) here = inr (λ none. none-some _ (sym none ∙ here))

module _ (w : IndexView) (slots : HasFreeSlots w.tuple) where
  lowest_slot : (p : ℕ) → (k : ℕ) × IsLowestNumber (IsFreeSlot w.tuple p) k
  lowest_slot p = ⊎_elim
      (λ (none : (i : ℕ) → i < suc (slots p).0 → IsFreeSlot w.tuple p i → ⊥). absurd (none (slots p).0 (omega arith) (slots p).1))
      (λ (one : (i : ℕ) × IsFreeSlot w.tuple p i × ((j : ℕ) → IsFreeSlot w.tuple p j → i ≤ j)). (one.0, (one.1, one.2)))
      (lowest_below (IsFreeSlot w.tuple p) (slot_decides w p) (suc (slots p).0))

  pub some_put : (s range need : ℕ) → ((p : Verdict) → PutVerdict w s range need p → ⊥) → ⊥
  some_put s range need none = none (Full w.pages.limit) (NoTarget (λ p target. ⊎_elim
      (λ (waits : (q : ℕ) × IsFirstLocked w.lock s (p ∷ map_page_of range ∷ []) q). none (Waits waits.0) (PutWaits p waits.0 target waits.1))
      (λ (free : IsFree w.lock s p × IsFree w.lock s (map_page_of range)).
      let slot = lowest_slot p in
      let y : Spot = record { block = p; slot = slot.0 } in
      none (Puts y) (PutGoes y (target, slot.1) free.0 free.1))
      (two_pages w s p (map_page_of range))))

  pub some_swap : (s range : ℕ) (x : Spot) (old new : IndexTuple) → ((p : Verdict) → SwapVerdict w s range x old new p → ⊥) → ⊥
  some_swap s range x old new none = ⊎_elim
      (λ (locked : IsLocked w.lock s x.block). none (Waits x.block) (SwapWaits locked))
      (λ (free : IsFree w.lock s x.block). none Differs (SwapDiffers free (λ here.
      let moves : MustMove w.pages (bytes_of w.tuple) x (length new.bytes) → ⊥ = λ must. some_put s range (length new.bytes) (λ p puts. none p (SwapMoves p free here must puts)) in
      ⊎_elim
      (λ (tight : place_room (bytes_of w.tuple) x < length new.bytes). moves (inr tight))
      (λ (room : length new.bytes ≤ place_room (bytes_of w.tuple) x). moves (inl (λ regular. none Fits (SwapFits free here regular room))))
      (lt_or_ge (place_room (bytes_of w.tuple) x) (length new.bytes)))))
      (locked_or_free w s x.block)

pub some_clear : (w : IndexView) (s range : ℕ) (x : Spot) → ((p : Verdict) → ClearVerdict w s range x p → ⊥) → ⊥
some_clear w s range x none = ⊎_elim
    (λ (waits : (q : ℕ) × IsFirstLocked w.lock s (x.block ∷ map_page_of range ∷ []) q). none (Waits waits.0) (ClearWaits waits.0 waits.1))
    (λ (free : IsFree w.lock s x.block × IsFree w.lock s (map_page_of range)). none Differs (ClearDiffers free.0 free.1 (λ is. none Fits (ClearFits free.0 free.1 is))))
    (two_pages w s x.block (map_page_of range))
