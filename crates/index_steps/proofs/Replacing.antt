-- a new tuple in the place of the one that was copied, or on another page
use Rattle.std.proofs.Common.{◌≡◌, ◌≢◌, inl, inr, ⊎_elim, ℕ, ◌≤◌, List, [], ◌∷◌, length, Option, Some, refl, sym, ap, subst, ◌∙◌}
use Rattle.std.specs.Option.{option_map}
use Rattle.block_model.specs.declared.place.Place.{Place}
use Rattle.block_model.specs.declared.place.Spot.{Spot}
use Rattle.store_layout.specs.DiskLayout.{DiskLayout}
use Rattle.page_map.specs.PageMap.{PageMap}
use Rattle.page_locks.specs.LockChanges.{IsFirstHeld, TakesAll, page_of}
use Rattle.page_locks.specs.LockHolders.{LockState}
use Rattle.coverage.specs.Changes.{IsFree}
use Rattle.coverage.specs.IndexView.{Building, IndexView, Pages, Regular, map_page_of}
use Rattle.coverage.specs.Knowing.{LocksNone}
use Rattle.coverage.specs.Rooms.{bytes_of, place_room}
use Rattle.coverage.specs.Steps.{PutsTuple, ReplacesTuple}
use Rattle.coverage.specs.Verdicts.{Differs, Fits, Full, IsTarget, MustMove, NoTarget, PutGoes, PutWaits, Puts}
use Rattle.coverage.specs.Verdicts.{SwapDiffers, SwapFits, SwapMoves, SwapVerdict, SwapWaits, Waits}
use Rattle.index_contents.specs.IndexPages.{Slot}
use Rattle.index_contents.specs.IndexContents.{IndexContents, contents}
use Rattle.index_contents.specs.IndexChanges.{PutsBytes, ReplacesBytes}
use Rattle.index_steps.specs.IndexTuples.{IndexShape, seen, shape_of}
use Rattle.index_steps.specs.ShownIndex.{Shows, lock_in}
use Rattle.index_steps.specs.SwapAnswers.{MustLeave, SwapMakes, view_after}
use Rattle.index_steps.specs.declared.swapping.Swapped.{Swapped}
use Rattle.index_steps.specs.LockLaws.{first_locked, takes_own}
use Rattle.index_steps.proofs.Views.{bytes_there, free_there, none_there, none_locked, other_there, place_there, same_locks, seen_bytes, seen_there, target_back, target_there, turned_there}

module _ (shape : IndexShape) (c : IndexContents) (lock : ℕ → Option ℕ) (s range : ℕ) (x : Spot) (copied bytes : List ℕ) (w : IndexView) (shows : Shows shape c lock w) where
  -- another locks the old tuple's page
  pub swap_waits : (n : ℕ) → lock x.block ≡ Some n → n ≢ s → SwapVerdict w s range x (seen shape copied) (seen shape bytes) (Waits x.block)
  swap_waits n locked other = SwapWaits (n, shows.lock x.block ∙ locked, other)

  module _ (free : IsFree lock s x.block) where
    -- other bytes stand there
    pub swap_differs : c.bytes x ≢ Some copied → SwapVerdict w s range x (seen shape copied) (seen shape bytes) Differs
    swap_differs other = SwapDiffers (free_there shape c lock w s x.block shows free) (other_there shape c lock w x copied shows other)

    -- the new bytes take their place
    pub swap_fits : (d : IndexContents) → ReplacesBytes c d x copied bytes → SwapVerdict w s range x (seen shape copied) (seen shape bytes) Fits
    swap_fits d replaces = SwapFits (free_there shape c lock w s x.block shows free)
        (seen_there shape c lock w x copied shows replaces.bytes.was)
        (ap (λ (pages : Pages). pages.kind x.block) shows.pages ∙ replaces.regular)
        (subst (λ (at : Spot → Slot). length (seen shape bytes).bytes ≤ place_room at x) (sym (bytes_there shape c lock w shows))
        (subst (λ (b : List ℕ). length b ≤ place_room c.bytes x) (sym (seen_bytes shape bytes)) replaces.fits))

    pub swap_replaces : (d : IndexContents) → ReplacesBytes c d x copied bytes → LocksNone w.lock s → (building : ℕ → Option Building) (loose : ℕ → Option Spot)
        → ReplacesTuple s w (view_after shape d lock w building loose) x (seen shape copied) (seen shape bytes)
    swap_replaces d replaces none building loose = record {
      tuple = record {
        was = seen_there shape c lock w x copied shows replaces.bytes.was;
        now = ap (option_map (seen shape)) replaces.bytes.now;
        others = λ y. ⊎_elim
            (λ (at : y ≡ x). inl at)
            (λ (same : d.bytes y ≡ c.bytes y). inr (ap (option_map (seen shape)) same ∙ sym (shows.tuple y)))
            (replaces.bytes.others y);
      };
      free = free_there shape c lock w s x.block shows free;
      page = turned_there shape c d lock w x.block Regular shows replaces.page;
      frame = record {
        heap = record { pages_per_range = refl; blocks = refl; row = λ b k. refl };
        map = record { entry = λ m. replaces.entries m ∙ sym (shows.entry m) };
        tuples = tt;
        unnamed_tuples = record { unnamed = λ y. refl };
        summarise_lock = refl;
        locks = same_locks shape c lock w s shows;
        contents = refl;
      };
      none = none_locked shape c lock w s shows none;
    }

    module _ (must : MustLeave c x copied (length bytes)) where
      must_there : MustMove w.pages (bytes_of w.tuple) x (length (seen shape bytes).bytes)
      must_there = subst (λ (pages : Pages). MustMove pages (bytes_of w.tuple) x (length (seen shape bytes).bytes)) (sym shows.pages)
          (subst (λ (at : Spot → Slot). MustMove c.pages at x (length (seen shape bytes).bytes)) (sym (bytes_there shape c lock w shows))
          (subst (λ (b : List ℕ). MustMove c.pages c.bytes x (length b)) (sym (seen_bytes shape bytes)) must.1))

      -- no page takes the tuple
      pub move_full : (number : ℕ) → ((p : ℕ) → IsTarget c.pages c.bytes (length bytes) p → ⊥) → number ≡ c.pages.limit → SwapVerdict w s range x (seen shape copied) (seen shape bytes) (Full number)
      move_full number none many =
          subst (λ (n : ℕ). SwapVerdict w s range x (seen shape copied) (seen shape bytes) (Full n)) (ap (λ (pages : Pages). pages.limit) shows.pages ∙ sym many)
          (SwapMoves (Full w.pages.limit) (free_there shape c lock w s x.block shows free) (seen_there shape c lock w x copied shows must.0) must_there
          (NoTarget (λ p target. none p (target_back shape c lock w shows bytes p target))))

      -- another locks the target or the map's page
      pub move_waits : (h : Place → Option ℕ) (relation p q : ℕ) → ((page : ℕ) → lock page ≡ h (page_of relation page)) → IsTarget c.pages c.bytes (length bytes) p → IsFirstHeld h relation s (p ∷ map_page_of range ∷ []) q
          → SwapVerdict w s range x (seen shape copied) (seen shape bytes) (Waits q)
      move_waits h relation p q are target held =
          SwapMoves (Waits q) (free_there shape c lock w s x.block shows free) (seen_there shape c lock w x copied shows must.0) must_there
          (PutWaits p q (target_there shape c lock w shows bytes p target) (first_locked h relation s w.lock (p ∷ map_page_of range ∷ []) q (λ page. shows.lock page ∙ are page) held))

      module _ (d : IndexContents) (y : Spot) (target : IsTarget c.pages c.bytes (length bytes) y.block) (puts : PutsBytes c d y bytes) (free_y : IsFree lock s y.block) (free_map : IsFree lock s (map_page_of range)) where
        pub move_goes : SwapVerdict w s range x (seen shape copied) (seen shape bytes) (Puts y)
        move_goes = SwapMoves (Puts y) (free_there shape c lock w s x.block shows free) (seen_there shape c lock w x copied shows must.0) must_there
            (PutGoes y (place_there shape c lock w shows d y bytes target puts) (free_there shape c lock w s y.block shows free_y) (free_there shape c lock w s (map_page_of range) shows free_map))

  -- the new tuple is put, and the locks of the move are taken
  pub move_puts : (d : IndexContents) (y : Spot) (h k : Place → Option ℕ) (relation : ℕ) (these : List ℕ) → PutsBytes c d y bytes → IsFree lock s y.block
      → ((page : ℕ) → lock page ≡ h (page_of relation page)) → TakesAll h k relation these s → (building : ℕ → Option Building) (loose : ℕ → Option Spot)
      → PutsTuple s w (view_after shape d (λ page. k (page_of relation page)) w building loose) y (seen shape bytes)
  move_puts d y h k relation these puts free are takes building loose = record {
    tuple = record {
      was = none_there shape c lock w y shows puts.bytes.was;
      now = ap (option_map (seen shape)) puts.bytes.now;
      others = λ z. ⊎_elim
          (λ (at : z ≡ y). inl at)
          (λ (same : d.bytes z ≡ c.bytes z). inr (ap (option_map (seen shape)) same ∙ sym (shows.tuple z)))
          (puts.bytes.others z);
    };
    free = free_there shape c lock w s y.block shows free;
    page = turned_there shape c d lock w y.block Regular shows puts.page;
    frame = record {
      heap = record { pages_per_range = refl; blocks = refl; row = λ b k. refl };
      map = record { entry = λ m. puts.entries m ∙ sym (shows.entry m) };
      tuples = tt;
      unnamed_tuples = record { unnamed = λ z. refl };
      summarise_lock = refl;
      locks = takes_own relation s h k these w.lock (λ page. shows.lock page ∙ are page) takes;
      contents = refl;
    };
  }

-- how many pages the index may have
pub limit_is : (layout : DiskLayout) (pages : PageMap) (index : ℕ) → (contents layout pages index).pages.limit ≡ layout.sizes.index_blocks
unfolding contents
limit_is layout pages index = refl

-- what a call makes of the pages that another call left as they were
pub swap_from : (l l1 : DiskLayout) (m m1 n : PageMap) (locks locked : LockState) (index s range : ℕ) (x : Spot) (copied bytes : List ℕ) (swapped : Swapped) → l1 ≡ l → m1 ≡ m
    → SwapMakes (shape_of l1 index) (contents l1 m1 index) (contents l1 n index) (lock_in l1 locks index) (lock_in l1 locked index) s range x (seen (shape_of l1 index) copied) (seen (shape_of l1 index) bytes) swapped
    → SwapMakes (shape_of l index) (contents l m index) (contents l n index) (lock_in l locks index) (lock_in l locked index) s range x (seen (shape_of l index) copied) (seen (shape_of l index) bytes) swapped
swap_from l l1 m m1 n locks locked index s range x copied bytes swapped layout pages makes =
    subst (λ (a : DiskLayout). SwapMakes (shape_of a index) (contents a m index) (contents a n index) (lock_in a locks index) (lock_in a locked index) s range x (seen (shape_of a index) copied) (seen (shape_of a index) bytes) swapped) layout
    (subst (λ (b : PageMap). SwapMakes (shape_of l1 index) (contents l1 b index) (contents l1 n index) (lock_in l1 locks index) (lock_in l1 locked index) s range x (seen (shape_of l1 index) copied) (seen (shape_of l1 index) bytes) swapped) pages makes)
