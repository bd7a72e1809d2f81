-- the steps of a desummarise at its range, by what its calls found and made there
use Rattle.std.proofs.Common.{◌≡◌, ◌≢◌, inl, inr, ⊎_elim, ℕ, List, [], ◌∷◌, Option, None, Some, refl, sym, ap, subst, ◌∙◌}
use Rattle.std.specs.Option.{option_map}
use Rattle.block_model.specs.declared.place.Place.{Place}
use Rattle.block_model.specs.declared.place.Spot.{Spot}
use Rattle.block_model.specs.declared.reply.Point.TheVariants as points
use Rattle.page_locks.specs.declared.did.Did.TheVariants as did
use Rattle.page_locks.specs.declared.held.Held.{Held}
use Rattle.page_locks.specs.LockChanges.{GivesAll, IsFirstHeld, TakesAll, page_of}
use Rattle.coverage.specs.Changes.{IsFree, OwnLocks}
use Rattle.coverage.specs.IndexView.{Building, IndexView, map_page_of}
use Rattle.coverage.specs.Knowing.{LocksNone}
use Rattle.coverage.specs.Steps.{Clear, ClearAgain, ClearMap, ClearNone, ClearsEntry, DropCleared, ReadsIndex}
use Rattle.coverage.specs.Verdicts.{ClearDiffers, ClearFits, ClearWaits}
use Rattle.index_contents.specs.IndexContents.{IndexContents}
use Rattle.index_contents.specs.IndexChanges.{SetsEntry}
use Rattle.index_steps.specs.IndexTuples.{IndexShape, seen}
use Rattle.index_steps.specs.LockLaws.{first_locked, gives_own, takes_own, takes_these}
use Rattle.index_steps.specs.MoveEnds.{DropsIn}
use Rattle.index_steps.specs.ShownIndex.{Shows}
use Rattle.index_steps.specs.SwapAnswers.{view_after}
use Rattle.summarise_core.specs.declared.desummarise_stage.Stage.{Stage}
use Rattle.summarise_core.specs.declared.desummarise_stage.Stage.TheVariants as stages
use Rattle.summarise_core.specs.Desummarises.{DesummariseAt, Stepped}

abbrev pub at_stage : IndexContents → (ℕ → Option ℕ) → Stage → DesummariseAt
at_stage c lock stage = record { pages = c; lock = lock; stage = stage }

module _ (shape : IndexShape) (s range : ℕ) (c d : IndexContents) where
  module _ (lock : ℕ → Option ℕ)
      (reads : (w : IndexView) → Shows shape c lock w → LocksNone w.lock s → (building : ℕ → Option Building) (loose : ℕ → Option Spot) → ReadsIndex s w (view_after shape d lock w building loose)) where
    -- the map names a tuple
    pub is_named : (x : Spot) → c.entry range ≡ Some x → Stepped shape s range (at_stage c lock stages.Map) (at_stage d lock (stages.Clear x)) (did.Moved points.Map)
    is_named x named = ((0, (λ w shows knows building loose. (ClearMap x (shows.entry range ∙ named) (reads w shows knows.1 building loose), refl, refl)), refl), tt)

    -- or none
    pub is_unnamed : c.entry range ≡ None → Stepped shape s range (at_stage c lock stages.Map) (at_stage d lock stages.Lacked) (did.Finished points.Map)
    is_unnamed none = ((0, (λ w shows knows building loose. (ClearNone (shows.entry range ∙ none) (reads w shows knows.1 building loose), refl, refl)), refl), tt)

  -- the tuple goes, and the locks are given
  pub is_dropped : (lock locked : ℕ → Option ℕ) (x : Spot) → DropsIn shape c d lock locked s x → Stepped shape s range (at_stage c lock (stages.Drop x)) (at_stage d locked stages.Cleared) (did.Finished points.Drop)
  is_dropped lock locked x drops = ((0, (λ w shows knows building loose. (DropCleared x (drops w shows building loose), refl, refl)), refl), tt)

  module _ (h k : Place → Option ℕ) (relation : ℕ) (x : Spot) where
    abbrev pub lock_by : (Place → Option ℕ) → ℕ → Option ℕ
    lock_by holders page = holders (page_of relation page)

    abbrev these : List ℕ
    these = x.block ∷ map_page_of range ∷ []

    -- another locks one of the pages
    pub is_blocked : (held : Held) → IsFirstHeld h relation s these held.page.block → Stepped shape s range (at_stage c (lock_by h) (stages.Clear x)) (at_stage d (lock_by h) (stages.Clear x)) (did.Blocked held)
    is_blocked held first = ((λ w shows. ClearWaits held.page.block (first_locked h relation s w.lock these held.page.block (λ page. shows.lock page) first)), refl)

    module _ (takes : TakesAll h k relation these s) where
      free : (w : IndexView) → Shows shape c (lock_by h) w → IsFree w.lock s x.block
      free w shows n locked = takes.free x.block (inl refl) n (sym (shows.lock x.block) ∙ locked)

      free_map : (w : IndexView) → Shows shape c (lock_by h) w → IsFree w.lock s (map_page_of range)
      free_map w shows n locked = takes.free (map_page_of range) (inr (inl refl)) n (sym (shows.lock (map_page_of range)) ∙ locked)

      clears_entry : SetsEntry c d range (Some x) None → (w : IndexView) → Shows shape c (lock_by h) w → (building : ℕ → Option Building) (loose : ℕ → Option Spot) → ClearsEntry s w (view_after shape d (lock_by k) w building loose) range x
      clears_entry sets w shows building loose = record {
        entry = record {
          was = shows.entry range ∙ sets.entry.was;
          now = sets.entry.now;
          others = λ m. ⊎_elim (λ (at : m ≡ range). inl at) (λ (same : d.entry m ≡ c.entry m). inr (same ∙ sym (shows.entry m))) (sets.entry.others m);
        };
        free = free w shows;
        pages = sets.pages ∙ sym shows.pages;
        frame = record {
          heap = record { pages_per_range = refl; blocks = refl; row = λ b j. refl };
          map = tt;
          tuples = record { tuple = λ y. ap (option_map (seen shape)) (sets.bytes y) ∙ sym (shows.tuple y) };
          unnamed_tuples = record { unnamed = λ y. refl };
          summarise_lock = refl;
          locks = takes_own relation s h k these w.lock (λ page. shows.lock page) takes;
          contents = refl;
        };
      }

      -- the entry goes
      pub is_cleared : SetsEntry c d range (Some x) None → Stepped shape s range (at_stage c (lock_by h) (stages.Clear x)) (at_stage d (lock_by k) (stages.Drop x)) (did.Moved points.Clear)
      is_cleared sets = (
        (
          1,
          (λ w shows knows building loose. (
            Clear x (ClearFits (free w shows) (free_map w shows) (shows.entry range ∙ sets.entry.was)) (clears_entry sets w shows building loose)
                (takes_these relation s h k these w.lock (λ page. shows.lock page) takes knows.1.0),
            refl,
            refl,
          )),
          refl,
        ),
        tt,
      )

      module _ (l : Place → Option ℕ) (gives : GivesAll k l s) where
        own : (w : IndexView) → Shows shape c (lock_by h) w → OwnLocks s w.lock (lock_by l)
        own w shows =
            let taken : OwnLocks s w.lock (lock_by k) = takes_own relation s h k these w.lock (λ page. shows.lock page) takes in
            let given : OwnLocks s (lock_by k) (lock_by l) = gives_own relation s k l (lock_by k) (λ page. refl) gives in
            record {
              others = λ page n locked other. given.others page n (taken.others page n locked other) other;
              taken = λ page n locked other. taken.taken page n (given.taken page n locked other) other;
            }

        reads_here : (w : IndexView) → Shows shape c (lock_by h) w → (building : ℕ → Option Building) (loose : ℕ → Option Spot) → ReadsIndex s w (view_after shape c (lock_by l) w building loose)
        reads_here w shows building loose = record {
          frame = record {
            heap = record { pages_per_range = refl; blocks = refl; row = λ b j. refl };
            map = record { entry = λ m. sym (shows.entry m) };
            tuples = record { tuple = λ y. sym (shows.tuple y) };
            unnamed_tuples = record { unnamed = λ y. refl };
            summarise_lock = refl;
            locks = own w shows;
            contents = refl;
          };
          pages = sym shows.pages;
          none = λ page. gives.none (page_of relation page);
        }

        -- it names another spot or none, and the locks are given
        pub is_lost : d ≡ c → c.entry range ≢ Some x → Stepped shape s range (at_stage c (lock_by h) (stages.Clear x)) (at_stage d (lock_by l) stages.Map) (did.Moved points.Again)
        is_lost same other =
            subst (λ (e : IndexContents). Stepped shape s range (at_stage c (lock_by h) (stages.Clear x)) (at_stage e (lock_by l) stages.Map) (did.Moved points.Again)) (sym same) (
              (
                0,
                (λ w shows knows building loose. (
                  ClearAgain x (ClearDiffers (free w shows) (free_map w shows) (λ named. other (sym (shows.entry range) ∙ named))) (reads_here w shows building loose),
                  refl,
                  refl,
                )),
                refl,
              ),
              tt,
            )
