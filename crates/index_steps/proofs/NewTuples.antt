-- a tuple of a range that has none, put and named
use Rattle.std.proofs.Common.{◌≡◌, ◌⊎◌, inl, inr, ⊎_elim, ℕ, ◌≤◌, ◌<◌, List, [], ◌∷◌, length, Option, None, Some, refl, sym, ap, subst, ◌∙◌, arith}
use Rattle.std.specs.Option.{option_map}
use Rattle.block_model.specs.declared.place.Place.{Place}
use Rattle.block_model.specs.declared.place.Spot.{Spot}
use Rattle.page_locks.specs.LockChanges.{GivesAll, IsFirstHeld, page_of}
use Rattle.coverage.specs.Changes.{IsFree, OwnLocks}
use Rattle.coverage.specs.IndexView.{IndexView, PageKind, Mapping, Regular, Emptying, Pages, map_page_of}
use Rattle.coverage.specs.Verdicts.{Full, IsTarget, NoTarget, PutGoes, PutVerdict, PutWaits, Puts, Waits}
use Rattle.index_contents.specs.IndexContents.{IndexContents}
use Rattle.index_contents.specs.IndexChanges.{PutsBytes, SetsEntry as SetsEntryIn}
use Rattle.revmap.specs.MapEntries.{HoldsRange}
use Rattle.index_steps.specs.IndexTuples.{IndexShape, seen}
use Rattle.index_steps.specs.PlaceAnswers.{IsPlacing, NamesIn}
use Rattle.index_steps.specs.ShownIndex.{Shows}
use Rattle.index_steps.specs.LockLaws.{first_locked}
use Rattle.index_steps.proofs.Views.{free_there, place_there, target_back, target_there}

module _ (shape : IndexShape) (c : IndexContents) (lock : ℕ → Option ℕ) (s range : ℕ) (bytes : List ℕ) (w : IndexView) (shows : Shows shape c lock w) where
  -- no page takes the tuple
  pub new_full : (number : ℕ) → ((p : ℕ) → IsTarget c.pages c.bytes (length bytes) p → ⊥) → number ≡ c.pages.limit → PutVerdict w s range (length (seen shape bytes).bytes) (Full number)
  new_full number none many =
      subst (λ (n : ℕ). PutVerdict w s range (length (seen shape bytes).bytes) (Full n)) (ap (λ (pages : Pages). pages.limit) shows.pages ∙ sym many)
      (NoTarget (λ p target. none p (target_back shape c lock w shows bytes p target)))

  -- another locks the target or the map's page
  pub new_waits : (h : Place → Option ℕ) (relation p q : ℕ) → ((page : ℕ) → lock page ≡ h (page_of relation page)) → IsTarget c.pages c.bytes (length bytes) p → IsFirstHeld h relation s (p ∷ map_page_of range ∷ []) q
      → PutVerdict w s range (length (seen shape bytes).bytes) (Waits q)
  new_waits h relation p q are target held =
      PutWaits p q (target_there shape c lock w shows bytes p target) (first_locked h relation s w.lock (p ∷ map_page_of range ∷ []) q (λ page. shows.lock page ∙ are page) held)

  module _ (d : IndexContents) (y : Spot) (target : IsTarget c.pages c.bytes (length bytes) y.block) (puts : PutsBytes c d y bytes) (free_y : IsFree lock s y.block) (free_map : IsFree lock s (map_page_of range)) where
    pub new_goes : PutVerdict w s range (length (seen shape bytes).bytes) (Puts y)
    new_goes = PutGoes y (place_there shape c lock w shows d y bytes target puts) (free_there shape c lock w s y.block shows free_y) (free_there shape c lock w s (map_page_of range) shows free_map)

-- the map's page for the range is counted, and the tuple's page is none of the map
pub placing_holds : (shape : IndexShape) (c : IndexContents) (range : ℕ) (to : Spot) → IsPlacing shape c range to → HoldsRange c.pages range
placing_holds shape c range to placing =
    let w = placing.view in
    let counted : map_page_of range ≤ w.pages.map_pages = le_of (map_page_of range) w.pages.map_pages placing.within in
    subst (λ (pages : Pages). HoldsRange pages range) placing.shows.pages (counted, placing.ordered.map (map_page_of range) counted)
  where
    le_of : (a b : ℕ) → (b < a → ⊥) → a ≤ b
    le_of a b not = omega (arith, not)

pub placing_past : (shape : IndexShape) (c : IndexContents) (range : ℕ) (to : Spot) → IsPlacing shape c range to → 0 < to.block
placing_past shape c range to placing = above to.block refl
  where
    apart : (kind : PageKind) → (kind ≡ Regular) ⊎ (kind ≡ Emptying) → kind ≡ Mapping → ⊥
    apart kind (inl is) map = regular_is_not (sym is ∙ map)
      where
        regular_is_not : Regular ≡ Mapping → ⊥
        regular_is_not e = cc
    apart kind (inr is) map = emptying_is_not (sym is ∙ map)
      where
        emptying_is_not : Emptying ≡ Mapping → ⊥
        emptying_is_not e = cc

    above : (b : ℕ) → b ≡ to.block → 0 < to.block
    above b is = omega (arith, λ (none : to.block ≡ 0). apart (placing.view.pages.kind to.block) (placing.ordered.tuples to placing.put.0 placing.put.1) (ap placing.view.pages.kind none ∙ placing.ordered.map 0 (omega arith)))

-- the map names the new tuple, and the locks are given
pub new_names : (shape : IndexShape) (c d : IndexContents) (h k : Place → Option ℕ) (relation s range : ℕ) (to : Spot) → SetsEntryIn c d range None (Some to) → GivesAll h k s
    → NamesIn shape c d (λ page. h (page_of relation page)) (λ page. k (page_of relation page)) s range to
new_names shape c d h k relation s range to sets gives w shows = (
  λ building loose. record {
    entry = record {
      now = sets.entry.now;
      others = λ m. ⊎_elim (λ (at : m ≡ range). inl at) (λ (same : d.entry m ≡ c.entry m). inr (same ∙ sym (shows.entry m))) (sets.entry.others m);
    };
    pages = sets.pages ∙ sym shows.pages;
    frame = record {
      heap = record { pages_per_range = refl; blocks = refl; row = λ b k. refl };
      map = tt;
      tuples = record { tuple = λ x. ap (option_map (seen shape)) (sets.bytes x) ∙ sym (shows.tuple x) };
      unnamed_tuples = record { unnamed = λ x. refl };
      summarise_lock = refl;
      locks = gives_own;
      contents = refl;
    };
  },
  λ page. gives.none (page_of relation page),
)
  where
    gives_own : OwnLocks s w.lock (λ page. k (page_of relation page))
    gives_own = record {
      others = λ page n locked other. gives.kept (page_of relation page) n other (sym (shows.lock page) ∙ locked);
      taken = λ page n locked other. shows.lock page ∙ gives.only (page_of relation page) n locked;
    }
