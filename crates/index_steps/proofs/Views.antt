-- indexes that pages and locks show: tuples by their bytes, and what stays
use Rattle.std.proofs.Common.{◌≡◌, ◌≢◌, ℕ, List, length, Option, None, Some, refl, sym, ap, subst, ◌∙◌}
use Rattle.std.specs.Option.{option_map}
use Rattle.std.proofs.lemmas.Option.{none-some, same_Some}
use Rattle.block_model.specs.declared.place.Spot.{Spot}
use Rattle.coverage.specs.Changes.{IsFree, OwnLocks}
use Rattle.coverage.specs.IndexView.{Building, IndexTuple, IndexView, PageKind, Pages}
use Rattle.coverage.specs.Knowing.{LocksNone}
use Rattle.coverage.specs.Steps.{ReadsIndex, TurnsPage}
use Rattle.coverage.specs.Rooms.{bytes_of}
use Rattle.coverage.specs.Verdicts.{IsTarget, IsTargetPlace}
use Rattle.index_contents.specs.IndexPages.{Slot}
use Rattle.index_contents.specs.IndexContents.{IndexContents}
use Rattle.index_contents.specs.IndexChanges.{PutsBytes}
use Rattle.index_steps.specs.IndexTuples.{IndexShape, range_said, seen}
use Rattle.index_steps.specs.ShownIndex.{Shows}
use Rattle.index_steps.specs.SwapAnswers.{view_after}

-- a tuple that is seen has its bytes, and the range that they say
pub seen_bytes : (shape : IndexShape) (bytes : List ℕ) → (seen shape bytes).bytes ≡ bytes
unfolding seen
seen_bytes shape bytes = refl

pub seen_range : (shape : IndexShape) (bytes : List ℕ) → (seen shape bytes).range ≡ range_said bytes
unfolding seen
seen_range shape bytes = refl

-- bytes that stand there are seen there
pub seen_there : (shape : IndexShape) (c : IndexContents) (lock : ℕ → Option ℕ) (w : IndexView) (x : Spot) (bytes : List ℕ) → Shows shape c lock w → c.bytes x ≡ Some bytes → w.tuple x ≡ Some (seen shape bytes)
seen_there shape c lock w x bytes shows there = shows.tuple x ∙ ap (option_map (seen shape)) there

pub none_there : (shape : IndexShape) (c : IndexContents) (lock : ℕ → Option ℕ) (w : IndexView) (x : Spot) → Shows shape c lock w → c.bytes x ≡ None → w.tuple x ≡ None
none_there shape c lock w x shows none = shows.tuple x ∙ ap (option_map (seen shape)) none

-- a tuple that is seen is that of bytes which stand there
pub record StandsBy (shape : IndexShape) (o : Option (List ℕ)) (t : IndexTuple) : Type 0 where
  pub bytes : List ℕ
  pub there : o ≡ Some bytes
  pub is : t ≡ seen shape bytes

stands_in : (shape : IndexShape) (o : Option (List ℕ)) (t : IndexTuple) → option_map (seen shape) o ≡ Some t → StandsBy shape o t
stands_in shape None t is = absurd (none-some t is)
stands_in shape (Some bytes) t is = record { bytes = bytes; there = refl; is = sym (same_Some (seen shape bytes) t is) }

pub stands_by : (shape : IndexShape) (c : IndexContents) (lock : ℕ → Option ℕ) (w : IndexView) (x : Spot) (t : IndexTuple) → Shows shape c lock w → w.tuple x ≡ Some t → StandsBy shape (c.bytes x) t
stands_by shape c lock w x t shows is = stands_in shape (c.bytes x) t (sym (shows.tuple x) ∙ is)

no_tuple_in : (shape : IndexShape) (o : Option (List ℕ)) → option_map (seen shape) o ≡ None → o ≡ None
no_tuple_in shape None is = refl
no_tuple_in shape (Some bytes) is = absurd (none-some (seen shape bytes) (sym is))

pub no_bytes_there : (shape : IndexShape) (c : IndexContents) (lock : ℕ → Option ℕ) (w : IndexView) (x : Spot) → Shows shape c lock w → w.tuple x ≡ None → c.bytes x ≡ None
no_bytes_there shape c lock w x shows is = no_tuple_in shape (c.bytes x) (sym (shows.tuple x) ∙ is)

-- where other bytes stand, these aren't seen
pub other_there : (shape : IndexShape) (c : IndexContents) (lock : ℕ → Option ℕ) (w : IndexView) (x : Spot) (bytes : List ℕ) → Shows shape c lock w → c.bytes x ≢ Some bytes → w.tuple x ≢ Some (seen shape bytes)
other_there shape c lock w x bytes shows other is =
    let by = stands_by shape c lock w x (seen shape bytes) shows is in
    other (by.there ∙ ap Some (sym (seen_bytes shape by.bytes) ∙ sym (ap (λ (t : IndexTuple). t.bytes) by.is) ∙ seen_bytes shape bytes))

-- a page that nobody else locks
pub free_there : (shape : IndexShape) (c : IndexContents) (lock : ℕ → Option ℕ) (w : IndexView) (s page : ℕ) → Shows shape c lock w → IsFree lock s page → IsFree w.lock s page
free_there shape c lock w s page shows free n locked = free n (sym (shows.lock page) ∙ locked)

-- where the locks stay, so do those of all sessions
pub same_locks : (shape : IndexShape) (c : IndexContents) (lock : ℕ → Option ℕ) (w : IndexView) (s : ℕ) → Shows shape c lock w → OwnLocks s w.lock lock
same_locks shape c lock w s shows = record { others = λ p n locked other. sym (shows.lock p) ∙ locked; taken = λ p n locked other. shows.lock p ∙ locked }

pub none_locked : (shape : IndexShape) (c : IndexContents) (lock : ℕ → Option ℕ) (w : IndexView) (s : ℕ) → Shows shape c lock w → LocksNone w.lock s → LocksNone lock s
none_locked shape c lock w s shows none p locked = none p (shows.lock p ∙ locked)

-- the bytes of the tuples are those of the index
seen_again : (shape : IndexShape) (o : Option (List ℕ)) → option_map (λ (t : IndexTuple). t.bytes) (option_map (seen shape) o) ≡ o
seen_again shape None = refl
seen_again shape (Some bytes) = ap Some (seen_bytes shape bytes)

module _ (shape : IndexShape) (c : IndexContents) (lock : ℕ → Option ℕ) (w : IndexView) (shows : Shows shape c lock w) where
  pub bytes_there : bytes_of w.tuple ≡ c.bytes
  bytes_there = λ i x. (ap (option_map (λ (t : IndexTuple). t.bytes)) (shows.tuple x) ∙ seen_again shape (c.bytes x)) i

  -- a place for a tuple, and a page for one, are the view's
  pub target_there : (bytes : List ℕ) (p : ℕ) → IsTarget c.pages c.bytes (length bytes) p → IsTarget w.pages (bytes_of w.tuple) (length (seen shape bytes).bytes) p
  target_there bytes p target = subst (λ (b : List ℕ). IsTarget w.pages (bytes_of w.tuple) (length b) p) (sym (seen_bytes shape bytes))
      (subst (λ (at : Spot → Slot). IsTarget w.pages at (length bytes) p) (sym bytes_there) (subst (λ (pages : Pages). IsTarget pages c.bytes (length bytes) p) (sym shows.pages) target))

  pub target_back : (bytes : List ℕ) (p : ℕ) → IsTarget w.pages (bytes_of w.tuple) (length (seen shape bytes).bytes) p → IsTarget c.pages c.bytes (length bytes) p
  target_back bytes p target = subst (λ (pages : Pages). IsTarget pages c.bytes (length bytes) p) shows.pages
      (subst (λ (at : Spot → Slot). IsTarget w.pages at (length bytes) p) bytes_there (subst (λ (b : List ℕ). IsTarget w.pages (bytes_of w.tuple) (length b) p) (seen_bytes shape bytes) target))

  pub place_there : (d : IndexContents) (y : Spot) (bytes : List ℕ) → IsTarget c.pages c.bytes (length bytes) y.block → PutsBytes c d y bytes → IsTargetPlace w.pages w.tuple (length (seen shape bytes).bytes) y
  place_there d y bytes target puts = (
    target_there bytes y.block target,
    (none_there shape c lock w y shows puts.lowest.0, λ slot gone. puts.lowest.1 slot (no_bytes_there shape c lock w (record { block = y.block; slot = slot }) shows gone)),
  )

-- one page turned, as the view has it
pub turned_there : (shape : IndexShape) (c d : IndexContents) (lock : ℕ → Option ℕ) (w : IndexView) (page : ℕ) (kind : PageKind) → Shows shape c lock w → TurnsPage c.pages d.pages page kind → TurnsPage w.pages d.pages page kind
turned_there shape c d lock w page kind shows turns = subst (λ (pages : Pages). TurnsPage pages d.pages page kind) (sym shows.pages) turns

-- a call that changes nothing reads the index
pub reads_index : (shape : IndexShape) (c d : IndexContents) (lock locked : ℕ → Option ℕ) (w : IndexView) (s : ℕ) → Shows shape c lock w → d ≡ c → locked ≡ lock → LocksNone w.lock s
    → (building : ℕ → Option Building) (loose : ℕ → Option Spot) → ReadsIndex s w (view_after shape d locked w building loose)
reads_index shape c d lock locked w s shows same held none building loose =
    subst (λ (e : IndexContents). ReadsIndex s w (view_after shape e locked w building loose)) (sym same)
    (subst (λ (l : ℕ → Option ℕ). ReadsIndex s w (view_after shape c l w building loose)) (sym held)
    (record {
      frame = record {
        heap = record { pages_per_range = refl; blocks = refl; row = λ b k. refl };
        map = record { entry = λ range. sym (shows.entry range) };
        tuples = record { tuple = λ x. sym (shows.tuple x) };
        unnamed_tuples = record { unnamed = λ x. refl };
        summarise_lock = refl;
        locks = same_locks shape c lock w s shows;
        contents = refl;
      };
      pages = sym shows.pages;
      none = none_locked shape c lock w s shows none;
    }))
