-- What one step of a session leaves to all other sessions.
use Rattle.std.specs.Prelude.{◌≡◌, ◌≢◌, ◌⊎◌, ℕ, ◌≤◌, Bool, IsTrue, None, Some}
use Rattle.block_model.specs.declared.row.Row.{Row}
use Rattle.block_model.specs.declared.place.Spot.{Spot}
use Rattle.coverage.specs.IndexView.{IndexTuple, IndexView, NamesPlaceholder}
use Rattle.coverage.specs.IsSettled.{IsAccounted, TupleShows}

-- A place that the map named for a range when it was read: a tuple of the range that stands there now is the one that the
-- map names, or is loose in the hands of a session that locks its page.
abbrev pub IsHeld : IndexView → ℕ → Spot → Type 0
IsHeld w range x = (t : IndexTuple) → w.tuple x ≡ Some t → t.range ≡ range → (w.entry range ≡ Some x) ⊎ ((s : ℕ) × (w.loose s ≡ Some x))

-- The step of `actor`, which drops dead rows at the places `dropped`.
pub record GoesOn (actor : ℕ) (dropped : ℕ → ℕ → Bool) (w v : IndexView) : Type 0 where
  pub contents : v.contents ≡ w.contents
  pub pages_per_range : v.pages_per_range ≡ w.pages_per_range
  pub blocks : w.blocks ≤ v.blocks
  -- rows stay, and stay settled
  pub rows : (b k : ℕ) (r : Row) → w.row b k ≡ Some r → (v.row b k ≡ Some r) ⊎ IsTrue (dropped b k)
  pub settled : (b k : ℕ) (r : Row) → w.row b k ≡ Some r → IsAccounted w b r → IsAccounted v b r
  pub shows : (x : Spot) (b k : ℕ) (r : Row) → w.row b k ≡ Some r → IsAccounted w b r → TupleShows w x b r → TupleShows v x b r
  -- a place that a statement holds goes on being held
  pub held : (range : ℕ) (x : Spot) → IsHeld w range x → IsHeld v range x
  -- what another session has locked stays: its tuples, its entries and the lock
  pub tuples : (x : Spot) (s : ℕ) → w.lock x.block ≡ Some s → s ≢ actor → v.tuple x ≡ w.tuple x
  pub entries : (range : ℕ) (x : Spot) (s : ℕ) → w.entry range ≡ Some x → w.lock x.block ≡ Some s → s ≢ actor → v.entry range ≡ Some x
  pub locks : (p s : ℕ) → w.lock p ≡ Some s → s ≢ actor → v.lock p ≡ Some s
  pub no_lock_given : (p s : ℕ) → v.lock p ≡ Some s → s ≢ actor → w.lock p ≡ Some s
  -- an entry comes to name only what the actor had in hand
  pub named : (range : ℕ) (x : Spot) → v.entry range ≡ Some x → (w.entry range ≡ Some x) ⊎ (w.loose actor ≡ Some x)
  -- only who holds the summarise lock gives a range its first entry, or makes a placeholder final; none takes that lock from another
  pub unset : (range : ℕ) → w.entry range ≡ None → (v.entry range ≡ None) ⊎ (w.summarise_lock ≡ Some actor)
  pub placeholders : (range : ℕ) → NamesPlaceholder w range → NamesPlaceholder v range ⊎ (w.summarise_lock ≡ Some actor)
  pub summarise_lock : (s : ℕ) → w.summarise_lock ≡ Some s → (s ≡ actor) ⊎ (v.summarise_lock ≡ Some s)
  pub no_summarise_lock_given : (s : ℕ) → v.summarise_lock ≡ Some s → s ≢ actor → w.summarise_lock ≡ Some s
