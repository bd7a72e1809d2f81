-- The kinds of change that a step of session s makes to the view of the index.
use Rattle.std.specs.Prelude.{◌≡◌, ◌≢◌, ◌⊎◌, ℕ, ◌+◌, ◌*◌, ◌≤◌, ◌<◌, min, Bool, true, false, IsTrue, Option, None, Some}
use Rattle.block_model.specs.declared.row.Row.{Row}
use Rattle.block_model.specs.declared.place.Spot.{Spot}
use Rattle.coverage.specs.IndexView.{IndexTuple, IsFormed, Progress, ExtentUnread, Passing, Building, IndexView, IsTupleOf, IsBuilding}

-- at one place the old value goes and the new one comes
pub record ChangesAt {X A : Type 0} (f g : X → Option A) (x : X) (old new : Option A) : Type 0 where
  pub was : f x ≡ old
  pub now : g x ≡ new
  pub others : (y : X) → (y ≡ x) ⊎ (g y ≡ f y)

-- at one place there is this now, and elsewhere what there was
pub record BecomesAt {X A : Type 0} (f g : X → Option A) (x : X) (new : Option A) : Type 0 where
  pub now : g x ≡ new
  pub others : (y : X) → (y ≡ x) ⊎ (g y ≡ f y)

pub record SameHeap (w v : IndexView) : Type 0 where
  pub pages_per_range : v.pages_per_range ≡ w.pages_per_range
  pub blocks : v.blocks ≡ w.blocks
  pub row : (b k : ℕ) → v.row b k ≡ w.row b k

pub record SameMap (w v : IndexView) : Type 0 where
  pub entry : (range : ℕ) → v.entry range ≡ w.entry range

pub record SameTuples (w v : IndexView) : Type 0 where
  pub tuple : (x : Spot) → v.tuple x ≡ w.tuple x

pub record SameUnnamed (w v : IndexView) : Type 0 where
  pub unnamed : (x : Spot) → v.unnamed x ≡ w.unnamed x

pub record SameLoose (w v : IndexView) : Type 0 where
  pub loose : (s : ℕ) → v.loose s ≡ w.loose s

pub record SameWork (w v : IndexView) : Type 0 where
  pub building : (s : ℕ) → v.building s ≡ w.building s

-- the locks of other sessions stay, and none are given to them
pub record OwnLocks (s : ℕ) (old new : ℕ → Option ℕ) : Type 0 where
  pub others : (p n : ℕ) → old p ≡ Some n → n ≢ s → new p ≡ Some n
  pub taken : (p n : ℕ) → new p ≡ Some n → n ≢ s → old p ≡ Some n

-- what a step may change beside the page locks of its session: nothing; the heap's rows; the range map; the tuples; the tuples
-- and which of them were unnamed at the opening; or who holds the summarise lock
pub data Touched : Type 0 where
  TouchesNothing : Touched
  TouchesRows : Touched
  TouchesEntries : Touched
  TouchesTuples : Touched
  TouchesUnnamed : Touched
  TouchesSummariseLock : Touched

abbrev pub KeepsHeap : Touched → IndexView → IndexView → Type 0
KeepsHeap TouchesRows w v = Unit
KeepsHeap touched w v = SameHeap w v

abbrev pub KeepsMap : Touched → IndexView → IndexView → Type 0
KeepsMap TouchesEntries w v = Unit
KeepsMap touched w v = SameMap w v

abbrev pub KeepsTuples : Touched → IndexView → IndexView → Type 0
KeepsTuples TouchesTuples w v = Unit
KeepsTuples TouchesUnnamed w v = Unit
KeepsTuples touched w v = SameTuples w v

abbrev pub KeepsUnnamed : Touched → IndexView → IndexView → Type 0
KeepsUnnamed TouchesUnnamed w v = Unit
KeepsUnnamed touched w v = SameUnnamed w v

abbrev pub KeepsSummariseLock : Touched → IndexView → IndexView → Type 0
KeepsSummariseLock TouchesSummariseLock w v = Unit
KeepsSummariseLock touched w v = v.summarise_lock ≡ w.summarise_lock

-- all else stays as it is
pub record Frame (s : ℕ) (touched : Touched) (w v : IndexView) : Type 0 where
  pub heap : KeepsHeap touched w v
  pub map : KeepsMap touched w v
  pub tuples : KeepsTuples touched w v
  pub unnamed_tuples : KeepsUnnamed touched w v
  pub summarise_lock : KeepsSummariseLock touched w v
  pub locks : OwnLocks s w.lock v.lock
  pub contents : v.contents ≡ w.contents

-- the page of the session's loose tuple is locked by it
abbrev pub IsLooseLocked : ℕ → IndexView → Type 0
IsLooseLocked s v = (x : Spot) → v.loose s ≡ Some x → v.lock x.block ≡ Some s

-- nobody else locks this page
abbrev pub IsFree : (ℕ → Option ℕ) → ℕ → ℕ → Type 0
IsFree lock s p = (n : ℕ) → lock p ≡ Some n → n ≡ s

-- all that one includes, the other includes
abbrev pub IsWithin : (Row → Bool) → (Row → Bool) → Type 0
IsWithin f g = (r : Row) → IsTrue (f r) → IsTrue (g r)

abbrev pub at_work : ℕ → Option Progress → Option Building
at_work range None = None
at_work range (Some p) = Some (record { range = range; progress = p })

-- a row is put into a free slot, of a new block too
pub record RowComes (w v : IndexView) (b k : ℕ) (r : Row) : Type 0 where
  pub was : w.row b k ≡ None
  pub now : v.row b k ≡ Some r
  pub others : (c j : ℕ) → ((c ≡ b) × (j ≡ k)) ⊎ (v.row c j ≡ w.row c j)
  pub pages_per_range : v.pages_per_range ≡ w.pages_per_range
  pub grown : w.blocks ≤ v.blocks
  pub below : b < v.blocks

-- the session puts a row
pub record PutsRow (s : ℕ) (w v : IndexView) (b k : ℕ) (r : Row) : Type 0 where
  pub row : RowComes w v b k r
  pub loose : SameLoose w v
  pub work : SameWork w v
  pub frame : Frame s TouchesRows w v
  pub locked : IsLooseLocked s v

-- a placeholder is put, which the map doesn't name yet; from here on the session is building its range
pub record Places (s : ℕ) (w v : IndexView) (x : Spot) (t : IndexTuple) : Type 0 where
  pub tuple : ChangesAt w.tuple v.tuple x None (Some t)
  pub free : IsFree w.lock s x.block
  pub placeholder : t.placeholder ≡ true
  pub vacant : w.entry t.range ≡ None
  pub formed : IsTupleOf w t
  pub loose : ChangesAt w.loose v.loose s None (Some x)
  pub building : ChangesAt w.building v.building s None (at_work t.range (Some ExtentUnread))
  pub summarise_lock : w.summarise_lock ≡ Some s
  pub frame : Frame s TouchesTuples w v
  pub locked : IsLooseLocked s v

-- the map names it
pub record Names (s : ℕ) (w v : IndexView) (range : ℕ) (x : Spot) (t : IndexTuple) : Type 0 where
  pub entry : ChangesAt w.entry v.entry range None (Some x)
  pub loose : ChangesAt w.loose v.loose s (Some x) None
  pub there : w.tuple x ≡ Some t
  pub of : t.range ≡ range
  pub placeholder : t.placeholder ≡ true
  pub building : IsBuilding w s range ExtentUnread
  pub work : SameWork w v
  pub frame : Frame s TouchesEntries w v
  pub locked : IsLooseLocked s v

-- A building session takes up a placeholder that it found, reads the extent, or adds all rows in use of the next block.
pub data Turns (w : IndexView) (s range : ℕ) : Option Progress → Option Progress → Type 0 where
  StartsBuilding : w.summarise_lock ≡ Some s → Turns w s range None (Some ExtentUnread)
  ReadsExtent : (extent : ℕ) (result : IndexTuple) → extent ≡ min w.blocks ((range + 1) * w.pages_per_range)
      → Turns w s range (Some ExtentUnread) (Some (Passing extent (range * w.pages_per_range) result))
  PassesBlock : (extent next : ℕ) (result wider : IndexTuple) → IsWithin result.includes wider.includes
      → ((k : ℕ) (r : Row) → w.row next k ≡ Some r → IsTrue (wider.includes r))
      → Turns w s range (Some (Passing extent next result)) (Some (Passing extent (next + 1) wider))

pub record Turn (s : ℕ) (w v : IndexView) (range : ℕ) (old new : Option Progress) : Type 0 where
  pub turns : Turns w s range old new
  pub building : ChangesAt w.building v.building s (at_work range old) (at_work range new)
  pub loose : SameLoose w v
  pub frame : Frame s TouchesNothing w v
  pub locked : IsLooseLocked s v

-- the session has passed all blocks of the range, and the tuple includes its result
abbrev pub UnitesResult : IndexView → ℕ → ℕ → IndexTuple → Type 0
UnitesResult w s range new = (extent : ℕ) × (next : ℕ) × (result : IndexTuple) × IsBuilding w s range (Passing extent next result) × (extent ≤ next)
    × IsWithin result.includes new.includes

-- The new tuple includes what the old one does, and is of its sort, or is final and unites the result of a session that has passed all blocks.
abbrev pub Carries : IndexView → ℕ → ℕ → IndexTuple → IndexTuple → Type 0
Carries w s range old new = IsWithin old.includes new.includes × ((new.placeholder ≡ old.placeholder)
    ⊎ ((new.placeholder ≡ false) × UnitesResult w s range new))

-- what others build stays, and the session may end what it builds
abbrev pub MayEnd : ℕ → IndexView → IndexView → Type 0
MayEnd s w v = (n : ℕ) → (v.building n ≡ w.building n) ⊎ ((n ≡ s) × (v.building n ≡ None))

-- in its place, the tuple that the map names gives way to one that carries it
pub record Swaps (s : ℕ) (w v : IndexView) (range : ℕ) (x : Spot) (old new : IndexTuple) : Type 0 where
  pub tuple : ChangesAt w.tuple v.tuple x (Some old) (Some new)
  pub free : IsFree w.lock s x.block
  pub entry : w.entry range ≡ Some x
  pub of : (old.range ≡ range) × (new.range ≡ range)
  pub formed : IsFormed w.contents new
  pub carries : Carries w s range old new
  pub ends : MayEnd s w v
  pub loose : SameLoose w v
  pub frame : Frame s TouchesTuples w v
  pub locked : IsLooseLocked s v

-- a move puts the new tuple; the map still names the old one
pub record MovePuts (s : ℕ) (w v : IndexView) (range : ℕ) (x y : Spot) (old new : IndexTuple) : Type 0 where
  pub tuple : ChangesAt w.tuple v.tuple y None (Some new)
  pub free : IsFree w.lock s y.block
  pub before : w.tuple x ≡ Some old
  pub entry : w.entry range ≡ Some x
  pub of : (old.range ≡ range) × (new.range ≡ range)
  pub formed : IsFormed w.contents new
  pub carries : Carries w s range old new
  pub loose : ChangesAt w.loose v.loose s None (Some y)
  pub work : SameWork w v
  pub frame : Frame s TouchesTuples w v
  pub locked : IsLooseLocked s v

-- the map names the new one; what the session builds ends here, if the tuple is final
pub record MoveSets (s : ℕ) (w v : IndexView) (range : ℕ) (x y : Spot) (old new : IndexTuple) : Type 0 where
  pub entry : ChangesAt w.entry v.entry range (Some x) (Some y)
  pub loose : ChangesAt w.loose v.loose s (Some y) (Some x)
  pub free : IsFree w.lock s x.block
  pub before : w.tuple x ≡ Some old
  pub after : w.tuple y ≡ Some new
  pub of : (old.range ≡ range) × (new.range ≡ range)
  pub carries : Carries w s range old new
  pub ends : MayEnd s w v
  pub frame : Frame s TouchesEntries w v
  pub locked : IsLooseLocked s v

-- the session drops the tuple in its hands, which the map no longer names
pub record DropsLoose (s : ℕ) (w v : IndexView) (x : Spot) (old : IndexTuple) : Type 0 where
  pub tuple : ChangesAt w.tuple v.tuple x (Some old) None
  pub loose : ChangesAt w.loose v.loose s (Some x) None
  pub unnamed : (range : ℕ) → w.entry range ≢ Some x
  pub free : IsFree w.lock s x.block
  pub work : SameWork w v
  pub frame : Frame s TouchesTuples w v
  pub locked : IsLooseLocked s v

-- the holder of the summarise lock takes a range's entry out of the map
pub record Clears (s : ℕ) (w v : IndexView) (range : ℕ) (x : Spot) : Type 0 where
  pub entry : ChangesAt w.entry v.entry range (Some x) None
  pub loose : ChangesAt w.loose v.loose s None (Some x)
  pub free : IsFree w.lock s x.block
  pub summarise_lock : w.summarise_lock ≡ Some s
  pub work : SameWork w v
  pub frame : Frame s TouchesEntries w v
  pub locked : IsLooseLocked s v

-- nothing stands there any more, where the map named nothing
pub record IsSwept (w v : IndexView) (page : ℕ) (x : Spot) : Type 0 where
  pub on : x.block ≡ page
  pub unnamed : (range : ℕ) → w.entry range ≢ Some x
  pub now : v.tuple x ≡ None
  pub gone : v.unnamed x ≡ false

-- a place has the tuple that it had
abbrev pub IsUntouched : IndexView → IndexView → Spot → Type 0
IsUntouched w v x = (v.tuple x ≡ w.tuple x) × (v.unnamed x ≡ w.unnamed x)

-- tuples of one page that the map doesn't name are dropped, under the page's lock
pub record Sweeps (s : ℕ) (w v : IndexView) (page : ℕ) : Type 0 where
  pub places : (x : Spot) → IsUntouched w v x ⊎ IsSwept w v page x
  pub free : IsFree w.lock s page
  pub loose : SameLoose w v
  pub work : SameWork w v
  pub frame : Frame s TouchesUnnamed w v
  pub locked : IsLooseLocked s v

-- rows at these places are dropped from the heap
pub record RowsGo (dropped : ℕ → ℕ → Bool) (w v : IndexView) : Type 0 where
  pub row : (b k : ℕ) → (v.row b k ≡ w.row b k) ⊎ (IsTrue (dropped b k) × (v.row b k ≡ None))
  pub pages_per_range : v.pages_per_range ≡ w.pages_per_range
  pub blocks : v.blocks ≡ w.blocks

-- the session drops rows that are dead to all
pub record Prunes (s : ℕ) (dropped : ℕ → ℕ → Bool) (w v : IndexView) : Type 0 where
  pub rows : RowsGo dropped w v
  pub loose : SameLoose w v
  pub work : SameWork w v
  pub frame : Frame s TouchesRows w v
  pub locked : IsLooseLocked s v

-- the session takes the free summarise lock
pub record Takes (s : ℕ) (w v : IndexView) : Type 0 where
  pub free : w.summarise_lock ≡ None
  pub taken : v.summarise_lock ≡ Some s
  pub building : (n : ℕ) → v.building n ≡ w.building n
  pub loose : SameLoose w v
  pub frame : Frame s TouchesSummariseLock w v
  pub locked : IsLooseLocked s v

-- the session ends what it builds, if anything, and gives the summarise lock, if it holds it
pub record Ends (s : ℕ) (w v : IndexView) : Type 0 where
  pub building : (n : ℕ) → (v.building n ≡ w.building n) ⊎ (n ≡ s)
  pub idle : v.building s ≡ None
  pub summarise_lock : ((w.summarise_lock ≡ Some s) × (v.summarise_lock ≡ None)) ⊎ ((w.summarise_lock ≢ Some s) × (v.summarise_lock ≡ w.summarise_lock))
  pub loose : SameLoose w v
  pub frame : Frame s TouchesSummariseLock w v
  pub locked : IsLooseLocked s v

-- the session takes or gives page locks alone
pub record TurnsLocks (s : ℕ) (w v : IndexView) : Type 0 where
  pub loose : SameLoose w v
  pub work : SameWork w v
  pub frame : Frame s TouchesNothing w v
  pub locked : IsLooseLocked s v
