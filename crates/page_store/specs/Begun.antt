-- a page that is begun in the log, and one that is redone in the pool
use Rattle.std.specs.Prelude.{◌≡◌, ◌||◌, ℕ, Bool, true, List, [], ◌∷◌, ◌++◌, Some, set, slice_index_or, false, length}
use Rattle.block_model.specs.declared.limits.TheConstants.{PAGE_SIZE}
use Rattle.std.specs.List.{AllByRecursion}
use Rattle.block_model.specs.declared.place.Place.{Place}
use Rattle.page_layout.specs.declared.page.Form.{Form}
use Rattle.page_layout.specs.PageContents.{IsPageOf}
use Rattle.recovery.specs.Redo.{Redone}
use Rattle.wal_record.specs.Changes.{IsChange, LoggedChange, FullPage}
use Rattle.buffer_pool.specs.PoolState.{HeldPage, PoolState, held_at, with_page}
use Rattle.wal_record.specs.Waiting.{Waiting, with_change}
use Rattle.page_store.specs.Room.{is_anew}

-- the page that is held at the number is what the changes make of it, and waits for that number
pub record RedoesHeld (form : Form) (number waits : ℕ) (changes : List LoggedChange) (old new : PoolState) : Type 0 where
  pub before : HeldPage
  pub after : List ℕ
  pub was : held_at old number ≡ Some before
  pub redone : Redone form before.content changes after
  pub whole : length after ≡ PAGE_SIZE
  pub passes : IsPageOf form after
  pub is : new ≡ with_page old number (record { content = after; log = Some waits })

-- the changes that come first where the log hasn't begun the page: the whole page as it is
abbrev pub begin_with : Bool → Place → List ℕ → List LoggedChange
begin_with true place page = []
begin_with false place page = FullPage place page ∷ []

-- the marks then
abbrev pub marked_from : Bool → List Bool → ℕ → List Bool
marked_from true marks number = marks
marked_from false marks number = set marks number true

-- a page of the form is held at the number
pub record HoldsOf (form : Form) (number : ℕ) (pool : PoolState) : Type 0 where
  pub page : HeldPage
  pub held : held_at pool number ≡ Some page
  pub passes : IsPageOf form page.content

-- changes that wait behind others
abbrev pub with_changes : Waiting → List LoggedChange → Waiting
with_changes waiting [] = waiting
with_changes waiting (change ∷ changes) = with_changes (with_change waiting change) changes

-- what a change touches: the changes that wait, the marks, and the pool
pub record Touched : Type 0 where
  pub waiting : Waiting
  pub marks : List Bool
  pub pool : PoolState

-- what comes first, and the change
abbrev pub logged_for : Bool → Place → List ℕ → LoggedChange → List LoggedChange
logged_for begun place page change = begin_with begun place page ++ change ∷ []

-- the page that is held at the number is what the change makes of it, is marked, and waits with the change
pub record MakesHeld (form : Form) (place : Place) (number waits : ℕ) (change : LoggedChange) (old new : Touched) : Type 0 where
  pub redoes : RedoesHeld form number waits (change ∷ []) old.pool new.pool
  pub waiting : new.waiting ≡ with_changes old.waiting (logged_for (slice_index_or old.marks number false || is_anew change) place redoes.before.content change)
  pub redone : Redone form redoes.before.content (logged_for (slice_index_or old.marks number false || is_anew change) place redoes.before.content change) redoes.after
  pub changes : AllByRecursion IsChange (logged_for (slice_index_or old.marks number false || is_anew change) place redoes.before.content change)
  pub marks : new.marks ≡ set old.marks number true
