-- the locked value before the first line
use Rattle.std.specs.Prelude.{◌≡◌, ◌⊎◌, ℕ, List, [], None}
use Rattle.block_model.specs.DatabaseState.{DatabaseState, initial_state}
use Rattle.disk_trait.specs.Told.{Told}
use Rattle.model_laws.specs.NoRowRemovedTwice as openings
use Rattle.page_map.specs.Keeps.{Tells}
use Rattle.store_layout.specs.DiskLayout.{DiskLayout}
use Rattle.script_semantics.specs.Place.{Place}
use Rattle.script_semantics.specs.Starts.{IsOpening, IsStart}
use Rattle.transcript_laws.specs.ScheduleLaws.{FitsSchema}
use Rattle.plain_script.specs.HeldScripts.{HeldScript, held_whole}
use Rattle.plain_script.specs.PlainScripts.{HasItsSessions, PlainScript}
use Rattle.session_parts.specs.ShowsPlace.{ShowsPlace}
use Rattle.session_parts.specs.StoreStates.{StoreState, hand_at}
use Rattle.session_core.specs.StopRule.{AllHaveTable}
use Rattle.session_stepper.specs.TranscribedState.{TranscribedState, line_at}

-- a store that was opened and has no sessions, and a script whose lines are for its tables, of which none was taken
pub record IsFresh {D : Type 0} (s : StoreState D) (script : HeldScript) : Type 0 where
  pub names : s.names ≡ []
  pub hands : s.hands ≡ []
  pub ready : s.pages.failed ≡ None
  pub whole : script ≡ held_whole script.script
  pub sessions : HasItsSessions script.script
  pub fits : FitsSchema s.pages.layout.schema script.script.lines

-- a store at whose opening nothing was done: opened over a table, or new
abbrev pub Begins : DiskLayout → DatabaseState → Place → Type 0
Begins layout opening p = IsOpening layout opening p ⊎ (IsStart layout p × (opening ≡ initial_state))

-- What the caller knows of an honest name: the disk tells its contents, no transaction is under way in the opening, the store has the name's layout and shows a place at which it was opened so, each image has the table of that
-- place, and the script is the name's.
pub record IsGiven {D : Type 0} (told : D → Told) (opening : DatabaseState) (layout : DiskLayout) (script : PlainScript) (s : StoreState D) (held : PlainScript) : Type 0 where
  pub tells : Tells told s.pages
  pub opens : openings.IsOpening opening
  pub layout_is : s.pages.layout ≡ layout
  pub script_is : held ≡ script
  pub place : Place
  pub begins : Begins layout opening place
  pub shown : ShowsPlace s place
  pub all : AllHaveTable told s.pages place

-- the store has sessions of these names, with nothing in hand; each place that it showed it shows with their names
pub record HasAllSessions {D : Type 0} (told : D → Told) (s s' : StoreState D) (names : List (List ℕ)) : Type 0 where
  pub names_are : s'.names ≡ names
  pub idle : (n : ℕ) → hand_at s' n ≡ None
  pub pages : s'.pages ≡ s.pages
  pub places : Tells told s.pages → s.pages.failed ≡ None → (p : Place) → ShowsPlace s p → ShowsPlace s' (record p { names = names })

-- it is transcribed with this script, and nothing was said yet
pub record IsBegun {D : Type 0} (told : D → Told) (store : StoreState D) (script : HeldScript) (s : TranscribedState D) : Type 0 where
  pub sessions : HasAllSessions told store s.store script.script.names
  pub script_is : s.script ≡ script
  pub said : s.said ≡ []
  pub in_hand : (n : ℕ) → line_at s.in_hand n ≡ None
  pub ended : s.ended ≡ None
