-- what holds of each value that the lock may hold
use Rattle.std.specs.Prelude.{◌≡◌, ◌↔◌, ℕ, ◌≤◌, IsNone, IfSome, length, None, Some, Option}
use Rattle.block_model.specs.declared.reply.Refusal.{Refusal}
use Rattle.block_model.specs.declared.reply.Reply.{Reply}
use Rattle.block_model.specs.Causes.{Rose}
use Rattle.block_model.specs.DatabaseState.{DatabaseState}
use Rattle.block_model.specs.SerialRun.{IsLegal}
use Rattle.disk_trait.specs.Told.{Told}
use Rattle.model_laws.specs.NoRowRemovedTwice as openings
use Rattle.page_map.specs.Keeps.{Tells, Untold}
use Rattle.store_layout.specs.declared.statement.Statement.{Statement}
use Rattle.store_layout.specs.DiskLayout.{DiskLayout}
use Rattle.transactions.specs.StopLaws.{EachImage}
use Rattle.script_semantics.specs.LineTexts.{Submits}
use Rattle.script_semantics.specs.Place.{Place}
use Rattle.script_semantics.specs.StatementSteps.{Ended, LacksRoom, Steps}
use Rattle.transcript_laws.specs.Schedule.{Schedule}
use Rattle.transcript_laws.specs.ScheduleLaws.{IsRightlyTold}
use Rattle.plain_script.specs.PlainScripts.{PlainScript}
use Rattle.session_parts.specs.ShowsPlace.{ShowsPlace}
use Rattle.session_parts.specs.StoreStates.{StoreState}
use Rattle.session_core.specs.StopRule.{AllHaveTable}
use Rattle.session_orders.specs.CrashRule.{HasTableOf}
use Rattle.session_orders.specs.OneStep.{LacksRoomFor}
use Rattle.session_stepper.specs.declared.ending.Ending.{Ending}
use Rattle.session_stepper.specs.declared.ending.Ending.TheVariants.{Disk, Memory, OutOfPlace, Spent, Damaged}
use Rattle.session_stepper.specs.Replies.{TellsReplies}
use Rattle.session_stepper.specs.TranscribedState.{TranscribedState}

-- what is behind the lock, and how many calls were answered Ended
pub record LockedState (D : Type 0) : Type 0 where
  pub kept : TranscribedState D
  pub ends : ℕ

-- Why no more lines are answered: the disk's count of faults is above that one; the journal has no room for the next step of some session; or the disk doesn't tell
-- its contents, where a page is found damaged. Want of memory and a call out of place are free.
abbrev pub HasEnded : {D : Type 0} → (D → Told) → (faults : ℕ) → StoreState D → Ending → Type 0
HasEnded told faults s Disk = Rose faults (told s.pages.disk).faults
HasEnded told faults s Spent = (n : ℕ) × LacksRoomFor s n
HasEnded told faults s Damaged = Untold told s.pages
HasEnded told faults s ending = Unit {0}

-- Over any name: the first book counts the entries, the second the calls that were answered Ended; an end has its cause.
pub record IsLocked {D : Type 0} (told : D → Told) (faults answers : ℕ) (s : LockedState D) : Type 0 where
  pub counted : answers ≡ length s.kept.said
  pub none : IsNone s.kept.ended ↔ (s.ends ≡ 0)
  pub later : faults ≤ (told s.kept.store.pages.disk).faults
  pub ready : s.kept.ended ≡ None → s.kept.store.pages.failed ≡ None
  pub cause : IfSome s.kept.ended (HasEnded told faults s.kept.store)

-- ---- over an honest name

-- from the first place to the second one a line of session n is answered: by the step that ends it, or by its refusal
pub data LeadsByAnswer (n : ℕ) (p q : Place) : Type 0 where
  ByStep : (reply : Reply) → Steps p n (Ended reply) q → LeadsByAnswer n p q
  ByRefusal : (statement : Statement) (refusal : Refusal) → Submits p n statement (Some refusal) q → LeadsByAnswer n p q

-- The store shows the place. So its journal of requests is the place's, and legal; its pages show the database to which that journal leads from the opening, and each table is covered (ShowsPlace). And each image has the place's table.
abbrev pub StandsAt : {D : Type 0} → (D → Told) → StoreState D → Place → Type 0
StandsAt told s p = ShowsPlace s p × AllHaveTable told s.pages p

-- Where the store stands by its end, beside the place to which the kept transcript leads. It stands there before an end, and where a call was out of place; and at a full journal, which has no room there for a session's next
-- step. Where an answer's text is lost it stands behind that answer. Behind a fault of the disk no place is told. No page is damaged.
abbrev pub StandsBy : {D : Type 0} → (D → Told) → StoreState D → Place → Option Ending → Type 0
StandsBy told s p None = StandsAt told s p
StandsBy told s p (Some OutOfPlace) = StandsAt told s p
StandsBy told s p (Some Spent) = StandsAt told s p × ((n : ℕ) × LacksRoom p n)
StandsBy told s p (Some Memory) = (q : Place) × ((n : ℕ) × LeadsByAnswer n p q) × StandsAt told s q
StandsBy told s p (Some Disk) = Unit {0}
StandsBy told s p (Some Damaged) = ⊥

-- Where the disk tells what the name says: the sessions' lines came so far in some order, from the name's opening to this place, by steps whose requests make its journal; and each entry of the kept transcript is the text of
-- what such a step, or a submission, was answered, the replies to its requests in the run of that journal. The journal is legal. Whatever the end, each image has the place's table, or that with the commit which a session has
-- in hand there.
pub record IsWatched {D : Type 0} (told : D → Told) (opening : DatabaseState) (layout : DiskLayout) (script : PlainScript) (s : TranscribedState D) (p : Place) : Type 0 where
  pub tells : Tells told s.store.pages
  pub opens : openings.IsOpening opening
  pub opening_is : p.opening ≡ opening
  pub layout_is : s.store.pages.layout ≡ layout
  pub script_is : s.script.script ≡ script
  pub schedule : Schedule layout script.names script.lines opening s.said p
  pub legal : IsLegal opening p.journal
  pub stands : StandsBy told s.store p s.ended
  pub stop : (n : ℕ) × EachImage told s.store.pages (HasTableOf p n)

-- so it is at some place
abbrev pub IsWatchedSomewhere : {D : Type 0} → (D → Told) → DatabaseState → DiskLayout → PlainScript → TranscribedState D → Type 0
IsWatchedSomewhere told opening layout script s = (p : Place) × IsWatched told opening layout script s p

-- What is known of it: the journal of the place is legal from the name's opening on. What was told is a right transcript, whose database has the place's table; the journal's database is ahead of it by the statements in hand
-- alone. And what was told of each session is the text of the journal's replies, one by one. The rest is as it is watched.
pub record IsKnown {D : Type 0} (told : D → Told) (opening : DatabaseState) (layout : DiskLayout) (script : PlainScript) (s : TranscribedState D) : Type 0 where
  pub place : Place
  pub watched : IsWatched told opening layout script s place
  pub opening_is : place.opening ≡ opening
  pub legal : IsLegal opening place.journal
  pub right : IsRightlyTold layout script.names script.lines opening s.said place
  pub replies : TellsReplies layout script.names script.lines s.said place
