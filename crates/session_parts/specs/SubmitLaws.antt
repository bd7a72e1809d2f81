-- which place a store shows behind a statement that is taken, and behind a session that is made
use Rattle.std.specs.Prelude.{◌≡◌, ◌≢◌, ℕ, ◌<◌, List, [], length, Option, None, Some}
use Rattle.store_layout.specs.DiskLayout.{DiskLayout}
use Rattle.summarise_core.specs.declared.desummarise_stage.Stage.TheVariants as desummarise_stages
use Rattle.bitmap_scan.specs.declared.stage.Stage.TheVariants as stages
use Rattle.summarise_core.specs.declared.course.Standing.TheVariants as standings
use Rattle.summarise_core.specs.declared.wish.Wish.TheVariants as wishes
use Rattle.vacuum_core.specs.declared.standing.Standing.TheVariants as cleaning_standings
use Rattle.script_semantics.specs.LineTexts.{with_statement}
use Rattle.reply_texts.specs.declared.dropped.Dropped.{Dropped}
use Rattle.script_semantics.specs.Place.{Place}
use Rattle.session_parts.specs.declared.hand.Hand.{Hand}
use Rattle.session_parts.specs.declared.hand.Hand.TheVariants as hands
use Rattle.session_parts.specs.Hands.{statement_of}
use Rattle.session_parts.specs.ShowsPlace.{IsPlaceOf}
use Rattle.session_parts.specs.StoreLaws.{HasHand}
use Rattle.session_parts.specs.StoreStates.{ShownStore, dropped_in, hand_in}

-- the statement has made no step
abbrev pub HasNotBegun : DiskLayout → Hand → Type 0
HasNotBegun layout (hands.Begins numbers) = Unit {0}
HasNotBegun layout hands.Commits = Unit {0}
HasNotBegun layout hands.RollsBack = Unit {0}
HasNotBegun layout (hands.Puts table values) = Unit {0}
HasNotBegun layout (hands.Selecting query) = Unit {0}
HasNotBegun layout (hands.Deleting query) = Unit {0}
HasNotBegun layout (hands.Explains explain) = explain.judging.stage ≡ stages.Extent
HasNotBegun layout (hands.Summarises a) = (a.standing ≡ standings.Begins) × (a.index < length layout.schema.indexes) × (a.wish ≢ wishes.Complete)
HasNotBegun layout (hands.Desummarises a) = (a.stage ≡ desummarise_stages.Right) × (a.index < length layout.schema.indexes)
HasNotBegun layout (hands.Cleans c) = c.vacuum.standing ≡ cleaning_standings.Begins
HasNotBegun layout hands.Working = Unit {0}
HasNotBegun layout hand = ⊥

-- what the session asked for in vain is forgotten, and that of the others stays
pub record ForgetsDropped (old new : List (List Dropped)) (n : ℕ) : Type 0 where
  pub own : dropped_in new n ≡ []
  pub others : (m : ℕ) → m ≢ n → dropped_in new m ≡ dropped_in old m

-- a session without a statement in hand has this one then
abbrev pub SubmittedIsShown : Type 0
SubmittedIsShown = (s : ShownStore) (p : Place) (n : ℕ) (new : List (Option Hand)) (dropped : List (List Dropped)) (hand : Hand) → IsPlaceOf s p → hand_in s.hands n ≡ None
    → HasHand s.hands new n (Some hand) → ForgetsDropped s.dropped dropped n → HasNotBegun s.layout hand
    → IsPlaceOf (record s { hands = new; dropped = dropped }) (with_statement p n (statement_of hand))

-- sessions have other names, and in hand what they had
abbrev pub NamedIsShown : Type 0
NamedIsShown = (s : ShownStore) (p : Place) (names : List (List ℕ)) (new : List (Option Hand)) → IsPlaceOf s p → ((m : ℕ) → hand_in new m ≡ hand_in s.hands m)
    → IsPlaceOf (record s { names = names; hands = new }) (record p { names = names })
