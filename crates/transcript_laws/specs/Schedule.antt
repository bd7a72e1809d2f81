-- Sessions that work beside each other, one worker each: in any order the next line of one is submitted, or one step of a statement in hand is made.
use Rattle.std.specs.Prelude.{◌≡◌, ℕ, List, [], ◌∷◌, ◌++◌, slice_index_or, None, Some}
use Rattle.block_model.specs.declared.reply.Point.{Point}
use Rattle.block_model.specs.declared.reply.Refusal.{Refusal}
use Rattle.block_model.specs.declared.reply.Reply.{Reply}
use Rattle.block_model.specs.declared.reply.Reply.TheVariants as replies
use Rattle.block_model.specs.DatabaseState.{DatabaseState, initial_state}
use Rattle.reply_texts.specs.DroppedTexts.{dropped_text}
use Rattle.reply_texts.specs.Texts.{reply_text}
use Rattle.store_layout.specs.declared.statement.Statement.{Statement}
use Rattle.store_layout.specs.DiskLayout.{DiskLayout}
use Rattle.script_semantics.specs.LineTexts.{Submits, dropped_at}
use Rattle.script_semantics.specs.Place.{Place}
use Rattle.script_semantics.specs.Starts.{IsOpening, IsStart}
use Rattle.script_semantics.specs.StatementSteps.{Outcome, Moved, Ended, Waits, Steps}
use Rattle.transcripts.specs.Transcript.{IsNext, Line, Said}

-- the entry of session n's line of that number, with this text
abbrev pub entry_of : ℕ → ℕ → List ℕ → Said
entry_of n number text = record { session = n; line = number; text = text }

-- What a step tells the transcript: an answer is one entry, anything else none. (A step that answers several lines would tell as many.)
pub data AreTold (q : Place) (names : List (List ℕ)) (n number : ℕ) : Outcome → List Said → Type 0 where
  NotByMove : (point : Point) → AreTold q names n number (Moved point) []
  NotByWait : (told : Refusal) → AreTold q names n number (Waits told) []
  ByReply : (reply : Reply) → AreTold q names n number (Ended reply) (entry_of n number (dropped_text (dropped_at q n) ++ reply_text (slice_index_or names n []) reply) ∷ [])

-- From the opening of a store on, whose sessions have these names, the sessions' lines came so far: these entries were told, and this is where the store stands.
pub data Schedule (layout : DiskLayout) (names : List (List ℕ)) (script : List Line) (opening : DatabaseState) : List Said → Place → Type 0 where
  AtOpening : (p : Place) → IsOpening layout opening p → Schedule layout names script opening [] (record p { names = names })
  AtStart : (p : Place) → IsStart layout p → opening ≡ initial_state → Schedule layout names script opening [] (record p { names = names })
  Takes : (said : List Said) (p q : Place) (n number : ℕ) (statement : Statement) → Schedule layout names script opening said p → IsNext script said n number statement → Submits p n statement None q
      → Schedule layout names script opening said q
  Refuses : (said : List Said) (p q : Place) (n number : ℕ) (statement : Statement) (refusal : Refusal) → Schedule layout names script opening said p → p.hands n ≡ None
      → IsNext script said n number statement → Submits p n statement (Some refusal) q
      → Schedule layout names script opening (said ++ entry_of n number (reply_text (slice_index_or names n []) (replies.Refused refusal)) ∷ []) q
  MakesStep : (said told : List Said) (p q : Place) (n number : ℕ) (statement : Statement) (outcome : Outcome) → Schedule layout names script opening said p → IsNext script said n number statement
      → Steps p n outcome q → AreTold q names n number outcome told → Schedule layout names script opening (said ++ told) q
