-- The texts of the transcript are the journal's replies: each session's entries tell, one by one, what the run of the journal has answered to its requests.
use Rattle.std.specs.Prelude.{◌≡◌, ◌≢◌, ℕ, ◌==◌, codes, List, [], ◌∷◌, ◌++◌, filter, map, zip, slice_get, slice_index_or, Option, None, Some}
use Rattle.block_model.specs.declared.reply.Refusal.{Refusal}
use Rattle.block_model.specs.declared.reply.Refusal.TheVariants as refusals
use Rattle.block_model.specs.declared.reply.Reply.{Reply}
use Rattle.block_model.specs.declared.reply.Reply.TheVariants as replies
use Rattle.block_model.specs.declared.request.Entry.{Entry}
use Rattle.block_model.specs.declared.request.Tag.{Tag}
use Rattle.block_model.specs.declared.request.Tag.TheVariants as tags
use Rattle.block_model.specs.declared.value.Value.{Value}
use Rattle.block_model.specs.DatabaseState.{DatabaseState}
use Rattle.block_model.specs.RequestEffect.{Answer, Full, NoMemory}
use Rattle.block_model.specs.SerialRun.{replies_to, serial_run}
use Rattle.store_layout.specs.declared.statement.Statement.{Statement}
use Rattle.store_layout.specs.declared.statement.Statement.TheVariants as statements
use Rattle.store_layout.specs.DiskLayout.{DiskLayout}
use Rattle.store_layout.specs.HeapRoom.{full_table}
use Rattle.store_layout.specs.StatementRequests.{refusal_at, reply_to_statement}
use Rattle.script_semantics.specs.Place.{Hand, Place}
use Rattle.script_semantics.specs.Requests.{next_request, refused_request}
use Rattle.script_semantics.specs.StatementSteps.{full_index, numbers_of}
use Rattle.transcripts.specs.Told.{IsOutside}
use Rattle.transcripts.specs.Transcript.{IsTextOf, Line, Said, entries_of}

-- the requests of session n in a journal that is run from that database on, each with what it is answered there
abbrev pub asked_by : ℕ → DatabaseState → List Entry → List (Entry × Answer)
asked_by n s journal = filter (λ (x : Entry × Answer). x.0.session == n) (zip journal (replies_to s journal))

abbrev pub answers_in : List (Entry × Answer) → List Answer
answers_in asked = map (λ (x : Entry × Answer). x.1) asked

-- the requests that session n's statement has made so far, each the next one behind the answers of those before it
pub data AreOfStatement (n : ℕ) (statement : Statement) : List (Entry × Answer) → Type 0 where
  NoRequest : AreOfStatement n statement []
  OneRequest : (before : List (Entry × Answer)) (e : Entry) (answer : Answer) → AreOfStatement n statement before → next_request n statement (answers_in before) ≡ Some e
      → AreOfStatement n statement (before ++ (e, answer) ∷ [])

-- How a statement's request that comes behind these answers is refused: its tag, its answer, and what is told. Memory is short; or an insert's table is full before its put, or an index of the table behind it.
pub data IsRefusedSo (layout : DiskLayout) (statement : Statement) (answers : List Answer) : Tag → Answer → Refusal → Type 0 where
  MemoryIsShort : answers ≡ [] → IsRefusedSo layout statement answers tags.NoMemory NoMemory refusals.Memory
  TableIsFull : (table : ℕ) (values : List Value) → statement ≡ statements.Insert table values → answers ≡ [] → IsRefusedSo layout statement answers tags.Full Full (full_table layout table)
  IndexIsFull : (table at : ℕ) (values : List Value) → statement ≡ statements.Insert table values → answers ≢ [] → IsRefusedSo layout statement answers tags.Full Full (full_index layout table at)

-- the database behind a front of the journal in which session n has asked just this
pub record IsBehind (opening : DatabaseState) (journal : List Entry) (n : ℕ) (asked : List (Entry × Answer)) (s : DatabaseState) : Type 0 where
  pub front : List Entry
  pub rest : List Entry
  pub journal_is : journal ≡ front ++ rest
  pub asked_is : asked_by n opening front ≡ asked
  pub leads : serial_run opening front ≡ s

-- What session n's statement is replied, that has asked before what is in `asked`, and for the statement what is in the last list. All requests of the statement are answered, and the reply is that of their answers; or the
-- last one is refused. Or none is made: its transaction doesn't allow the statement, or a begin finds no number, or no memory. What explain and maintenance are replied isn't said here.
pub data IsReplyTo (layout : DiskLayout) (opening : DatabaseState) (journal : List Entry) (n : ℕ) (asked : List (Entry × Answer)) (statement : Statement) : List (Entry × Answer) → Reply → Type 0 where
  AllAnswered : (own : List (Entry × Answer)) (reply : Reply) → AreOfStatement n statement own → next_request n statement (answers_in own) ≡ None
      → Some reply ≡ reply_to_statement (full_table layout) statement (answers_in own) → IsReplyTo layout opening journal n asked statement own reply
  LastRefused : (own : List (Entry × Answer)) (e : Entry) (answer : Answer) (tag : Tag) (refusal : Refusal) → AreOfStatement n statement own → refused_request n tag statement ≡ e ∷ []
      → IsRefusedSo layout statement (answers_in own) tag answer refusal → IsReplyTo layout opening journal n asked statement (own ++ (e, answer) ∷ []) (replies.Refused refusal)
  NotTaken : (s : DatabaseState) (refusal : Refusal) → IsBehind opening journal n asked s → refusal_at s n statement ≡ Some refusal
      → IsReplyTo layout opening journal n asked statement [] (replies.Refused refusal)
  NoNumber : (s : DatabaseState) → IsBehind opening journal n asked s → statement ≡ statements.Begin → s.next ≡ numbers_of layout
      → IsReplyTo layout opening journal n asked statement [] (replies.Refused (refusals.Full (codes "status") (numbers_of layout)))
  BeginLacksMemory : statement ≡ statements.Begin → IsReplyTo layout opening journal n asked statement [] (replies.Refused refusals.Memory)
  Outside : (reply : Reply) → IsOutside statement → IsReplyTo layout opening journal n asked statement [] reply

-- These entries of session n are the texts of the replies to its lines' statements, one by one; and to these requests in all.
pub data AreReplies (layout : DiskLayout) (names : List (List ℕ)) (script : List Line) (opening : DatabaseState) (journal : List Entry) (n : ℕ) : List Said → List (Entry × Answer) → Type 0 where
  NoReply : AreReplies layout names script opening journal n [] []
  OneReply : (said : List Said) (asked own : List (Entry × Answer)) (e : Said) (statement : Statement) (reply : Reply) → AreReplies layout names script opening journal n said asked
      → slice_get script e.line ≡ Some (record { session = n; statement = statement }) → IsReplyTo layout opening journal n asked statement own reply
      → IsTextOf (slice_index_or names n []) reply statement e.text → AreReplies layout names script opening journal n (said ++ e ∷ []) (asked ++ own)

-- these are the requests of what session n has in hand, which was answered so
abbrev pub AreInHand : ℕ → Option Hand → List (Entry × Answer) → Type 0
AreInHand n None own = own ≡ []
AreInHand n (Some hand) own = AreOfStatement n hand.statement own × (hand.answers ≡ answers_in own)

-- All that the journal at the place has answered to session n is told by its entries, but for the answers of what it has in hand.
pub record IsToldOf (layout : DiskLayout) (names : List (List ℕ)) (script : List Line) (said : List Said) (p : Place) (n : ℕ) : Type 0 where
  pub asked : List (Entry × Answer)
  pub own : List (Entry × Answer)
  pub replies : AreReplies layout names script p.opening p.journal n (entries_of n said) asked
  pub in_hand : AreInHand n (p.hands n) own
  pub all : asked_by n p.opening p.journal ≡ asked ++ own

-- so it is of each session
abbrev pub TellsReplies : DiskLayout → List (List ℕ) → List Line → List Said → Place → Type 0
TellsReplies layout names script said p = (n : ℕ) → IsToldOf layout names script said p n
