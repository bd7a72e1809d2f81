-- Statements run whole, one after the other, as the requests that they are: what a transcript says where no delete stands beside another.
use Rattle.std.specs.Prelude.{◌≡◌, ◌≢◌, ℕ, ◌<◌, Bool, false, codes, List, [], ◌∷◌, ◌++◌, slice_index_or, All, Option, None, Some}
use Rattle.block_model.specs.declared.reply.Refusal.{Refusal}
use Rattle.block_model.specs.declared.reply.Refusal.TheVariants as refusals
use Rattle.block_model.specs.declared.reply.Reply.{Reply}
use Rattle.block_model.specs.declared.reply.Reply.TheVariants as replies
use Rattle.block_model.specs.declared.request.Entry.{Entry}
use Rattle.block_model.specs.declared.request.Request.TheVariants as requests
use Rattle.block_model.specs.declared.request.Tag.TheVariants as tags
use Rattle.block_model.specs.declared.row.Query.{Query}
use Rattle.block_model.specs.declared.value.Value.{Value}
use Rattle.block_model.specs.DatabaseState.{DatabaseState}
use Rattle.block_model.specs.SerialRun.{replies_to, serial_run}
use Rattle.store_layout.specs.declared.statement.Statement.{Statement}
use Rattle.store_layout.specs.declared.statement.Statement.TheVariants as statements
use Rattle.store_layout.specs.StatementRequests.{refusal_at, reply_to_statement, request_entry, requests_of, tagged_entry}
use Rattle.transcripts.specs.Told.{IsOutside, Limits, Tells}
use Rattle.transcripts.specs.Transcript.{IsNext, IsTextOf, IsTranscript, Line, Said, next_statement}

-- a begin for which there is memory has a number
abbrev pub HasNumber : Limits → DatabaseState → Bool → Statement → Type 0
HasNumber limits s short statement = short ≡ false → statement ≡ statements.Begin → s.next < limits.numbers

-- The requests of session n's statement that has this reply. It is refused and has none; or it is taken, and has those of its kind, as memory is short for it or isn't, and
-- its table is full or isn't. Beside these: no number is left for a begin, or a full index refuses an insert behind its row. Explain and maintenance have none.
pub data AreRequests (limits : Limits) (s : DatabaseState) (n : ℕ) : Statement → Reply → List Entry → Type 0 where
  NotTaken : (statement : Statement) (refusal : Refusal) → refusal_at s n statement ≡ Some refusal → AreRequests limits s n statement (replies.Refused refusal) []
  Taken : (statement : Statement) (short full : Bool) (reply : Reply) → refusal_at s n statement ≡ None → HasNumber limits s short statement
      → Some reply ≡ reply_to_statement limits.table_full statement (replies_to s (requests_of s n short full statement)) → AreRequests limits s n statement reply (requests_of s n short full statement)
  NoNumber : refusal_at s n statements.Begin ≡ None → s.next ≡ limits.numbers → AreRequests limits s n statements.Begin (replies.Refused (refusals.Full (codes "status") limits.numbers)) []
  IndexIsFull : (table at : ℕ) (values : List Value) → refusal_at s n (statements.Insert table values) ≡ None
      → AreRequests limits s n (statements.Insert table values) (replies.Refused (limits.index_full table at)) (request_entry n table (requests.Put values) ∷ tagged_entry n table (requests.Put values) tags.Full ∷ [])
  Outside : (statement : Statement) (reply : Reply) → IsOutside statement → AreRequests limits s n statement reply []

-- The entries' statements are run whole, one after the other, from the opening on: this is the journal of their requests, and each text is that of the reply.
pub data AreRunInTurn (limits : Limits) (names : List (List ℕ)) (script : List Line) (opening : DatabaseState) : List Said → List Entry → Type 0 where
  NoneYet : AreRunInTurn limits names script opening [] []
  OneMore : (said : List Said) (journal requests : List Entry) (e : Said) (statement : Statement) (reply : Reply) → AreRunInTurn limits names script opening said journal
      → IsNext script said e.session e.line statement → IsTextOf (slice_index_or names e.session []) reply statement e.text
      → AreRequests limits (serial_run opening journal) e.session statement reply requests → AreRunInTurn limits names script opening (said ++ e ∷ []) (journal ++ requests)

-- no other session's next statement is a delete
abbrev pub IsDeleteAlone : (ℕ → Option Statement) → ℕ → Type 0
IsDeleteAlone next n = (m : ℕ) (other : Query) → m ≢ n → next m ≢ Some (statements.Delete other)

-- where an entry answers a delete
abbrev pub DeletesAreAlone : List Line → List Said → Type 0
DeletesAreAlone script said = (before after : List Said) (e : Said) (q : Query) → said ≡ before ++ e ∷ after → next_statement script before e.session ≡ Some (statements.Delete q)
    → IsDeleteAlone (next_statement script before) e.session

-- the script is one session's
abbrev pub IsOfOne : ℕ → List Line → Type 0
IsOfOne n script = All (λ (line : Line). line.session ≡ n) script

-- ---- laws

-- a statement that is answered so leads by its requests from one database to the other
pub record LeadsBy (limits : Limits) (s : DatabaseState) (n : ℕ) (statement : Statement) (reply : Reply) (after : DatabaseState) : Type 0 where
  pub requests : List Entry
  pub are : AreRequests limits s n statement reply requests
  pub after_is : after ≡ serial_run s requests

-- a told statement is its requests, where it is no delete or stands alone
abbrev pub ToldAreRequests : Type 0
ToldAreRequests = (limits : Limits) (next : ℕ → Option Statement) (s after : DatabaseState) (n : ℕ) (statement : Statement) (reply : Reply) → ((q : Query) → statement ≡ statements.Delete q → IsDeleteAlone next n)
    → Tells limits next s n statement reply after → LeadsBy limits s n statement reply after

-- and a statement's requests may be told, whatever stands beside it
abbrev pub RequestsAreTold : Type 0
RequestsAreTold = (limits : Limits) (next : ℕ → Option Statement) (s : DatabaseState) (n : ℕ) (statement : Statement) (reply : Reply) (requests : List Entry) → AreRequests limits s n statement reply requests
    → Tells limits next s n statement reply (serial_run s requests)

-- the entries of a transcript are run in turn, and lead where the journal of their requests does
pub record IsRunInTurn (limits : Limits) (names : List (List ℕ)) (script : List Line) (opening : DatabaseState) (said : List Said) (s : DatabaseState) : Type 0 where
  pub journal : List Entry
  pub run : AreRunInTurn limits names script opening said journal
  pub leads : s ≡ serial_run opening journal

-- so it is of a transcript in which each delete stands alone
abbrev pub TranscriptsAreRuns : Type 0
TranscriptsAreRuns = (limits : Limits) (names : List (List ℕ)) (script : List Line) (opening s : DatabaseState) (said : List Said) → DeletesAreAlone script said → IsTranscript limits names script opening said s
    → IsRunInTurn limits names script opening said s

-- in a script of one session each does
abbrev pub OneSessionIsAlone : Type 0
OneSessionIsAlone = (script : List Line) (said : List Said) (n : ℕ) → IsOfOne n script → DeletesAreAlone script said

-- and all that is run in turn is a transcript
abbrev pub RunsAreTranscripts : Type 0
RunsAreTranscripts = (limits : Limits) (names : List (List ℕ)) (script : List Line) (opening : DatabaseState) (said : List Said) (journal : List Entry) → AreRunInTurn limits names script opening said journal
    → IsTranscript limits names script opening said (serial_run opening journal)
