-- what comes of the last step of a scan
use Rattle.std.specs.Prelude.{◌≡◌, ℕ, ◌+◌, ◌<◌, ◌≤◌, List, [], ◌∷◌, ◌++◌, length, Some}
use Rattle.std.specs.Global.{Vec}
use Rattle.block_model.specs.declared.place.Spot.{Spot}
use Rattle.block_model.specs.declared.reply.Point.{Point}
use Rattle.block_model.specs.declared.reply.Refusal.TheVariants as refusals
use Rattle.block_model.specs.declared.reply.Reply.{Reply}
use Rattle.block_model.specs.declared.reply.Reply.TheVariants as replies
use Rattle.block_model.specs.declared.request.Request.TheVariants as requests
use Rattle.block_model.specs.declared.request.Tag.TheVariants as tags
use Rattle.block_model.specs.declared.row.Query.{Query}
use Rattle.block_model.specs.declared.row.Row.{Row}
use Rattle.store_layout.specs.declared.limits.TheConstants.{MAX_ENTRIES}
use Rattle.store_layout.specs.StatementRequests.{look_entry, tagged_entry}
use Rattle.transactions.specs.TransactionsState.{OfOpen, with_failed}
use Rattle.session_parts.specs.declared.faults.StoreFault.TheVariants as stops
use Rattle.session_parts.specs.declared.hand.Hand.TheVariants as hands
use Rattle.session_parts.specs.declared.hand.Hit.{Hit}
use Rattle.session_parts.specs.declared.hand.Stepped.{Stepped}
use Rattle.session_parts.specs.declared.hand.Stepped.TheVariants as stepped
use Rattle.session_parts.specs.declared.parts.Parts.{Parts}
use Rattle.session_scans.specs.declared.looking.Looking.{Looking}
use Rattle.session_scans.specs.declared.looking.Looking.TheVariants as lookings
use Rattle.session_scans.specs.FoundLists.{ListsHits, ListsRows}
use Rattle.session_scans.specs.Looks.{first_hand_of}

-- the look is entered, which was promised
pub record EntersLook {D : Type 0} (old new : Parts D) (n : ℕ) (query : Query) : Type 0 where
  pub entries : new.journal.entries ≡ old.journal.entries ++ look_entry n query ∷ []
  pub promised : new.journal.promised + 1 ≡ old.journal.promised
  pub rest : new ≡ record old { journal = new.journal }

-- so many entries more are promised
pub record Promises {D : Type 0} (old new : Parts D) (count : ℕ) : Type 0 where
  pub entries : new.journal.entries ≡ old.journal.entries
  pub promised : new.journal.promised ≡ old.journal.promised + count
  pub rest : new ≡ record old { journal = new.journal }

-- one entry less is promised
pub record Releases {D : Type 0} (old new : Parts D) : Type 0 where
  pub entries : new.journal.entries ≡ old.journal.entries
  pub promised : new.journal.promised + 1 ≡ old.journal.promised
  pub rest : new ≡ record old { journal = new.journal }

-- the look is entered as one for which memory was short, and the session's transaction has failed; an entry that was promised beside it isn't needed
pub record RefusesLook {D : Type 0} (old new : Parts D) (n : ℕ) (query : Query) : Type 0 where
  pub failed : OfOpen old.transactions n (λ o. new.transactions ≡ with_failed old.transactions n o)
  pub entries : new.journal.entries ≡ old.journal.entries ++ tagged_entry n query.table (requests.Look query) tags.NoMemory ∷ []
  pub promised : new.journal.promised + 2 ≡ old.journal.promised
  pub rest : new ≡ record old { transactions = new.transactions; journal = new.journal }

-- a select is answered the rows that its scan found; so is a delete at once, where there is none
abbrev pub IsReplyOf : Looking → (found : List (Row × Spot)) → List Row → Reply → Type 0
IsReplyOf lookings.Select found rows reply = reply ≡ replies.Found rows
IsReplyOf lookings.Delete found rows reply = (found ≡ []) × (rows ≡ []) × (reply ≡ replies.Deleted 0)

-- The statement replies, or a delete goes on to mark what it found; or memory is short for that; or the journal lacks room for the look.
pub data Finishes {D : Type 0} (old : Parts D) (n : ℕ) (looking : Looking) (query : Query) (found : List (Row × Spot)) (point : Point) (answer : Stepped) (new : Parts D) : Type 0 where
  Tells : (reply : Reply) (rows : List Row) → ListsRows found rows → IsReplyOf looking found rows reply → answer ≡ stepped.Done reply → EntersLook old new n query
      → length old.journal.entries + 1 ≤ MAX_ENTRIES → Finishes old n looking query found point answer new
  GoesToMarks : (hits : Vec Hit) (copy : Query) → looking ≡ lookings.Delete → copy ≡ query → ListsHits found hits.items → 0 < length hits.items
      → answer ≡ stepped.Moved point (hands.Marks (record { query = query; look = Some copy; hits = hits; next = 0 })) → Promises old new (length hits.items)
      → Finishes old n looking query found point answer new
  LacksMemory : answer ≡ stepped.Done (replies.Refused refusals.Memory) → RefusesLook old new n query → length old.journal.entries + 1 ≤ MAX_ENTRIES
      → Finishes old n looking query found point answer new
  BeginsAnew : MAX_ENTRIES < length old.journal.entries + 1 → answer ≡ stepped.Undone (stops.Spent (length old.journal.entries)) (first_hand_of looking query) → Releases old new
      → Finishes old n looking query found point answer new
