-- which statements of a session are taken, and what they are in hand
use Rattle.std.specs.Prelude.{◌≡◌, ◌≢◌, ℕ, ◌+◌, true, Option, None, Some, IsSome, Result, Ok, Err, MatchOption}
use Rattle.block_model.specs.declared.reply.Refusal.{Refusal}
use Rattle.block_model.specs.declared.reply.Refusal.TheVariants as refusals
use Rattle.store_layout.specs.declared.statement.Statement.{Statement}
use Rattle.store_layout.specs.declared.statement.Statement.TheVariants as statements
use Rattle.snapshot_core.specs.declared.sessions.Open.{Open}
use Rattle.snapshot_core.specs.declared.standing.Standing.{Standing}
use Rattle.snapshot_core.specs.declared.standing.Standing.TheVariants as standings
use Rattle.snapshot_core.specs.StoredVersions.{transaction_of}
use Rattle.transactions.specs.Sessions.{open_standing}
use Rattle.script_semantics.specs.LineTexts.{block_refusal, in_hand_refusal, may_want_memory, or_else}
use Rattle.session_parts.specs.declared.hand.Hand.{Hand}
use Rattle.session_parts.specs.declared.parts.Parts.{Parts}
use Rattle.session_parts.specs.HandFits.{IsHandFor, IsUnderWay}
use Rattle.session_parts.specs.Hands.{statement_of}
use Rattle.session_parts.specs.Shares.{hand_share}
use Rattle.session_parts.specs.StoreStates.{StoreState, hand_at}
use Rattle.session_parts.specs.SubmitLaws.{ForgetsDropped, HasNotBegun}

-- by how the session stands: a begin where a transaction is under way, an end where none is, and the rest of a transaction but in one that hasn't failed
abbrev pub begin_refusal : Standing → Option Refusal
begin_refusal standings.Idle = None
begin_refusal standing = Some refusals.UnderWay

abbrev pub end_refusal : Standing → Option Refusal
end_refusal standings.Idle = Some refusals.NoTransaction
end_refusal standing = None

abbrev pub request_refusal : Standing → Option Refusal
request_refusal standings.Idle = Some refusals.NoTransaction
request_refusal standings.UnderWay = None
request_refusal standings.Failed = Some refusals.Doomed

abbrev pub standing_refusal : Standing → Statement → Option Refusal
standing_refusal standing statements.Begin = begin_refusal standing
standing_refusal standing statements.Commit = end_refusal standing
standing_refusal standing statements.Rollback = end_refusal standing
standing_refusal standing (statements.Insert table values) = request_refusal standing
standing_refusal standing (statements.Select query) = request_refusal standing
standing_refusal standing (statements.Delete query) = request_refusal standing
standing_refusal standing statement = None

-- why the session's statement isn't taken, by what the store has
abbrev pub refusal_here : {D : Type 0} → StoreState D → ℕ → Statement → Option Refusal
refusal_here s n statement =
    or_else (in_hand_refusal (hand_at s n)) (or_else (block_refusal s.pages.layout.sizes.heap_blocks statement) (standing_refusal (open_standing (transaction_of s.transactions.opens n)) statement))

-- the session's transaction allows the statement
abbrev pub Allows : Option Open → Statement → Type 0
Allows own statements.Begin = own ≡ None
Allows own statements.Commit = IsSome own
Allows own statements.Rollback = IsSome own
Allows own (statements.Insert table values) = IsUnderWay own
Allows own (statements.Select query) = IsUnderWay own
Allows own (statements.Delete query) = IsUnderWay own
Allows own statement = Unit {0}

-- The statement is in hand and has made no step. It is fit where the session's transaction allows it, and the journal promises it what it needs; nothing else changes.
pub record TakesHand {D : Type 0} (old new : Parts D) (statement : Statement) (hand : Hand) : Type 0 where
  pub statement_is : statement_of hand ≡ statement
  pub fresh : HasNotBegun old.pages.layout hand
  pub fit : (own : Option Open) → Allows own statement → IsHandFor old.pages.layout own hand
  pub entries : new.journal.entries ≡ old.journal.entries
  pub promised : new.journal.promised ≡ old.journal.promised + hand_share (Some hand)
  pub rest : new ≡ record old { journal = new.journal }

-- The store takes it exactly where nothing speaks against it and there is memory; a refusal is that which speaks against it, or want of memory where nothing does.
abbrev pub IsJudged : {D T : Type 0} → StoreState D → ℕ → Statement → Result T Refusal → Type 0
IsJudged s n statement (Ok x) = refusal_here s n statement ≡ None
IsJudged s n statement (Err refusal) = MatchOption (refusal_here s n statement) ((refusal ≡ refusals.Memory) × (may_want_memory statement ≡ true)) (λ because. refusal ≡ because)

-- Session n has the statement in hand, before its first step, and what it asked for in vain is forgotten; the journal may promise more. All else is as it was.
pub record IsTakenUp {D : Type 0} (old new : StoreState D) (n : ℕ) (statement : Statement) : Type 0 where
  pub hand : Hand
  pub in_hand : hand_at new n ≡ Some hand
  pub statement_is : statement_of hand ≡ statement
  pub fresh : HasNotBegun old.pages.layout hand
  pub others : (m : ℕ) → m ≢ n → hand_at new m ≡ hand_at old m
  pub dropped : ForgetsDropped old.dropped new.dropped n
  pub entries : new.journal.entries ≡ old.journal.entries
  pub rest : new ≡ record old { hands = new.hands; dropped = new.dropped; journal = new.journal }
