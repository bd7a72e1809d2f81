-- What a stop may leave of a step.
use Rattle.std.proofs.Common.{◌≡◌, ℕ, Bool, true, false, refl, sym, subst}
use Rattle.std.specs.Prelude.{if◌then◌else◌}
use Rattle.block_model.specs.declared.reply.Reply.{Reply}
use Rattle.block_model.specs.declared.reply.Reply.TheVariants as replies
use Rattle.disk_trait.specs.Told.{Told}
use Rattle.page_store.specs.Survives.{Survives}
use Rattle.page_map.specs.PageMap.{View}
use Rattle.snapshot_core.specs.declared.statuses.Status.TheVariants.{Committed}
use Rattle.tx_table.specs.Durable.{HasPart, IsBefore, IsDurable}
use Rattle.tx_table.proofs.Parts.{passed_none}
use Rattle.transactions.specs.Sessions.{committed_by}
use Rattle.transactions.specs.TransactionsState.{TransactionsState}
use Rattle.page_map.specs.declared.faults.StoreError.{StoreError}
use Rattle.page_map.specs.declared.faults.StoreError.TheVariants as errors
use Rattle.session_parts.specs.declared.faults.StoreFault.{StoreFault}
use Rattle.session_parts.specs.declared.faults.StoreFault.TheVariants as stops
use Rattle.session_parts.specs.declared.hand.Hand.{Hand}
use Rattle.session_parts.specs.declared.hand.Stepped.TheVariants as stepped
use Rattle.session_parts.specs.StoreFaults.{fault_of}
use Rattle.transactions.specs.Passes.{PassesCommit, PassesNothing}
use Rattle.session_transactions.specs.Stops.{IsSureThen}

module _ {D : Type 0} (told : D → Told) (pages : View D) (stays : Survives told (λ pages. ⊥) pages pages) where
  -- where no call is made
  pub passes_nothing : PassesNothing told pages pages
  passes_nothing = passed_none told (IsBefore pages) pages pages stays

  pub passes_no_commit : (t : TransactionsState) (n : ℕ) → PassesCommit told t n pages pages
  passes_no_commit t n o is = passed_none told (HasPart pages.layout pages.pages (committed_by o) Committed) pages pages stays

  -- where the journal lacks room nothing is done
  pub sure_unmade : (entries : ℕ) (hand : Hand) (fault : StoreFault) → fault ≡ stops.Spent entries → IsSureThen told pages pages (stepped.Undone fault hand)
  sure_unmade entries hand fault is = subst (λ (f : StoreFault). IsSureThen told pages pages (stepped.Undone f hand)) (sym is) passes_nothing

-- a commit that is told is one that was made sure
sure_by : {D : Type 0} (told : D → Told) (old new : View D) (committed : Bool) → (committed ≡ true → IsDurable told new) → IsSureThen told old new (stepped.Done (if committed then replies.Committed else replies.RolledBack))
sure_by told old new true sure = sure refl
sure_by told old new false sure = tt

pub sure_then : {D : Type 0} (told : D → Told) (old new : View D) (committed : Bool) (reply : Reply) → reply ≡ (if committed then replies.Committed else replies.RolledBack) → (committed ≡ true → IsDurable told new)
    → IsSureThen told old new (stepped.Done reply)
sure_then told old new committed reply is sure = subst (λ (r : Reply). IsSureThen told old new (stepped.Done r)) (sym is) (sure_by told old new committed sure)

-- a refusal of the pages is no want of room
sure_of : {D : Type 0} (told : D → Told) (old new : View D) (error : StoreError) (hand : Hand) → IsSureThen told old new (stepped.Undone (fault_of error) hand)
sure_of told old new errors.Disk hand = tt
sure_of told old new error hand = tt

pub sure_refused : {D : Type 0} (told : D → Told) (old new : View D) (error : StoreError) (hand : Hand) (fault : StoreFault) → fault ≡ fault_of error → IsSureThen told old new (stepped.Undone fault hand)
sure_refused told old new error hand fault is = subst (λ (f : StoreFault). IsSureThen told old new (stepped.Undone f hand)) (sym is) (sure_of told old new error hand)
