-- what fits over opened parts
use Rattle.std.proofs.Common.{◌≡◌, ◌≢◌, ℕ, zero, suc, ◌<◌, List, [], length, refl, sym, ◌∙◌, ap, arith}
use Rattle.std.specs.Prelude.{Option, None, Some, replicate}
use Rattle.std.specs.FinMap.{empty, get-empty}
use Rattle.std.proofs.lemmas.List.{length-replicate}
use Rattle.std.proofs.lemmas.Option.{none-some}
use Rattle.block_model.specs.declared.place.Place.{Place}
use Rattle.disk_trait.specs.Told.{Told}
use Rattle.page_locks.specs.LockCounts.{locks_of}
use Rattle.page_locks.specs.LockHolders.{LockState, holder, place_cmp}
use Rattle.page_locks.specs.RightHolders.{right_of}
use Rattle.snapshot_core.specs.declared.sessions.Open.{Open}
use Rattle.snapshot_core.specs.StoredVersions.{transaction_of}
use Rattle.store_layout.specs.declared.limits.TheConstants.{MAX_SESSIONS}
use Rattle.tx_table.specs.TxState.{IsOver}
use Rattle.session_parts.specs.declared.limits.TheConstants.{MAX_LOCKS}
use Rattle.session_parts.specs.declared.parts.Parts.{Parts}
use Rattle.session_parts.specs.HandFits.{FitsStore}
use Rattle.session_parts.specs.Shares.{share_of}
use Rattle.session_parts.specs.StoreStates.{dropped_in, store_of}
use Rattle.session_starts.specs.OpenedParts.{AreOpened}

-- nobody has a transaction, or a summarise lock
pub nobody_open : (n session : ℕ) → transaction_of (replicate n None) session ≡ None
nobody_open zero session = refl
nobody_open (suc n) zero = refl
nobody_open (suc n) (suc session) = nobody_open n session

pub nobody_holds : (n table : ℕ) → right_of (replicate n None) table ≡ None
nobody_holds zero table = refl
nobody_holds (suc n) zero = refl
nobody_holds (suc n) (suc table) = nobody_holds n table

-- nobody has the lock of a page
unlocked_page : (locks : LockState) (limit : ℕ) → locks ≡ record { limit = limit; holders = empty } → (page : Place) → holder locks page ≡ None
unlocked_page locks limit are page = ap (λ (l : LockState). holder l page) are ∙ get-empty place_cmp page

-- so the parts begin
pub parts_opened : {D : Type 0} (told : D → Told) (parts : Parts D) (tables : ℕ) → IsOver told parts.transactions.tx parts.pages → parts.transactions.tx.first ≡ parts.transactions.tx.next → parts.transactions.opens ≡ replicate MAX_SESSIONS None
    → parts.locks ≡ record { limit = MAX_LOCKS; holders = empty } → ((session : ℕ) → ((page : Place) → holder parts.locks page ≢ Some session) → locks_of parts.locks session ≡ 0)
    → parts.rights ≡ replicate tables None → tables ≡ length parts.pages.layout.schema.tables → parts.journal.entries ≡ [] → parts.journal.promised ≡ 0
    → parts.queue ≡ [] → ((session : ℕ) → dropped_in parts.dropped session ≡ []) → AreOpened told parts
parts_opened told parts tables over first opens locks counted rights count entries promised queue dropped = record {
  over = over;
  opened = record { first = first; opens = opens };
  idle = λ session. ap (λ (l : List (Option Open)). transaction_of l session) opens ∙ nobody_open MAX_SESSIONS session;
  limit = ap (λ (l : LockState). l.limit) locks;
  unlocked = unlocked_page parts.locks MAX_LOCKS locks;
  locks = λ session. counted session (λ page held. none-some session (sym (unlocked_page parts.locks MAX_LOCKS locks page) ∙ held));
  rights = ap length rights ∙ length-replicate {A = Option ℕ} tables None ∙ count;
  free = λ table. ap (λ (l : List (Option ℕ)). right_of l table) rights ∙ nobody_holds tables table;
  entries = entries;
  promised = promised;
  queue = queue;
  dropped = dropped;
}

-- and each session fits its next step
pub opened_fit : {D : Type 0} (told : D → Told) (parts : Parts D) (n : ℕ) → AreOpened told parts → n < MAX_SESSIONS → FitsStore told (store_of parts [] []) n
opened_fit told parts n opened below =
    let share : share_of None (transaction_of parts.transactions.opens n) ≡ 0 = ap (share_of None) (opened.idle n) in
    record {
      session = below;
      over = opened.over;
      hand = tt;
      limit = opened.limit;
      own = omega (arith, opened.locks n);
      held = λ table is. absurd (none-some n (sym (opened.free table) ∙ is));
      rights = opened.rights;
      entries = omega (arith, ap length opened.entries);
      share = omega (arith, share);
    }
