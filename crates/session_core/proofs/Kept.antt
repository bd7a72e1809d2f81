-- a store in which a session's hand and share change
use Rattle.std.proofs.Common.{◌≡◌, ◌≢◌, inl, inr, ℕ, ◌<◌, ◌≤◌, List, length, Option, Some, sym, subst, ◌∙◌, arith}
use Rattle.std.proofs.lemmas.Bool.{cases_eq, cases_lt}
use Rattle.disk_trait.specs.Told.{Told}
use Rattle.store_layout.specs.declared.limits.TheConstants.{MAX_SESSIONS}
use Rattle.page_locks.specs.LockCounts.{locks_of}
use Rattle.snapshot_core.specs.StoredVersions.{transaction_of}
use Rattle.session_parts.specs.declared.hand.Hand.{Hand}
use Rattle.session_parts.specs.declared.limits.TheConstants.{LOCKS_A_SESSION}
use Rattle.session_parts.specs.declared.parts.Parts.{Parts}
use Rattle.session_parts.specs.HandFits.{FitsStore}
use Rattle.session_parts.specs.ShareLaws.{shares_below}
use Rattle.session_parts.specs.Shares.{share_of}
use Rattle.session_parts.specs.StepAnswers.{LeavesSessions}
use Rattle.session_parts.specs.StoreLaws.{HasHand}
use Rattle.session_parts.specs.StoreStates.{hand_in, store_of}
use Rattle.session_core.specs.SessionLaws.{SessionLaws}
use Rattle.session_core.specs.declared.slots.Slot.{Slot}
use Rattle.session_core.specs.StoreKept.{HoldsNothing, IsStoreKept}
use Rattle.session_core.proofs.Lists.{inside}

module _ {D : Type 0} (told : D → Told) (laws : SessionLaws told) (parts : Parts D) (names : List (List ℕ)) (hands : List (Option Hand)) (slots : List Slot)
    (kept : IsStoreKept told (store_of parts names hands) slots) where
  -- ---- what a step may rely on

  pub session_below : (n : ℕ) (hand : Hand) → hand_in hands n ≡ Some hand → n < length names
  session_below n hand is = omega (arith, inside hands n hand is, kept.a_hand_each)

  pub none_beyond : (n : ℕ) → MAX_SESSIONS ≤ n → locks_of parts.locks n ≡ 0
  none_beyond n high = (kept.nobody n (omega (arith, kept.few_sessions, high))).locks

  pub few_each : (n : ℕ) → locks_of parts.locks n ≤ LOCKS_A_SESSION
  few_each n = elim (cases_lt n MAX_SESSIONS) [
    | inl low ↦ omega (arith, (kept.fits n low).own, laws.few (hand_in hands n))
    | inr high ↦ omega (arith, none_beyond n high)
  ]

  -- ---- one session's hand and share change

  module _ (new : Parts D) (n : ℕ) (now : List (Option Hand)) (hand : Option Hand) (there : n < length names) (changes : HasHand hands now n hand)
      (fit : FitsStore told (store_of new names now) n) (others : LeavesSessions told (store_of parts names hands) (store_of new names now) n) where
    low : n < MAX_SESSIONS
    low = omega (arith, there, kept.few_sessions)

    pub promised_now : new.journal.promised ≡ shares_below MAX_SESSIONS now new.transactions.opens
    promised_now =
        laws.promised MAX_SESSIONS n parts.journal.promised new.journal.promised hands now parts.transactions.opens new.transactions.opens low changes.others others.transactions others.promised kept.promised

    share_there : (m : ℕ) → m < MAX_SESSIONS → share_of (hand_in now m) (transaction_of new.transactions.opens m) ≤ new.journal.promised
    share_there m short = subst (λ (k : ℕ). share_of (hand_in now m) (transaction_of new.transactions.opens m) ≤ k) (sym promised_now) (laws.within MAX_SESSIONS m now new.transactions.opens short)

    pub fits_now : (m : ℕ) → m < MAX_SESSIONS → FitsStore told (store_of new names now) m
    fits_now m short = elim (cases_eq m n) [
      | inl is ↦ subst (λ (k : ℕ). FitsStore told (store_of new names now) k) (sym is) fit
      | inr other ↦ laws.others (store_of parts names hands) (store_of new names now) n m other (kept.fits m short) fit others (changes.others m other) (share_there m short)
    ]

    pub nobody_now : (m : ℕ) → length names ≤ m → HoldsNothing (store_of new names now) m
    nobody_now m high =
        let was = kept.nobody m high in
        let other : m ≢ n = omega (arith, high, there) in
        record {
          transaction = others.transactions m other ∙ was.transaction;
          locks = others.locks m other ∙ was.locks;
          rights = λ table is. was.rights table (others.rights m table other is);
        }

-- the same store, whose sessions are kept in another list
pub kept_as : {D : Type 0} (told : D → Told) (parts : Parts D) (names more : List (List ℕ)) (hands now : List (Option Hand)) (slots then : List Slot)
    → more ≡ names → now ≡ hands → then ≡ slots → IsStoreKept told (store_of parts names hands) slots → IsStoreKept told (store_of parts more now) then
kept_as told parts names more hands now slots then a b c kept =
    subst (λ (l : List (List ℕ)). IsStoreKept told (store_of parts l now) then) (sym a)
    (subst (λ (l : List (Option Hand)). IsStoreKept told (store_of parts names l) then) (sym b)
    (subst (λ (l : List Slot). IsStoreKept told (store_of parts names hands) l) (sym c) kept))
