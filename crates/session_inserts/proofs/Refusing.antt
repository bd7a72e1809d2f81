-- what a refusal, and a step that the pages refuse, leave of the parts of a store
use Rattle.std.proofs.Common.{◌≡◌, ◌≢◌, ℕ, ◌+◌, ◌≤◌, Bool, false, List, [], ◌∷◌, ◌++◌, length, Option, None, Some, refl, sym, ap, subst, ◌∙◌, arith, length-append, if◌then◌else◌}
use Rattle.std.proofs.lemmas.Option.{none-some}
use Rattle.disk_trait.specs.Told.{Told}
use Rattle.block_model.specs.declared.reply.Reply.{Reply}
use Rattle.block_model.specs.declared.request.Entry.{Entry}
use Rattle.store_layout.specs.DiskLayout.{DiskLayout}
use Rattle.page_map.specs.declared.faults.StoreError.{StoreError}
use Rattle.page_map.specs.declared.faults.StoreError.TheVariants as errors
use Rattle.page_map.specs.Keeps.{Leaves, Tells, Untold}
use Rattle.page_map.specs.Outcome.{Refused}
use Rattle.page_map.specs.PageMap.{View}
use Rattle.page_locks.specs.LockCounts.{locks_of}
use Rattle.page_locks.specs.LockHolders.{LockState}
use Rattle.snapshot_core.specs.declared.sessions.Open.{Open}
use Rattle.snapshot_core.specs.SessionChanges.{failed_open}
use Rattle.snapshot_core.specs.StoredVersions.{transaction_of}
use Rattle.store_layout.specs.declared.limits.TheConstants.{MAX_ENTRIES}
use Rattle.tx_table.specs.TxState.{IsOver, TxState}
use Rattle.transactions.specs.TransactionsState.{TransactionsState, with_failed}
use Rattle.session_parts.specs.declared.hand.Hand.{Hand}
use Rattle.session_parts.specs.declared.hand.Stepped.TheVariants as stepped
use Rattle.session_parts.specs.declared.parts.Parts.{Parts}
use Rattle.session_parts.specs.DamagedPages.{NamesAPage}
use Rattle.session_parts.specs.Hands.{statement_of}
use Rattle.session_parts.specs.HandFits.{FitsHand, right_held}
use Rattle.session_parts.specs.JournalState.{JournalState}
use Rattle.session_parts.specs.Shares.{hand_share, open_share, share_of}
use Rattle.session_parts.specs.StepAnswers.{HasFaultCause, StaysWhereUndone}
use Rattle.session_parts.specs.Stepping.{LeavesTheOthers, StaysFit}
use Rattle.session_parts.specs.StoreFaults.{fault_of}
use Rattle.session_parts.specs.StoreLaws.{HandChanges}
use Rattle.session_parts.specs.StoreStates.{StoreState}
use Rattle.session_parts.specs.UndoneLaws.{FitOfStores, FitsParts, StepsSo}
use Rattle.session_inserts.proofs.Beside.{leaves_others, stays_fit}
use Rattle.session_inserts.proofs.Opens.{open_here, open_there}

-- the parts with other pages, transactions, locks and journal
abbrev pub with_these : {D : Type 0} → Parts D → View D → TransactionsState → LockState → JournalState → Parts D
with_these parts pages transactions locks journal = record parts { pages = pages; transactions = transactions; locks = locks; journal = journal }

-- what a refusal left: the session's transaction has failed, its locks are given, and one entry that it was promised is entered
pub record LeftRefused {D : Type 0} (told : D → Told) (parts : Parts D) (pages : View D) (transactions : TransactionsState) (locks : LockState) (journal : JournalState) (n : ℕ) (was : Hand) (o : Open) (e : Entry) : Type 0 where
  pub fits : FitsParts told parts n (Some was)
  pub free : hand_share (Some was) ≡ 0
  pub no_right : right_held parts.pages.layout (Some was) ≡ None
  pub open_is : transaction_of parts.transactions.opens n ≡ Some o
  pub whole : o.failed ≡ false
  pub leaves : Leaves told parts.pages pages
  pub over : IsOver told parts.transactions.tx pages
  pub failed : transactions ≡ with_failed parts.transactions n o
  pub limit : locks.limit ≡ parts.locks.limit
  pub none : locks_of locks n ≡ 0
  pub others : (m : ℕ) → m ≢ n → locks_of locks m ≡ locks_of parts.locks m
  pub entries : journal.entries ≡ parts.journal.entries ++ e ∷ []
  pub promised : journal.promised + 1 ≡ parts.journal.promised
  pub room : length parts.journal.entries + 1 ≤ MAX_ENTRIES

pub share_whole : (was : Option Hand) (transaction : Option Open) (o : Open) → transaction ≡ Some o → o.failed ≡ false → hand_share was ≡ 0 → share_of was transaction ≡ 2
share_whole was transaction o is whole free =
    let one : open_share transaction ≡ 2 = ap open_share is ∙ ap (λ (b : Bool). if b then 1 else 2) whole in
    omega (arith, one, free)

module _ {D : Type 0} (told : D → Told) (changes : HandChanges) (of_stores : FitOfStores told) (parts : Parts D) (pages : View D) (transactions : TransactionsState) (locks : LockState) (journal : JournalState) (n : ℕ) (was : Hand) (o : Open) (e : Entry)
    (left : LeftRefused told parts pages transactions locks journal n was o e) where
  abbrev new : Parts D
  new = with_these parts pages transactions locks journal

  share_was : share_of (Some was) (transaction_of parts.transactions.opens n) ≡ 2
  share_was = share_whole (Some was) (transaction_of parts.transactions.opens n) o left.open_is left.whole left.free

  failed_is : transaction_of transactions.opens n ≡ Some (failed_open o)
  failed_is = ap (λ (s : TransactionsState). transaction_of s.opens n) left.failed ∙ open_here parts.transactions.opens n o (Some (failed_open o)) left.open_is

  share_now : share_of None (transaction_of transactions.opens n) ≡ 1
  share_now = ap (λ (t : Option Open). share_of None t) failed_is

  pub theirs : (m : ℕ) → m ≢ n → transaction_of transactions.opens m ≡ transaction_of parts.transactions.opens m
  theirs m other = ap (λ (s : TransactionsState). transaction_of s.opens m) left.failed ∙ open_there parts.transactions.opens n m (Some (failed_open o)) other

  pub first_is : transactions.tx.first ≡ parts.transactions.tx.first
  first_is = ap (λ (s : TransactionsState). s.tx.first) left.failed

  many : length journal.entries ≡ length parts.journal.entries + 1
  many =
      let same : length journal.entries ≡ length (parts.journal.entries ++ e ∷ []) = ap (λ (l : List Entry). length l) left.entries in
      omega (arith, same, length-append parts.journal.entries (e ∷ []))

  pub refused_fits : (reply : Reply) → StaysFit told parts new n was (stepped.Done reply)
  refused_fits reply = stays_fit told changes of_stores parts new n was (stepped.Done reply) (record {
    session = left.fits.session;
    over = subst (λ (tx : TxState). IsOver told tx pages) (sym (ap (λ (s : TransactionsState). s.tx) left.failed)) left.over;
    in_hand = tt;
    limit = left.limit ∙ left.fits.limit;
    own = let none = left.none in omega (arith, none);
    held = λ table holds. absurd (none-some table (sym left.no_right ∙ left.fits.held table holds));
    rights = left.fits.rights ∙ ap (λ (l : DiskLayout). length l.schema.tables) (sym left.leaves.layout);
    entries = let room = left.room in omega (arith, many, room);
    share = let less = left.promised in let enough = left.fits.share in omega (arith, share_now, share_was, less, enough);
  })

  pub refused_others : (reply : Reply) → LeavesTheOthers told parts new n was (stepped.Done reply)
  refused_others reply = leaves_others told changes parts new n was (stepped.Done reply) (record {
    leaves = left.leaves;
    transactions = theirs;
    locks = left.others;
    dropped = λ m apart. refl;
    rights = refl;
    promised = let less = left.promised in omega (arith, share_now, share_was, less);
  })

-- a step that the pages refuse, and whose session gives its locks

never_shown : {D : Type 0} (told : D → Told) (old new : View D) (error : StoreError) → Refused told (Untold told old) old new error → Tells told old → old.failed ≡ None → new.failed ≡ None → ⊥
never_shown told old now errors.Disk refused tells ready after = none-some _ (sym after ∙ refused.2)
never_shown told old now (errors.Reopen faults) refused tells ready after = none-some _ (sym ready ∙ refused.0)
never_shown told old now (errors.Damaged at) refused tells ready after = refused.3 tells

pub has_cause : {D : Type 0} (told : D → Told) (old new : View D) (error : StoreError) → Refused told (Untold told old) old new error → NamesAPage old.layout error → HasFaultCause told old new (fault_of error)
has_cause told old now errors.Disk refused names = refused
has_cause told old now (errors.Reopen faults) refused names = refused
has_cause told old now (errors.Damaged at) refused names = (refused, names)

enters_none : {D : Type 0} (told : D → Told) (old new : StoreState D) (n : ℕ) (was hand : Hand) (error : StoreError) → new.journal.entries ≡ old.journal.entries → statement_of hand ≡ statement_of was
    → StaysWhereUndone told old new n was (stepped.Undone (fault_of error) hand)
enters_none told old now n was hand errors.Disk same statement = (same, statement)
enters_none told old now n was hand (errors.Reopen faults) same statement = (same, statement)
enters_none told old now n was hand (errors.Damaged at) same statement = (same, statement)

pub record LeftUndone {D : Type 0} (told : D → Told) (parts : Parts D) (pages : View D) (locks : LockState) (journal : JournalState) (n : ℕ) (was hand : Hand) : Type 0 where
  pub fits : FitsParts told parts n (Some was)
  pub in_hand : FitsHand parts.pages.layout (transaction_of parts.transactions.opens n) (Some hand)
  pub no_right : right_held parts.pages.layout (Some was) ≡ None
  pub share : share_of (Some hand) (transaction_of parts.transactions.opens n) ≡ share_of (Some was) (transaction_of parts.transactions.opens n)
  pub statement : statement_of hand ≡ statement_of was
  pub leaves : Leaves told parts.pages pages
  pub over : IsOver told parts.transactions.tx pages
  pub limit : locks.limit ≡ parts.locks.limit
  pub none : locks_of locks n ≡ 0
  pub others : (m : ℕ) → m ≢ n → locks_of locks m ≡ locks_of parts.locks m
  pub entries : journal.entries ≡ parts.journal.entries
  pub promised : journal.promised ≡ parts.journal.promised

module _ {D : Type 0} (told : D → Told) (changes : HandChanges) (of_stores : FitOfStores told) (parts : Parts D) (pages : View D) (locks : LockState) (journal : JournalState) (n : ℕ) (was hand : Hand)
    (left : LeftUndone told parts pages locks journal n was hand) where
  pub undone_so : (error : StoreError) → Refused told (Untold told parts.pages) parts.pages pages error → NamesAPage parts.pages.layout error
      → StepsSo told parts (with_these parts pages parts.transactions locks journal) n was (stepped.Undone (fault_of error) hand)
  undone_so error refused names_page = record {
    steps = λ names hand_list has tells ready after p shown. absurd (never_shown told parts.pages pages error refused tells ready after);
    fit = stays_fit told changes of_stores parts (with_these parts pages parts.transactions locks journal) n was (stepped.Undone (fault_of error) hand) (record {
      session = left.fits.session;
      over = left.over;
      in_hand = subst (λ (l : DiskLayout). FitsHand l (transaction_of parts.transactions.opens n) (Some hand)) (sym left.leaves.layout) left.in_hand;
      limit = left.limit ∙ left.fits.limit;
      own = let none = left.none in omega (arith, none);
      held = λ table holds. absurd (none-some table (sym left.no_right ∙ left.fits.held table holds));
      rights = left.fits.rights ∙ ap (λ (l : DiskLayout). length l.schema.tables) (sym left.leaves.layout);
      entries = subst (λ (l : List Entry). length l ≤ MAX_ENTRIES) (sym left.entries) left.fits.entries;
      share = let same = left.share in let enough = left.fits.share in let promised = left.promised in omega (arith, same, enough, promised);
    });
    others = leaves_others told changes parts (with_these parts pages parts.transactions locks journal) n was (stepped.Undone (fault_of error) hand) (record {
      leaves = left.leaves;
      transactions = λ m other. refl;
      locks = left.others;
      dropped = λ m apart. refl;
      rights = refl;
      promised = let same = left.share in let promised = left.promised in omega (arith, same, promised);
    });
    stays = λ names hand_list has. enters_none told _ _ n was hand error left.entries left.statement;
    cause = has_cause told parts.pages pages error refused names_page;
  }

-- a store that no call changes
pub leaves_same : {D : Type 0} (told : D → Told) (store : View D) → Leaves told store store
leaves_same told store = record { layout = refl; tells = refl; faults = omega arith }
