-- a store in which a session is made
use Rattle.std.proofs.Common.{◌≡◌, inl, inr, ℕ, ◌+◌, ◌<◌, ◌≤◌, Bool, true, false, List, [], ◌∷◌, ◌++◌, length, Option, None, Ok, if◌then◌else◌, refl, sym, ap, subst, ◌∙◌, arith, length-append}
use Rattle.std.specs.Prelude.{nat_lt}
use Rattle.std.proofs.lemmas.Bool.{cases_lt, le-leb, le-ltb, lt-leb, lt-ltb}
use Rattle.disk_trait.specs.Told.{Told}
use Rattle.store_layout.specs.declared.limits.TheConstants.{MAX_SESSIONS}
use Rattle.store_layout.specs.SessionNumbers.{is_past_sessions, session_number, with_session}
use Rattle.page_locks.specs.LockCounts.{locks_of}
use Rattle.snapshot_core.specs.StoredVersions.{transaction_of}
use Rattle.script_semantics.specs.LineTexts.{named}
use Rattle.session_parts.specs.declared.hand.Hand.{Hand}
use Rattle.session_parts.specs.declared.parts.Parts.{Parts}
use Rattle.session_parts.specs.HandFits.{FitsHand, FitsStore, locks_held, right_held}
use Rattle.session_parts.specs.ShareLaws.{shares_below}
use Rattle.session_parts.specs.Shares.{share_of}
use Rattle.session_parts.specs.ShowsPlace.{IsPlaceOf}
use Rattle.session_parts.specs.StepIs.{LeadsOn}
use Rattle.session_parts.specs.StoreStates.{StoreState, hand_in, shown_of, store_of}
use Rattle.session_core.specs.SessionLaws.{SessionLaws}
use Rattle.session_core.specs.declared.sessions.Session.{Session}
use Rattle.session_core.specs.SessionLists.{names_of}
use Rattle.session_core.specs.Slots.{IsKeptSlot, empty_slot}
use Rattle.session_core.specs.Sessions.{HasSession, with_name}
use Rattle.session_core.specs.declared.slots.Slot.{Slot}
use Rattle.session_core.specs.StoreKept.{HoldsNothing, IsStoreKept}
use Rattle.session_core.proofs.Lists.{nothing_more}

-- other names and hands, by which each session has in hand what it had
module _ {D : Type 0} (told : D → Told) (parts : Parts D) (names more : List (List ℕ)) (hands now : List (Option Hand)) (same : (m : ℕ) → hand_in now m ≡ hand_in hands m) where
  fits_still : (n : ℕ) → FitsStore told (store_of parts names hands) n → FitsStore told (store_of parts more now) n
  fits_still n fit = record {
    session = fit.session;
    over = fit.over;
    hand = subst (λ (h : Option Hand). FitsHand parts.pages.layout (transaction_of parts.transactions.opens n) h) (sym (same n)) fit.hand;
    limit = fit.limit;
    own = subst (λ (h : Option Hand). locks_of parts.locks n ≤ locks_held h) (sym (same n)) fit.own;
    held = λ table is. ap (λ (h : Option Hand). right_held parts.pages.layout h) (same n) ∙ fit.held table is;
    rights = fit.rights;
    entries = fit.entries;
    share = subst (λ (h : Option Hand). share_of h (transaction_of parts.transactions.opens n) ≤ parts.journal.promised) (sym (same n)) fit.share;
  }

  module _ (laws : SessionLaws told) where
    promised_still : parts.journal.promised ≡ shares_below MAX_SESSIONS hands parts.transactions.opens → parts.journal.promised ≡ shares_below MAX_SESSIONS now parts.transactions.opens
    promised_still sum =
        laws.promised MAX_SESSIONS 0 parts.journal.promised parts.journal.promised hands now parts.transactions.opens parts.transactions.opens (omega arith) (λ m other. same m) (λ m other. refl)
        (ap (λ (h : Option Hand). parts.journal.promised + share_of h (transaction_of parts.transactions.opens 0)) (sym (same 0))) sum

pub kept_named : {D : Type 0} (told : D → Told) → SessionLaws told → (parts : Parts D) (names : List (List ℕ)) (hands : List (Option Hand)) (slots : List Slot) (name : List ℕ)
    → length names < MAX_SESSIONS → IsStoreKept told (store_of parts names hands) slots
    → IsStoreKept told (store_of parts (names ++ name ∷ []) (hands ++ None ∷ [])) (slots ++ empty_slot ∷ [])
kept_named told laws parts names hands slots name few kept = record {
  few_sessions = omega (arith, few, length-append names (name ∷ []));
  a_hand_each = length-append hands (None ∷ []) ∙ ap (λ (k : ℕ). k + 1) kept.a_hand_each ∙ sym (length-append names (name ∷ []));
  a_slot_each = length-append slots (empty_slot ∷ []) ∙ ap (λ (k : ℕ). k + 1) kept.a_slot_each ∙ sym (length-append names (name ∷ []));
  fits = λ n low. fits_still told parts names (names ++ name ∷ []) hands (hands ++ None ∷ []) same n (kept.fits n low);
  nobody = λ n high. kept_nobody n (omega (arith, high, length-append names (name ∷ [])));
  promised = promised_still told parts names (names ++ name ∷ []) hands (hands ++ None ∷ []) same laws kept.promised;
  slot = λ n. subst (IsKeptSlot parts.pages.layout) (sym (nothing_more empty_slot slots n)) (kept.slot n);
  shown = λ tells ready.
      let was = kept.shown tells ready in
      (record was.0 { names = names ++ name ∷ [] }, laws.named (shown_of (store_of parts names hands)) was.0 (names ++ name ∷ []) (hands ++ None ∷ []) was.1 same);
}
  where
    same : (m : ℕ) → hand_in (hands ++ None ∷ []) m ≡ hand_in hands m
    same m = nothing_more None hands m

    kept_nobody : (n : ℕ) → length names ≤ n → HoldsNothing (store_of parts (names ++ name ∷ []) (hands ++ None ∷ [])) n
    kept_nobody n high = let was = kept.nobody n high in record { transaction = was.transaction; locks = was.locks; rights = was.rights }

-- ---- the session that is there, or one that is made

same_hands : (there : Bool) (hands : List (Option Hand)) (m : ℕ) → hand_in (if there then hands else hands ++ None ∷ []) m ≡ hand_in hands m
same_hands true hands m = refl
same_hands false hands m = nothing_more None hands m

pub leads_named : {D : Type 0} (told : D → Told) → SessionLaws told → (old new : StoreState D) (name : List ℕ) → new ≡ with_name old name → LeadsOn told old new (λ p q. q ≡ named p name)
leads_named told laws old new name is = subst (λ (s : StoreState _). LeadsOn told old s (λ p q. q ≡ named p name)) (sym is)
    (λ tells before after p shows. (
      named p name,
      subst (λ (names : List (List ℕ)). IsPlaceOf (shown_of (with_name old name)) (record p { names = with_session names name })) (sym shows.names)
          (laws.named (shown_of old) p (with_session old.names name) (with_name old name).hands shows (same_hands (nat_lt (session_number old.names name) (length old.names)) old.hands)),
      refl,
    ))

-- with or without a session more
abbrev with_or_without : {D : Type 0} → StoreState D → List ℕ → (there : Bool) → StoreState D
with_or_without s name there = record s { names = if there then s.names else s.names ++ name ∷ []; hands = if there then s.hands else s.hands ++ None ∷ [] }

pub there_already : {D : Type 0} (s : StoreState D) (name : List ℕ) (n : ℕ) → n ≡ session_number s.names name → n < length s.names → s ≡ with_name s name
there_already s name n is below =
    let there : nat_lt (session_number s.names name) (length s.names) ≡ true = lt-ltb (session_number s.names name) (length s.names) (omega (arith, is, below)) in
    sym (ap (λ (b : Bool). with_or_without s name b) there)

pub made_new : {D : Type 0} (s : StoreState D) (name : List ℕ) (n : ℕ) → n ≡ session_number s.names name → n ≡ length s.names
    → record s { names = s.names ++ name ∷ []; hands = s.hands ++ None ∷ [] } ≡ with_name s name
made_new s name n is last =
    let there : nat_lt (session_number s.names name) (length s.names) ≡ false = le-ltb (session_number s.names name) (length s.names) (omega (arith, is, last)) in
    sym (ap (λ (b : Bool). with_or_without s name b) there)

number_within : (names : List (List ℕ)) (name : List ℕ) (n : ℕ) → n ≡ session_number names name → n ≤ length names → n < length (with_session names name)
number_within names name n is most = elim (cases_lt n (length names)) [
  | inl low ↦
      let there : nat_lt (session_number names name) (length names) ≡ true = lt-ltb (session_number names name) (length names) (omega (arith, is, low)) in
      subst (λ (b : Bool). n < length (if b then names else names ++ name ∷ [])) (sym there) low
  | inr high ↦
      let there : nat_lt (session_number names name) (length names) ≡ false = le-ltb (session_number names name) (length names) (omega (arith, is, high)) in
      subst (λ (b : Bool). n < length (if b then names else names ++ name ∷ [])) (sym there) (omega (arith, most, length-append names (name ∷ [])))
]

pub past_sessions : (names : List (List ℕ)) (name : List ℕ) (n : ℕ) → n ≡ session_number names name → MAX_SESSIONS ≤ n → is_past_sessions names name ≡ true
past_sessions names name n is high = le-leb MAX_SESSIONS (session_number names name) (omega (arith, is, high))

pub has_session : {D : Type 0} (s new : StoreState D) (name : List ℕ) (n : ℕ) → n ≡ session_number s.names name → n ≤ length s.names → n < MAX_SESSIONS → new ≡ with_name s name
    → HasSession s name new (Ok n)
has_session s new name n is most few made = (
  lt-leb MAX_SESSIONS (session_number s.names name) (omega (arith, is, few)),
  is,
  made,
  subst (λ (t : StoreState _). n < length t.names) (sym made) (number_within s.names name n is most),
)

-- the number that was found is that of the store's names
pub number_named : (sessions items : List Session) (names : List (List ℕ)) (name : List ℕ) (n : ℕ) → n ≡ session_number (names_of sessions) name → sessions ≡ items → names_of items ≡ names
    → n ≡ session_number names name
number_named sessions items names name n is same view = is ∙ ap (λ (l : List Session). session_number (names_of l) name) same ∙ ap (λ (l : List (List ℕ)). session_number l name) view
