-- A begin, a commit and a rollback for whose request the journal has no room.
use Rattle.std.proofs.Common.{◌≡◌, ℕ, ◌<◌, ◌≤◌, Bool, true, false, not, List, [], ◌∷◌, ◌++◌, length, length-append, Option, Some, refl, ap, ◌∙◌, subst, arith}
use Rattle.std.specs.Prelude.{IsSome, if◌then◌else◌}
use Rattle.std.specs.FinMap as finite
use Rattle.block_model.specs.declared.reply.Reply.{Reply}
use Rattle.block_model.specs.declared.reply.Reply.TheVariants as replies
use Rattle.block_model.specs.declared.request.Entry.{Entry}
use Rattle.block_model.specs.declared.request.Request.TheVariants as requests
use Rattle.block_model.specs.DatabaseState.{DatabaseState, OpenTransaction}
use Rattle.block_model.specs.RequestEffect.{Answer, Committed, RolledBack, effect_at, effect_is, reply_to}
use Rattle.store_layout.specs.declared.limits.TheConstants.{MAX_ENTRIES}
use Rattle.store_layout.specs.StatementRequests.{request_entry}
use Rattle.snapshot_core.specs.StoredVersions.{transaction_of}
use Rattle.transactions.specs.Laws.{SessionsAreShown}
use Rattle.script_semantics.specs.Place.{Place, database_at}
use Rattle.script_semantics.specs.StatementSteps as steps
use Rattle.script_semantics.specs.StatementSteps.{Ended, IsAtOnce, LacksRoom}
use Rattle.session_parts.specs.declared.hand.Hand.{Hand}
use Rattle.session_parts.specs.declared.hand.Hand.TheVariants as hands
use Rattle.session_parts.specs.declared.parts.Parts.{Parts}
use Rattle.session_parts.specs.Hands.{HandShows, statement_of}
use Rattle.session_parts.specs.PlacesAfter.{place_at_once}
use Rattle.session_parts.specs.ShowsPlace.{ShowsPlace}
use Rattle.session_parts.specs.StoreStates.{hand_in, store_of}
use Rattle.session_transactions.proofs.AtOnce.{IsOnly, in_hand, is_step}
use Rattle.session_transactions.proofs.Ending.{commit_only, rollback_only, some_open}

module _ {D : Type 0} (parts : Parts D) (n : ℕ) (hand : Hand) (full : MAX_ENTRIES ≤ length parts.journal.entries)
    (names : List (List ℕ)) (hands : List (Option Hand)) (p : Place) (is : hand_in hands n ≡ Some hand) (shown : ShowsPlace (store_of parts names hands) p) where
  shows : HandShows (Some hand) (p.hands n) (p.accounts n)
  shows = subst (λ (h : Option Hand). HandShows h (p.hands n) (p.accounts n)) is (shown.hands n)

  past : (e : Entry) → MAX_ENTRIES < length (p.journal ++ e ∷ [])
  past e = omega (arith, full, ap length shown.journal, length-append p.journal (e ∷ []))

  pub lacks : (e : Entry) (answer : Answer) (reply : Reply) → IsOnly n hand e answer reply p.layout → reply_to (database_at p) e ≡ answer → IsAtOnce p (statement_of hand) → LacksRoom p n
  lacks e answer reply only answered may = record {
    hand = record { statement = statement_of hand; answers = [] };
    in_hand = in_hand n hand e answer reply p only answered may shows;
    outcome = Ended reply;
    further = place_at_once p n (λ u. true) (p.journal ++ e ∷ []);
    steps = is_step n hand e answer reply p only answered may shows (λ u. true);
    past = past e;
  }

-- what a request is answered, by the session's transaction
pub answered : (s : DatabaseState) (e : Entry) (o : Option OpenTransaction) → finite.get s.sessions e.session ≡ o → reply_to s e ≡ (effect_at o s e).1
answered s e o got = ap (λ (r : DatabaseState × Answer). r.1) (effect_is s e ∙ ap (λ (o : Option OpenTransaction). effect_at o s e) got)

-- ---- a commit, and a rollback

commit_answer : (failed : Bool) → (if failed then RolledBack else Committed) ≡ (if not failed then Committed else RolledBack)
commit_answer true = refl
commit_answer false = refl

module _ {D : Type 0} (sessions : SessionsAreShown) (parts : Parts D) (n : ℕ) (full : MAX_ENTRIES ≤ length parts.journal.entries) where
  pub no_commit : IsSome (transaction_of parts.transactions.opens n) → (names : List (List ℕ)) (hands_ : List (Option Hand)) (p : Place) → hand_in hands_ n ≡ Some hands.Commits → ShowsPlace (store_of parts names hands_) p → LacksRoom p n
  no_commit is_open names hands_ p is shown =
      let own = some_open (transaction_of parts.transactions.opens n) is_open in
      let found = (sessions parts.pages.layout parts.pages.pages parts.transactions (database_at p) shown.database).shown n own.0 own.1 in
      lacks parts n hands.Commits full names hands_ p is shown (request_entry n 0 requests.Commit) _ _ (commit_only n (not found.0.failed) p.layout)
      (answered (database_at p) (request_entry n 0 requests.Commit) (Some found.0) found.1 ∙ commit_answer found.0.failed) steps.Commit

  pub no_rollback : IsSome (transaction_of parts.transactions.opens n) → (names : List (List ℕ)) (hands_ : List (Option Hand)) (p : Place) → hand_in hands_ n ≡ Some hands.RollsBack → ShowsPlace (store_of parts names hands_) p → LacksRoom p n
  no_rollback is_open names hands_ p is shown =
      let own = some_open (transaction_of parts.transactions.opens n) is_open in
      let found = (sessions parts.pages.layout parts.pages.pages parts.transactions (database_at p) shown.database).shown n own.0 own.1 in
      lacks parts n hands.RollsBack full names hands_ p is shown (request_entry n 0 requests.Rollback) RolledBack replies.RolledBack (rollback_only n p.layout)
      (answered (database_at p) (request_entry n 0 requests.Rollback) (Some found.0) found.1) steps.Rollback
