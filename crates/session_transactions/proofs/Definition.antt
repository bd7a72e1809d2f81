-- A mark of a delete in the definition of texts: it goes on, replies or meets a conflict.
use Rattle.std.proofs.Common.{◌≡◌, ◌≢◌, ℕ, suc, ◌<◌, Bool, true, false, List, [], ◌∷◌, ◌++◌, length, drop, map, replicate, Option, None, Some, refl, sym, ap, ◌∙◌, subst}
use Rattle.std.specs.Prelude.{if◌then◌else◌}
use Rattle.std.specs.FinMap as finite
use Rattle.std.proofs.lemmas.Bool.{true≢false}
use Rattle.block_model.specs.declared.reply.Point.TheVariants as points
use Rattle.block_model.specs.declared.reply.Refusal.TheVariants as refusals
use Rattle.block_model.specs.declared.reply.Reply.TheVariants as replies
use Rattle.block_model.specs.declared.request.Entry.{Entry}
use Rattle.block_model.specs.declared.row.Query.{Query}
use Rattle.block_model.specs.declared.row.Row.{Row}
use Rattle.block_model.specs.DatabaseState.{DatabaseState, OpenTransaction}
use Rattle.block_model.specs.RequestEffect.{Answer, Conflict, Found, Marked, after_failure, after_mark, effect, effect_at, effect_is, is_conflict, rows_found, with_transaction}
use Rattle.store_layout.specs.declared.limits.TheConstants.{MAX_ENTRIES}
use Rattle.store_layout.specs.declared.statement.Statement.TheVariants as statements
use Rattle.store_layout.specs.StatementRequests.{deleted_reply, mark_entry}
use Rattle.coverage.specs.Refusals.{HasConflict}
use Rattle.coverage.specs.Table.{Marks, Resting, TableScan, TableState}
use Rattle.coverage.specs.TableSteps.{OnlyTurns}
use Rattle.script_semantics.specs.Place.{Hand as HandAt, Place, database_at}
use Rattle.script_semantics.specs.Requests.{Course}
use Rattle.script_semantics.specs.StatementSteps.{Ended, LacksRoom, Moved, Outcome, StepsTo, course_of}
use Rattle.session_parts.specs.PlacesAfter.{TurnsIn, place_after, refusal_in}
use Rattle.session_parts.specs.RefusalLaws.{refused_in}
use Rattle.session_parts.proofs.Refusals.{mark_is_refused}
use Rattle.session_parts.proofs.Steps.{turn_conflicts, turn_goes_on, turn_replies}
use Rattle.session_transactions.proofs.Entries.{HasMarked, IsMarked, all_made, deleted, drop_next, entries_of, met_conflict, none_behind_it, none_left, one_left, one_mark, one_marked_more}
use Rattle.session_transactions.proofs.Turns.{IsMarkTurn, at_task, left_at, mark_turns, task_then}

-- where a delete stands before a mark: its query's rows, of which so many are marked, and this one is next
pub record StandsAtMark (p : Place) (n : ℕ) (query : Query) (answers : List Answer) (first : Bool) (k : ℕ) : Type 0 where
  pub in_hand : p.hands n ≡ Some (record { statement = statements.Delete query; answers = answers })
  pub copy : OpenTransaction
  pub got : finite.get (database_at p).sessions n ≡ Some copy
  pub rows : List Row
  pub has : HasMarked first (rows_found copy query) rows k answers
  pub row : Row
  pub more : List Row
  pub left : drop k rows ≡ row ∷ more
  pub scan : TableScan
  pub at : (p.tables query.table).task n ≡ Marks scan (row.id ∷ map (λ (r : Row). r.id) more)

-- a mark's effect, by whether another stands in the way
mark_effect : (s : DatabaseState) (n table : ℕ) (row : Row) (x : OpenTransaction) → finite.get s.sessions n ≡ Some x
    → effect s (mark_entry n table row) ≡ (if is_conflict s n x row.id then (after_failure s n x, Conflict row.id) else (with_transaction s n (after_mark x row.id), Marked))
mark_effect s n table row x got = effect_is s (mark_entry n table row) ∙ ap (λ (o : Option OpenTransaction). effect_at o s (mark_entry n table row)) got

module _ (p : Place) (n : ℕ) (query : Query) (answers : List Answer) (first : Bool) (k : ℕ) (stands : StandsAtMark p n query answers first k) where
  abbrev at : HandAt
  at = record { statement = statements.Delete query; answers = answers }

  -- the mark is answered
  module _ (answer : Answer) (after : DatabaseState) (does : effect (database_at p) (mark_entry n query.table stands.row) ≡ (after, answer)) where
    pub answered : (f : Course) × IsMarked p.opening n query (course_of p at) stands.rows (entries_of first n query stands.row) (replicate k Marked ++ answer ∷ []) after f
    answered = one_mark p.opening n query (course_of p at) stands.copy stands.got stands.rows stands.row stands.more answer after does first k stands.has stands.left

    abbrev pub course : Course
    course = answered.0

    pub course_is : IsMarked p.opening n query (course_of p at) stands.rows (entries_of first n query stands.row) (replicate k Marked ++ answer ∷ []) after course
    course_is = answered.1

  -- the mark is made
  module _ (after : DatabaseState) (does : effect (database_at p) (mark_entry n query.table stands.row) ≡ (after, Marked)) where
    abbrev made : Course
    made = course Marked after does

    abbrev is_made : IsMarked p.opening n query (course_of p at) stands.rows (entries_of first n query stands.row) (replicate k Marked ++ Marked ∷ []) after made
    is_made = course_is Marked after does

    pub answers_are : made.answers ≡ Found stands.rows ∷ replicate (suc k) Marked
    answers_are = is_made.answers ∙ ap (λ (l : List Answer). Found stands.rows ∷ l) (one_marked_more k)

    left_then : drop (suc k) stands.rows ≡ stands.more
    left_then = drop_next stands.rows k stands.row stands.more stands.left

    -- and another one is left
    pub goes_on : (next : Row) (rest : List Row) (v : TableState) (counts : ℕ → Bool) → stands.more ≡ next ∷ rest → IsMarkTurn p n query v → v.task n ≢ Resting
        → StepsTo p n at (Moved points.Mark) (place_after p n query.table (Some (record at { answers = made.answers })) v (p.accounts n) counts made.journal)
    goes_on next rest v counts more turn busy = turn_goes_on p n query.table at v (p.accounts n) counts points.Mark made turn.0 turn.1 busy
        (is_made.made, (mark_entry n query.table next, one_left n query stands.rows (suc k) next rest made.answers answers_are (left_then ∙ more)))

    -- and it was the last
    pub ends : (v : TableState) (counts : ℕ → Bool) → stands.more ≡ [] → IsMarkTurn p n query v → v.task n ≡ Resting
        → StepsTo p n at (Ended (replies.Deleted (suc k))) (place_after p n query.table None v (p.accounts n) counts made.journal)
    ends v counts more turn rests = turn_replies p n query.table at v (p.accounts n) counts points.Mark made (replies.Deleted (suc k)) turn.0 turn.1 rests
        (all_made p.opening n (statements.Delete query) (course_of p at) made is_made.made (none_left n query stands.rows (suc k) made.answers answers_are (left_then ∙ more)))
        (sym (ap deleted_reply answers_are ∙ deleted stands.rows (suc k)))

  -- another one stands in the way
  module _ (after : DatabaseState) (does : effect (database_at p) (mark_entry n query.table stands.row) ≡ (after, Conflict stands.row.id)) where
    abbrev met : Course
    met = course (Conflict stands.row.id) after does

    abbrev is_met : IsMarked p.opening n query (course_of p at) stands.rows (entries_of first n query stands.row) (replicate k Marked ++ Conflict stands.row.id ∷ []) after met
    is_met = course_is (Conflict stands.row.id) after does

    pub conflicts : (v : TableState) (account_counts : ℕ → Bool) (turns : TurnsIn p n (statements.Delete query) query.table v (p.accounts n)) → refusal_in turns ≡ Some (HasConflict stands.row.id)
        → StepsTo p n at (Ended (replies.Refused (refusals.Conflict stands.row.id))) (place_after p n query.table None v (p.accounts n) account_counts met.journal)
    conflicts v counts turns refused = turn_conflicts p n query.table at v (p.accounts n) counts stands.row.id met turns refused
        (all_made p.opening n (statements.Delete query) (course_of p at) met is_met.made
        (none_behind_it n query stands.rows k stands.row.id stands.row stands.more met.answers is_met.answers stands.left))
        (sym (ap deleted_reply is_met.answers ∙ met_conflict stands.rows k stands.row.id))

  -- ---- the journal lacks room

  same_table : OnlyTurns (p.tables query.table) (p.tables query.table)
  same_table = record {
    rows = record { layout = record { indexes = refl; rows_per_page = refl; heap_limit = refl }; blocks = refl; row = λ b j. refl; counts = λ t. refl };
    indexes = record { index = λ i. refl };
    summarise_lock = refl;
  }

  module _ (past : MAX_ENTRIES < length (p.journal ++ entries_of first n query stands.row)) where
    abbrev v : TableState
    v = at_task n (p.tables query.table) (left_at stands.scan (map (λ (r : Row). r.id) stands.more))

    turn : IsMarkTurn p n query v
    turn = mark_turns p n query (p.tables query.table) stands.scan stands.row.id (map (λ (r : Row). r.id) stands.more) stands.at same_table (λ m. refl)

    lacks : (outcome : Outcome) (further : Place) → StepsTo p n at outcome further → further.journal ≡ p.journal ++ entries_of first n query stands.row → LacksRoom p n
    lacks outcome further steps is = record {
      hand = at;
      in_hand = stands.in_hand;
      outcome = outcome;
      further = further;
      steps = steps;
      past = subst (λ (l : List Entry). MAX_ENTRIES < length l) (sym is) past;
    }

    lacks_for_mark : (after : DatabaseState) → effect (database_at p) (mark_entry n query.table stands.row) ≡ (after, Marked) → (more : List Row) → stands.more ≡ more → LacksRoom p n
    lacks_for_mark after does [] is = lacks (Ended (replies.Deleted (suc k))) (place_after p n query.table None v (p.accounts n) (λ t. true) (course Marked after does).journal)
        (ends after does v (λ t. true) is turn (task_then n (p.tables query.table) _ ∙ ap (λ (l : List Row). left_at stands.scan (map (λ (r : Row). r.id) l)) is)) (course_is Marked after does).journal
    lacks_for_mark after does (next ∷ rest) is =
        lacks (Moved points.Mark) (place_after p n query.table (Some (record at { answers = (course Marked after does).answers })) v (p.accounts n) (λ t. true) (course Marked after does).journal)
        (goes_on after does next rest v (λ t. true) is turn (λ rests.
        let both : Marks stands.scan (next.id ∷ map (λ (r : Row). r.id) rest) ≡ Resting = sym (task_then n (p.tables query.table) _ ∙ ap (λ (l : List Row). left_at stands.scan (map (λ (r : Row). r.id) l)) is) ∙ rests in cc))
        (course_is Marked after does).journal

    lacks_for_conflict : (after : DatabaseState) → effect (database_at p) (mark_entry n query.table stands.row) ≡ (after, Conflict stands.row.id) → LacksRoom p n
    lacks_for_conflict after does =
        let refused = mark_is_refused p n query.table 0 (statements.Delete query) (p.tables query.table) stands.scan stands.row.id (map (λ (r : Row). r.id) stands.more) (λ t. false) refl
        (λ is. cc) refl stands.at (record { failed = refl; fewer = λ u none. absurd (true≢false (sym none)) }) in
        lacks (Ended (replies.Refused (refusals.Conflict stands.row.id))) (place_after p n query.table None (refused_in n (λ t. false) (p.tables query.table)) (p.accounts n) (λ t. true) (course (Conflict stands.row.id) after does).journal)
        (conflicts after does (refused_in n (λ t. false) (p.tables query.table)) (λ t. true) refused.0 refused.1) (course_is (Conflict stands.row.id) after does).journal

    pub lacks_room : LacksRoom p n
    lacks_room = by (is_conflict (database_at p) n stands.copy stands.row.id) (mark_effect (database_at p) n query.table stands.row stands.copy stands.got)
      where
        by : (conflict : Bool) → effect (database_at p) (mark_entry n query.table stands.row)
            ≡ (if conflict then (after_failure (database_at p) n stands.copy, Conflict stands.row.id) else (with_transaction (database_at p) n (after_mark stands.copy stands.row.id), Marked)) → LacksRoom p n
        by true is = lacks_for_conflict (after_failure (database_at p) n stands.copy) is
        by false is = lacks_for_mark (with_transaction (database_at p) n (after_mark stands.copy stands.row.id)) is stands.more refl
