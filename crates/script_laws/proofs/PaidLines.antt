-- Lines of a script stay within the budget to which each of them adds its own.
use Rattle.std.proofs.Common.{◌≡◌, ◌⊎◌, inl, inr, ℕ, suc, ◌+◌, ◌-◌, ◌*◌, ◌≤◌, ◌<◌, false, List, [], ◌∷◌, ◌++◌, length, Option, None, Some, Ok, refl, sym, ap, ◌∙◌, subst, arith, length-append}
use Rattle.std.specs.Prelude.{Result, All, slice_index_or}
use Rattle.std.specs.FinMap.{entries, get-empty, len-empty, len-entries}
use Rattle.std.specs.Ordering.{nat_cmp}
use Rattle.std.proofs.lemmas.Bool.{leb-false}
use Rattle.std.proofs.lemmas.List.{length_push, length-map}
use Rattle.std.proofs.lemmas.List.Elements.{All-head, All-tail}
use Rattle.std.proofs.lemmas.List.Sums.{sum_by-append, sum_by-cons, sum_by-le, sum_by-le-sum_by, sum_by_push}
use Rattle.std.proofs.lemmas.Option.{none-some, same_Some}
use Rattle.block_model.specs.declared.reply.Refusal.{Refusal}
use Rattle.block_model.specs.declared.request.Entry.{Entry}
use Rattle.block_model.specs.declared.row.Row.{Row}
use Rattle.block_model.specs.declared.schema.Schema.{Schema}
use Rattle.block_model.specs.DatabaseState.{DatabaseState, initial_state}
use Rattle.block_model.specs.SerialRun.{serial_run}
use Rattle.block_model.specs.TableState.{id_cmp, rows_in}
use Rattle.query_words.specs.declared.line.Line.{Line}
use Rattle.query_words.specs.declared.line.Line.TheVariants as lines
use Rattle.query_words.specs.declared.line.LineFault.{LineFault}
use Rattle.query_words.specs.declared.line.Order.{Order}
use Rattle.query_words.specs.declared.line.Order.TheVariants as orders
use Rattle.query_words.specs.Lines.{line_of}
use Rattle.script_run.specs.declared.engine.AnswerFault.TheVariants.{Full}
use Rattle.script_run.specs.Answers.{AreAnswers}
use Rattle.store_layout.specs.declared.limits.TheConstants.{MAX_ENTRIES, MAX_SESSIONS}
use Rattle.store_layout.specs.declared.statement.Statement.{Statement}
use Rattle.store_layout.specs.declared.statement.Statement.TheVariants as statements
use Rattle.store_layout.specs.SessionNumbers.{is_past_sessions, session_number}
use Rattle.store_layout.specs.DiskLayout.{DiskLayout}
use Rattle.script_semantics.specs.LineTexts.{Answers, Does, Finishes, Further, IsFinished, IsLineText, IsNotRead, LastStep, NoFinish, NoStep, NotTaken, Orders, PastSessions, Plain, RefusesPlain, RefusesStart, SaysNothing, Starts, StepsOnce, Submits}
use Rattle.script_semantics.specs.LineTexts.{Taken, WantsMemory, named, submit_refusal, with_statement}
use Rattle.script_semantics.specs.Openings.{NoneOpen}
use Rattle.script_semantics.specs.Place.{Hand, Place, database_at, new_hand}
use Rattle.script_semantics.specs.Starts.{IsOpening, IsStart}
use Rattle.script_semantics.specs.StatementSteps.{LacksRoom, Outcome, Steps}
use Rattle.script_semantics.specs.Stops.{Begun, ComesTo, IsLineStopped, LineComesTo, MovedTo, OfFinish, OfPlain, OfStep, OffDisk, OnTo, PastRoom, Still}
use Rattle.script_semantics.proofs.Bare.{updated_there}
use Rattle.script_semantics.proofs.OneStep.{refusal_is}
use Rattle.script_semantics.proofs.Orders.{updated_here}
use Rattle.script_laws.specs.RequestBounds.{Deletes, FillJournal, HasRoom, IsDelete, IsFirstPlace, IsNoDelete, LinesMakeFewRequests, ScriptsBegin, ScriptsHaveRoom, ScriptsWithRoomFit, begins_of, begins_of_line, begins_of_order, most_of_line, most_of_lines, most_of_order, most_of_statement}
use Rattle.script_laws.proofs.Budgets.{AreFew, one_owed, owed_by, puts_owed}
use Rattle.script_laws.proofs.CopySizes.{puts}
use Rattle.script_laws.proofs.Paid.{IsPaid, PutsFew, owed_at, owed_in, paid_step}
use Rattle.script_laws.proofs.Reaching.{nothing_first}
use Rattle.script_laws.proofs.Selects.{fresh_taken}
use Rattle.script_laws.proofs.SessionSums.{sum_below, sum_changed, sum_nothing}
use Rattle.script_laws.proofs.Soundness.{IsInsert, sound, sound_at, taken_sound}

more_paid : (o : DatabaseState) (rows paid more : ℕ) (p : Place) → IsPaid o rows paid p → IsPaid o rows (paid + more) p
more_paid o rows paid more p is = record { opening = is.opening; within = sums (length p.journal) (owed_in rows p) is.within; hands = is.hands; unfailed = is.unfailed; fresh = is.fresh }
  where
    sums : (long all : ℕ) → long + all ≤ paid → long + all ≤ paid + more
    sums long all less = omega (arith, less)

-- a new statement
new_few : (rows : ℕ) (statement : Statement) → AreFew rows statement []
new_few rows (statements.Delete q) = record { few = omega arith; found = λ found marks is. absurd (cc) }
new_few rows statement = record { few = omega arith; found = tt }

module _ (o : DatabaseState) (none : NoneOpen o) (first : ℕ) (few : length (rows_in o.table) ≤ first) (most rows : ℕ) (room : first + most ≤ rows) (n : ℕ) (low : n < MAX_SESSIONS) where
  -- within the budget, with one row more that the line may put
  abbrev IsAmid : ℕ → Place → Type 0
  IsAmid paid p = IsPaid o rows paid p × PutsFew most n p

  module _ (paid : ℕ) where
    amid_step : (p : Place) (outcome : Outcome) (q : Place) → IsAmid paid p → Steps p n outcome q → IsAmid paid q
    amid_step p outcome q is step = paid_step o none first few most rows paid room n low p step.hand step.in_hand is.0 is.1 outcome q step.steps

    amid_finish : (p : Place) (outcome : Outcome) (q : Place) → IsAmid paid p → Finishes n p outcome q → IsAmid paid q
    amid_finish _ _ _ is (LastStep p q outcome last step) = amid_step p outcome q is step
    amid_finish _ _ _ is (Further p q r point outcome step more) = amid_finish q outcome r (amid_step p _ q is step) more

    amid_moved : (p q : Place) → IsAmid paid p → MovedTo n p q → IsAmid paid q
    amid_moved _ _ is (Still p) = is
    amid_moved _ _ is (OnTo p q r point step more) = amid_moved q r (amid_step p _ q is step) more

    -- the step for which there is no room would stay within the budget
    amid_past : (p : Place) → IsAmid paid p → LacksRoom p n → MAX_ENTRIES < paid
    amid_past p is lacks =
        let after = paid_step o none first few most rows paid room n low p lacks.hand lacks.in_hand is.0 is.1 lacks.outcome lacks.further lacks.steps in
        past (length lacks.further.journal) (owed_in rows lacks.further) lacks.past after.0.within
      where
        past : (long all : ℕ) → MAX_ENTRIES < long → long + all ≤ paid → MAX_ENTRIES < paid
        past long all a b = omega (arith, a, b)

  -- ---- a statement is taken

  module _ (p : Place) (statement : Statement) (empty : p.hands n ≡ None) where
    taken_at : (m : ℕ) → (m ≡ n) ⊎ (owed_at rows (with_statement p n statement) m ≡ owed_at rows p m)
    taken_at m = by (updated_there p.hands n (Some (new_hand statement)) m)
      where
        by : (m ≡ n) ⊎ ((with_statement p n statement).hands m ≡ p.hands m) → (m ≡ n) ⊎ (owed_at rows (with_statement p n statement) m ≡ owed_at rows p m)
        by (inl is) = inl is
        by (inr same) = inr (ap (λ (h : Option Hand). owed_by rows h + sound_at (database_at p) m) same)

    hands_taken : ((m : ℕ) (hand : Hand) → p.hands m ≡ Some hand → AreFew rows hand.statement hand.answers) → (m : ℕ) (hand : Hand) → (with_statement p n statement).hands m ≡ Some hand
        → AreFew rows hand.statement hand.answers
    hands_taken are m hand has = by (updated_there p.hands n (Some (new_hand statement)) m)
      where
        by : (m ≡ n) ⊎ ((with_statement p n statement).hands m ≡ p.hands m) → AreFew rows hand.statement hand.answers
        by (inl is) =
            let here : Some (new_hand statement) ≡ Some hand = sym (updated_here p.hands n (Some (new_hand statement))) ∙ ap (with_statement p n statement).hands (sym is) ∙ has in
            subst (λ (h : Hand). AreFew rows h.statement h.answers) (same_Some _ _ here) (new_few rows statement)
        by (inr same) = are m hand (sym same ∙ has)

    -- an insert that is taken has a sound transaction
    sound_taken : submit_refusal p n statement ≡ None → ((m : ℕ) (hand : Hand) → p.hands m ≡ Some hand → IsInsert hand.statement → sound_at (database_at p) m ≡ 1) → (m : ℕ) (hand : Hand)
        → (with_statement p n statement).hands m ≡ Some hand → IsInsert hand.statement → sound_at (database_at p) m ≡ 1
    sound_taken taken are m hand has inserts = by (updated_there p.hands n (Some (new_hand statement)) m)
      where
        own : (st : Statement) → statement ≡ st → IsInsert st → sound_at (database_at p) n ≡ 1
        own (statements.Insert table values) same is =
            taken_sound (database_at p) n (statements.Insert table values) tt
            (sym (refusal_is p n (statements.Insert table values) empty tt) ∙ subst (λ (st : Statement). submit_refusal p n st ≡ None) same taken)
        own st same is = absurd is

        by : (m ≡ n) ⊎ ((with_statement p n statement).hands m ≡ p.hands m) → sound_at (database_at p) m ≡ 1
        by (inl is) =
            let here : Some (new_hand statement) ≡ Some hand = sym (updated_here p.hands n (Some (new_hand statement))) ∙ ap (with_statement p n statement).hands (sym is) ∙ has in
            ap (sound_at (database_at p)) is ∙ own statement refl (subst (λ (h : Hand). IsInsert h.statement) (sym (same_Some _ _ here)) inserts)
        by (inr same) = are m hand (sym same ∙ has) inserts

    paid_taken : (paid : ℕ) → submit_refusal p n statement ≡ None → IsPaid o rows paid p → IsPaid o rows (paid + most_of_statement rows statement) (with_statement p n statement)
    paid_taken paid taken is =
        let q = with_statement p n statement in
        let changed : sum_below (owed_at rows q) MAX_SESSIONS + owed_at rows p n ≡ sum_below (owed_at rows p) MAX_SESSIONS + owed_at rows q n = sum_changed (owed_at rows p) (owed_at rows q) n taken_at MAX_SESSIONS low in
        let owes : owed_by rows (q.hands n) ≡ owed_by rows (Some (new_hand statement)) = ap (owed_by rows) (updated_here p.hands n (Some (new_hand statement))) in
        record {
          opening = is.opening;
          within = sums (length p.journal) (owed_in rows p) (owed_in rows q) (owed_by rows (p.hands n)) (owed_by rows (q.hands n)) (sound_at (database_at p) n) (most_of_statement rows statement) is.within changed owes;
          hands = hands_taken is.hands;
          unfailed = sound_taken taken is.unfailed;
          fresh = fresh_taken p n statement is.fresh;
        }
      where
        sums : (long p_all q_all p_owes q_owes stays own : ℕ) → long + p_all ≤ paid → q_all + (p_owes + stays) ≡ p_all + (q_owes + stays) → q_owes ≡ own - 0 → long + q_all ≤ paid + own
        sums long p_all q_all p_owes q_owes stays own a b c = omega (arith, a, b, c)

    put_taken : puts p.journal + 1 ≤ most → PutsFew most n (with_statement p n statement)
    put_taken one = sums (puts p.journal) (puts_owed ((with_statement p n statement).hands n)) (one_owed ((with_statement p n statement).hands n)) one
      where
        sums : (put_so_far owes : ℕ) → owes ≤ 1 → put_so_far + 1 ≤ most → put_so_far + owes ≤ most
        sums put_so_far owes a b = omega (arith, a, b)

  -- ---- a line

  -- before the line, which may put a row
  module _ (paid : ℕ) (p : Place) (is : IsPaid o rows paid p) (one : puts p.journal + 1 ≤ most) where
    amid_first : IsAmid paid p
    amid_first = (is, sums (puts p.journal) (puts_owed (p.hands n)) (one_owed (p.hands n)) one)
      where
        sums : (put_so_far owes : ℕ) → owes ≤ 1 → put_so_far + 1 ≤ most → put_so_far + owes ≤ most
        sums put_so_far owes a b = omega (arith, a, b)

    amid_on : (more : ℕ) → IsAmid (paid + more) p
    amid_on more = (more_paid o rows paid more p is, amid_first.1)

    amid_submit : (statement : Statement) (told : Option Refusal) (q : Place) → Submits p n statement told q → IsAmid (paid + most_of_statement rows statement) q
    amid_submit statement _ _ (Taken taken) =
        let empty = nothing_first (p.hands n) _ taken in
        (paid_taken p statement empty paid taken is, put_taken p statement empty one)
    amid_submit statement _ _ (NotTaken refusal because) = amid_on (most_of_statement rows statement)
    amid_submit statement _ _ (WantsMemory taken may) = amid_on (most_of_statement rows statement)

    amid_does : (name : List ℕ) (order : Order) (text : List ℕ) (q : Place) → Does p n name order text q → IsAmid (paid + most_of_order rows order) q
    amid_does name _ _ _ (Starts statement q taken) = amid_submit statement None q taken
    amid_does name _ _ _ (RefusesStart statement refusal q refused) = amid_submit statement (Some refusal) q refused
    amid_does name _ _ _ (StepsOnce outcome q step) = amid_step (paid + 0) p outcome q (amid_on 0) step
    amid_does name _ _ _ (IsFinished outcome q finishes) = amid_finish (paid + 0) p outcome q (amid_on 0) finishes
    amid_does name _ _ _ (NoStep nothing) = amid_on 0
    amid_does name _ _ _ (NoFinish nothing) = amid_on 0
    amid_does name _ _ _ (Plain statement outcome q r taken finishes) = amid_finish (paid + most_of_statement rows statement) q outcome r (amid_submit statement None q taken) finishes
    amid_does name _ _ _ (RefusesPlain statement refusal q refused) = amid_submit statement (Some refusal) q refused

    amid_comes : (order : Order) (q : Place) → ComesTo p n order q → IsAmid (paid + most_of_order rows order) q
    amid_comes _ _ OfStep = amid_on 0
    amid_comes _ _ (OfFinish q moved) = amid_moved (paid + 0) p q (amid_on 0) moved
    amid_comes _ _ (OfPlain statement q r taken moved) = amid_moved (paid + most_of_statement rows statement) q r (amid_submit statement None q taken) moved

-- ---- the lines of a script

-- a session that may be made has a number that may be
low_number : (names : List (List ℕ)) (name : List ℕ) → is_past_sessions names name ≡ false → session_number names name < MAX_SESSIONS
low_number names name within = leb-false MAX_SESSIONS (session_number names name) within

module _ (o : DatabaseState) (none : NoneOpen o) (first : ℕ) (few : length (rows_in o.table) ≤ first) (rows : ℕ) where
  -- so many lines were said, each of which may have put a row
  abbrev pub IsBehind : (said paid : ℕ) → Place → Type 0
  IsBehind said paid p = IsPaid o rows paid p × (puts p.journal ≤ said)

  paid_named : (paid : ℕ) (p : Place) (name : List ℕ) → IsPaid o rows paid p → IsPaid o rows paid (named p name)
  paid_named paid p name is = record { opening = is.opening; within = is.within; hands = is.hands; unfailed = is.unfailed; fresh = is.fresh }

  module _ (said paid : ℕ) (room : first + suc said ≤ rows) (p : Place) (is : IsBehind said paid p) where
    one_put : puts p.journal + 1 ≤ suc said
    one_put = let put = is.1 in omega (arith, put)

    unchanged : (more : ℕ) → IsBehind (suc said) (paid + more) p
    unchanged more = (more_paid o rows paid more p is.0, (let put = is.1 in omega (arith, put)))

    behind_line : (read : Result Line LineFault) (text : List ℕ) (q : Place) → Answers p read text q → IsBehind (suc said) (paid + most_of_line rows read) q
    behind_line _ _ _ (IsNotRead fault) = unchanged 0
    behind_line _ _ _ SaysNothing = unchanged 0
    behind_line _ _ _ (PastSessions name order past) = unchanged (most_of_order rows order)
    behind_line _ _ _ (Orders name order text q within does) =
        let n = session_number p.names name in
        let amid = amid_does o none first few (suc said) rows room n (low_number p.names name within) paid (named p name) (paid_named paid p name is.0) one_put name order text q does in
        (amid.0, put_only (puts q.journal) (puts_owed (q.hands n)) amid.1)
      where
        put_only : (a b : ℕ) → a + b ≤ suc said → a ≤ suc said
        put_only a b less = omega (arith, less)

    past_line : (read : Result Line LineFault) (n : ℕ) (q : Place) → LineComesTo p read n q → LacksRoom q n → MAX_ENTRIES < paid + most_of_line rows read
    past_line _ _ _ (Begun name order q within comes) lacks =
        let n = session_number p.names name in
        let low = low_number p.names name within in
        let amid = amid_comes o none first few (suc said) rows room n low paid (named p name) (paid_named paid p name is.0) one_put order q comes in
        amid_past o none first few (suc said) rows room n low (paid + most_of_order rows order) q amid lacks

  behind_lines : (schema : Schema) (script texts : List (List ℕ)) (said paid : ℕ) (p q : Place) → first + (said + length script) ≤ rows → IsBehind said paid p
      → AreAnswers (IsLineText schema) p script texts q → IsBehind (said + length script) (paid + most_of_lines schema rows script) q
  behind_lines schema [] [] said paid p q room is e =
      let at : IsBehind said paid q = subst (IsBehind said paid) (sym e) is in
      (more_paid o rows paid 0 q at.0, (let put = at.1 in omega (arith, put)))
  behind_lines schema [] (text ∷ texts) said paid p q room is e = absurd e
  behind_lines schema (line ∷ script) [] said paid p q room is e = absurd e
  behind_lines schema (line ∷ script) (text ∷ texts) said paid p q room is e =
      let own = most_of_line rows (line_of schema line) in
      let one = behind_line said paid (let low : first + suc said ≤ rows = omega (arith, room) in low) p is (line_of schema line) text e.0 e.1 in
      let rest = behind_lines schema script texts (suc said) (paid + own) e.0 q (let low : first + (suc said + length script) ≤ rows = omega (arith, room) in low) one e.2 in (
        subst (λ (m : ℕ). IsPaid o rows m q)
            (grouped paid own (most_of_lines schema rows script) (most_of_lines schema rows (line ∷ script)) (sum_by-cons (λ (l : List ℕ). most_of_line rows (line_of schema l)) line script)) rest.0,
        counted (puts q.journal) (length script) rest.1,
      )
    where
      grouped : (a b c d : ℕ) → d ≡ b + c → a + b + c ≡ a + d
      grouped a b c d same = omega (arith, same)

      counted : (a b : ℕ) → a ≤ suc said + b → a ≤ said + suc b
      counted a b less = omega (arith, less)

-- ---- from where a script begins

at_first : (rows first : ℕ) (p : Place) → IsFirstPlace first p → IsPaid p.opening rows 0 p
at_first rows first p is = record {
  opening = refl;
  within = sums (length p.journal) (owed_in rows p) (ap length is.journal) (sum_nothing (owed_at rows p) nothing MAX_SESSIONS);
  hands = λ n hand has. absurd (none-some _ (sym (is.hands n) ∙ has));
  unfailed = λ n hand has inserts. absurd (none-some _ (sym (is.hands n) ∙ has));
  fresh = λ n query answers has. absurd (none-some _ (sym (is.hands n) ∙ has));
}
  where
    sums : (long all : ℕ) → long ≡ 0 → all ≡ 0 → long + all ≤ 0
    sums long all a b = omega (arith, a, b)

    nothing : (n : ℕ) → owed_at rows p n ≡ 0
    nothing n = both (owed_by rows (p.hands n)) (sound_at (database_at p) n) (ap (owed_by rows) (is.hands n))
        (ap (λ (journal : List Entry). sound_at (serial_run p.opening journal) n) is.journal ∙ ap sound (is.none_open n))
      where
        both : (a b : ℕ) → a ≡ 0 → b ≡ 0 → a + b ≡ 0
        both a b one two = omega (arith, one, two)

module _ (schema : Schema) (first : ℕ) (start : Place) (begins : IsFirstPlace first start) (rows : ℕ) (script texts : List (List ℕ)) (p : Place) (room : first + length script ≤ rows)
    (answers : AreAnswers (IsLineText schema) start script texts p) where
  pub behind_all : IsPaid start.opening rows (0 + most_of_lines schema rows script) p × (puts p.journal ≤ 0 + length script)
  behind_all = behind_lines start.opening begins.none_open first begins.few rows schema script texts 0 0 start p (let enough : first + (0 + length script) ≤ rows = omega (arith, room) in enough) (at_first rows first start begins, (let none = ap puts begins.journal in omega (arith, none))) answers

  pub few_requests : length p.journal ≤ most_of_lines schema rows script
  few_requests = sums (length p.journal) (owed_in rows p) behind_all.0.within
    where
      sums : (long all : ℕ) → long + all ≤ 0 + most_of_lines schema rows script → long ≤ most_of_lines schema rows script
      sums long all less = omega (arith, less)

pub lines_make_few : LinesMakeFewRequests
lines_make_few schema rows start p script texts begins answers = few_requests schema rows start begins (rows + length script) script texts p (omega arith) answers

module _ (schema : Schema) (first : ℕ) (script : List (List ℕ)) (fills : FillJournal schema first script) where
  abbrev rows_then : ℕ
  rows_then = first + length script

  long_script : length script ≡ length fills.done + 1
  long_script = ap length fills.are ∙ length_push fills.done fills.line

  all_of : most_of_lines schema rows_then script ≡ most_of_lines schema rows_then fills.done + most_of_line rows_then (line_of schema fills.line)
  all_of = ap (most_of_lines schema rows_then) fills.are ∙ sum_by_push (λ (l : List ℕ). most_of_line rows_then (line_of schema l)) fills.done fills.line

  room_before : first + length fills.done ≤ rows_then
  room_before = less (length script) (length fills.done) long_script
    where
      less : (all before : ℕ) → all ≡ before + 1 → first + before ≤ first + all
      less all before same = omega (arith, same)

  room_there : first + suc (0 + length fills.done) ≤ rows_then
  room_there = less (length script) (length fills.done) long_script
    where
      less : (all before : ℕ) → all ≡ before + 1 → first + suc (0 + before) ≤ first + all
      less all before same = omega (arith, same)

  stopped_past : (after : Place) → IsLineStopped schema fills.place fills.line Full after → MAX_ENTRIES < 0 + most_of_lines schema rows_then fills.done + most_of_line rows_then (line_of schema fills.line)
  stopped_past _ (PastRoom n q comes lacks) =
      past_line fills.start.opening fills.begins.none_open first fills.begins.few rows_then (0 + length fills.done) (0 + most_of_lines schema rows_then fills.done) room_there fills.place
      (behind_all schema first fills.start fills.begins rows_then fills.done fills.texts fills.place room_before fills.answers) (line_of schema fills.line) n q comes lacks
  stopped_past _ (OffDisk n q fault comes of_disk) = absurd of_disk

  pub many_needed : MAX_ENTRIES < most_of_lines schema rows_then script
  many_needed = past (most_of_lines schema rows_then script) (most_of_lines schema rows_then fills.done) (most_of_line rows_then (line_of schema fills.line)) all_of (stopped_past fills.after fills.stops)
    where
      past : (all before last : ℕ) → all ≡ before + last → MAX_ENTRIES < 0 + before + last → MAX_ENTRIES < all
      past all before last same less = omega (arith, same, less)

pub scripts_with_room_fit : ScriptsWithRoomFit
scripts_with_room_fit schema rows script room fills = apart (most_of_lines schema (rows + length script) script) room (many_needed schema rows script fills)
  where
    apart : (most : ℕ) → most ≤ MAX_ENTRIES → MAX_ENTRIES < most → ⊥
    apart most less more = omega (arith, less, more)

-- ---- scripts that have room

no_delete_of : (rows : ℕ) (statement : Statement) → ¬ (IsDelete statement) → most_of_statement rows statement ≤ 2
no_delete_of rows (statements.Delete q) not = absurd (not tt)
no_delete_of rows statements.Begin not = omega arith
no_delete_of rows statements.Commit not = omega arith
no_delete_of rows statements.Rollback not = omega arith
no_delete_of rows (statements.Insert table values) not = omega arith
no_delete_of rows (statements.Select q) not = omega arith
no_delete_of rows statement not = omega arith

no_delete_order : (rows : ℕ) (order : Order) → ¬ (Deletes order) → most_of_order rows order ≤ 2
no_delete_order rows (orders.Whole statement) not = no_delete_of rows statement not
no_delete_order rows (orders.Start statement) not = no_delete_of rows statement not
no_delete_order rows order not = omega arith

pub no_delete_read : (rows : ℕ) (read : Result Line LineFault) → ((name : List ℕ) (order : Order) → read ≡ Ok (lines.Say name order) → ¬ (Deletes order)) → most_of_line rows read ≤ 2
no_delete_read rows (Ok (lines.Say name order)) not = no_delete_order rows order (not name order refl)
no_delete_read rows read not = omega arith

-- any line
at_most_of : (rows : ℕ) (statement : Statement) → most_of_statement rows statement ≤ rows + 2
at_most_of rows statements.Begin = omega arith
at_most_of rows statements.Commit = omega arith
at_most_of rows statements.Rollback = omega arith
at_most_of rows (statements.Insert table values) = omega arith
at_most_of rows (statements.Select q) = omega arith
at_most_of rows (statements.Delete q) = omega arith
at_most_of rows statement = omega arith

at_most_order : (rows : ℕ) (order : Order) → most_of_order rows order ≤ rows + 2
at_most_order rows (orders.Whole statement) = at_most_of rows statement
at_most_order rows (orders.Start statement) = at_most_of rows statement
at_most_order rows order = omega arith

at_most_read : (rows : ℕ) (read : Result Line LineFault) → most_of_line rows read ≤ rows + 2
at_most_read rows (Ok (lines.Say name order)) = at_most_order rows order
at_most_read rows read = omega arith

-- so many for each line
all_within : (schema : Schema) (rows each : ℕ) (script : List (List ℕ)) → All (λ (line : List ℕ). most_of_line rows (line_of schema line) ≤ each) script → length script * each ≤ MAX_ENTRIES
    → most_of_lines schema rows script ≤ MAX_ENTRIES
all_within schema rows each script all enough = joined (most_of_lines schema rows script) (length script * each) (sum_by-le (λ (l : List ℕ). most_of_line rows (line_of schema l)) each script all) enough
  where
    joined : (sum most : ℕ) → sum ≤ most → most ≤ MAX_ENTRIES → sum ≤ MAX_ENTRIES
    joined sum most a b = omega (arith, a, b)

one_of : (rows : ℕ) (statement : Statement) → ¬ (IsDelete statement) → most_of_statement rows statement ≤ 1 + begins_of_order (orders.Whole statement)
one_of rows (statements.Delete q) not = absurd (not tt)
one_of rows statements.Begin not = omega arith
one_of rows statements.Commit not = omega arith
one_of rows statements.Rollback not = omega arith
one_of rows (statements.Insert table values) not = omega arith
one_of rows (statements.Select q) not = omega arith
one_of rows statement not = omega arith

started_begins : (statement : Statement) → begins_of_order (orders.Start statement) ≡ begins_of_order (orders.Whole statement)
started_begins statements.Begin = refl
started_begins statement = refl

one_of_order : (rows : ℕ) (order : Order) → ¬ (Deletes order) → most_of_order rows order ≤ 1 + begins_of_order order
one_of_order rows (orders.Whole statement) not = one_of rows statement not
one_of_order rows (orders.Start statement) not = let one = one_of rows statement not in let same = started_begins statement in omega (arith, one, same)
one_of_order rows order not = omega arith

one_of_read : (rows : ℕ) (read : Result Line LineFault) → ((name : List ℕ) (order : Order) → read ≡ Ok (lines.Say name order) → ¬ (Deletes order)) → most_of_line rows read ≤ 1 + begins_of_line read
one_of_read rows (Ok (lines.Say name order)) not = one_of_order rows order (not name order refl)
one_of_read rows read not = omega arith

one_each : (schema : Schema) (rows : ℕ) (script : List (List ℕ)) → All (IsNoDelete schema) script → most_of_lines schema rows script ≤ length script + begins_of schema script
one_each schema rows [] none = omega arith
one_each schema rows (line ∷ script) none =
    joined (most_of_lines schema rows (line ∷ script)) (most_of_line rows (line_of schema line)) (most_of_lines schema rows script) (begins_of schema (line ∷ script)) (begins_of_line (line_of schema line)) (begins_of schema script)
    (length script) (sum_by-cons (λ (l : List ℕ). most_of_line rows (line_of schema l)) line script) (sum_by-cons (λ (l : List ℕ). begins_of_line (line_of schema l)) line script)
    (one_of_read rows (line_of schema line) (All-head (IsNoDelete schema) line script none)) (one_each schema rows script (All-tail (IsNoDelete schema) line script none))
  where
    joined : (most own rest begins one more count : ℕ) → most ≡ own + rest → begins ≡ one + more → own ≤ 1 + one → rest ≤ count + more → most ≤ suc count + begins
    joined most own rest begins one more count a b c d = omega (arith, a, b, c, d)

room_without : (schema : Schema) (rows : ℕ) (script : List (List ℕ)) → All (IsNoDelete schema) script → length script + begins_of schema script ≤ MAX_ENTRIES → HasRoom schema rows script
room_without schema rows script none enough = through (most_of_lines schema (rows + length script) script) (length script + begins_of schema script) (one_each schema (rows + length script) script none) enough
  where
    through : (a b : ℕ) → a ≤ b → b ≤ MAX_ENTRIES → a ≤ MAX_ENTRIES
    through a b one two = omega (arith, one, two)

room_of_any : (schema : Schema) (rows : ℕ) (script : List (List ℕ)) → length script * (rows + length script + 2) ≤ MAX_ENTRIES → HasRoom schema rows script
room_of_any schema rows script enough =
    let most = rows + length script in all_within schema most (most + 2) script (λ k d low. at_most_read most (line_of schema (slice_index_or script k d))) enough

-- ---- and first lines of theirs

fewer_of : (rows more : ℕ) (statement : Statement) → rows ≤ more → most_of_statement rows statement ≤ most_of_statement more statement
fewer_of rows more (statements.Delete q) less = omega (arith, less)
fewer_of rows more statements.Begin less = omega arith
fewer_of rows more statements.Commit less = omega arith
fewer_of rows more statements.Rollback less = omega arith
fewer_of rows more (statements.Insert table values) less = omega arith
fewer_of rows more (statements.Select q) less = omega arith
fewer_of rows more statement less = omega arith

fewer_order : (rows more : ℕ) (order : Order) → rows ≤ more → most_of_order rows order ≤ most_of_order more order
fewer_order rows more (orders.Whole statement) less = fewer_of rows more statement less
fewer_order rows more (orders.Start statement) less = fewer_of rows more statement less
fewer_order rows more order less = omega arith

fewer_read : (rows more : ℕ) (read : Result Line LineFault) → rows ≤ more → most_of_line rows read ≤ most_of_line more read
fewer_read rows more (Ok (lines.Say name order)) less = fewer_order rows more order less
fewer_read rows more read less = omega arith

room_of_front : (schema : Schema) (rows : ℕ) (script more : List (List ℕ)) → HasRoom schema rows (script ++ more) → HasRoom schema rows script
room_of_front schema rows script more room =
    let small = rows + length script in
    let large = rows + length (script ++ more) in
    let less : small ≤ large = longer (length (script ++ more)) (length script) (length more) (length-append script more) in
    below (most_of_lines schema small script) (most_of_lines schema large script) (most_of_lines schema large more) (most_of_lines schema large (script ++ more))
    (sum_by-le-sum_by (λ (l : List ℕ). most_of_line small (line_of schema l)) (λ (l : List ℕ). most_of_line large (line_of schema l)) script (λ line. fewer_read small large (line_of schema line) less))
    (sum_by-append (λ (l : List ℕ). most_of_line large (line_of schema l)) script more) room
  where
    longer : (all a b : ℕ) → all ≡ a + b → rows + a ≤ rows + all
    longer all a b same = omega (arith, same)

    below : (a b c all : ℕ) → a ≤ b → all ≡ b + c → all ≤ MAX_ENTRIES → a ≤ MAX_ENTRIES
    below a b c all less same most = omega (arith, less, same, most)

pub scripts_have_room : ScriptsHaveRoom
scripts_have_room = record { without = room_without; any = room_of_any; front = room_of_front }

-- ---- where scripts begin

start_is_first : (layout : DiskLayout) (p : Place) → IsStart layout p → IsFirstPlace 0 p
start_is_first layout p start = record {
  hands = start.hands;
  journal = start.journal;
  none_open = subst NoneOpen (sym start.opening) (λ n. get-empty nat_cmp n);
  few = subst (λ (o : DatabaseState). length (rows_in o.table) ≤ 0) (sym start.opening) empty_rows;
}
  where
    empty_rows : length (rows_in initial_state.table) ≤ 0
    empty_rows =
        let listed = length-map (entries initial_state.table) (λ e. e.1) in
        let none = len-empty id_cmp Row in
        let counted = len-entries initial_state.table in
        omega (arith, listed, none, counted)

opening_is_first : (layout : DiskLayout) (opening : DatabaseState) (p : Place) → IsOpening layout opening p → NoneOpen opening → IsFirstPlace (length (rows_in opening.table)) p
opening_is_first layout opening p start none = record {
  hands = start.hands;
  journal = start.journal;
  none_open = subst NoneOpen (sym start.opening_is) none;
  few = subst (λ (o : DatabaseState). length (rows_in o.table) ≤ length (rows_in opening.table)) (sym start.opening_is) (omega arith);
}

pub scripts_begin : ScriptsBegin
scripts_begin = record { new = start_is_first; opened = opening_is_first }
