-- the entries of a schedule are the replies of its journal
use Rattle.std.proofs.Common.{◌≡◌, ◌≢◌, ◌⊎◌, inl, inr, ℕ, Bool, true, false, cond, ◌==◌, List, [], ◌∷◌, ◌++◌, Option, None, Some, refl, sym, ap, subst, ◌∙◌, eq-eqb, ne_eqb}
use Rattle.std.specs.Prelude.{◌&&◌, IsTrue, slice_index_or}
use Rattle.std.specs.Option.{option_map}
use Rattle.std.specs.FinMap as maps
use Rattle.std.proofs.lemmas.Bool.{cases_eq, false≢true}
use Rattle.std.proofs.lemmas.List.{append-nil, append_assoc, map-append}
use Rattle.std.proofs.lemmas.List.Elements.{All-head, All-tail, filter-append}
use Rattle.std.proofs.lemmas.Option.{none-some, same_Some}
use Rattle.block_model.specs.declared.reply.Refusal.{Refusal}
use Rattle.block_model.specs.declared.reply.Refusal.TheVariants as refusals
use Rattle.block_model.specs.declared.reply.Reply.{Reply}
use Rattle.block_model.specs.declared.reply.Reply.TheVariants as replies
use Rattle.block_model.specs.declared.request.Entry.{Entry}
use Rattle.block_model.specs.declared.request.Request.{Request}
use Rattle.block_model.specs.declared.request.Request.TheVariants as requests
use Rattle.block_model.specs.declared.request.Tag.{Tag}
use Rattle.block_model.specs.declared.request.Tag.TheVariants as tags
use Rattle.block_model.specs.declared.row.Row.{Row}
use Rattle.block_model.specs.declared.value.Value.{Value}
use Rattle.block_model.specs.DatabaseState.{DatabaseState, OpenTransaction}
use Rattle.block_model.specs.RequestEffect.{Answer, Found, Full, NoMemory, after_request, effect_at, effect_is, effect_within, is_legal_at, is_legal_outside, is_legal_request, reply_to}
use Rattle.block_model.specs.SerialRun.{IsLegal, is_legal, is_legal-append, serial_run}
use Rattle.reply_texts.specs.declared.dropped.Dropped.{Dropped}
use Rattle.reply_texts.specs.DroppedTexts.{dropped_text}
use Rattle.reply_texts.specs.Texts.{reply_text}
use Rattle.store_layout.specs.declared.statement.Statement.{Statement}
use Rattle.store_layout.specs.declared.statement.Statement.TheVariants as statements
use Rattle.store_layout.specs.DiskLayout.{DiskLayout}
use Rattle.store_layout.specs.FirstBrokenRule.{first_broken_rule}
use Rattle.store_layout.specs.HeapRoom.{full_table}
use Rattle.store_layout.specs.StatementRequests.{mark_entry, refusal_at, reply_to_statement, tagged_entry}
use Rattle.model_laws.specs.NoRowRemovedTwice as openings
use Rattle.script_semantics.proofs.Entering.{enters_its_own}
use Rattle.script_semantics.specs.Beginnings.{takes_lock}
use Rattle.script_semantics.specs.Laws.{AreOf, IsTransactional}
use Rattle.script_semantics.specs.LineTexts as lines
use Rattle.script_semantics.specs.LineTexts.{Submits, Taken, WantsMemory, block_refusal, dropped_at, in_hand_refusal, may_want_memory, or_else}
use Rattle.script_semantics.specs.Place.{Hand, Place, database_at, new_hand}
use Rattle.script_semantics.specs.Requests.{Course, Enters, First, Further, MakesAll, MakesMark, MakesOne, NoneLeft, OneMore, next_request, refused_request, row_to_mark}
use Rattle.script_semantics.specs.RequestSteps as steps
use Rattle.script_semantics.specs.RequestSteps.{EndsBare, EndsWithout, EntersAll, EntersMark, EntersNone, EntersPut, EntersRefused, FailsSo, ItsIndexIsFull, MaintenanceWants, NoneAsked, RequestStep, StaysWaiting, StepsEnter, course_in}
use Rattle.script_semantics.specs.StatementSteps.{Ended, IsInsert, Moved, Outcome, StepsTo, TakesMemory, Waits, full_index}
use Rattle.transcripts.proofs.Lines.{next_is_said}
use Rattle.transcripts.specs.Told.{IsOutside}
use Rattle.transcripts.specs.Transcript.{BehindDropped, IsNext, IsTextOf, Line, OfReply, Said, entries_of}
use Rattle.transcript_laws.proofs.Events.{updated_here, updated_there}
use Rattle.transcript_laws.proofs.Places.{both_stay}
use Rattle.transcript_laws.proofs.Standing.{IsMarked, IsNew, IsPut, Stands, stands}
use Rattle.transcript_laws.specs.Schedule.{AreTold, AtOpening, AtStart, ByReply, MakesStep, NotByMove, NotByWait, Refuses, Schedule, Takes, entry_of}
use Rattle.transcript_laws.specs.ScheduleLaws.{AnswersAreInPlace, FitsSchema, OnlyInsertsDrop, SchedulesAreReached, SchedulesAreTranscripts}
use Rattle.session_stepper.specs.Replies.{AllAnswered, AreInHand, AreOfStatement, AreReplies, BeginLacksMemory, IndexIsFull, IsRefusedSo, IsReplyTo, LastRefused, MemoryIsShort, NoNumber, NoReply, NoRequest, NotTaken, OneReply, OneRequest, Outside, TableIsFull, TellsReplies, answers_in, asked_by}

-- ---- what a session has asked, in two parts of a journal

pub asked-append : (n : ℕ) (s : DatabaseState) (first second : List Entry) → asked_by n s (first ++ second) ≡ asked_by n s first ++ asked_by n (serial_run s first) second
asked-append n s [] second = refl
asked-append n s (e ∷ es) second =
    elim (e.session == n) as (λ b. cond b ((e, reply_to s e) ∷ asked_by n (after_request s e) (es ++ second)) (asked_by n (after_request s e) (es ++ second))
    ≡ cond b ((e, reply_to s e) ∷ asked_by n (after_request s e) es) (asked_by n (after_request s e) es) ++ asked_by n (serial_run (after_request s e) es) second) [
      | true ↦ ap (λ (l : List (Entry × Answer)). (e, reply_to s e) ∷ l) (asked-append n (after_request s e) es second)
      | false ↦ asked-append n (after_request s e) es second
    ]

own_asked : (n : ℕ) (s : DatabaseState) (e : Entry) → e.session ≡ n → asked_by n s (e ∷ []) ≡ (e, reply_to s e) ∷ []
own_asked n s e own = ap (λ b. cond b ((e, reply_to s e) ∷ []) []) (eq-eqb e.session n own)

others_asked : (n m : ℕ) (s : DatabaseState) (es : List Entry) → m ≢ n → AreOf n es → asked_by m s es ≡ []
others_asked n m s [] other own = refl
others_asked n m s (e ∷ es) other own =
    ap (λ b. cond b ((e, reply_to s e) ∷ asked_by m (after_request s e) es) (asked_by m (after_request s e) es))
    (ne_eqb e.session m (λ is. other (sym is ∙ All-head (λ (x : Entry). x.session ≡ n) e es own)))
    ∙ others_asked n m (after_request s e) es other (All-tail (λ (x : Entry). x.session ≡ n) e es own)

-- ---- requests of a statement

abbrev IsOfSession : ℕ → Option Entry → Type 0
IsOfSession n None = Unit {0}
IsOfSession n (Some e) = e.session ≡ n

mark_is_own : (n table : ℕ) (row : Option Row) → IsOfSession n (option_map (mark_entry n table) row)
mark_is_own n table None = tt
mark_is_own n table (Some row) = refl

next_is_own : (n : ℕ) (statement : Statement) (answers : List Answer) → IsOfSession n (next_request n statement answers)
next_is_own n statements.Begin [] = refl
next_is_own n statements.Commit [] = refl
next_is_own n statements.Rollback [] = refl
next_is_own n (statements.Insert table values) [] = refl
next_is_own n (statements.Select q) [] = refl
next_is_own n (statements.Delete q) [] = refl
next_is_own n (statements.Delete q) (Found rows ∷ marks) = mark_is_own n q.table (row_to_mark rows marks)
next_is_own n statement answers = tt

kind_of : (statement : Statement) → IsTransactional statement ⊎ IsOutside statement
kind_of (statements.Explain q) = inr tt
kind_of (statements.Summarize index block) = inr tt
kind_of (statements.Desummarize index block) = inr tt
kind_of (statements.Vacuum table) = inr tt
kind_of statements.Work = inr tt
kind_of statement = inl tt

lock_outside : (statement : Statement) → IsTrue (takes_lock statement) → IsOutside statement
lock_outside (statements.Summarize index block) takes = tt
lock_outside (statements.Desummarize index block) takes = tt
lock_outside (statements.Vacuum table) takes = tt
lock_outside statements.Work takes = tt
lock_outside statement takes = absurd (false≢true takes)

outside_asks_nothing : (n : ℕ) (statement : Statement) (answers : List Answer) → IsOutside statement → next_request n statement answers ≡ None
outside_asks_nothing n (statements.Explain q) answers out = refl
outside_asks_nothing n (statements.Summarize index block) answers out = refl
outside_asks_nothing n (statements.Desummarize index block) answers out = refl
outside_asks_nothing n (statements.Vacuum table) answers out = refl
outside_asks_nothing n statements.Work answers out = refl
outside_asks_nothing n statement answers out = absurd out

outside_refused : (n : ℕ) (tag : Tag) (statement : Statement) → IsOutside statement → refused_request n tag statement ≡ []
outside_refused n tag (statements.Explain q) out = refl
outside_refused n tag (statements.Summarize index block) out = refl
outside_refused n tag (statements.Desummarize index block) out = refl
outside_refused n tag (statements.Vacuum table) out = refl
outside_refused n tag statements.Work out = refl
outside_refused n tag statement out = absurd out

outside_none : (n : ℕ) (statement : Statement) (own : List (Entry × Answer)) → IsOutside statement → AreOfStatement n statement own → own ≡ []
outside_none n statement _ out NoRequest = refl
outside_none n statement _ out (OneRequest before e answer of is) = absurd (none-some e (sym (outside_asks_nothing n statement (answers_in before) out) ∙ is))

abbrev is_empty : List Answer → Bool
is_empty [] = true
is_empty (a ∷ answers) = false

unanswered_none : (n : ℕ) (statement : Statement) (own : List (Entry × Answer)) → AreOfStatement n statement own → answers_in own ≡ [] → own ≡ []
unanswered_none n statement [] of none = refl
unanswered_none n statement (x ∷ own) of none = absurd (false≢true (ap is_empty none))

-- a begin has no answer yet
abbrev is_begin : Statement → Bool
is_begin statements.Begin = true
is_begin statement = false

begin_is_new : {before now : Option OpenTransaction} (hand : Hand) → Stands before now hand → hand.statement ≡ statements.Begin → hand.answers ≡ []
begin_is_new _ (IsNew statement same) is = refl
begin_is_new _ (IsPut x table values was whole puts) is = absurd (false≢true (ap is_begin is))
begin_is_new _ (IsMarked x q rows left was whole finds marks) is = absurd (false≢true (ap is_begin is))

-- ---- the requests of a course

module _ (opening : DatabaseState) (n : ℕ) (statement : Statement) (asked : List (Entry × Answer)) where
  record Runs (c : Course) (own : List (Entry × Answer)) : Type 0 where
    of : AreOfStatement n statement own
    answers : c.answers ≡ answers_in own
    all : asked_by n opening c.journal ≡ asked ++ own

  one_more : (c d : Course) (own : List (Entry × Answer)) → Runs c own → MakesOne opening n statement c d → (more : List (Entry × Answer)) × Runs d more
  one_more c _ own r (Enters e is) =
      let answer : Answer = reply_to (serial_run opening c.journal) e in
      let mine : e.session ≡ n = subst (IsOfSession n) is (next_is_own n statement c.answers) in (
        own ++ (e, answer) ∷ [],
        record {
          of = OneRequest own e answer r.of (subst (λ (a : List Answer). next_request n statement a ≡ Some e) r.answers is);
          answers = ap (λ (a : List Answer). a ++ answer ∷ []) r.answers ∙ sym (map-append (λ (x : Entry × Answer). x.1) own ((e, answer) ∷ []));
          all = asked-append n opening c.journal (e ∷ []) ∙ ap (λ (l : List (Entry × Answer)). asked_by n opening c.journal ++ l) (own_asked n (serial_run opening c.journal) e mine)
              ∙ ap (λ (l : List (Entry × Answer)). l ++ (e, answer) ∷ []) r.all ∙ append_assoc asked own ((e, answer) ∷ []);
        },
      )

  all_more : (c f : Course) (own : List (Entry × Answer)) → Runs c own → MakesAll opening n statement c f → (more : List (Entry × Answer)) × Runs f more × (next_request n statement f.answers ≡ None)
  all_more c _ own r (NoneLeft _ none) = (own, r, none)
  all_more c f own r (OneMore _ d _ makes rest) = let next = one_more c d own r makes in all_more d f next.0 next.1 rest

  mark_more : (c f : Course) (own : List (Entry × Answer)) → Runs c own → MakesMark opening n statement c f → (more : List (Entry × Answer)) × Runs f more
  mark_more c f own r (First d _ none look mark) = let next = one_more c d own r look in one_more d f next.0 next.1 mark
  mark_more c f own r (Further first more _ some mark) = one_more c f own r mark

-- ---- how a refused request is answered

both : (a b : Bool) → (a && b) ≡ true → (a ≡ true) × (b ≡ true)
both true b e = (refl, e)
both false b e = absurd (false≢true e)

legal_there : (opening : DatabaseState) (journal front rest : List Entry) (e : Entry) → IsLegal opening journal → journal ≡ (front ++ e ∷ []) ++ rest → is_legal_request (serial_run opening front) e ≡ true
legal_there opening journal front rest e legal is =
    let whole : is_legal opening ((front ++ e ∷ []) ++ rest) ≡ true = subst (λ (l : List Entry). is_legal opening l ≡ true) is legal in
    let first = (both _ _ (sym (is_legal-append opening (front ++ e ∷ []) rest) ∙ whole)).0 in
    let last = (both _ _ (sym (is_legal-append opening front (e ∷ [])) ∙ first)).1 in
    (both (is_legal_request (serial_run opening front) e) true last).0

refused_answer : (s : DatabaseState) (n table : ℕ) (request : Request) (tag : Tag) (answer : Answer) → is_legal_outside request tag ≡ false
    → ((x : OpenTransaction) → (effect_within s n x table request tag).1 ≡ answer) → is_legal_request s (tagged_entry n table request tag) ≡ true → reply_to s (tagged_entry n table request tag) ≡ answer
refused_answer s n table request tag answer outside within legal = by (maps.get s.sessions n) refl legal
  where
    by : (o : Option OpenTransaction) → maps.get s.sessions n ≡ o → is_legal_at o request tag ≡ true → reply_to s (tagged_entry n table request tag) ≡ answer
    by None got may = absurd (false≢true (sym outside ∙ may))
    by (Some x) got may =
        ap (λ (r : DatabaseState × Answer). r.1) (effect_is s (tagged_entry n table request tag) ∙ ap (λ (o : Option OpenTransaction). effect_at o s (tagged_entry n table request tag)) got) ∙ within x

-- ---- a step of a statement in hand

module _ (layout : DiskLayout) (opening : DatabaseState) (journal : List Entry) (legal : IsLegal opening journal) where
  module _ (n : ℕ) (hand : Hand) (asked own : List (Entry × Answer)) (old : List Entry) (of : AreOfStatement n hand.statement own) (answers : hand.answers ≡ answers_in own)
      (all : asked_by n opening old ≡ asked ++ own) (begin : hand.statement ≡ statements.Begin → hand.answers ≡ []) where
    abbrev Goes : Outcome → Option Hand → List Entry → Type 0
    Goes (Moved point) h now = (more : List (Entry × Answer)) × AreInHand n h more × (asked_by n opening now ≡ asked ++ more)
    Goes (Waits refusal) h now = (more : List (Entry × Answer)) × AreInHand n h more × (asked_by n opening now ≡ asked ++ more)
    Goes (Ended reply) h now = (more : List (Entry × Answer)) × IsReplyTo layout opening journal n asked hand.statement more reply × (h ≡ None) × (asked_by n opening now ≡ asked ++ more)

    runs : Runs opening n hand.statement asked (course_in old hand) own
    runs = record { of = of; answers = answers; all = all }

    -- none was made
    bare : own ≡ [] → asked_by n opening old ≡ asked ++ []
    bare none = all ∙ ap (λ (l : List (Entry × Answer)). asked ++ l) none

    refuses : (e : Entry) (answer : Answer) (tag : Tag) (told : Refusal) → e.session ≡ n → refused_request n tag hand.statement ≡ e ∷ [] → IsRefusedSo layout hand.statement (answers_in own) tag answer told
        → reply_to (serial_run opening old) e ≡ answer → Goes (Ended (replies.Refused told)) None (old ++ refused_request n tag hand.statement)
    refuses e answer tag told mine is so replied = (
      own ++ (e, answer) ∷ [],
      LastRefused own e answer tag told of is so,
      refl,
      ap (λ (l : List Entry). asked_by n opening (old ++ l)) is ∙ asked-append n opening old (e ∷ [])
          ∙ ap (λ (l : List (Entry × Answer)). asked_by n opening old ++ l) (own_asked n (serial_run opening old) e mine ∙ ap (λ (a : Answer). (e, a) ∷ []) replied)
          ∙ ap (λ (l : List (Entry × Answer)). l ++ (e, answer) ∷ []) all ∙ append_assoc asked own ((e, answer) ∷ []),
    )

    module _ (rest : List Entry) where
      may : (e : Entry) (tag : Tag) → refused_request n tag hand.statement ≡ e ∷ [] → journal ≡ (old ++ refused_request n tag hand.statement) ++ rest → is_legal_request (serial_run opening old) e ≡ true
      may e tag is so = legal_there opening journal old rest e legal (so ∙ ap (λ (l : List Entry). (old ++ l) ++ rest) is)

      short : (statement : Statement) → hand.statement ≡ statement → TakesMemory statement → hand.answers ≡ [] → journal ≡ (old ++ refused_request n tags.NoMemory hand.statement) ++ rest
          → Goes (Ended (replies.Refused refusals.Memory)) None (old ++ refused_request n tags.NoMemory hand.statement)
      short (statements.Insert table values) same takes none so =
          let e = tagged_entry n table (requests.Put values) tags.NoMemory in
          let is : refused_request n tags.NoMemory hand.statement ≡ e ∷ [] = ap (refused_request n tags.NoMemory) same in
          refuses e NoMemory tags.NoMemory refusals.Memory refl is (MemoryIsShort (sym answers ∙ none))
          (refused_answer (serial_run opening old) n table (requests.Put values) tags.NoMemory NoMemory refl (λ x. refl) (may e tags.NoMemory is so))
      short (statements.Select q) same takes none so =
          let e = tagged_entry n q.table (requests.Look q) tags.NoMemory in
          let is : refused_request n tags.NoMemory hand.statement ≡ e ∷ [] = ap (refused_request n tags.NoMemory) same in
          refuses e NoMemory tags.NoMemory refusals.Memory refl is (MemoryIsShort (sym answers ∙ none))
          (refused_answer (serial_run opening old) n q.table (requests.Look q) tags.NoMemory NoMemory refl (λ x. refl) (may e tags.NoMemory is so))
      short (statements.Delete q) same takes none so =
          let e = tagged_entry n q.table (requests.Look q) tags.NoMemory in
          let is : refused_request n tags.NoMemory hand.statement ≡ e ∷ [] = ap (refused_request n tags.NoMemory) same in
          refuses e NoMemory tags.NoMemory refusals.Memory refl is (MemoryIsShort (sym answers ∙ none))
          (refused_answer (serial_run opening old) n q.table (requests.Look q) tags.NoMemory NoMemory refl (λ x. refl) (may e tags.NoMemory is so))
      short statement same takes none so = absurd takes

      full : (table : ℕ) (values : List Value) (told : Refusal) → hand.statement ≡ statements.Insert table values → IsRefusedSo layout hand.statement (answers_in own) tags.Full Full told
          → journal ≡ (old ++ refused_request n tags.Full hand.statement) ++ rest → Goes (Ended (replies.Refused told)) None (old ++ refused_request n tags.Full hand.statement)
      full table values told same why so =
          let e = tagged_entry n table (requests.Put values) tags.Full in
          let is : refused_request n tags.Full hand.statement ≡ e ∷ [] = ap (refused_request n tags.Full) same in
          refuses e Full tags.Full told refl is why (refused_answer (serial_run opening old) n table (requests.Put values) tags.Full Full refl (λ x. refl) (may e tags.Full is so))

      fails : (tag : Tag) (told : Refusal) → FailsSo layout hand tag told → journal ≡ (old ++ refused_request n tag hand.statement) ++ rest → Goes (Ended (replies.Refused told)) None (old ++ refused_request n tag hand.statement)
      fails _ _ (steps.MemoryIsShort takes none) so = short hand.statement refl takes none so
      fails _ _ (steps.TableIsFull table values is) so =
          let same = ap (λ (h : Hand). h.statement) is in
          full table values (full_table layout table) same (TableIsFull table values same (sym answers ∙ ap (λ (h : Hand). h.answers) is)) so
      fails _ _ (ItsIndexIsFull table at values same some) so = full table values (full_index layout table at) same (IndexIsFull table at values same (λ none. some (answers ∙ none))) so
      fails tag told (MaintenanceWants _ _ takes want) so =
          let out = lock_outside hand.statement takes in (
            [],
            Outside (replies.Refused told) out,
            refl,
            ap (λ (l : List Entry). asked_by n opening (old ++ l)) (outside_refused n tag hand.statement out) ∙ ap (asked_by n opening) (append-nil old) ∙ bare (outside_none n hand.statement own out of),
          )

      bare_end : (statement : Statement) (reply : Reply) → hand.statement ≡ statement → EndsBare layout (serial_run opening old) statement reply → journal ≡ old ++ rest → Goes (Ended reply) None old
      bare_end _ _ same NoneAsked so =
          let out = subst IsOutside (sym same) tt in
          ([], Outside replies.Idle out, refl, bare (outside_none n hand.statement own out of))
      bare_end _ _ same (steps.NoneLeft number) so =
          let none = bare (unanswered_none n hand.statement own of (sym answers ∙ begin same)) in (
            [],
            NoNumber (serial_run opening old) (record { front = old; rest = rest; journal_is = so; asked_is = none ∙ append-nil asked; leads = refl }) same number,
            refl,
            none,
          )

      answered : (c : Course) (reply : Reply) → MakesAll opening n hand.statement (course_in old hand) c → (IsTransactional hand.statement → Some reply ≡ reply_to_statement (full_table layout) hand.statement c.answers)
          → Goes (Ended reply) None c.journal
      answered c reply makes replied =
          let done = all_more opening n hand.statement asked (course_in old hand) c own runs makes in
          let r = done.1 in
          elim (kind_of hand.statement) [
            | inl transactional ↦ (
              done.0,
              AllAnswered done.0 reply r.of (ap (next_request n hand.statement) (sym r.answers) ∙ done.2)
                  (replied transactional ∙ ap (reply_to_statement (full_table layout) hand.statement) r.answers),
              refl,
              r.all,
            )
            | inr out ↦ ([], Outside reply out, refl, r.all ∙ ap (λ (l : List (Entry × Answer)). asked ++ l) (outside_none n hand.statement done.0 out r.of))
          ]

      goes : (outcome : Outcome) (h : Option Hand) (now : List Entry) → RequestStep layout opening n hand old outcome h now → journal ≡ now ++ rest → Goes outcome h now
      goes _ _ _ (EntersNone point) so = (own, (of, answers), all)
      goes _ _ _ (EntersPut c insert makes) so = let x = one_more opening n hand.statement asked (course_in old hand) c own runs makes in (x.0, (x.1.of, x.1.answers), x.1.all)
      goes _ _ _ (EntersMark c makes left) so = let x = mark_more opening n hand.statement asked (course_in old hand) c own runs makes in (x.0, (x.1.of, x.1.answers), x.1.all)
      goes _ _ _ (EntersAll c reply makes replied) so = answered c reply makes replied.reply_is
      goes _ _ _ (EntersRefused tag told why) so = fails tag told why so
      goes _ _ _ (EndsWithout reply why) so = bare_end hand.statement reply refl why so
      goes _ _ _ (StaysWaiting told) so = (own, (of, answers), all)

-- ---- submissions

idle_first : (h : Option Hand) (second : Option Refusal) → or_else (in_hand_refusal h) second ≡ None → h ≡ None
idle_first None second e = refl
idle_first (Some hand) second e = absurd (none-some _ (sym e))

block_outside : (limit : ℕ) (statement : Statement) (refusal : Refusal) → block_refusal limit statement ≡ Some refusal → IsOutside statement
block_outside limit (statements.Summarize index block) refusal e = tt
block_outside limit (statements.Desummarize index block) refusal e = tt
block_outside limit statement refusal e = absurd (none-some _ e)

-- the text of an answer behind what its statement dropped
text_of : (name : List ℕ) (reply : Reply) (dropped : List Dropped) (statement : Statement) → IsInsert statement ⊎ (dropped ≡ []) → IsTextOf name reply statement (dropped_text dropped ++ reply_text name reply)
text_of name reply dropped (statements.Insert table values) drops = BehindDropped table values dropped
text_of name reply dropped statement (inl insert) = absurd insert
text_of name reply dropped statement (inr none) = subst (λ (d : List Dropped). IsTextOf name reply statement (dropped_text d ++ reply_text name reply)) (sym none) (OfReply statement)

-- ---- the entries of one session

others_entries : (m n number : ℕ) (text : List ℕ) (said : List Said) → m ≢ n → entries_of m (said ++ entry_of n number text ∷ []) ≡ entries_of m said
others_entries m n number text said other =
    filter-append (λ (e : Said). e.session == m) said (entry_of n number text ∷ [])
    ∙ ap (λ b. entries_of m said ++ cond b (entry_of n number text ∷ []) []) (ne_eqb n m (λ is. other (sym is)))
    ∙ append-nil (entries_of m said)

own_entries : (n number : ℕ) (text : List ℕ) (said : List Said) → entries_of n (said ++ entry_of n number text ∷ []) ≡ entries_of n said ++ entry_of n number text ∷ []
own_entries n number text said =
    filter-append (λ (e : Said). e.session == n) said (entry_of n number text ∷ []) ∙ ap (λ b. entries_of n said ++ cond b (entry_of n number text ∷ []) []) (eq-eqb n n refl)

-- ---- a schedule, whose place's journal is a front of this one

module _ (layout : DiskLayout) (names : List (List ℕ)) (script : List Line) (opening : DatabaseState) (journal : List Entry) (legal : IsLegal opening journal) where
  record Rendered (said : List Said) (p : Place) (n : ℕ) : Type 0 where
    asked : List (Entry × Answer)
    own : List (Entry × Answer)
    replies : AreReplies layout names script opening journal n (entries_of n said) asked
    in_hand : AreInHand n (p.hands n) own
    all : asked_by n opening p.journal ≡ asked ++ own

  record IsOf (p : Place) : Type 0 where
    layout_is : p.layout ≡ layout
    opening_is : p.opening ≡ opening

  submit_stays : (p : Place) (n : ℕ) (statement : Statement) (told : Option Refusal) (q : Place) → IsOf p → Submits p n statement told q → IsOf q
  submit_stays p n statement _ _ of (Taken none) = record { layout_is = of.layout_is; opening_is = of.opening_is }
  submit_stays p n statement _ _ of (lines.NotTaken refusal is) = of
  submit_stays p n statement _ _ of (WantsMemory none may) = of

  place_of : (said : List Said) (p : Place) → Schedule layout names script opening said p → IsOf p
  place_of _ _ (AtOpening p opens) = record { layout_is = opens.layout_is; opening_is = opens.opening_is }
  place_of _ _ (AtStart p start new) = record { layout_is = start.layout_is; opening_is = start.opening ∙ sym new }
  place_of _ _ (Takes said p q n number statement before next takes) = submit_stays p n statement None q (place_of said p before) takes
  place_of _ _ (Refuses said p q n number statement refusal before idle next refused) = submit_stays p n statement (Some refusal) q (place_of said p before) refused
  place_of _ _ (MakesStep said told p q n number statement outcome before next step tell) =
      let of = place_of said p before in
      let stay = both_stay p q n step.hand outcome step.steps in
      record { layout_is = stay.0 ∙ of.layout_is; opening_is = stay.1 ∙ of.opening_is }

  at_first : (p : Place) (n : ℕ) → p.journal ≡ [] → p.hands n ≡ None → Rendered [] (record p { names = names }) n
  at_first p n none idle =
      record { asked = []; own = []; replies = NoReply; in_hand = subst (λ (h : Option Hand). AreInHand n h []) (sym idle) refl; all = ap (asked_by n opening) none }

  stays : (said said' : List Said) (p q : Place) (m : ℕ) → entries_of m said' ≡ entries_of m said → q.hands m ≡ p.hands m → asked_by m opening q.journal ≡ asked_by m opening p.journal → Rendered said p m → Rendered said' q m
  stays said said' p q m entries hands same r =
      record {
        asked = r.asked;
        own = r.own;
        replies = subst (λ (l : List Said). AreReplies layout names script opening journal m l r.asked) (sym entries) r.replies;
        in_hand = subst (λ (h : Option Hand). AreInHand m h r.own) (sym hands) r.in_hand;
        all = same ∙ r.all;
      }

  -- one entry more
  tells : (said : List Said) (p q : Place) (n number : ℕ) (statement : Statement) (reply : Reply) (text : List ℕ) (r : Rendered said p n) (more : List (Entry × Answer)) → IsNext script said n number statement
      → IsReplyTo layout opening journal n r.asked statement more reply → IsTextOf (slice_index_or names n []) reply statement text → q.hands n ≡ None → asked_by n opening q.journal ≡ r.asked ++ more
      → Rendered (said ++ entry_of n number text ∷ []) q n
  tells said p q n number statement reply text r more next is written idle all =
      record {
        asked = r.asked ++ more;
        own = [];
        replies = subst (λ (l : List Said). AreReplies layout names script opening journal n l (r.asked ++ more)) (sym (own_entries n number text said))
            (OneReply (entries_of n said) r.asked more (entry_of n number text) statement reply r.replies next.is is written);
        in_hand = subst (λ (h : Option Hand). AreInHand n h []) (sym idle) refl;
        all = all ∙ sym (append-nil (r.asked ++ more));
      }

  module _ (said : List Said) (p : Place) (n : ℕ) (statement : Statement) (idle : p.hands n ≡ None) (r : Rendered said p n) where
    none : r.own ≡ []
    none = subst (λ (h : Option Hand). AreInHand n h r.own) idle r.in_hand

    bare_all : asked_by n opening p.journal ≡ r.asked ++ []
    bare_all = r.all ∙ ap (λ (l : List (Entry × Answer)). r.asked ++ l) none

    by_block : (rest : List Entry) → journal ≡ p.journal ++ rest → p.opening ≡ opening → (refusal : Refusal) (o : Option Refusal) → block_refusal p.layout.sizes.heap_blocks statement ≡ o
        → or_else o (refusal_at (database_at p) n statement) ≡ Some refusal → IsReplyTo layout opening journal n r.asked statement [] (replies.Refused refusal)
    by_block rest so same refusal None block is =
        NotTaken (database_at p) refusal (record { front = p.journal; rest = rest; journal_is = so; asked_is = bare_all ∙ append-nil r.asked; leads = ap (λ (o : DatabaseState). serial_run o p.journal) (sym same) }) is
    by_block rest so same refusal (Some first) block is = Outside (replies.Refused refusal) (block_outside p.layout.sizes.heap_blocks statement first block)

    refused : (rest : List Entry) → journal ≡ p.journal ++ rest → p.opening ≡ opening → (refusal : Refusal) (q : Place) → Submits p n statement (Some refusal) q
        → IsReplyTo layout opening journal n r.asked statement [] (replies.Refused refusal)
    refused rest so same _ _ (lines.NotTaken refusal is) =
        by_block rest so same refusal (block_refusal p.layout.sizes.heap_blocks statement) refl
        (sym (ap (λ (h : Option Hand). or_else (in_hand_refusal h) (or_else (block_refusal p.layout.sizes.heap_blocks statement) (refusal_at (database_at p) n statement))) idle) ∙ is)
    refused rest so same _ _ (WantsMemory free may) = wants statement refl may
      where
        wants : (st : Statement) → statement ≡ st → may_want_memory st ≡ true → IsReplyTo layout opening journal n r.asked statement [] (replies.Refused refusals.Memory)
        wants statements.Begin is may = BeginLacksMemory is
        wants (statements.Explain q) is may = Outside (replies.Refused refusals.Memory) (subst IsOutside (sym is) tt)
        wants (statements.Summarize index block) is may = Outside (replies.Refused refusals.Memory) (subst IsOutside (sym is) tt)
        wants (statements.Desummarize index block) is may = Outside (replies.Refused refusals.Memory) (subst IsOutside (sym is) tt)
        wants (statements.Vacuum table) is may = Outside (replies.Refused refusals.Memory) (subst IsOutside (sym is) tt)
        wants statements.Work is may = Outside (replies.Refused refusals.Memory) (subst IsOutside (sym is) tt)
        wants st is may = absurd (false≢true may)

  taken_journal : (p : Place) (n : ℕ) (statement : Statement) (q : Place) → Submits p n statement None q → q.journal ≡ p.journal
  taken_journal p n statement _ (Taken free) = refl

  taken : (said : List Said) (p : Place) (n : ℕ) (statement : Statement) (q : Place) → Submits p n statement None q → ((m : ℕ) → Rendered said p m) → (m : ℕ) → Rendered said q m
  taken said p n statement _ (Taken free) all_of m =
      elim (cases_eq m n) [
        | inr other ↦ stays said said p (lines.with_statement p n statement) m refl (updated_there p.hands n m (Some (new_hand statement)) other) refl (all_of m)
        | inl same ↦ subst (λ k. Rendered said (lines.with_statement p n statement) k) (sym same) here
      ]
    where
      here : Rendered said (lines.with_statement p n statement) n
      here =
          let r = all_of n in
          let idle = idle_first (p.hands n) (or_else (block_refusal p.layout.sizes.heap_blocks statement) (refusal_at (database_at p) n statement)) free in
          record {
            asked = r.asked;
            own = [];
            replies = r.replies;
            in_hand = subst (λ (h : Option Hand). AreInHand n h []) (sym (updated_here p.hands n (Some (new_hand statement)))) (NoRequest, refl);
            all = bare_all said p n statement idle r;
          }

  refuse_stays : (p q : Place) (n : ℕ) (statement : Statement) (refusal : Refusal) → Submits p n statement (Some refusal) q → q ≡ p
  refuse_stays p _ n statement _ (lines.NotTaken refusal is) = refl
  refuse_stays p _ n statement _ (WantsMemory free may) = refl

  refused_line : (said : List Said) (p q : Place) (n number : ℕ) (statement : Statement) (refusal : Refusal) → IsNext script said n number statement → p.hands n ≡ None → Submits p n statement (Some refusal) q → q ≡ p
      → (rest : List Entry) → journal ≡ p.journal ++ rest → p.opening ≡ opening → ((m : ℕ) → Rendered said p m) → (m : ℕ)
      → Rendered (said ++ entry_of n number (reply_text (slice_index_or names n []) (replies.Refused refusal)) ∷ []) q m
  refused_line said p q n number statement refusal next idle refuses same rest so opening_is all_of m =
      elim (cases_eq m n) [
        | inr other ↦ stays said (said ++ entry_of n number text ∷ []) p q m (others_entries m n number text said other) (ap (λ (x : Place). x.hands m) same) (ap (λ (x : Place). asked_by m opening x.journal) same) (all_of m)
        | inl is ↦ subst (λ k. Rendered (said ++ entry_of n number text ∷ []) q k) (sym is) own
      ]
    where
      text : List ℕ
      text = reply_text (slice_index_or names n []) (replies.Refused refusal)

      own : Rendered (said ++ entry_of n number text ∷ []) q n
      own =
          let r = all_of n in
          tells said p q n number statement (replies.Refused refusal) text r [] next (refused said p n statement idle r rest so opening_is refusal q refuses) (OfReply statement) (ap (λ (x : Place). x.hands n) same ∙ idle)
          (ap (λ (x : Place). asked_by n opening x.journal) same ∙ bare_all said p n statement idle r)

  module _ (fits : FitsSchema layout.schema script) (within : first_broken_rule layout.schema layout.sizes ≡ None) (opens : openings.IsOpening opening) (right : SchedulesAreTranscripts) (reached : SchedulesAreReached)
      (in_place : AnswersAreInPlace) (drop : OnlyInsertsDrop) (enter : StepsEnter) where
    module _ (said told : List Said) (p q : Place) (n number : ℕ) (statement : Statement) (outcome : Outcome) (before : Schedule layout names script opening said p) (next : IsNext script said n number statement)
        (hand : Hand) (in_hand : p.hands n ≡ Some hand) (step : StepsTo p n hand outcome q) (tell : AreTold q names n number outcome told) (rest : List Entry) (so : journal ≡ q.journal ++ rest) where
      line_is : hand.statement ≡ statement
      line_is = same_Some _ _ (sym ((right layout names script opening said p within fits opens before).ahead.lines n hand in_hand) ∙ next_is_said script said n number statement next)

      enters : RequestStep layout opening n hand p.journal outcome (q.hands n) q.journal
      enters =
          let of = place_of said p before in
          subst (λ (l : DiskLayout). RequestStep l opening n hand p.journal outcome (q.hands n) q.journal) of.layout_is
          (subst (λ (o : DatabaseState). RequestStep p.layout o n hand p.journal outcome (q.hands n) q.journal) of.opening_is
          (enter p q n hand outcome in_hand (in_place layout p n hand within (reached layout names script opening said p fits before) in_hand) step))

      begin : hand.statement ≡ statements.Begin → hand.answers ≡ []
      begin is = let r = right layout names script opening said p within fits opens before in begin_is_new hand (stands (maps.get r.s.sessions n) (maps.get (database_at p).sessions n) (p.hands n) hand (r.ahead.copies n) in_hand) is

      others_told : (m : ℕ) (outcome : Outcome) (told : List Said) → m ≢ n → AreTold q names n number outcome told → entries_of m (said ++ told) ≡ entries_of m said
      others_told m _ _ other (NotByMove point) = ap (entries_of m) (append-nil said)
      others_told m _ _ other (NotByWait refusal) = ap (entries_of m) (append-nil said)
      others_told m _ _ other (ByReply reply) = others_entries m n number (dropped_text (dropped_at q n) ++ reply_text (slice_index_or names n []) reply) said other

      other_step : (m : ℕ) → m ≢ n → Rendered said p m → Rendered (said ++ told) q m
      other_step m other r =
          let its = enters_its_own p q n hand outcome step in
          stays said (said ++ told) p q m (others_told m outcome told other tell) (elim (its.others m) [ inl same ↦ absurd (other same) | inr is ↦ is ])
          (ap (asked_by m opening) its.behind ∙ asked-append m opening p.journal its.entries ∙ ap (λ (l : List (Entry × Answer)). asked_by m opening p.journal ++ l) (others_asked n m (serial_run opening p.journal) its.entries other its.own)
          ∙ append-nil (asked_by m opening p.journal)) r

      module _ (r : Rendered said p n) where
        mine : AreOfStatement n hand.statement r.own × (hand.answers ≡ answers_in r.own)
        mine = subst (λ (h : Option Hand). AreInHand n h r.own) in_hand r.in_hand

        abbrev GoesSo : Outcome → Type 0
        GoesSo o = Goes layout opening journal legal n hand r.asked r.own p.journal mine.0 mine.1 r.all begin o (q.hands n) q.journal

        moves : (more : List (Entry × Answer)) → AreInHand n (q.hands n) more → asked_by n opening q.journal ≡ r.asked ++ more → Rendered (said ++ []) q n
        moves more is all =
            record {
              asked = r.asked;
              own = more;
              replies = subst (λ (l : List Said). AreReplies layout names script opening journal n (entries_of n l) r.asked) (sym (append-nil said)) r.replies;
              in_hand = is;
              all = all;
            }

        own_told : (o : Outcome) (t : List Said) → StepsTo p n hand o q → AreTold q names n number o t → GoesSo o → Rendered (said ++ t) q n
        own_told _ _ s (NotByMove point) go = moves go.0 go.1 go.2
        own_told _ _ s (NotByWait refusal) go = moves go.0 go.1 go.2
        own_told _ _ s (ByReply reply) go =
            let drops : IsInsert hand.statement ⊎ (dropped_at q n ≡ []) = drop layout p q n hand reply within (reached layout names script opening said p fits before) in_hand s in
            tells said p q n number statement reply (dropped_text (dropped_at q n) ++ reply_text (slice_index_or names n []) reply) r go.0 next
            (subst (λ (st : Statement). IsReplyTo layout opening journal n r.asked st go.0 reply) line_is go.1)
            (text_of (slice_index_or names n []) reply (dropped_at q n) statement (subst (λ (st : Statement). IsInsert st ⊎ (dropped_at q n ≡ [])) line_is drops)) go.2 go.3

        own_step : Rendered (said ++ told) q n
        own_step =
            own_told outcome told step tell
            (goes layout opening journal legal n hand r.asked r.own p.journal mine.0 mine.1 r.all begin rest outcome (q.hands n) q.journal enters so)

    rendered : (said : List Said) (p : Place) → Schedule layout names script opening said p → (rest : List Entry) → journal ≡ p.journal ++ rest → (m : ℕ) → Rendered said p m
    rendered _ _ (AtOpening p is) rest so m = at_first p m is.journal (is.hands m)
    rendered _ _ (AtStart p is new) rest so m = at_first p m is.journal (is.hands m)
    rendered _ _ (Takes said p q n number statement before next takes) rest so m = taken said p n statement q takes (rendered said p before rest (so ∙ ap (λ (l : List Entry). l ++ rest) (taken_journal p n statement q takes))) m
    rendered _ _ (Refuses said p q n number statement refusal before idle next refuses) rest so m =
        let same = refuse_stays p q n statement refusal refuses in
        let then = so ∙ ap (λ (x : Place). x.journal ++ rest) same in
        refused_line said p q n number statement refusal next idle refuses same rest then (place_of said p before).opening_is (rendered said p before rest then) m
    rendered _ _ (MakesStep said told p q n number statement outcome before next step tell) rest so m =
        let its = enters_its_own p q n step.hand outcome step.steps in
        let all_of = rendered said p before (its.entries ++ rest) (so ∙ ap (λ (l : List Entry). l ++ rest) its.behind ∙ append_assoc p.journal its.entries rest) in
        elim (cases_eq m n) [
          | inr other ↦ other_step said told p q n number statement outcome before next step.hand step.in_hand step.steps tell rest so m other (all_of m)
          | inl same ↦ subst (λ k. Rendered (said ++ told) q k) (sym same) (own_step said told p q n number statement outcome before next step.hand step.in_hand step.steps tell rest so (all_of n))
        ]

-- at a place whose journal is legal, a schedule has told the replies of the journal
pub replies_told : (layout : DiskLayout) (names : List (List ℕ)) (script : List Line) (opening : DatabaseState) (said : List Said) (p : Place) → FitsSchema layout.schema script
    → first_broken_rule layout.schema layout.sizes ≡ None → openings.IsOpening opening → SchedulesAreTranscripts → SchedulesAreReached → AnswersAreInPlace → OnlyInsertsDrop → StepsEnter
    → Schedule layout names script opening said p → p.opening ≡ opening → IsLegal opening p.journal → TellsReplies layout names script said p
replies_told layout names script opening said p fits within opens right reached in_place drop enter schedule same legal n =
    let r = rendered layout names script opening p.journal legal fits within opens right reached in_place drop enter said p schedule [] (sym (append-nil p.journal)) n in
    record {
      asked = r.asked;
      own = r.own;
      replies = subst (λ (o : DatabaseState). AreReplies layout names script o p.journal n (entries_of n said) r.asked) (sym same) r.replies;
      in_hand = r.in_hand;
      all = subst (λ (o : DatabaseState). asked_by n o p.journal ≡ r.asked ++ r.own) (sym same) r.all;
    }
