-- all steps, by what was answered before them
use Rattle.std.proofs.Common.{◌≡◌, ◌⊎◌, inl, inr, ℕ, List, [], ◌∷◌, ◌++◌, Option, None, Some, refl, sym, ap, subst, ◌∙◌}
use Rattle.std.specs.Prelude.{IsTrue}
use Rattle.std.proofs.lemmas.Bool.{false≢true}
use Rattle.std.proofs.lemmas.Cmp.{nat_cmp_total}
use Rattle.std.proofs.lemmas.List.{append-nil}
use Rattle.std.proofs.lemmas.Option.{none-some, same_Some}
use Rattle.std.specs.FinMap as map
use Rattle.block_model.specs.declared.reply.Refusal.{Refusal}
use Rattle.block_model.specs.declared.reply.Refusal.TheVariants as refusals
use Rattle.block_model.specs.declared.reply.Reply.{Reply}
use Rattle.block_model.specs.declared.reply.Reply.TheVariants as replies
use Rattle.block_model.specs.declared.request.Entry.{Entry}
use Rattle.block_model.specs.declared.request.Request.TheVariants as requests
use Rattle.block_model.specs.declared.request.Tag.{Tag}
use Rattle.block_model.specs.declared.request.Tag.TheVariants as tags
use Rattle.block_model.specs.declared.row.Query.{Query}
use Rattle.block_model.specs.declared.row.Row.{Row}
use Rattle.block_model.specs.declared.value.Value.{Value}
use Rattle.block_model.specs.DatabaseState.{DatabaseState, OpenTransaction}
use Rattle.block_model.specs.NumberMaps.{get_put_here}
use Rattle.block_model.specs.RequestEffect.{Answer, Found, Inserted, after_failure, after_put, after_request, effect, failed_transaction, next_row, reply_to, rows_found, with_transaction}
use Rattle.block_model.specs.RequestLaws.{effect_by}
use Rattle.block_model.specs.SerialRun.{serial_run, serial_run-append}
use Rattle.store_layout.specs.declared.statement.Statement.{Statement}
use Rattle.store_layout.specs.declared.statement.Statement.TheVariants as statements
use Rattle.store_layout.specs.DiskLayout.{DiskLayout}
use Rattle.store_layout.specs.HeapRoom.{full_table}
use Rattle.store_layout.specs.StatementRequests.{deleted_reply, insert_reply, look_entry, refusal_at, request_entry, tagged_entry}
use Rattle.model_laws.specs.NoRowRemovedTwice.{IsOpening}
use Rattle.script_semantics.specs.Beginnings.{takes_lock}
use Rattle.script_semantics.specs.Place.{Hand, new_hand, updated}
use Rattle.script_semantics.specs.Requests as ways
use Rattle.script_semantics.specs.Requests.{Course, Enters, First, Further, MakesAll, MakesMark, MakesOne, OneMore, entered, next_request, refused_request}
use Rattle.script_semantics.specs.RequestSteps.{EndsBare, EndsWithout, EntersAll, EntersMark, EntersNone, EntersPut, EntersRefused, FailsSo, IsRepliedSo, ItsIndexIsFull, MaintenanceWants, MemoryIsShort, NoneAsked, NoneLeft, RequestStep, StaysWaiting, TableIsFull}
use Rattle.script_semantics.specs.StatementSteps.{IsInsert, IsOneLeft, Outcome, TakesMemory, full_index}
use Rattle.transcripts.specs.Told as told
use Rattle.transcripts.specs.Told.{Deleting, InsertLacksMemory, IsOutside, IsSound, LacksMemory, NoNumber, Outside, SelectLacksMemory, marked}
use Rattle.transcript_laws.specs.Ahead.{IsAhead, answers_marked}
use Rattle.transcript_laws.specs.Laws.{NextStays}
use Rattle.transcript_laws.specs.StepLaws.{IsAnswered, IsTold, StepsAreTold, limits_of}
use Rattle.transcript_laws.proofs.Events.{puts}
use Rattle.transcript_laws.proofs.Marking.{AtMarks, all_marks, looked, mark_told}
use Rattle.transcript_laws.proofs.More.{refused_inserts}
use Rattle.transcript_laws.proofs.Standing.{IsMarked, IsNew, IsPut, Stands, all_none, all_one, stands, updated_twice}
use Rattle.transcripts.proofs.Allowed.{begin_allowed, delete_allowed, insert_allowed, select_allowed, sound_at}
use Rattle.transcript_laws.proofs.Steps.{begin_all, behind, commit_all, fails, others, outside_all, put_told, rollback_all, select_all, stays}

no_answers : (a : Answer) (more : List Answer) → a ∷ more ≡ [] → ⊥
no_answers a more e = cc

some_answers : (a : Answer) (more : List Answer) → [] ≡ a ∷ more → ⊥
some_answers a more e = cc

-- maintenance enters no request
maintained : (n : ℕ) (tag : Tag) (statement : Statement) → IsTrue (takes_lock statement) → (refused_request n tag statement ≡ []) × IsOutside statement
maintained n tag (statements.Summarize index block) lock = (refl, tt)
maintained n tag (statements.Desummarize index block) lock = (refl, tt)
maintained n tag (statements.Vacuum table) lock = (refl, tt)
maintained n tag statements.Work lock = (refl, tt)
maintained n tag statement lock = absurd (false≢true lock)

-- an insert or a delete doesn't end without a request
ends_bare : (layout : DiskLayout) (d : DatabaseState) (statement : Statement) (reply : Reply) → EndsBare layout d statement reply → (statement ≡ statements.Work) ⊎ (statement ≡ statements.Begin)
ends_bare layout d _ _ NoneAsked = inl refl
ends_bare layout d _ _ (NoneLeft number) = inr refl

insert_asks : (table : ℕ) (values : List Value) → (statements.Insert table values ≡ statements.Work) ⊎ (statements.Insert table values ≡ statements.Begin) → ⊥
insert_asks table values (inl e) = cc
insert_asks table values (inr e) = cc

delete_asks : (q : Query) → (statements.Delete q ≡ statements.Work) ⊎ (statements.Delete q ≡ statements.Begin) → ⊥
delete_asks q (inl e) = cc
delete_asks q (inr e) = cc

no_insert : (q : Query) (table : ℕ) (values : List Value) → statements.Delete q ≡ statements.Insert table values → ⊥
no_insert q table values e = cc

abbrev table_of : Statement → ℕ
table_of (statements.Insert table values) = table
table_of statement = 0

module _ (layout : DiskLayout) (opening s : DatabaseState) (next : ℕ → Option Statement) (hands : ℕ → Option Hand) (n : ℕ) (journal : List Entry) (opens : IsOpening opening)
    (was : IsAhead next hands (serial_run opening journal) s) where
  abbrev d : DatabaseState
  d = serial_run opening journal

  abbrev Ends : Statement → List Entry → Reply → Type 0
  Ends statement now reply = IsAnswered (limits_of layout) next (updated hands n None) (serial_run opening now) s n statement reply

  abbrev new_course : Course
  new_course = record { journal = journal; answers = [] }

  -- ---- an insert with nothing entered

  insert_all : (table : ℕ) (values : List Value) (f : Course) (reply : Reply) → map.get d.sessions n ≡ map.get s.sessions n → refusal_at s n (statements.Insert table values) ≡ None
      → hands n ≡ Some (new_hand (statements.Insert table values)) → MakesAll opening n (statements.Insert table values) new_course f → Some reply ≡ insert_reply (full_table layout table) f.answers
      → Ends (statements.Insert table values) f.journal reply
  insert_all table values f reply same taken has all replied =
      let e = request_entry n table (requests.Put values) in
      let some = sound_at s n (statements.Insert table values) (insert_allowed table values) taken in
      let x : OpenTransaction = some.0 in
      let f_is : f ≡ entered opening new_course e = all_one opening n (statements.Insert table values) new_course f e refl (λ a. refl) all in
      let done : effect d e ≡ (with_transaction d n (after_put x table values), Inserted (next_row x table values).id) = effect_by d e (Some x) (same ∙ some.1.under_way) in
      let run : serial_run opening (journal ++ e ∷ []) ≡ after_request d e = serial_run-append opening journal (e ∷ []) in
      let h : Option Hand = Some (record { statement = statements.Insert table values; answers = reply_to d e ∷ [] }) in
      let ahead : IsAhead next (updated hands n h) (serial_run opening (journal ++ e ∷ [])) s = subst (λ (t : DatabaseState). IsAhead next (updated hands n h) t s) (sym run) (puts next hands d s n table values was has) in
      let now : map.get (serial_run opening (journal ++ e ∷ [])).sessions n ≡ Some (after_put x table values) =
      ap (λ (t : DatabaseState). map.get t.sessions n) (run ∙ ap (λ (p : DatabaseState × Answer). p.0) done) ∙ get_put_here nat_cmp_total d.sessions n (after_put x table values) in
      let reply_is : reply ≡ replies.Inserted (next_row x table values).id =
      same_Some _ _ (replied ∙ ap (λ (c : Course). insert_reply (full_table layout table) c.answers) f_is ∙ ap (λ (p : DatabaseState × Answer). insert_reply (full_table layout table) (p.1 ∷ [])) done) in
      subst (λ (c : Course). Ends (statements.Insert table values) c.journal reply) (sym f_is)
      (subst (λ (g : ℕ → Option Hand). IsAnswered (limits_of layout) next g (serial_run opening (journal ++ e ∷ [])) s n (statements.Insert table values) reply) (updated_twice hands n h None)
      (put_told layout opening s next (updated hands n h) n (journal ++ e ∷ []) opens ahead x table values reply some.1 now reply_is))

  new_put : (statement : Statement) (c : Course) → hands n ≡ Some (new_hand statement) → IsInsert statement → MakesOne opening n statement new_course c
      → IsAhead next (updated hands n (Some (record { statement = statement; answers = c.answers }))) (serial_run opening c.journal) s
  new_put (statements.Insert table values) _ has insert (Enters e is) =
      subst (λ (k : Entry). IsAhead next (updated hands n (Some (record { statement = statements.Insert table values; answers = reply_to d k ∷ [] }))) (serial_run opening (journal ++ k ∷ [])) s) (same_Some _ e is)
      (subst (λ (t : DatabaseState). IsAhead next (updated hands n (Some (record { statement = statements.Insert table values; answers = reply_to d (request_entry n table (requests.Put values)) ∷ [] }))) t s)
      (sym (serial_run-append opening journal (request_entry n table (requests.Put values) ∷ []))) (puts next hands d s n table values was has))
  new_put statement c has insert one = absurd insert

  -- ---- a delete with nothing entered

  delete_sound : (q : Query) → refusal_at s n (statements.Delete q) ≡ None → (x : OpenTransaction) × IsSound s n x
  delete_sound q taken = sound_at s n (statements.Delete q) (delete_allowed q) taken

  delete_all : (q : Query) (f : Course) (reply : Reply) → map.get d.sessions n ≡ map.get s.sessions n → refusal_at s n (statements.Delete q) ≡ None → hands n ≡ Some (new_hand (statements.Delete q))
      → MakesAll opening n (statements.Delete q) new_course f → Some reply ≡ deleted_reply f.answers → Ends (statements.Delete q) f.journal reply
  delete_all q f reply same taken has (ways.NoneLeft _ none) replied = absurd (none-some _ (sym none))
  delete_all q f reply same taken has (OneMore _ c _ (Enters e is) all) replied =
      let some = delete_sound q taken in
      let x : OpenTransaction = some.0 in
      let at = looked (limits_of layout) opening s next n q x opens some.1 hands journal was has (same ∙ some.1.under_way) in
      let h : Option Hand = Some (record { statement = statements.Delete q; answers = Found (rows_found x q) ∷ [] }) in
      let more : MakesAll opening n (statements.Delete q) (entered opening new_course (look_entry n q)) f =
      subst (λ (k : Entry). MakesAll opening n (statements.Delete q) (entered opening new_course k) f) (same_Some e _ (sym is)) all in
      subst (λ (g : ℕ → Option Hand). IsAnswered (limits_of layout) next g (serial_run opening f.journal) s n (statements.Delete q) reply) (updated_twice hands n h None)
      (all_marks (limits_of layout) opening s next n q x opens some.1 (updated hands n h) (entered opening new_course (look_entry n q)) f [] (rows_found x q) reply at more replied)

  none_made : (statement : Statement) (c f : Course) → next_request n statement c.answers ≡ None → MakesOne opening n statement c f → ⊥
  none_made statement c _ none (Enters e is) = none-some e (sym none ∙ is)

  none_second : (statement : Statement) (c f : Course) → ((a : Answer) → next_request n statement (a ∷ []) ≡ None) → MakesOne opening n statement new_course c → MakesOne opening n statement c f → ⊥
  none_second statement _ f last (Enters e is) two = none_made statement (entered opening new_course e) f (last (reply_to d e)) two

  new_mark : (statement : Statement) (c : Course) → map.get d.sessions n ≡ map.get s.sessions n → refusal_at s n statement ≡ None → hands n ≡ Some (new_hand statement)
      → MakesMark opening n statement new_course c → IsOneLeft n statement c
      → IsAhead next (updated hands n (Some (record { statement = statement; answers = c.answers }))) (serial_run opening c.journal) s
  new_mark (statements.Delete q) c same taken has (First _ _ none (Enters e is) two) left =
      let some = delete_sound q taken in
      let x : OpenTransaction = some.0 in
      let at = looked (limits_of layout) opening s next n q x opens some.1 hands journal was has (same ∙ some.1.under_way) in
      let h : Option Hand = Some (record { statement = statements.Delete q; answers = Found (rows_found x q) ∷ [] }) in
      let one : MakesOne opening n (statements.Delete q) (entered opening new_course (look_entry n q)) c =
      subst (λ (k : Entry). MakesOne opening n (statements.Delete q) (entered opening new_course k) c) (same_Some e _ (sym is)) two in
      subst (λ (g : ℕ → Option Hand). IsAhead next g (serial_run opening c.journal) s) (updated_twice hands n h (Some (record { statement = statements.Delete q; answers = c.answers })))
      (mark_told (limits_of layout) opening s next n q x opens some.1 (updated hands n h) (entered opening new_course (look_entry n q)) c [] (rows_found x q) at one left)
  new_mark statement c same taken has (First c1 _ none one two) left = absurd (none_second statement c1 c (λ a. refl) one two)
  new_mark statement c same taken has (Further first more _ some one) left = absurd (some_answers first more some)

  -- ---- all answers of a statement with nothing entered

  new_all : (statement : Statement) (f : Course) (reply : Reply) → map.get d.sessions n ≡ map.get s.sessions n → refusal_at s n statement ≡ None → hands n ≡ Some (new_hand statement)
      → MakesAll opening n statement new_course f → IsRepliedSo layout d statement f.answers reply → Ends statement f.journal reply
  new_all statements.Begin f reply same taken has all replied = begin_all layout opening s next hands n journal opens was f reply same taken all (replied.reply_is tt) (replied.number refl)
  new_all statements.Commit f reply same taken has all replied = commit_all layout opening s next hands n journal opens was f reply same taken all (replied.reply_is tt)
  new_all statements.Rollback f reply same taken has all replied = rollback_all layout opening s next hands n journal opens was f reply same taken all (replied.reply_is tt)
  new_all (statements.Insert table values) f reply same taken has all replied = insert_all table values f reply same taken has all (replied.reply_is tt)
  new_all (statements.Select q) f reply same taken has all replied = select_all layout opening s next hands n journal opens was q f reply same taken all (replied.reply_is tt)
  new_all (statements.Delete q) f reply same taken has all replied = delete_all q f reply same taken has all (replied.reply_is tt)
  new_all (statements.Explain q) f reply same taken has all replied = outside_all layout opening s next hands n journal opens was (statements.Explain q) f reply same tt refl all
  new_all (statements.Summarize index block) f reply same taken has all replied = outside_all layout opening s next hands n journal opens was (statements.Summarize index block) f reply same tt refl all
  new_all (statements.Desummarize index block) f reply same taken has all replied = outside_all layout opening s next hands n journal opens was (statements.Desummarize index block) f reply same tt refl all
  new_all (statements.Vacuum table) f reply same taken has all replied = outside_all layout opening s next hands n journal opens was (statements.Vacuum table) f reply same tt refl all
  new_all statements.Work f reply same taken has all replied = outside_all layout opening s next hands n journal opens was statements.Work f reply same tt refl all

  -- ---- refusals of a statement with nothing entered

  maintenance_wants : (statement : Statement) (tag : Tag) (refusal : Refusal) → map.get d.sessions n ≡ map.get s.sessions n → IsTrue (takes_lock statement)
      → Ends statement (journal ++ refused_request n tag statement) (replies.Refused refusal)
  maintenance_wants statement tag refusal same lock =
      let m = maintained n tag statement lock in
      subst (λ (l : List Entry). Ends statement l (replies.Refused refusal)) (sym (ap (λ (l : List Entry). journal ++ l) m.0 ∙ append-nil journal))
      (others layout opening s next hands n journal opens was statement (replies.Refused refusal) same (Outside statement (replies.Refused refusal) m.1))

  memory_short : (statement : Statement) → map.get d.sessions n ≡ map.get s.sessions n → refusal_at s n statement ≡ None → TakesMemory statement
      → Ends statement (journal ++ refused_request n tags.NoMemory statement) (replies.Refused refusals.Memory)
  memory_short (statements.Insert table values) same taken takes =
      let some = sound_at s n (statements.Insert table values) (insert_allowed table values) taken in
      let e = tagged_entry n table (requests.Put values) tags.NoMemory in
      fails layout opening s next hands n journal opens was (statements.Insert table values) e some.0 (replies.Refused refusals.Memory) refl
      (ap (λ (p : DatabaseState × Answer). p.0) (effect_by d e (Some some.0) (same ∙ some.1.under_way))) (InsertLacksMemory some.0 table values some.1)
  memory_short (statements.Select q) same taken takes =
      let some = sound_at s n (statements.Select q) (select_allowed q) taken in
      let e = tagged_entry n q.table (requests.Look q) tags.NoMemory in
      fails layout opening s next hands n journal opens was (statements.Select q) e some.0 (replies.Refused refusals.Memory) refl
      (ap (λ (p : DatabaseState × Answer). p.0) (effect_by d e (Some some.0) (same ∙ some.1.under_way))) (SelectLacksMemory some.0 q some.1)
  memory_short (statements.Delete q) same taken takes =
      let some = delete_sound q taken in
      let e = tagged_entry n q.table (requests.Look q) tags.NoMemory in
      fails layout opening s next hands n journal opens was (statements.Delete q) e some.0 (replies.Refused refusals.Memory) refl
      (ap (λ (p : DatabaseState × Answer). p.0) (effect_by d e (Some some.0) (same ∙ some.1.under_way)))
      (Deleting some.0 (failed_transaction some.0) q (replies.Refused refusals.Memory) some.1 LacksMemory)
  memory_short statement same taken takes = absurd takes

  table_full : (table : ℕ) (values : List Value) → map.get d.sessions n ≡ map.get s.sessions n → refusal_at s n (statements.Insert table values) ≡ None
      → Ends (statements.Insert table values) (journal ++ refused_request n tags.Full (statements.Insert table values)) (replies.Refused (full_table layout table))
  table_full table values same taken =
      let some = sound_at s n (statements.Insert table values) (insert_allowed table values) taken in
      let e = tagged_entry n table (requests.Put values) tags.Full in
      fails layout opening s next hands n journal opens was (statements.Insert table values) e some.0 (replies.Refused (full_table layout table)) refl
      (ap (λ (p : DatabaseState × Answer). p.0) (effect_by d e (Some some.0) (same ∙ some.1.under_way))) (told.TableIsFull some.0 table values some.1)

  new_fails : (statement : Statement) (tag : Tag) (refusal : Refusal) → map.get d.sessions n ≡ map.get s.sessions n → refusal_at s n statement ≡ None → FailsSo layout (new_hand statement) tag refusal
      → Ends statement (journal ++ refused_request n tag statement) (replies.Refused refusal)
  new_fails statement _ _ same taken (MemoryIsShort takes none) = memory_short statement same taken takes
  new_fails statement _ _ same taken (TableIsFull table values is) =
      let st : statement ≡ statements.Insert table values = ap (λ (h : Hand). h.statement) is in
      subst (λ (k : Statement). Ends k (journal ++ refused_request n tags.Full k) (replies.Refused (full_table layout table))) (sym st)
      (table_full table values same (subst (λ (k : Statement). refusal_at s n k ≡ None) st taken))
  new_fails statement _ _ same taken (ItsIndexIsFull table at values is some) = absurd (some refl)
  new_fails statement _ _ same taken (MaintenanceWants tag refusal lock want) = maintenance_wants statement tag refusal same lock

  new_bare : (statement : Statement) (reply : Reply) → map.get d.sessions n ≡ map.get s.sessions n → refusal_at s n statement ≡ None → EndsBare layout d statement reply → Ends statement journal reply
  new_bare _ _ same taken NoneAsked = others layout opening s next hands n journal opens was statements.Work replies.Idle same (Outside statements.Work replies.Idle tt)
  new_bare _ _ same taken (NoneLeft number) =
      others layout opening s next hands n journal opens was statements.Begin _ same (NoNumber (begin_allowed (map.get s.sessions n) taken) (sym was.number ∙ number))

  told_new : (statement : Statement) (outcome : Outcome) (h : Option Hand) (journal' : List Entry) → map.get d.sessions n ≡ map.get s.sessions n → hands n ≡ Some (new_hand statement)
      → RequestStep layout opening n (new_hand statement) journal outcome h journal' → IsTold (limits_of layout) next (updated hands n h) (serial_run opening journal') s n statement outcome
  told_new statement _ _ _ same has (EntersNone point) = stays layout opening s next hands n journal opens was (new_hand statement) has
  told_new statement _ _ _ same has (EntersPut c insert one) = new_put statement c has insert one
  told_new statement _ _ _ same has (EntersMark c mark left) = new_mark statement c same (was.taken n _ has) has mark left
  told_new statement _ _ _ same has (EntersAll c reply all replied) = new_all statement c reply same (was.taken n _ has) has all replied
  told_new statement _ _ _ same has (EntersRefused tag refusal so) = new_fails statement tag refusal same (was.taken n _ has) so
  told_new statement _ _ _ same has (EndsWithout reply bare) = new_bare statement reply same (was.taken n _ has) bare
  told_new statement _ _ _ same has (StaysWaiting refusal) = stays layout opening s next hands n journal opens was (new_hand statement) has

  -- ---- an insert whose row is put

  abbrev put_hand : OpenTransaction → ℕ → List Value → Hand
  put_hand x table values = record { statement = statements.Insert table values; answers = Inserted (next_row x table values).id ∷ [] }

  index_full : (x : OpenTransaction) (table at : ℕ) (values : List Value) → IsSound s n x → map.get d.sessions n ≡ Some (after_put x table values)
      → Ends (statements.Insert table values) (journal ++ tagged_entry n table (requests.Put values) tags.Full ∷ []) (replies.Refused (full_index layout table at))
  index_full x table at values sound now =
      let tell = λ (next' : ℕ → Option Statement) (nexts : NextStays next next' n). refused_inserts (limits_of layout) next next' hands d s n table values x at was sound now nexts in
      behind layout opening s next hands n journal opens was (statements.Insert table values) (tagged_entry n table (requests.Put values) tags.Full) _
      (after_failure s n (after_put x table values), (tell next (λ m other. refl)).0, λ next' nexts. (tell next' nexts).1)

  put_fails : (x : OpenTransaction) (table : ℕ) (values : List Value) (tag : Tag) (refusal : Refusal) → IsSound s n x → map.get d.sessions n ≡ Some (after_put x table values)
      → FailsSo layout (put_hand x table values) tag refusal → Ends (statements.Insert table values) (journal ++ refused_request n tag (statements.Insert table values)) (replies.Refused refusal)
  put_fails x table values _ _ sound now (MemoryIsShort takes none) = absurd (no_answers _ _ none)
  put_fails x table values _ _ sound now (TableIsFull table' values' is) = absurd (no_answers _ _ (ap (λ (h : Hand). h.answers) is))
  put_fails x table values _ _ sound now (ItsIndexIsFull table' at values' is some) =
      subst (λ (k : ℕ). Ends (statements.Insert table values) (journal ++ tagged_entry n table (requests.Put values) tags.Full ∷ []) (replies.Refused (full_index layout k at))) (ap table_of is)
      (index_full x table at values sound now)
  put_fails x table values _ _ sound now (MaintenanceWants tag refusal lock want) = absurd (false≢true lock)

  put_all : (x : OpenTransaction) (table : ℕ) (values : List Value) (f : Course) (reply : Reply) → IsSound s n x → map.get d.sessions n ≡ Some (after_put x table values)
      → MakesAll opening n (statements.Insert table values) (record { journal = journal; answers = Inserted (next_row x table values).id ∷ [] }) f → Some reply ≡ insert_reply (full_table layout table) f.answers
      → Ends (statements.Insert table values) f.journal reply
  put_all x table values f reply sound now all replied =
      let c : Course = record { journal = journal; answers = Inserted (next_row x table values).id ∷ [] } in
      let f_is : f ≡ c = all_none opening n (statements.Insert table values) c f refl all in
      subst (λ (g : Course). Ends (statements.Insert table values) g.journal reply) (sym f_is)
      (put_told layout opening s next hands n journal opens was x table values reply sound now (same_Some _ _ (replied ∙ ap (λ (g : Course). insert_reply (full_table layout table) g.answers) f_is)))

  told_put : (x : OpenTransaction) (table : ℕ) (values : List Value) (outcome : Outcome) (h : Option Hand) (journal' : List Entry) → IsSound s n x → map.get d.sessions n ≡ Some (after_put x table values)
      → hands n ≡ Some (put_hand x table values) → RequestStep layout opening n (put_hand x table values) journal outcome h journal'
      → IsTold (limits_of layout) next (updated hands n h) (serial_run opening journal') s n (statements.Insert table values) outcome
  told_put x table values _ _ _ sound now has (EntersNone point) = stays layout opening s next hands n journal opens was (put_hand x table values) has
  told_put x table values _ _ _ sound now has (EntersPut c insert (Enters e is)) = absurd (none-some e is)
  told_put x table values _ _ _ sound now has (EntersMark c (First _ _ none one two) left) = absurd (no_answers _ _ none)
  told_put x table values _ _ _ sound now has (EntersMark c (Further first more _ some (Enters e is)) left) = absurd (none-some e is)
  told_put x table values _ _ _ sound now has (EntersAll c reply all replied) = put_all x table values c reply sound now all (replied.reply_is tt)
  told_put x table values _ _ _ sound now has (EntersRefused tag refusal so) = put_fails x table values tag refusal sound now so
  told_put x table values _ _ _ sound now has (EndsWithout reply bare) = absurd (insert_asks table values (ends_bare layout d _ reply bare))
  told_put x table values _ _ _ sound now has (StaysWaiting refusal) = stays layout opening s next hands n journal opens was (put_hand x table values) has

  -- ---- a delete at its marks

  abbrev marks_hand : OpenTransaction → Query → List Row → Hand
  marks_hand x q rows = record { statement = statements.Delete q; answers = Found (rows_found x q) ∷ answers_marked rows }

  marks_fail : (x : OpenTransaction) (q : Query) (rows : List Row) (tag : Tag) (refusal : Refusal) → FailsSo layout (marks_hand x q rows) tag refusal → ⊥
  marks_fail x q rows _ _ (MemoryIsShort takes none) = no_answers _ _ none
  marks_fail x q rows _ _ (TableIsFull table values is) = no_answers _ _ (ap (λ (h : Hand). h.answers) is)
  marks_fail x q rows _ _ (ItsIndexIsFull table at values is some) = no_insert q table values is
  marks_fail x q rows _ _ (MaintenanceWants tag refusal lock want) = false≢true lock

  told_marked : (x : OpenTransaction) (q : Query) (rows left : List Row) (outcome : Outcome) (h : Option Hand) (journal' : List Entry) → IsSound s n x → rows_found x q ≡ rows ++ left
      → map.get d.sessions n ≡ Some (marked x rows) → hands n ≡ Some (marks_hand x q rows) → RequestStep layout opening n (marks_hand x q rows) journal outcome h journal'
      → IsTold (limits_of layout) next (updated hands n h) (serial_run opening journal') s n (statements.Delete q) outcome
  told_marked x q rows left outcome h journal' sound finds now has step = by outcome h journal' step
    where
      c : Course
      c = record { journal = journal; answers = Found (rows_found x q) ∷ answers_marked rows }

      at : AtMarks (limits_of layout) opening s next n q x opens sound hands c rows left
      at = record { ahead = was; in_hand = has; answers = refl; finds = finds; now = now }

      by : (outcome : Outcome) (h : Option Hand) (journal' : List Entry) → RequestStep layout opening n (marks_hand x q rows) journal outcome h journal'
          → IsTold (limits_of layout) next (updated hands n h) (serial_run opening journal') s n (statements.Delete q) outcome
      by _ _ _ (EntersNone point) = stays layout opening s next hands n journal opens was (marks_hand x q rows) has
      by _ _ _ (EntersPut f insert one) = absurd insert
      by _ _ _ (EntersMark f (First _ _ none one two) more) = absurd (no_answers _ _ none)
      by _ _ _ (EntersMark f (Further first more _ some one) another) = mark_told (limits_of layout) opening s next n q x opens sound hands c f rows left at one another
      by _ _ _ (EntersAll f reply all replied) = all_marks (limits_of layout) opening s next n q x opens sound hands c f rows left reply at all (replied.reply_is tt)
      by _ _ _ (EntersRefused tag refusal so) = absurd (marks_fail x q rows tag refusal so)
      by _ _ _ (EndsWithout reply bare) = absurd (delete_asks q (ends_bare layout d _ reply bare))
      by _ _ _ (StaysWaiting refusal) = stays layout opening s next hands n journal opens was (marks_hand x q rows) has

  -- ---- all

  by_standing : (hand : Hand) (outcome : Outcome) (h : Option Hand) (journal' : List Entry) → Stands (map.get s.sessions n) (map.get d.sessions n) hand → hands n ≡ Some hand
      → RequestStep layout opening n hand journal outcome h journal' → IsTold (limits_of layout) next (updated hands n h) (serial_run opening journal') s n hand.statement outcome
  by_standing _ outcome h journal' (IsNew statement same) has step = told_new statement outcome h journal' same has step
  by_standing _ outcome h journal' (IsPut x table values before whole now) has step = told_put x table values outcome h journal' (record { under_way = before; whole = whole }) now has step
  by_standing _ outcome h journal' (IsMarked x q rows left before whole finds now) has step = told_marked x q rows left outcome h journal' (record { under_way = before; whole = whole }) finds now has step

pub steps_told : StepsAreTold
steps_told layout opening s next hands n hand hand' journal journal' outcome opens was has step =
    by_standing layout opening s next hands n journal opens was hand outcome hand' journal'
    (stands (map.get s.sessions n) (map.get (serial_run opening journal).sessions n) (hands n) hand (was.copies n) has) has step
