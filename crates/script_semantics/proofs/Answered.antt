-- What an insert that is refused enters, and what a select is answered.
use Rattle.std.proofs.Common.{◌≡◌, ℕ, Bool, true, false, List, [], ◌∷◌, ◌++◌, Option, None, Some, refl, sym, ap, ◌∙◌, subst}
use Rattle.std.specs.FinMap as map
use Rattle.std.proofs.lemmas.Bool.{false≢true}
use Rattle.block_model.specs.declared.reply.Refusal.{Refusal}
use Rattle.block_model.specs.declared.reply.Reply.{Reply}
use Rattle.block_model.specs.declared.reply.Reply.TheVariants as replies
use Rattle.block_model.specs.declared.request.Request.TheVariants as requests
use Rattle.block_model.specs.declared.request.Tag.{Tag}
use Rattle.block_model.specs.declared.row.Query.{Query}
use Rattle.block_model.specs.declared.row.Row.{Row}
use Rattle.block_model.specs.declared.value.Value.{Value}
use Rattle.block_model.specs.DatabaseState.{DatabaseState, OpenTransaction}
use Rattle.block_model.specs.RequestEffect.{Answer, Inserted, effect_at, effect_is, reply_to, rows_found}
use Rattle.store_layout.specs.declared.statement.Statement.{Statement}
use Rattle.store_layout.specs.declared.statement.Statement.TheVariants as statements
use Rattle.store_layout.specs.HeapRoom.{full_table}
use Rattle.store_layout.specs.StatementRequests.{insert_reply, look_entry, request_entry, select_reply, tagged_entry}
use Rattle.coverage.specs.Refusals as causes
use Rattle.script_semantics.specs.Place.{Place, database_at}
use Rattle.script_semantics.specs.Requests.{Course, MakesAll}
use Rattle.script_semantics.specs.StatementSteps.{Ended, IsInsert, RefusesSo, ForMemory, HeapIsFull, IndexIsFull, StepsTo, Replies, MeetsConflict, IsRefused, AtOnce, LacksMemoryAtOnce, NoNumber}
use Rattle.script_semantics.specs.Laws.{EntersItsPut, ForWantOfMemory, ForWantOfRoom, HasOneAnswer, NoAnswer, ItsRow}
use Rattle.script_semantics.proofs.Requests.{as_one_step, none_made}

abbrev is_refused : Option Reply → Bool
is_refused (Some (replies.Refused refusal)) = true
is_refused reply = false

module _ (p : Place) (n table : ℕ) (values : List Value) (full : ℕ → Refusal) where
  abbrev s : DatabaseState
  s = database_at p

  not_refused : (transaction : Option OpenTransaction) → is_refused (insert_reply (full table) ((effect_at transaction s (request_entry n table (requests.Put values))).1 ∷ [])) ≡ false
  not_refused None = refl
  not_refused (Some x) = refl

  put_not_refused : is_refused (insert_reply (full table) (reply_to s (request_entry n table (requests.Put values)) ∷ [])) ≡ false
  put_not_refused = ap (λ (r : DatabaseState × Answer). is_refused (insert_reply (full table) (r.1 ∷ []))) (effect_is s (request_entry n table (requests.Put values)))
      ∙ not_refused (map.get s.sessions n)

  replies_otherwise : (answers : List Answer) → HasOneAnswer answers → (c : Course) → MakesAll p.opening n (statements.Insert table values) (record { journal = p.journal; answers = answers }) c
      → is_refused (insert_reply (full table) c.answers) ≡ false
  replies_otherwise _ NoAnswer c all = ap (λ a. is_refused (insert_reply (full table) a)) (as_one_step p.opening n (statements.Insert table values) p.journal c all).answers_are ∙ put_not_refused
  replies_otherwise _ (ItsRow id) c all = ap (λ a. is_refused (insert_reply (full table) a)) (none_made p.opening n (statements.Insert table values) (record { journal = p.journal; answers = Inserted id ∷ [] }) c refl all).answers_are

enters_tag : (p : Place) (n table i : ℕ) (values : List Value) (q : Place) (why : causes.Refusal) (tag : Tag) (told : Refusal)
    → RefusesSo p i (statements.Insert table values) why tag told → q.journal ≡ p.journal ++ tagged_entry n table (requests.Put values) tag ∷ []
    → EntersItsPut p n table values told q
enters_tag p n table i values q _ _ _ (ForMemory takes) journal = ForWantOfMemory journal
enters_tag p n table i values q _ _ _ (HeapIsFull number is) journal = ForWantOfRoom _ _ journal
enters_tag p n table i values q _ _ _ (IndexIsFull at number puts) journal = ForWantOfRoom _ _ journal

insert_enters : (p : Place) (n table : ℕ) (values : List Value) (answers : List Answer) → HasOneAnswer answers → (told : Refusal) (q : Place)
    → StepsTo p n (record { statement = statements.Insert table values; answers = answers }) (Ended (replies.Refused told)) q → EntersItsPut p n table values told q
insert_enters p n table values answers one _ _ (Replies point c reply q turn named rests all replied leads) =
    absurd (false≢true (sym (replies_otherwise p n table values (full_table p.layout) answers one c all) ∙ sym (ap is_refused replied)))
insert_enters p n table values answers one _ _ (MeetsConflict id c q turn named all replied leads) =
    absurd (false≢true (sym (replies_otherwise p n table values (full_table p.layout) answers one c all) ∙ sym (ap is_refused replied)))
insert_enters p n table values answers one _ _ (IsRefused why tag told q turn named so leads) = enters_tag p n table turn.table values q why tag told so leads.journal
insert_enters p n table values answers one _ _ (AtOnce c reply q once all replied stay leads) = elim once [ ]
insert_enters p n table values answers one _ _ (LacksMemoryAtOnce q looking rest stay leads) = absurd looking
insert_enters p n table values answers one _ _ (NoNumber q begin next stay leads) = absurd (subst IsInsert begin tt)

pub insert_refused : (p q : Place) (n table : ℕ) (values : List Value) (answers : List Answer) (told : Refusal) → HasOneAnswer answers
    → StepsTo p n (record { statement = statements.Insert table values; answers = answers }) (Ended (replies.Refused told)) q → EntersItsPut p n table values told q
insert_refused p q n table values answers told one step = insert_enters p n table values answers one told q step

-- a select

abbrev rows_of : Option Reply → List Row
rows_of (Some (replies.Found rows)) = rows
rows_of reply = []

module _ (p : Place) (n : ℕ) (query : Query) (x : OpenTransaction) (got : map.get (database_at p).sessions n ≡ Some x) where
  look_found : rows_of (select_reply (reply_to (database_at p) (look_entry n query) ∷ [])) ≡ rows_found x query
  look_found = ap (λ (r : DatabaseState × Answer). rows_of (select_reply (r.1 ∷ []))) (effect_is (database_at p) (look_entry n query))
      ∙ ap (λ o. rows_of (select_reply ((effect_at o (database_at p) (look_entry n query)).1 ∷ []))) got

  select_finds : (rows : List Row) (q : Place) → StepsTo p n (record { statement = statements.Select query; answers = [] }) (Ended (replies.Found rows)) q
      → rows ≡ rows_found x query
  select_finds _ _ (Replies point c reply q turn named rests all replied leads) =
      ap rows_of replied ∙ ap (λ a. rows_of (select_reply a)) (as_one_step p.opening n (statements.Select query) p.journal c all).answers_are ∙ look_found
  select_finds _ _ (AtOnce c reply q once all replied stay leads) = elim once [ ]

pub select_finds_its_copy : (p q : Place) (n : ℕ) (query : Query) (rows : List Row) (x : OpenTransaction) → map.get (database_at p).sessions n ≡ Some x
    → StepsTo p n (record { statement = statements.Select query; answers = [] }) (Ended (replies.Found rows)) q → rows ≡ rows_found x query
select_finds_its_copy p q n query rows x got step = select_finds p n query x got rows q step
