-- What a statement has still to enter, by what its requests so far were answered.
use Rattle.std.proofs.Common.{◌≡◌, ◌⊎◌, inl, inr, ℕ, suc, ◌+◌, ◌-◌, ◌≤◌, ◌<◌, List, [], ◌∷◌, ◌++◌, length, Option, None, Some, refl, ap, ◌∙◌, subst, arith}
use Rattle.std.specs.Option.{option_map}
use Rattle.std.specs.FinMap.{get}
use Rattle.std.proofs.lemmas.List.{length_push}
use Rattle.std.proofs.lemmas.Option.{none-some, same_Some}
use Rattle.block_model.specs.declared.request.Entry.{Entry}
use Rattle.block_model.specs.declared.request.Request.TheVariants as requests
use Rattle.block_model.specs.declared.request.Tag.{Tag}
use Rattle.block_model.specs.declared.request.Tag.TheVariants as tags
use Rattle.block_model.specs.declared.row.Query.{Query}
use Rattle.block_model.specs.declared.row.Row.{Row}
use Rattle.block_model.specs.DatabaseState.{DatabaseState, OpenTransaction}
use Rattle.block_model.specs.RequestEffect.{Answer, Conflict, Found, Illegal, reply_to}
use Rattle.block_model.specs.SerialRun.{serial_run}
use Rattle.block_model.specs.TableState.{rows_in}
use Rattle.store_layout.specs.declared.statement.Statement.{Statement}
use Rattle.store_layout.specs.declared.statement.Statement.TheVariants as statements
use Rattle.store_layout.specs.StatementRequests.{mark_entry}
use Rattle.script_semantics.specs.Place.{Hand}
use Rattle.script_semantics.specs.Requests.{Course, Enters, First, Further, MakesAll, MakesMark, MakesOne, NoneLeft, OneMore, next_request, refused_request, row_to_mark}
use Rattle.script_laws.specs.RequestBounds.{most_of_statement}
use Rattle.script_laws.proofs.CopySizes.{few_found, put_of, puts, puts-append}
use Rattle.script_laws.proofs.Entering.{first_alone, no_push, no_second}
use Rattle.script_laws.proofs.Soundness.{IsBeginning, IsInsert, fewer_behind, insert_behind, none_begins, one_session, one_sound, others_behind, sessions_behind, sound_behind}

-- ---- how many requests of a statement are answered

-- a refusal isn't among them
abbrev pub most_answered : (rows : ℕ) → Statement → ℕ
most_answered rows statements.Begin = 1
most_answered rows statements.Commit = 1
most_answered rows statements.Rollback = 1
most_answered rows (statements.Insert table values) = 1
most_answered rows (statements.Select q) = 1
most_answered rows (statements.Delete q) = rows + 1
most_answered rows statement = 0

pub answered_within : (rows : ℕ) (statement : Statement) → most_answered rows statement ≤ most_of_statement rows statement
answered_within rows statements.Begin = omega arith
answered_within rows statements.Commit = omega arith
answered_within rows statements.Rollback = omega arith
answered_within rows (statements.Insert table values) = omega arith
answered_within rows (statements.Select q) = omega arith
answered_within rows (statements.Delete q) = omega arith
answered_within rows statement = omega arith

-- what a delete's look found are so many rows at most
abbrev pub FoundFew : (rows : ℕ) → Statement → List Answer → Type 0
FoundFew rows (statements.Delete q) answers = (found : List Row) (marks : List Answer) → answers ≡ Found found ∷ marks → length found ≤ rows
FoundFew rows statement answers = Unit {0}

pub record AreFew (rows : ℕ) (statement : Statement) (answers : List Answer) : Type 0 where
  pub few : length answers ≤ most_answered rows statement
  pub found : FoundFew rows statement answers

-- ---- one request more

is_mapped : {A B : Type 0} (f : A → B) (o : Option A) (b : B) → option_map f o ≡ Some b → (a : A) × (o ≡ Some a)
is_mapped f None b is = absurd (none-some _ is)
is_mapped f (Some a) b is = (a, refl)

-- a row is left to mark behind fewer marks than rows
fewer_marks : (found : List Row) (marks : List Answer) (row : Row) → row_to_mark found marks ≡ Some row → length marks < length found
fewer_marks [] marks row is = absurd (none-some _ is)
fewer_marks (first ∷ found) [] row is = omega arith
fewer_marks (first ∷ found) (Conflict id ∷ marks) row is = absurd (none-some _ is)
fewer_marks (first ∷ found) (mark ∷ marks) row is = let less = fewer_marks found marks row is in omega (arith, less)

delete_room : (rows n : ℕ) (q : Query) (answers : List Answer) (e : Entry) → FoundFew rows (statements.Delete q) answers → next_request n (statements.Delete q) answers ≡ Some e → suc (length answers) ≤ rows + 1
delete_room rows n q [] e found is = omega arith
delete_room rows n q (Found rows_there ∷ marks) e found is =
    let row = is_mapped (mark_entry n q.table) (row_to_mark rows_there marks) e is in
    let less = fewer_marks rows_there marks row.0 row.1 in
    let most = found rows_there marks refl in
    omega (arith, less, most)
delete_room rows n q (answer ∷ marks) e found is = absurd (none-some _ is)

has_room : (rows n : ℕ) (statement : Statement) (answers : List Answer) (e : Entry) → FoundFew rows statement answers → next_request n statement answers ≡ Some e
    → suc (length answers) ≤ most_answered rows statement
has_room rows n (statements.Delete q) answers e found is = delete_room rows n q answers e found is
has_room rows n statements.Begin [] e found is = omega arith
has_room rows n statements.Commit [] e found is = omega arith
has_room rows n statements.Rollback [] e found is = omega arith
has_room rows n (statements.Insert table values) [] e found is = omega arith
has_room rows n (statements.Select q) [] e found is = omega arith
has_room rows n statement answers e found is = absurd (none-some _ is)

-- ---- rows that are put

-- an insert has its put before it, where nothing was answered yet
abbrev pub puts_left : Statement → List Answer → ℕ
puts_left (statements.Insert table values) [] = 1
puts_left statement answers = 0

-- a put is entered by an insert that has it before it
one_put : (n : ℕ) (statement : Statement) (answers : List Answer) (e : Entry) → next_request n statement answers ≡ Some e → put_of e.request e.tag ≤ puts_left statement answers
one_put n statements.Begin [] e is = subst (λ (x : Entry). put_of x.request x.tag ≤ 0) (same_Some _ _ is) (omega arith)
one_put n statements.Commit [] e is = subst (λ (x : Entry). put_of x.request x.tag ≤ 0) (same_Some _ _ is) (omega arith)
one_put n statements.Rollback [] e is = subst (λ (x : Entry). put_of x.request x.tag ≤ 0) (same_Some _ _ is) (omega arith)
one_put n (statements.Insert table values) [] e is = subst (λ (x : Entry). put_of x.request x.tag ≤ 1) (same_Some _ _ is) (omega arith)
one_put n (statements.Select q) [] e is = subst (λ (x : Entry). put_of x.request x.tag ≤ 0) (same_Some _ _ is) (omega arith)
one_put n (statements.Delete q) [] e is = subst (λ (x : Entry). put_of x.request x.tag ≤ 0) (same_Some _ _ is) (omega arith)
one_put n (statements.Delete q) (Found found ∷ marks) e is = marked (row_to_mark found marks) is
  where
    marked : (o : Option Row) → option_map (mark_entry n q.table) o ≡ Some e → put_of e.request e.tag ≤ 0
    marked None none = absurd (none-some _ none)
    marked (Some row) some = subst (λ (x : Entry). put_of x.request x.tag ≤ 0) (same_Some _ _ some) (omega arith)
one_put n statement answers e is = absurd (none-some _ is)

none_left : (statement : Statement) (answers : List Answer) (answer : Answer) → puts_left statement (answers ++ answer ∷ []) ≡ 0
none_left (statements.Insert table values) [] answer = refl
none_left (statements.Insert table values) (first ∷ answers) answer = refl
none_left statement answers answer = refl

-- ---- a course

-- before its first request the session's copy has so many rows at most
abbrev pub SeesFew : (rows : ℕ) (o : DatabaseState) (n : ℕ) → Course → Type 0
SeesFew rows o n c = c.answers ≡ [] → (x : OpenTransaction) → get (serial_run o c.journal).sessions n ≡ Some x → length (rows_in x.view) ≤ rows

-- As many requests are entered as are answered, no more are put than were left, and they stay few. The other sessions' transactions stay; this one's is
-- sound behind them only where it was, but for a begin's, and exactly where it was for an insert.
pub record Grows (rows : ℕ) (o : DatabaseState) (n : ℕ) (statement : Statement) (c d : Course) : Type 0 where
  pub many : length d.journal + length c.answers ≡ length c.journal + length d.answers
  pub put : puts d.journal + puts_left statement d.answers ≤ puts c.journal + puts_left statement c.answers
  pub are : AreFew rows statement d.answers
  pub others : (m : ℕ) → (m ≡ n → ⊥) → sessions_behind o d.journal m ≡ sessions_behind o c.journal m
  pub fewer : ¬ (IsBeginning statement) → sound_behind o d.journal n ≤ sound_behind o c.journal n
  pub kept : IsInsert statement → sound_behind o d.journal n ≡ sound_behind o c.journal n

pub stays_as_is : (rows : ℕ) (o : DatabaseState) (n : ℕ) (statement : Statement) (c : Course) → AreFew rows statement c.answers → Grows rows o n statement c c
stays_as_is rows o n statement c are = record { many = refl; put = omega arith; are = are; others = λ m apart. refl; fewer = λ not. omega arith; kept = λ is. refl }

grows_on : (rows : ℕ) (o : DatabaseState) (n : ℕ) (statement : Statement) (c d f : Course) → Grows rows o n statement c d → Grows rows o n statement d f → Grows rows o n statement c f
grows_on rows o n statement c d f first rest = record {
  many = joined (length c.journal) (length d.journal) (length f.journal) (length c.answers) (length d.answers) (length f.answers) first.many rest.many;
  put = through _ _ _ rest.put first.put;
  are = rest.are;
  others = λ m apart. rest.others m apart ∙ first.others m apart;
  fewer = λ not. through _ _ _ (rest.fewer not) (first.fewer not);
  kept = λ is. rest.kept is ∙ first.kept is;
}
  where
    joined : (a b c d e f : ℕ) → b + d ≡ a + e → c + e ≡ b + f → c + d ≡ a + f
    joined a b c d e f one two = omega (arith, one, two)

    through : (a b c : ℕ) → a ≤ b → b ≤ c → a ≤ c
    through a b c one two = omega (arith, one, two)

abbrev head_or : Answer → List Answer → Answer
head_or other [] = other
head_or other (answer ∷ answers) = answer

module _ (rows : ℕ) (o : DatabaseState) (n : ℕ) where
  -- a look finds few rows, and what is answered behind it leaves them as they are
  found_next : (statement : Statement) (c : Course) (e : Entry) → next_request n statement c.answers ≡ Some e → SeesFew rows o n c → FoundFew rows statement c.answers
      → FoundFew rows statement (c.answers ++ reply_to (serial_run o c.journal) e ∷ [])
  found_next (statements.Delete q) c e next sees few = by c.answers refl few next
    where
      by : (answers : List Answer) → c.answers ≡ answers → FoundFew rows (statements.Delete q) answers → next_request n (statements.Delete q) answers ≡ Some e
          → FoundFew rows (statements.Delete q) (answers ++ reply_to (serial_run o c.journal) e ∷ [])
      by [] none before is found marks same =
          few_found (serial_run o c.journal) n q rows (sees none) found
          (ap (reply_to (serial_run o c.journal)) (same_Some _ _ is) ∙ ap (head_or Illegal) same)
      by (answer ∷ answers) some before is found marks same = before found answers (ap (λ (a : Answer). a ∷ answers) (ap (head_or Illegal) same))
  found_next statement c e next sees few = tt

  pub one_grows : (statement : Statement) (c d : Course) → AreFew rows statement c.answers → SeesFew rows o n c → MakesOne o n statement c d → Grows rows o n statement c d
  one_grows statement c _ are sees (Enters e next) =
      let long = length_push c.journal e in
      let answered = length_push c.answers (reply_to (serial_run o c.journal) e) in
      let room = has_room rows n statement c.answers e are.found next in
      let count = puts-append c.journal (e ∷ []) in
      let one = one_put n statement c.answers e next in
      let none = none_left statement c.answers (reply_to (serial_run o c.journal) e) in
      record {
        many = omega (arith, long, answered);
        put = omega (arith, count, one, none);
        are = record { few = omega (arith, answered, room); found = found_next statement c e next sees are.found };
        others = others_behind o c.journal n e (one_session n statement c.answers e next);
        fewer = λ not. fewer_behind o c.journal n e (one_session n statement c.answers e next) (none_begins n statement c.answers e not next);
        kept = λ is. insert_behind o c.journal n statement c.answers e is next;
      }

  -- behind a request some are answered
  sees_then : (statement : Statement) (c d : Course) → MakesOne o n statement c d → SeesFew rows o n d
  sees_then statement c _ (Enters e next) none = absurd (no_push c.answers _ none)

  pub all_grow : (statement : Statement) (c d : Course) → AreFew rows statement c.answers → SeesFew rows o n c → MakesAll o n statement c d → Grows rows o n statement c d
  all_grow statement _ _ are sees (NoneLeft c none) = stays_as_is rows o n statement c are
  all_grow statement _ _ are sees (OneMore c d f one more) =
      let first = one_grows statement c d are sees one in
      grows_on rows o n statement c d f first (all_grow statement d f first.are (sees_then statement c d one) more)

  pub mark_grows : (statement : Statement) (c d : Course) → AreFew rows statement c.answers → SeesFew rows o n c → MakesMark o n statement c d → Grows rows o n statement c d
  mark_grows statement c _ are sees (First d f none one next) =
      let first = one_grows statement c d are sees one in
      grows_on rows o n statement c d f first (one_grows statement d f first.are (sees_then statement c d one) next)
  mark_grows statement c _ are sees (Further first more d some one) = one_grows statement c d are sees one

-- ---- what is left

-- so many requests at most
abbrev pub owed : (rows : ℕ) → Hand → ℕ
owed rows hand = most_of_statement rows hand.statement - length hand.answers

abbrev pub owed_by : (rows : ℕ) → Option Hand → ℕ
owed_by rows None = 0
owed_by rows (Some hand) = owed rows hand

abbrev pub puts_owed : Option Hand → ℕ
puts_owed None = 0
puts_owed (Some hand) = puts_left hand.statement hand.answers

few_left : (statement : Statement) (answers : List Answer) → puts_left statement answers ≤ 1
few_left (statements.Insert table values) [] = omega arith
few_left statement answers = omega arith

pub one_owed : (hand : Option Hand) → puts_owed hand ≤ 1
one_owed None = omega arith
one_owed (Some hand) = few_left hand.statement hand.answers

-- what was entered was owed, for what is still owed and at the end
pub pays : (rows : ℕ) (o : DatabaseState) (n : ℕ) (statement : Statement) (c d : Course) → AreFew rows statement c.answers → Grows rows o n statement c d
    → length d.journal + (most_of_statement rows statement - length d.answers) ≤ length c.journal + (most_of_statement rows statement - length c.answers)
pays rows o n statement c d are grows =
    let many = grows.many in
    let few = grows.are.few in
    let before = are.few in
    let within = answered_within rows statement in
    omega (arith, many, few, before, within)

-- a begin pays for the transaction that is sound behind it
pub begin_pays : (rows : ℕ) (o : DatabaseState) (n : ℕ) (statement : Statement) (c d : Course) → IsBeginning statement → MakesAll o n statement c d
    → length d.journal + sound_behind o d.journal n ≤ length c.journal + (most_of_statement rows statement - length c.answers) + sound_behind o c.journal n
begin_pays rows o n statements.Begin _ _ is (NoneLeft c none) = omega arith
begin_pays rows o n statements.Begin _ _ is (OneMore c _ _ (Enters e next) (NoneLeft _ none)) =
    one (length (c.journal ++ e ∷ [])) (length c.journal) (length c.answers) _ _ (length_push c.journal e) (ap length (first_alone n statements.Begin c.answers e (λ deletes. deletes) next)) (one_sound (serial_run o (c.journal ++ e ∷ [])) n)
  where
    one : (longer long answered after before : ℕ) → longer ≡ long + 1 → answered ≡ 0 → after ≤ 1 → longer + after ≤ long + (2 - answered) + before
    one longer long answered after before a b c = omega (arith, a, b, c)
begin_pays rows o n statements.Begin _ _ is (OneMore c _ _ (Enters e next) (OneMore _ _ _ (Enters f behind) more)) =
    absurd (no_second n statements.Begin c.answers _ f (λ deletes. deletes) behind)
begin_pays rows o n statement c d is made = absurd is

-- any other statement
pub others_pay : (rows : ℕ) (o : DatabaseState) (n : ℕ) (statement : Statement) (c d : Course) → ¬ (IsBeginning statement) → AreFew rows statement c.answers → Grows rows o n statement c d
    → length d.journal + sound_behind o d.journal n ≤ length c.journal + (most_of_statement rows statement - length c.answers) + sound_behind o c.journal n
others_pay rows o n statement c d not are grows =
    both (length d.journal) (length c.journal) _ _ _ _ (pays rows o n statement c d are grows) (grows.fewer not)
  where
    both : (longer long left owed after before : ℕ) → longer + left ≤ long + owed → after ≤ before → longer + after ≤ long + owed + before
    both longer long left owed after before a b = omega (arith, a, b)

pub begins_or_not : (statement : Statement) → IsBeginning statement ⊎ ¬ (IsBeginning statement)
begins_or_not statements.Begin = inl tt
begins_or_not statement = inr (λ begins. begins)

-- a select was answered nothing
abbrev pub IsFreshSelect : Statement → List Answer → Type 0
IsFreshSelect (statements.Select q) answers = answers ≡ []
IsFreshSelect statement answers = Unit {0}

-- there is room for the request of a refusal, but for an insert's
pub pays_refusal : (rows n : ℕ) (tag : Tag) (statement : Statement) (answers : List Answer) → ¬ (IsInsert statement) → AreFew rows statement answers → IsFreshSelect statement answers
    → length (refused_request n tag statement) ≤ most_of_statement rows statement - length answers
pays_refusal rows n tag (statements.Insert table values) answers not are fresh = absurd (not tt)
pays_refusal rows n tag (statements.Select q) answers not are fresh = let nothing = ap length fresh in omega (arith, nothing)
pays_refusal rows n tag (statements.Delete q) answers not are fresh = let few = are.few in omega (arith, few)
pays_refusal rows n tag statement answers not are fresh = omega arith

pub one_refused : (n : ℕ) (tag : Tag) (statement : Statement) → length (refused_request n tag statement) ≤ 1
one_refused n tag (statements.Insert table values) = omega arith
one_refused n tag (statements.Select q) = omega arith
one_refused n tag (statements.Delete q) = omega arith
one_refused n tag statement = omega arith

pub inserts_or_not : (statement : Statement) → IsInsert statement ⊎ ¬ (IsInsert statement)
inserts_or_not (statements.Insert table values) = inl tt
inserts_or_not statement = inr (λ inserts. inserts)

-- and that puts no row
pub refusal_puts_none : (n : ℕ) (tag : Tag) (statement : Statement) → (tag ≡ tags.Ok → ⊥) → puts (refused_request n tag statement) ≡ 0
refusal_puts_none n tag (statements.Insert table values) failed = by tag failed
  where
    by : (t : Tag) → (t ≡ tags.Ok → ⊥) → put_of (requests.Put values) t + 0 ≡ 0
    by tags.Ok not = absurd (not refl)
    by tags.Full not = refl
    by tags.NoMemory not = refl
refusal_puts_none n tag (statements.Select q) failed = refl
refusal_puts_none n tag (statements.Delete q) failed = refl
refusal_puts_none n tag statement failed = refl
