-- At each place the journal and what the statements in hand may still enter are within a budget, and a step leaves it so.
use Rattle.std.proofs.Common.{◌≡◌, ◌⊎◌, inl, inr, ℕ, ◌+◌, ◌≤◌, ◌<◌, List, ◌++◌, length, Option, None, Some, refl, sym, ap, ◌∙◌, subst, arith, length-append}
use Rattle.std.specs.FinMap.{get}
use Rattle.std.proofs.lemmas.Bool.{cases_eq}
use Rattle.std.proofs.lemmas.Option.{none-some, same_Some}
use Rattle.block_model.specs.declared.reply.Point.{Point}
use Rattle.block_model.specs.declared.reply.Point.TheVariants as points
use Rattle.block_model.specs.declared.reply.Refusal.{Refusal}
use Rattle.block_model.specs.declared.request.Entry.{Entry}
use Rattle.block_model.specs.declared.request.Tag.{Tag}
use Rattle.block_model.specs.declared.request.Tag.TheVariants as tags
use Rattle.block_model.specs.DatabaseState.{DatabaseState, OpenTransaction}
use Rattle.block_model.specs.SerialRun.{serial_run}
use Rattle.block_model.specs.TableState.{rows_in}
use Rattle.store_layout.specs.declared.limits.TheConstants.{MAX_SESSIONS}
use Rattle.store_layout.specs.declared.statement.Statement.{Statement}
use Rattle.store_layout.specs.declared.statement.Statement.TheVariants as statements
use Rattle.coverage.specs.Refusals as causes
use Rattle.script_semantics.specs.Openings.{NoneOpen}
use Rattle.script_semantics.specs.Beginnings.{IsIn}
use Rattle.script_semantics.specs.Place.{Hand, Place, database_at}
use Rattle.script_semantics.specs.Requests.{Course, MakesAll, refused_request}
use Rattle.script_semantics.specs.StatementSteps.{AtOnce, ForMemory, GoesOn, HeapIsFull, IndexIsFull, IsRefused, IsWaiting, LacksMemoryAtOnce, MakesAt, MeetsConflict, NoNumber, NothingAsked, Outcome, RefusesSo, Replies, StepsTo, course_of}
use Rattle.script_semantics.specs.Turns.{Leads}
use Rattle.script_laws.proofs.Budgets.{AreFew, Grows, IsFreshSelect, SeesFew, all_grow, begin_pays, begins_or_not, inserts_or_not, mark_grows, one_grows, one_refused, others_pay, owed, owed_by, pays, pays_refusal, puts_left, puts_owed, refusal_puts_none, stays_as_is}
use Rattle.script_laws.proofs.CopySizes.{few_copied, puts, puts-append}
use Rattle.script_laws.proofs.Selects.{AreFresh, fresh_step, select_hand}
use Rattle.script_laws.proofs.SessionSums.{sum_below, sum_changed}
use Rattle.script_laws.proofs.Soundness.{IsBeginning, IsInsert, failed_behind, refused_fewer, refused_others, sessions_behind, sound, sound_at, sound_behind}

-- what a session's statement may still enter, and one for a sound transaction, which an insert may fail
abbrev pub owed_at : (rows : ℕ) → Place → ℕ → ℕ
owed_at rows p n = owed_by rows (p.hands n) + sound_at (database_at p) n

abbrev pub owed_in : (rows : ℕ) → Place → ℕ
owed_in rows p = sum_below (owed_at rows p) MAX_SESSIONS

pub record IsPaid (o : DatabaseState) (rows paid : ℕ) (p : Place) : Type 0 where
  pub opening : p.opening ≡ o
  pub within : length p.journal + owed_in rows p ≤ paid
  pub hands : (n : ℕ) (hand : Hand) → p.hands n ≡ Some hand → AreFew rows hand.statement hand.answers
  pub unfailed : (n : ℕ) (hand : Hand) → p.hands n ≡ Some hand → IsInsert hand.statement → sound_at (database_at p) n ≡ 1
  pub fresh : AreFresh p

-- no more rows are put than so many, the next one of session n among them
abbrev pub PutsFew : (most n : ℕ) → Place → Type 0
PutsFew most n p = puts p.journal + puts_owed (p.hands n) ≤ most

refuses_tag : (p : Place) (table : ℕ) (statement : Statement) (why : causes.Refusal) (tag : Tag) (told : Refusal) → RefusesSo p table statement why tag told → tag ≡ tags.Ok → ⊥
refuses_tag p table statement _ _ _ (ForMemory takes) is = cc
refuses_tag p table statement _ _ _ (HeapIsFull number insert) is = cc
refuses_tag p table statement _ _ _ (IndexIsFull at number puts) is = cc

no_memory_tag : tags.NoMemory ≡ tags.Ok → ⊥
no_memory_tag is = cc

-- What one session has in hand changes, and what it enters it owed. The others' transactions stay.
module _ (o : DatabaseState) (rows paid most n : ℕ) (low : n < MAX_SESSIONS) (p q : Place) (now : Option Hand) (entries : List Entry) (leads : Leads p n now entries q)
    (alone : (m : ℕ) → (m ≡ n → ⊥) → sessions_behind p.opening entries m ≡ sessions_behind p.opening p.journal m) where
  state_is : database_at q ≡ serial_run p.opening entries
  state_is = ap (λ (s : DatabaseState). serial_run s q.journal) leads.opening ∙ ap (serial_run p.opening) leads.journal

  session_stays : (m : ℕ) → (m ≡ n → ⊥) → get (database_at q).sessions m ≡ get (database_at p).sessions m
  session_stays m apart = ap (λ (s : DatabaseState). get s.sessions m) state_is ∙ alone m apart

  owed_apart : (m : ℕ) → (m ≡ n → ⊥) → (m ≡ n) ⊎ (q.hands m ≡ p.hands m) → owed_at rows q m ≡ owed_at rows p m
  owed_apart m apart (inl is) = absurd (apart is)
  owed_apart m apart (inr same) = ap (λ (h : Option Hand). owed_by rows h + sound_at (database_at q) m) same ∙ ap (λ (x : Option OpenTransaction). owed_by rows (p.hands m) + sound x) (session_stays m apart)

  owed_others : (m : ℕ) → (m ≡ n) ⊎ (owed_at rows q m ≡ owed_at rows p m)
  owed_others m = by (cases_eq m n)
    where
      by : (m ≡ n) ⊎ (m ≡ n → ⊥) → (m ≡ n) ⊎ (owed_at rows q m ≡ owed_at rows p m)
      by (inl is) = inl is
      by (inr apart) = inr (owed_apart m apart (leads.others m))

  few_others : IsPaid o rows paid p → ((h : Hand) → now ≡ Some h → AreFew rows h.statement h.answers) → (m : ℕ) (h : Hand) → q.hands m ≡ Some h → (m ≡ n) ⊎ (q.hands m ≡ p.hands m)
      → AreFew rows h.statement h.answers
  few_others is own m h found (inl same) = own h (sym leads.hand ∙ ap q.hands (sym same) ∙ found)
  few_others is own m h found (inr same) = is.hands m h (sym same ∙ found)

  sound_others : IsPaid o rows paid p → ((h : Hand) → now ≡ Some h → IsInsert h.statement → sound_behind p.opening entries n ≡ 1) → (m : ℕ) (h : Hand) → q.hands m ≡ Some h → IsInsert h.statement
      → sound_at (database_at q) m ≡ 1
  sound_others is own m h found inserts = by (cases_eq m n) (leads.others m)
    where
      by : (m ≡ n) ⊎ (m ≡ n → ⊥) → (m ≡ n) ⊎ (q.hands m ≡ p.hands m) → sound_at (database_at q) m ≡ 1
      by (inl same) either = ap (λ (s : DatabaseState). sound_at s m) state_is ∙ ap (sound_behind p.opening entries) same ∙ own h (sym leads.hand ∙ ap q.hands (sym same) ∙ found) inserts
      by (inr apart) (inl same) = absurd (apart same)
      by (inr apart) (inr same) = ap sound (session_stays m apart) ∙ is.unfailed m h (sym same ∙ found) inserts

  pub leads_paid : IsPaid o rows paid p → length entries + owed_by rows now + sound_behind p.opening entries n ≤ length p.journal + owed_by rows (p.hands n) + sound_at (database_at p) n
      → ((h : Hand) → now ≡ Some h → AreFew rows h.statement h.answers) → ((h : Hand) → now ≡ Some h → IsInsert h.statement → sound_behind p.opening entries n ≡ 1) → AreFresh q → IsPaid o rows paid q
  leads_paid is less own own_sound fresh =
      let changed : sum_below (owed_at rows q) MAX_SESSIONS + owed_at rows p n ≡ sum_below (owed_at rows p) MAX_SESSIONS + owed_at rows q n = sum_changed (owed_at rows p) (owed_at rows q) n owed_others MAX_SESSIONS low in
      let here : owed_by rows (q.hands n) ≡ owed_by rows now = ap (owed_by rows) leads.hand in
      let behind : sound_at (database_at q) n ≡ sound_behind p.opening entries n = ap (λ (s : DatabaseState). sound_at s n) state_is in
      let long : length q.journal ≡ length entries = ap length leads.journal in
      record {
        opening = leads.opening ∙ is.opening;
        within = sums (length p.journal) (length q.journal) (length entries) (owed_by rows (p.hands n)) (sound_at (database_at p) n) (owed_by rows (q.hands n)) (sound_at (database_at q) n) (owed_by rows now)
            (sound_behind p.opening entries n) (owed_in rows p) (owed_in rows q) is.within changed here behind long less;
        hands = λ m h found. few_others is own m h found (leads.others m);
        unfailed = sound_others is own_sound;
        fresh = fresh;
      }
    where
      sums : (p_long q_long long p_owes p_sound q_owes q_sound owes behind p_all q_all : ℕ) → p_long + p_all ≤ paid → q_all + (p_owes + p_sound) ≡ p_all + (q_owes + q_sound) → q_owes ≡ owes → q_sound ≡ behind
          → q_long ≡ long → long + owes + behind ≤ p_long + p_owes + p_sound → q_long + q_all ≤ paid
      sums p_long q_long long p_owes p_sound q_owes q_sound owes behind p_all q_all a b c d e f = omega (arith, a, b, c, d, e, f)

  pub leads_put : PutsFew most n p → puts entries + puts_owed now ≤ puts p.journal + puts_owed (p.hands n) → PutsFew most n q
  leads_put before less = sums (puts p.journal) (puts q.journal) (puts entries) (puts_owed (p.hands n)) (puts_owed (q.hands n)) (puts_owed now) before (ap puts_owed leads.hand) (ap puts leads.journal) less
    where
      sums : (p_puts q_puts entered p_owes q_owes owes : ℕ) → p_puts + p_owes ≤ most → q_owes ≡ owes → q_puts ≡ entered → entered + owes ≤ p_puts + p_owes → q_puts + q_owes ≤ most
      sums p_puts q_puts entered p_owes q_owes owes a b c d = omega (arith, a, b, c, d)

-- ---- a step

module _ (o : DatabaseState) (none : NoneOpen o) (first : ℕ) (few : length (rows_in o.table) ≤ first) (most rows paid : ℕ) (room : first + most ≤ rows) (n : ℕ) (low : n < MAX_SESSIONS)
    (p : Place) (hand : Hand) (has : p.hands n ≡ Some hand) (is : IsPaid o rows paid p) (put : PutsFew most n p) where
  are_few : AreFew rows hand.statement hand.answers
  are_few = is.hands n hand has

  sees_few : SeesFew rows p.opening n (course_of p hand)
  sees_few before x got = sums (puts p.journal) (puts_owed (p.hands n)) (length (rows_in x.view)) put
      (few_copied o none first few p.journal n x (subst (λ (s : DatabaseState). get (serial_run s p.journal).sessions n ≡ Some x) is.opening got))
    where
      sums : (put_so_far owes copied : ℕ) → put_so_far + owes ≤ most → copied ≤ first + put_so_far → copied ≤ rows
      sums put_so_far owes copied a b = omega (arith, a, b, room)

  owes : (long left after : ℕ) → long + left + after ≤ length p.journal + owed rows hand + sound_at (database_at p) n → long + left + after ≤ length p.journal + owed_by rows (p.hands n) + sound_at (database_at p) n
  owes long left after less = subst (λ (h : Option Hand). long + left + after ≤ length p.journal + owed_by rows h + sound_at (database_at p) n) (sym has) less

  puts_so : (entered left : ℕ) → entered + left ≤ puts p.journal + puts_left hand.statement hand.answers → entered + left ≤ puts p.journal + puts_owed (p.hands n)
  puts_so entered left less = subst (λ (h : Option Hand). entered + left ≤ puts p.journal + puts_owed h) (sym has) less

  -- within the budget, with what the statement has still to put
  abbrev IsWithin : Place → Type 0
  IsWithin q = IsPaid o rows paid q × PutsFew most n q

  abbrev GrowsTo : Course → Type 0
  GrowsTo c = Grows rows p.opening n hand.statement (course_of p hand) c

  -- the others' transactions stay behind these entries
  abbrev IsAlone : List Entry → Type 0
  IsAlone entries = (m : ℕ) → (m ≡ n → ⊥) → sessions_behind p.opening entries m ≡ sessions_behind p.opening p.journal m

  goes_on : (c : Course) (q : Place) → ¬ (IsBeginning hand.statement) → GrowsTo c → Leads p n (Some (record hand { answers = c.answers })) c.journal q → AreFresh q → IsWithin q
  goes_on c q not grows leads fresh = (
    leads_paid o rows paid most n low p q _ c.journal leads grows.others is
        (owes (length c.journal) _ (sound_behind p.opening c.journal n) (both (length c.journal) _ _ _ _ _ (pays rows p.opening n hand.statement (course_of p hand) c are_few grows) (grows.fewer not)))
        (λ h now. subst (λ (x : Hand). AreFew rows x.statement x.answers) (same_Some _ _ now) grows.are)
        (λ h now inserts. own_sound (subst (λ (x : Hand). IsInsert x.statement) (sym (same_Some _ _ now)) inserts)) fresh,
    leads_put o rows paid most n low p q _ c.journal leads grows.others put (puts_so (puts c.journal) _ grows.put),
  )
    where
      both : (long left before owed after sound_before : ℕ) → long + left ≤ before + owed → after ≤ sound_before → long + left + after ≤ before + owed + sound_before
      both long left before owed after sound_before a b = omega (arith, a, b)

      own_sound : IsInsert hand.statement → sound_behind p.opening c.journal n ≡ 1
      own_sound inserts = grows.kept inserts ∙ is.unfailed n hand has inserts

  ends : (entries : List Entry) (q : Place) → IsAlone entries → length entries + sound_behind p.opening entries n ≤ length p.journal + owed rows hand + sound_at (database_at p) n
      → puts entries ≤ puts p.journal + puts_left hand.statement hand.answers → Leads p n None entries q → AreFresh q → IsWithin q
  ends entries q alone long entered leads fresh = (
    leads_paid o rows paid most n low p q None entries leads alone is (owes (length entries) 0 (sound_behind p.opening entries n) (without (length entries) _ _ long)) (λ h now. absurd (none-some _ now))
        (λ h now inserts. absurd (none-some _ now)) fresh,
    leads_put o rows paid most n low p q None entries leads alone put (puts_so (puts entries) 0 (nothing_left (puts entries) _ entered)),
  )
    where
      without : (a b c : ℕ) → a + b ≤ c → a + 0 + b ≤ c
      without a b c less = omega (arith, less)

      nothing_left : (a b : ℕ) → a ≤ b → a + 0 ≤ b
      nothing_left a b less = omega (arith, less)

  ends_all : (c : Course) (q : Place) → MakesAll p.opening n hand.statement (course_of p hand) c → Leads p n None c.journal q → AreFresh q → IsWithin q
  ends_all c q makes leads fresh =
      ends c.journal q grows.others (by (begins_or_not hand.statement)) (less (puts c.journal) (puts_left hand.statement c.answers) _ grows.put) leads fresh
    where
      grows : GrowsTo c
      grows = all_grow rows p.opening n hand.statement (course_of p hand) c are_few sees_few makes

      by : IsBeginning hand.statement ⊎ ¬ (IsBeginning hand.statement) → length c.journal + sound_behind p.opening c.journal n ≤ length p.journal + owed rows hand + sound_at (database_at p) n
      by (inl begins) = begin_pays rows p.opening n hand.statement (course_of p hand) c begins makes
      by (inr not) = others_pay rows p.opening n hand.statement (course_of p hand) c not are_few grows

      less : (a b c : ℕ) → a + b ≤ c → a ≤ c
      less a b c sum = omega (arith, sum)

  fresh_select : (statement : Statement) → hand.statement ≡ statement → IsFreshSelect statement hand.answers
  fresh_select (statements.Select q) same =
      let select : hand ≡ select_hand q hand.answers = ap (λ st. record { statement = st; answers = hand.answers }) same in
      is.fresh n q hand.answers (has ∙ ap Some select)
  fresh_select statement same = tt

  -- an insert that is refused fails its transaction
  refusal_paid : (tag : Tag) → (tag ≡ tags.Ok → ⊥) → IsInsert hand.statement ⊎ ¬ (IsInsert hand.statement)
      → length (p.journal ++ refused_request n tag hand.statement) + sound_behind p.opening (p.journal ++ refused_request n tag hand.statement) n ≤ length p.journal + owed rows hand + sound_at (database_at p) n
  refusal_paid tag failed (inl inserts) =
      paid_by (length (p.journal ++ refused_request n tag hand.statement)) (length p.journal) (length (refused_request n tag hand.statement)) (owed rows hand) _ _ (length-append p.journal (refused_request n tag hand.statement))
      (one_refused n tag hand.statement) (failed_behind p.opening p.journal n tag hand.statement inserts failed) (is.unfailed n hand has inserts)
    where
      paid_by : (all long entered left after before : ℕ) → all ≡ long + entered → entered ≤ 1 → after ≡ 0 → before ≡ 1 → all + after ≤ long + left + before
      paid_by all long entered left after before a b c d = omega (arith, a, b, c, d)
  refusal_paid tag failed (inr not) =
      paid_by (length (p.journal ++ refused_request n tag hand.statement)) (length p.journal) (length (refused_request n tag hand.statement)) (owed rows hand) _ _ (length-append p.journal (refused_request n tag hand.statement))
      (pays_refusal rows n tag hand.statement hand.answers not are_few (fresh_select hand.statement refl)) (refused_fewer p.opening p.journal n tag hand.statement)
    where
      paid_by : (all long entered left after before : ℕ) → all ≡ long + entered → entered ≤ left → after ≤ before → all + after ≤ long + left + before
      paid_by all long entered left after before a b c = omega (arith, a, b, c)

  ends_refused : (tag : Tag) (q : Place) → (tag ≡ tags.Ok → ⊥) → Leads p n None (p.journal ++ refused_request n tag hand.statement) q → AreFresh q → IsWithin q
  ends_refused tag q failed leads fresh =
      let refused = refused_request n tag hand.statement in
      ends (p.journal ++ refused) q (refused_others p.opening p.journal n tag hand.statement) (refusal_paid tag failed (inserts_or_not hand.statement))
      (more (puts (p.journal ++ refused)) (puts p.journal) (puts refused) (puts_left hand.statement hand.answers) (puts-append p.journal refused) (refusal_puts_none n tag hand.statement failed)) leads fresh
    where
      more : (all before entered left : ℕ) → all ≡ before + entered → entered ≡ 0 → all ≤ before + left
      more all before entered left same nothing = omega (arith, same, nothing)

  ends_without : (q : Place) → Leads p n None p.journal q → AreFresh q → IsWithin q
  ends_without q leads fresh =
      ends p.journal q (λ m apart. refl) (less (length p.journal) (owed rows hand) (sound_at (database_at p) n)) (more (puts p.journal) (puts_left hand.statement hand.answers)) leads fresh
    where
      less : (a b c : ℕ) → a + c ≤ a + b + c
      less a b c = omega arith

      more : (a b : ℕ) → a ≤ a + b
      more a b = omega arith

  grows_at : (point : Point) (c : Course) → MakesAt point p n hand c → GrowsTo c
  grows_at points.Row c makes = one_grows rows p.opening n hand.statement (course_of p hand) c are_few sees_few makes
  grows_at points.Mark c makes = mark_grows rows p.opening n hand.statement (course_of p hand) c are_few sees_few makes.0
  grows_at point c makes = subst GrowsTo (sym makes) (stays_as_is rows p.opening n hand.statement (course_of p hand) are_few)

  -- a begin has no table, and makes no step of one
  begins_nowhere : (statement : Statement) (table : ℕ) → IsIn p n statement table → ¬ (IsBeginning statement)
  begins_nowhere statements.Begin table on = absurd on
  begins_nowhere statement table on = λ begins. begins

  by_step : (outcome : Outcome) (q : Place) → StepsTo p n hand outcome q → AreFresh q → IsWithin q
  by_step _ _ (GoesOn point c q turn named more makes leads) fresh = goes_on c q (begins_nowhere hand.statement turn.table turn.on) (grows_at point c makes) leads fresh
  by_step _ _ (Replies point c reply q turn named rest makes says leads) fresh = ends_all c q makes leads fresh
  by_step _ _ (MeetsConflict id c q turn named makes says leads) fresh = ends_all c q makes leads fresh
  by_step _ _ (IsRefused why tag told q turn named so leads) fresh = ends_refused tag q (refuses_tag p turn.table hand.statement why tag told so) leads fresh
  by_step _ _ (AtOnce c reply q once makes says stay leads) fresh = ends_all c q makes leads fresh
  by_step _ _ (NothingAsked q work rest nothing stay leads) fresh = ends_without q leads fresh
  by_step _ _ (LacksMemoryAtOnce q looking rest stay leads) fresh = ends_refused tags.NoMemory q no_memory_tag leads fresh
  by_step _ _ (NoNumber q begin full stay leads) fresh = ends_without q leads fresh
  by_step _ _ (IsWaiting table told on own blocked waits) fresh = (is, put)

  pub paid_step : (outcome : Outcome) (q : Place) → StepsTo p n hand outcome q → IsWithin q
  paid_step outcome q step = by_step outcome q step (fresh_step p n hand outcome q is.fresh has step)
