-- No demo fills the journal.
use Rattle.std.proofs.Common.{◌≡◌, inl, inr, ℕ, zero, suc, ◌+◌, ◌-◌, ◌*◌, ◌%◌, ◌≤◌, ◌==◌, min, Bool, true, false, List, [], ◌∷◌, ◌++◌, length, map, codes, slice_get, Option, None, Some, refl, sym, ap, ◌∙◌, subst, arith, ne_eqb}
use Rattle.std.specs.Prelude.{All, if◌then◌else◌}
use Rattle.std.specs.Str.{bytes_eq}
use Rattle.std.proofs.lemmas.Bool.{false≢true}
use Rattle.std.proofs.lemmas.Fmt.{decimal_digit}
use Rattle.std.proofs.lemmas.List.{map_push}
use Rattle.std.proofs.lemmas.List.Elements.{All-from_recursion}
use Rattle.std.proofs.lemmas.List.Sums.{sum_by-append, sum_by-cons, sum_by-le}
use Rattle.std.proofs.lemmas.Option.{none-some, same_Some}
use Rattle.demo_script.specs.declared.answer.Answer.{Answer}
use Rattle.demo_script.specs.Conversation.{AreRounds, AreRows, Closes, IsDemo, IsDemoFront, IsRound, IsRow, Opens, Puts, Said, Says, StepsOn, each_session, keeper, last_lines, rounds_of, rows_of_round}
use Rattle.demo_script.specs.DemoLines.{insert_line, line, middle_conditions, row_text, select_line, session_of}
use Rattle.demo_script.specs.Played.{AreSaid}
use Rattle.query_words.specs.Lines.{line_of}
use Rattle.query_words.specs.Words.{ended, texts_of, words_from, words_of}
use Rattle.script_laws.specs.LineVerbs.{HasNoDelete, WordsBoundRequests, word_at}
use Rattle.script_laws.specs.RequestBounds.{HasRoom, ScriptsBegin, ScriptsWithRoomFit, most_of_line, most_of_lines}
use Rattle.script_run.specs.Answers.{AreAnswers}
use Rattle.script_run.specs.declared.engine.AnswerFault.TheVariants.{Full, Memory}
use Rattle.script_semantics.specs.LineTexts.{IsLineText}
use Rattle.script_semantics.specs.Place.{Place}
use Rattle.script_semantics.specs.Starts.{IsStart}
use Rattle.store_layout.specs.declared.limits.TheConstants.{MAX_ENTRIES}
use Rattle.store_layout.specs.DiskLayout.{DiskLayout}
use Rattle.block_model.specs.declared.schema.Schema.{Schema}
use Rattle.brin_app.specs.Asking.{IsLineAnswered}
use Rattle.brin_app.specs.DemoOutput.{IsLeftOff, NoDemoFillsJournal}
use Rattle.brin_app.specs.ScriptOutput.{Stops}

-- ---- words of the demo's lines

-- words that differ as bytes
other_word : (a b : List ℕ) → bytes_eq a b ≡ false → bytes_eq b b ≡ true → (found : Option (List ℕ)) → found ≡ Some a → found ≡ Some b → ⊥
other_word a b differ same found is other = false≢true (sym differ ∙ ap (λ (w : List ℕ). bytes_eq w b) (same_Some a b (sym is ∙ other)) ∙ same)

no_word : (b : List ℕ) (found : Option (List ℕ)) → found ≡ None → found ≡ Some b → ⊥
no_word b found is other = none-some b (sym is ∙ other)

abbrev lines_of : List Said → List (List ℕ)
lines_of said = map (λ (s : Said). s.line) said

-- a digit behind the session's letter is no space
digit_word : (c : ℕ) (rest : List ℕ) (n : ℕ) (word : List ℕ) → (c == 32) ≡ false → slice_get (texts_of (words_from 0 (100 ∷ c ∷ []) (codes " insert d " ++ rest))) n ≡ Some word
    → slice_get (texts_of (words_of (100 ∷ c ∷ codes " insert d " ++ rest))) n ≡ Some word
digit_word c rest n word not is =
    subst (λ (b : Bool). slice_get (texts_of (if b then ended 0 (100 ∷ []) (words_from 2 [] (codes " insert d " ++ rest)) else words_from 0 (100 ∷ c ∷ []) (codes " insert d " ++ rest))) n ≡ Some word) (sym not) is

digit_is_no_space : (row : ℕ) → (48 + row % 4 == 32) ≡ false
digit_is_no_space row = ne_eqb (48 + row % 4) 32 (λ same. omega (arith, same))

session_is : (row : ℕ) → session_of row ≡ 100 ∷ (48 + row % 4) ∷ []
session_is row = ap (λ (ds : List ℕ). codes "d" ++ ds) (decimal_digit (row % 4) (omega arith))

insert_is : (seed row : ℕ) → insert_line seed row ≡ 100 ∷ (48 + row % 4) ∷ codes " insert d " ++ row_text seed row
insert_is seed row = ap (λ (ds : List ℕ). ds ++ codes " insert d " ++ row_text seed row) (session_is row)

insert_second : (seed row : ℕ) → word_at (insert_line seed row) 1 ≡ Some (codes "insert")
insert_second seed row = ap (λ (l : List ℕ). word_at l 1) (insert_is seed row) ∙ digit_word (48 + row % 4) (row_text seed row) 1 (codes "insert") (digit_is_no_space row) refl

insert_third : (seed row : ℕ) → word_at (insert_line seed row) 2 ≡ Some (codes "d")
insert_third seed row = ap (λ (l : List ℕ). word_at l 2) (insert_is seed row) ∙ digit_word (48 + row % 4) (row_text seed row) 2 (codes "d") (digit_is_no_space row) refl

insert_deletes_none : (seed row : ℕ) → HasNoDelete (insert_line seed row)
insert_deletes_none seed row = record {
  second = other_word (codes "insert") (codes "delete") refl refl _ (insert_second seed row);
  third = other_word (codes "d") (codes "delete") refl refl _ (insert_third seed row);
}

-- the finish of a row's session
finish_digit : (c : ℕ) → (c == 32) ≡ false → word_at (100 ∷ c ∷ codes " finish") 1 ≡ Some (codes "finish")
finish_digit c not =
    subst (λ (b : Bool). slice_get (texts_of (if b then ended 0 (100 ∷ []) (words_from 2 [] (codes " finish")) else words_from 0 (100 ∷ c ∷ []) (codes " finish"))) 1 ≡ Some (codes "finish")) (sym not) refl

own_finish : (row : ℕ) → word_at (line (session_of row) (codes "finish")) 1 ≡ Some (codes "finish")
own_finish row = ap (λ (ds : List ℕ). word_at (ds ++ codes " " ++ codes "finish") 1) (session_is row) ∙ finish_digit (48 + row % 4) (digit_is_no_space row)

-- a line whose second word is this one, and whose third is that
by_words : (l second third : List ℕ) → word_at l 1 ≡ Some second → word_at l 2 ≡ Some third → bytes_eq second (codes "delete") ≡ false → bytes_eq third (codes "delete") ≡ false → HasNoDelete l
by_words l second third one two first rest = record { second = other_word second (codes "delete") first refl _ one; third = other_word third (codes "delete") rest refl _ two }

by_word : (l second : List ℕ) → word_at l 1 ≡ Some second → word_at l 2 ≡ None → bytes_eq second (codes "delete") ≡ false → HasNoDelete l
by_word l second one none first = record { second = other_word second (codes "delete") first refl _ one; third = no_word (codes "delete") _ none }

-- ---- what they make at most

module _ (bound : WordsBoundRequests) (schema : Schema) (rows : ℕ) where
  abbrev most : List Said → ℕ
  most said = most_of_lines schema rows (lines_of said)

  abbrev IsFew : List ℕ → Type 0
  IsFew l = most_of_line rows (line_of schema l) ≤ 2

  few : (l : List ℕ) → HasNoDelete l → IsFew l
  few l none = bound.few schema rows l none

  joined : (first rest : List Said) → most (first ++ rest) ≡ most first + most rest
  joined first rest = ap (most_of_lines schema rows) (map_both first rest) ∙ sum_by-append (λ (l : List ℕ). most_of_line rows (line_of schema l)) (lines_of first) (lines_of rest)
    where
      map_both : (first rest : List Said) → lines_of (first ++ rest) ≡ lines_of first ++ lines_of rest
      map_both [] rest = refl
      map_both (s ∷ first) rest = ap (λ (ls : List (List ℕ)). s.line ∷ ls) (map_both first rest)

  one_more : (s : Said) (said : List Said) → most (s ∷ said) ≡ most_of_line rows (line_of schema s.line) + most said
  one_more s said = sum_by-cons (λ (l : List ℕ). most_of_line rows (line_of schema l)) s.line (lines_of said)

  -- lines that are few each
  says_few : (ls : List (List ℕ)) (said : List Said) → Says ls said → All IsFew ls → most said ≤ length ls * 2
  says_few ls said is all = subst (λ (own : List (List ℕ)). most_of_lines schema rows own ≤ length ls * 2) (sym is) (sum_by-le (λ (l : List ℕ). most_of_line rows (line_of schema l)) 2 ls all)

  -- ---- a row

  keeper_finish : most_of_line rows (line_of schema (keeper (codes "finish"))) ≡ 0
  keeper_finish = bound.finish schema rows (keeper (codes "finish")) refl

  keeper_step : most_of_line rows (line_of schema (keeper (codes "step"))) ≡ 0
  keeper_step = bound.step schema rows (keeper (codes "step")) refl

  insert_few : (seed row : ℕ) → IsFew (insert_line seed row)
  insert_few seed row = few (insert_line seed row) (insert_deletes_none seed row)

  puts_few : (seed row : ℕ) (busy busy' : Bool) (said : List Said) → Puts seed row busy said busy' → most said ≤ 2
  puts_few seed row busy busy' said (inl put) = subst (λ (own : List Said). most own ≤ 2) (sym put.2) (alone (record { line = insert_line seed row; answer = put.0 }) (insert_few seed row))
    where
      alone : (s : Said) → IsFew s.line → most (s ∷ []) ≤ 2
      alone s less = let sum = one_more s [] in omega (arith, sum, less)
  puts_few seed row busy busy' said (inr put) = subst (λ (own : List Said). most own ≤ 2) (sym put.is)
      (three (record { line = insert_line seed row; answer = put.first }) (record { line = keeper (codes "finish"); answer = put.kept }) (record { line = line (session_of row) (codes "finish"); answer = put.own })
      (insert_few seed row) keeper_finish (bound.finish schema rows (line (session_of row) (codes "finish")) (own_finish row)))
    where
      three : (a b c : Said) → IsFew a.line → most_of_line rows (line_of schema b.line) ≡ 0 → most_of_line rows (line_of schema c.line) ≡ 0 → most (a ∷ b ∷ c ∷ []) ≤ 2
      three a b c less none nothing =
          let first = one_more a (b ∷ c ∷ []) in
          let second = one_more b (c ∷ []) in
          let third = one_more c [] in
          omega (arith, first, second, third, less, none, nothing)

  steps_none : (busy busy' : Bool) (said : List Said) → StepsOn busy said busy' → most said ≡ 0
  steps_none false busy' said steps = ap most steps.0
  steps_none true busy' said steps = ap most steps.1 ∙ alone (record { line = keeper (codes "step"); answer = steps.0 }) keeper_step
    where
      alone : (s : Said) → most_of_line rows (line_of schema s.line) ≡ 0 → most (s ∷ []) ≡ 0
      alone s none = let sum = one_more s [] in omega (arith, sum, none)

  row_few : (seed row : ℕ) (busy busy' : Bool) (said : List Said) → IsRow seed row busy said busy' → most said ≤ 2
  row_few seed row busy busy' said is =
      let put = puts_few seed row busy is.between is.put is.puts in
      let stepped = steps_none is.between busy' is.stepped is.steps in
      both (most said) (most is.put) (most is.stepped) (ap most is.is ∙ joined is.put is.stepped) put stepped
    where
      both : (all a b : ℕ) → all ≡ a + b → a ≤ 2 → b ≡ 0 → all ≤ 2
      both all a b sum less none = omega (arith, sum, less, none)

  rows_few : (seed row count : ℕ) (busy busy' : Bool) (said : List Said) → AreRows seed row count busy said busy' → most said ≤ count * 2
  rows_few seed row zero busy busy' said is = let none = ap most is.0 in omega (arith, none)
  rows_few seed row (suc count) busy busy' said is =
      let first = row_few seed row busy is.2 is.0 is.3 in
      let rest = rows_few seed (suc row) count is.2 busy' is.1 is.4 in
      both (most said) (most is.0) (most is.1) (ap most is.5 ∙ joined is.0 is.1) first rest
    where
      both : (all a b : ℕ) → all ≡ a + b → a ≤ 2 → b ≤ count * 2 → all ≤ suc count * 2
      both all a b sum less more = omega (arith, sum, less, more)

  -- ---- a round

  opens_few : (round : ℕ) (busy : Bool) (said : List Said) → Opens round said busy → most said ≤ 2
  opens_few zero busy said is = let none = ap most is.0 in omega (arith, none)
  opens_few (suc round) busy said is = subst (λ (own : List Said). most own ≤ 2) (sym is.1) (alone (record { line = keeper (codes "start summarize di"); answer = is.0 })
      (few (keeper (codes "start summarize di")) (by_words (keeper (codes "start summarize di")) (codes "start") (codes "summarize") refl refl refl refl)))
    where
      alone : (s : Said) → IsFew s.line → most (s ∷ []) ≤ 2
      alone s less = let sum = one_more s [] in omega (arith, sum, less)

  closes_few : (busy : Bool) (said : List Said) → Closes busy said → most said ≤ 2
  closes_few false said is = let none = ap most is in omega (arith, none)
  closes_few true said is = let less = says_few (keeper (codes "finish") ∷ []) said is (All-from_recursion IsFew (keeper (codes "finish") ∷ []) (no_more _ keeper_finish, tt)) in omega (arith, less)
    where
      no_more : (n : ℕ) → n ≡ 0 → n ≤ 2
      no_more n none = omega (arith, none)

  -- a line with these words
  word_few : (l second : List ℕ) → word_at l 1 ≡ Some second → word_at l 2 ≡ None → bytes_eq second (codes "delete") ≡ false → IsFew l
  word_few l second one none first = few l (by_word l second one none first)

  words_few : (l second third : List ℕ) → word_at l 1 ≡ Some second → word_at l 2 ≡ Some third → bytes_eq second (codes "delete") ≡ false → bytes_eq third (codes "delete") ≡ false → IsFew l
  words_few l second third one two first rest = few l (by_words l second third one two first rest)

  begin_few : All IsFew (each_session (codes "begin"))
  begin_few = All-from_recursion IsFew (each_session (codes "begin")) (
    word_few (codes "d0 begin") (codes "begin") refl refl refl,
    (
      word_few (codes "d1 begin") (codes "begin") refl refl refl,
      (
        word_few (codes "d2 begin") (codes "begin") refl refl refl,
        (
          word_few (codes "d3 begin") (codes "begin") refl refl refl,
          tt,
        ),
      ),
    ),
  )

  commit_few : All IsFew (each_session (codes "commit"))
  commit_few = All-from_recursion IsFew (each_session (codes "commit")) (
    word_few (codes "d0 commit") (codes "commit") refl refl refl,
    (
      word_few (codes "d1 commit") (codes "commit") refl refl refl,
      (
        word_few (codes "d2 commit") (codes "commit") refl refl refl,
        (
          word_few (codes "d3 commit") (codes "commit") refl refl refl,
          tt,
        ),
      ),
    ),
  )

  round_few : (seed all round : ℕ) (said : List Said) → IsRound seed all round said → most said ≤ 820
  round_few seed all round said is =
      let opened = opens_few round is.busy is.opened is.opens in
      let begins = says_few (each_session (codes "begin")) is.begun is.begins begin_few in
      let begun : most is.begun ≤ 8 = omega (arith, begins) in
      let put = rows_few seed (400 * round) (rows_of_round all round) is.busy is.busy' is.put is.puts in
      let closed = closes_few is.busy' is.closed is.closes in
      let commits = says_few (each_session (codes "commit")) is.committed is.commits commit_few in
      let committed : most is.committed ≤ 8 = omega (arith, commits) in
      five (most said) (most is.opened) (most is.begun) (most is.put) (most is.closed) (most is.committed) (rows_of_round all round)
      (ap most is.is ∙ parts is.opened is.begun is.put is.closed is.committed) opened begun put (at_most (all - 400 * round)) closed committed
    where
      at_most : (left : ℕ) → min 400 left ≤ 400
      at_most left = omega arith

      parts : (a b c d e : List Said) → most (a ++ b ++ c ++ d ++ e) ≡ most a + most b + most c + most d + most e
      parts a b c d e = joined (a ++ b ++ c ++ d) e ∙ ap (λ (n : ℕ). n + most e) (joined (a ++ b ++ c) d ∙ ap (λ (n : ℕ). n + most d) (joined (a ++ b) c ∙ ap (λ (n : ℕ). n + most c) (joined a b)))

      five : (sum a b c d e count : ℕ) → sum ≡ a + b + c + d + e → a ≤ 2 → b ≤ 8 → c ≤ count * 2 → count ≤ 400 → d ≤ 2 → e ≤ 8 → sum ≤ 820
      five sum a b c d e count is a_few b_few c_few few_rows d_few e_few = omega (arith, is, a_few, b_few, c_few, few_rows, d_few, e_few)

  rounds_few : (seed all round count : ℕ) (said : List Said) → AreRounds seed all round count said → most said ≤ count * 820
  rounds_few seed all round zero said is = let none = ap most is in omega (arith, none)
  rounds_few seed all round (suc count) said is =
      let first = round_few seed all round is.0 is.2 in
      let rest = rounds_few seed all (suc round) count is.1 is.3 in
      both (most said) (most is.0) (most is.1) (ap most is.4 ∙ joined is.0 is.1) first rest
    where
      both : (sum a b : ℕ) → sum ≡ a + b → a ≤ 820 → b ≤ count * 820 → sum ≤ suc count * 820
      both sum a b is less more = omega (arith, is, less, more)

  -- ---- the last lines

  select_few : (conditions : List ℕ) → IsFew (select_line conditions)
  select_few conditions = words_few (select_line conditions) (codes "select") (codes "d") refl refl refl refl

  last_few : (all : ℕ) → All IsFew (last_lines all)
  last_few all = All-from_recursion IsFew (last_lines all) (
    words_few (codes "m summarize di") (codes "summarize") (codes "di") refl refl refl refl,
    (
      words_few (codes "m vacuum d") (codes "vacuum") (codes "d") refl refl refl refl,
      (
        word_few (codes "d0 begin") (codes "begin") refl refl refl,
        (
          select_few (middle_conditions all),
          (
            select_few (codes "v = 7"),
            (
              select_few (codes "r @> [500,501)"),
              (
                select_few (codes "a = 10.0.0.7"),
                (
                  words_few (codes "d0 explain d where " ++ middle_conditions all) (codes "explain") (codes "d") refl refl refl refl,
                  (
                    word_few (codes "d0 commit") (codes "commit") refl refl refl,
                    tt,
                  ),
                ),
              ),
            ),
          ),
        ),
      ),
    ),
  )

  -- ---- the whole, and a front of it

  demo_few : (seed all : ℕ) (rounds last : List Said) → all ≤ 200000 → IsDemo seed all rounds last → most (rounds ++ last) ≤ 410018
  demo_few seed all rounds last within is =
      let lasts = says_few (last_lines all) last is.are_last (last_few all) in
      let few_last : most last ≤ 18 = omega (arith, lasts) in
      sum (most (rounds ++ last)) (most rounds) (most last) (joined rounds last) (rounds_few seed all 0 (rounds_of all) rounds is.are_rounds) few_last
    where
      count : rounds_of all ≤ 500
      count = omega (arith, within)

      sum : (both a b : ℕ) → both ≡ a + b → a ≤ rounds_of all * 820 → b ≤ 18 → both ≤ 410018
      sum both a b is most_a most_b = let rounds_are = count in omega (arith, is, most_a, most_b, rounds_are)

  front_few : (seed all : ℕ) (said : List Said) → all ≤ 200000 → IsDemoFront seed all said → most said ≤ 410018
  front_few seed all said within front =
      part (most (said ++ front.rest)) (most said) (most front.rest) (joined said front.rest)
      (subst (λ (own : List Said). most own ≤ 410018) (sym front.is) (demo_few seed all front.rounds front.last within front.demo))
    where
      part : (both a b : ℕ) → both ≡ a + b → both ≤ 410018 → a ≤ 410018
      part both a b is less = omega (arith, is, less)

-- ---- lines that were said are answered

said_answers : (schema : Schema) (said : List Said) (p q : Place) → AreSaid (IsLineAnswered schema) p said q → (texts : List (List ℕ)) × AreAnswers (IsLineText schema) p (lines_of said) texts q
said_answers schema [] p q e = ([], e)
said_answers schema (one ∷ said) p q e =
    let rest = said_answers schema said e.0 q e.2 in
    (e.1.text ∷ rest.0, (e.0, e.1.answers, rest.1))

module _ (begin : ScriptsBegin) (fit : ScriptsWithRoomFit) (bound : WordsBoundRequests) where
  module _ (layout : DiskLayout) (seed all : ℕ) (within : all ≤ 200000) (start after : Place) (starts : IsStart layout start) (left : IsLeftOff layout seed all start after Full) where
    -- the lines up to the one that wasn't answered
    abbrev lines_with : List ℕ → List (List ℕ)
    lines_with l = lines_of left.front ++ l ∷ []

    few_with : (l : List ℕ) (answer : Answer) → IsDemoFront seed all (left.front ++ record { line = l; answer = answer } ∷ []) → HasRoom layout.schema 0 (lines_with l)
    few_with l answer front =
        subst (λ (ls : List (List ℕ)). most_of_lines layout.schema (0 + length (lines_with l)) ls ≤ MAX_ENTRIES) (map_push (λ (s : Said). s.line) left.front (record { line = l; answer = answer }))
        (enough _ (front_few bound layout.schema (0 + length (lines_with l)) seed all (left.front ++ record { line = l; answer = answer } ∷ []) within front))
      where
        enough : (n : ℕ) → n ≤ 410018 → n ≤ MAX_ENTRIES
        enough n less = omega (arith, less)

    stopped : (l : List ℕ) (answer : Answer) → IsDemoFront seed all (left.front ++ record { line = l; answer = answer } ∷ []) → Stops layout left.state l Full after → ⊥
    stopped l answer front stops =
        let answered = said_answers layout.schema left.front start left.state left.said in
        fit layout.schema 0 (lines_with l) (few_with l answer front)
        (record {
          start = start;
          begins = begin.new layout start starts;
          done = lines_of left.front;
          line = l;
          are = refl;
          texts = answered.0;
          place = left.state;
          answers = answered.1;
          after = after;
          stops = stops;
        })

    never : ⊥
    never = elim left.stops [
      | inl line ↦ stopped line.0 line.1 line.2 line.3
      | inr short ↦ absurd (let wrong : Full ≡ Memory = short.0 in cc)
    ]

  pub no_demo_fills_journal : NoDemoFillsJournal
  no_demo_fills_journal layout seed all numbers full = never layout seed all numbers.2 full.0 full.2.0 full.1 full.2.1
