-- that each session has its lines
use Rattle.std.proofs.Common.{◌≡◌, ℕ, zero, suc, ◌+◌, ◌<◌, ◌≤◌, Bool, true, false, cond, eqb, List, [], ◌∷◌, ◌++◌, length, map, Some, Result, Ok, Err, ◌⊎◌, inl, inr, refl, sym, ap, ◌∙◌, subst, arith, append_assoc, length-append}
use Rattle.std.specs.Prelude.{slice_get, All, fold, nat_lt}
use Rattle.std.specs.Str.{bytes_eq}
use Rattle.std.proofs.lemmas.Bool.{cases_eq, eq-eqb, ne_eqb, leb-true, leb-false, ltb-false, ltb-true, false_from_ne_true}
use Rattle.std.proofs.lemmas.List.{append-nil, map-append}
use Rattle.std.proofs.lemmas.List.Elements.{filter-append}
use Rattle.std.proofs.lemmas.Slice.Eq.{bytes_eq-Decides}
use Rattle.block_model.specs.declared.schema.Schema.{Schema}
use Rattle.store_layout.specs.declared.limits.TheConstants.{MAX_SESSIONS}
use Rattle.store_layout.specs.declared.statement.Statement.{Statement}
use Rattle.store_layout.specs.SessionNumbers.{is_past_sessions, session_from, session_number}
use Rattle.query_words.specs.declared.line.LineFault.{LineFault}
use Rattle.transcripts.specs.Transcript.{Line, lines_of}
use Rattle.plain_script.specs.PlainLines.{plain_line_of}
use Rattle.plain_script.specs.PlainScripts.{HasItsSessions, PlainScript, no_lines, past_text, plain_script, unread_text, with_line, with_statement, with_text}
use Rattle.plain_script.specs.ScriptLaws.{HasItsLines, all_said_by, said_by}
use Rattle.plain_script.specs.declared.plain_line.PlainLine.{PlainLine}
use Rattle.plain_script.specs.declared.plain_line.PlainLine.TheVariants as plain
use Rattle.plain_script.proofs.ListLemmas.{snoc_cases, some_same}
use Rattle.plain_script.proofs.SessionNames.{has_its_sessions, number_below, number_most, with_one}

-- ---- names and their numbers

number_least : (names : List (List ℕ)) (n : ℕ) (name : List ℕ) → n ≤ session_from names n name
number_least [] n name = omega arith
number_least (m ∷ ms) n name = at (bytes_eq m name) (number_least ms (n + 1) name)
  where
    at : (b : Bool) → n + 1 ≤ session_from ms (n + 1) name → n ≤ cond b n (session_from ms (n + 1) name)
    at true h = omega arith
    at false h = omega (arith, h)

found_first : (b : Bool) (m name : List ℕ) (n rest : ℕ) → bytes_eq m name ≡ b → cond b n rest ≡ n + 0 → n + 1 ≤ rest → Some m ≡ Some name
found_first true m name n rest is e less = ap Some ((bytes_eq-Decides m name).0 is)
found_first false m name n rest is e less = absurd (omega (arith, e, less))

found_next : (b : Bool) (n rest i : ℕ) → cond b n rest ≡ n + suc i → rest ≡ (n + 1) + i
found_next true n rest i e = absurd (omega (arith, e))
found_next false n rest i e = omega (arith, e)

-- where a name has one of their numbers, it stands there
number_found : (names : List (List ℕ)) (n i : ℕ) (name : List ℕ) → session_from names n name ≡ n + i → i < length names → slice_get names i ≡ Some name
number_found [] n i name e within = absurd (omega (arith, within))
number_found (m ∷ ms) n zero name e within = found_first (bytes_eq m name) m name n (session_from ms (n + 1) name) refl e (number_least ms (n + 1) name)
number_found (m ∷ ms) n (suc i) name e within =
    number_found ms (n + 1) i name (found_next (bytes_eq m name) n (session_from ms (n + 1) name) i e) (omega (arith, within))

-- a name that is none of more is none of them
still_new : (b : Bool) (n rest rest' many : ℕ) → cond b n rest ≡ n + (suc many + 1) → (rest ≡ (n + 1) + (many + 1) → rest' ≡ (n + 1) + many) → cond b n rest' ≡ n + suc many
still_new true n rest rest' many e next = absurd (omega (arith, e))
still_new false n rest rest' many e next = omega (arith, next (omega (arith, e)))

new_before : (names : List (List ℕ)) (n : ℕ) (one name : List ℕ) → session_from (names ++ one ∷ []) n name ≡ n + (length names + 1) → session_from names n name ≡ n + length names
new_before [] n one name e = omega arith
new_before (m ∷ ms) n one name e =
    still_new (bytes_eq m name) n (session_from (ms ++ one ∷ []) (n + 1) name) (session_from ms (n + 1) name) (length ms) e (new_before ms (n + 1) one name)

last_there : {A : Type 0} (xs : List A) (x : A) → slice_get (xs ++ x ∷ []) (length xs) ≡ Some x
last_there [] x = refl
last_there (y ∷ xs) x = last_there xs x

differs : (one name : List ℕ) → (one ≡ name → ⊥) → bytes_eq one name ≡ false
differs one name not = false_from_ne_true (bytes_eq one name) (λ e. not ((bytes_eq-Decides one name).0 e))

same_name : (one name : List ℕ) → one ≡ name → bytes_eq one name ≡ true
same_name one name e = (bytes_eq-Decides one name).1 e

-- ---- statements of sessions

alone : (b : Bool) (n : ℕ) (statement : Statement) → map (λ (line : Line). line.statement) (cond b (record { session = n; statement = statement } ∷ []) []) ≡ cond b (statement ∷ []) []
alone true n statement = refl
alone false n statement = refl

one_line_more : (n m : ℕ) (lines : List Line) (statement : Statement)
    → map (λ (line : Line). line.statement) (lines_of n (lines ++ record { session = m; statement = statement } ∷ []))
    ≡ map (λ (line : Line). line.statement) (lines_of n lines) ++ cond (eqb m n) (statement ∷ []) []
one_line_more n m lines statement =
    ap (map (λ (line : Line). line.statement)) (filter-append (λ (line : Line). eqb line.session n) lines (record { session = m; statement = statement } ∷ []))
    ∙ map-append (λ (line : Line). line.statement) (lines_of n lines) (lines_of n (record { session = m; statement = statement } ∷ []))
    ∙ ap (λ ss. map (λ (line : Line). line.statement) (lines_of n lines) ++ ss) (alone (eqb m n) m statement)

none_of_next : (lines : List Line) (n : ℕ) → All (λ (line : Line). line.session < n) lines → map (λ (line : Line). line.statement) (lines_of n lines) ≡ []
none_of_next [] n below = refl
none_of_next (line ∷ lines) n below =
    ap (λ b. map (λ (l : Line). l.statement) (cond b (line ∷ lines_of n lines) (lines_of n lines)))
    (ne_eqb line.session n (λ e. absurd (omega (arith, below zero line (omega arith), e))))
    ∙ none_of_next lines n (λ k d within. below (suc k) d (omega (arith, within)))

-- ---- one line after the other

pub record Told (script : PlainScript) (said : List ℕ → List Statement) : Type 0 where
  pub has : HasItsSessions script
  pub all : HasItsLines script said

told_same : (script : PlainScript) (said other : List ℕ → List Statement) → ((name : List ℕ) → other name ≡ said name) → Told script said → Told script other
told_same script said other same told = record {
  has = told.has;
  all = record { lines = λ n name e. told.all.lines n name e ∙ sym (same name); none = λ name new room. same name ∙ told.all.none name new room };
}

module _ (script : PlainScript) (said : List ℕ → List Statement) (told : Told script said) where
  told_text : (text : List ℕ) (more : List ℕ → List Statement) → ((n : ℕ) (name : List ℕ) → slice_get script.names n ≡ Some name → more name ≡ [])
      → ((name : List ℕ) → session_number script.names name ≡ length script.names → length script.names < MAX_SESSIONS → more name ≡ []) → HasItsLines (with_text script text) (λ name. said name ++ more name)
  told_text text more there new = record {
    lines = λ n name e. told.all.lines n name e ∙ sym (append-nil (said name)) ∙ ap (λ ss. said name ++ ss) (sym (there n name e));
    none = λ name is room. ap (λ ss. said name ++ ss) (new name is room) ∙ append-nil (said name) ∙ told.all.none name is room;
  }

  module _ (one : List ℕ) (statement : Statement) where
    other_name : (name : List ℕ) → (one ≡ name → ⊥) → cond (bytes_eq one name) (statement ∷ []) [] ≡ []
    other_name name not = ap (λ b. cond b (statement ∷ []) []) (differs one name not)

    past_told : is_past_sessions script.names one ≡ true → (text : List ℕ) → HasItsLines (with_text script text) (λ name. said name ++ cond (bytes_eq one name) (statement ∷ []) [])
    past_told past text =
        let many : MAX_SESSIONS ≤ session_number script.names one = leb-true MAX_SESSIONS (session_number script.names one) past in
        told_text text (λ name. cond (bytes_eq one name) (statement ∷ []) [])
        (λ n name e. other_name name
        (λ same. absurd (omega (arith, many, told.has.few, number_below script.names 0 n one (e ∙ ap Some (sym same))))))
        (λ name is room. absurd (omega (arith, many, room, number_most script.names 0 one)))

    -- the session is there
    module _ (old : session_number script.names one < length script.names) where
      is_there : slice_get script.names (session_number script.names one) ≡ Some one
      is_there = number_found script.names 0 (session_number script.names one) one (let e : session_number script.names one ≡ 0 + session_number script.names one = omega arith in e) old

      old_lines : (n : ℕ) (name : List ℕ) → slice_get script.names n ≡ Some name
          → map (λ (line : Line). line.statement) (lines_of n (script.lines ++ record { session = session_number script.names one; statement = statement } ∷ [])) ≡ said name ++ cond (bytes_eq one name) (statement ∷ []) []
      old_lines n name e =
          one_line_more n (session_number script.names one) script.lines statement ∙ ap (λ ss. ss ++ cond (eqb (session_number script.names one) n) (statement ∷ []) []) (told.all.lines n name e)
          ∙ ap (λ b. said name ++ cond b (statement ∷ []) []) (cases (cases_eq (session_number script.names one) n))
        where
          cases : (session_number script.names one ≡ n) ⊎ (session_number script.names one ≡ n → ⊥) → eqb (session_number script.names one) n ≡ bytes_eq one name
          cases (inl same) = eq-eqb (session_number script.names one) n same ∙ sym (same_name one name (some_same one name (sym is_there ∙ ap (slice_get script.names) same ∙ e)))
          cases (inr not) =
              ne_eqb (session_number script.names one) n not ∙ sym (differs one name (λ same. not (told.has.apart (session_number script.names one) n name (is_there ∙ ap Some same) e)))

      old_none : (name : List ℕ) → session_number script.names name ≡ length script.names → length script.names < MAX_SESSIONS → said name ++ cond (bytes_eq one name) (statement ∷ []) [] ≡ []
      old_none name is room =
          ap (λ ss. said name ++ ss) (other_name name (λ same. absurd (omega (arith, old, is, ap (session_number script.names) same)))) ∙ append-nil (said name) ∙ told.all.none name is room

    -- the session is made
    module _ (new : length script.names ≤ session_number script.names one) (room : session_number script.names one < MAX_SESSIONS) where
      is_next : session_number script.names one ≡ length script.names
      is_next = omega (arith, new, number_most script.names 0 one)

      new_lines : (n : ℕ) (name : List ℕ) → slice_get (script.names ++ one ∷ []) n ≡ Some name
          → map (λ (line : Line). line.statement) (lines_of n (script.lines ++ record { session = session_number script.names one; statement = statement } ∷ [])) ≡ said name ++ cond (bytes_eq one name) (statement ∷ []) []
      new_lines n name e = one_line_more n (session_number script.names one) script.lines statement ∙ cases (snoc_cases script.names one name n e)
        where
          cases : ((n < length script.names) × (slice_get script.names n ≡ Some name)) ⊎ ((n ≡ length script.names) × (name ≡ one))
              → map (λ (line : Line). line.statement) (lines_of n script.lines) ++ cond (eqb (session_number script.names one) n) (statement ∷ []) [] ≡ said name ++ cond (bytes_eq one name) (statement ∷ []) []
          cases (inl p) =
              let not : eqb (session_number script.names one) n ≡ false = ne_eqb (session_number script.names one) n (λ same. absurd (omega (arith, is_next, same, p.0))) in
              let other : bytes_eq one name ≡ false = differs one name (λ same. absurd (omega (arith, new, number_below script.names 0 n one (p.1 ∙ ap Some (sym same))))) in
              (λ i. told.all.lines n name p.1 i ++ cond (not i) (statement ∷ []) []) ∙ ap (λ b. said name ++ cond b (statement ∷ []) []) (sym other)
          cases (inr p) =
              let here : eqb (session_number script.names one) n ≡ true = eq-eqb (session_number script.names one) n (is_next ∙ sym p.0) in
              let there : bytes_eq one name ≡ true = same_name one name (sym p.1) in
              let before : map (λ (line : Line). line.statement) (lines_of n script.lines) ≡ [] =
              ap (λ k. map (λ (line : Line). line.statement) (lines_of k script.lines)) p.0 ∙ none_of_next script.lines (length script.names) told.has.within in
              let unsaid : said name ≡ [] = ap said p.1 ∙ told.all.none one is_next (omega (arith, is_next, room)) in
              (λ i. before i ++ cond (here i) (statement ∷ []) []) ∙ (λ i. sym unsaid i ++ cond (sym there i) (statement ∷ []) [])

      new_none : (name : List ℕ) → session_number (script.names ++ one ∷ []) name ≡ length (script.names ++ one ∷ []) → length (script.names ++ one ∷ []) < MAX_SESSIONS
          → said name ++ cond (bytes_eq one name) (statement ∷ []) [] ≡ []
      new_none name is few =
          let longer : length (script.names ++ one ∷ []) ≡ length script.names + 1 = length-append script.names (one ∷ []) in
          let other : one ≡ name → ⊥ = λ same. absurd (omega (arith, is, number_below (script.names ++ one ∷ []) 0 (length script.names) name (last_there script.names one ∙ ap Some same))) in
          let before : session_number script.names name ≡ 0 + length script.names = new_before script.names 0 one name (omega (arith, is, longer)) in
          ap (λ ss. said name ++ ss) (other_name name other) ∙ append-nil (said name) ∙ told.all.none name (omega (arith, before)) (omega (arith, few, longer))

    said_told : is_past_sessions script.names one ≡ false → (b : Bool) → nat_lt (session_number script.names one) (length script.names) ≡ b
        → HasItsLines (with_statement script one statement) (λ name. said name ++ cond (bytes_eq one name) (statement ∷ []) [])
    said_told not_past true is =
        subst
        (λ (names : List (List ℕ)).
        HasItsLines (record script { names = names; lines = script.lines ++ record { session = session_number script.names one; statement = statement } ∷ [] })
        (λ name. said name ++ cond (bytes_eq one name) (statement ∷ []) []))
        (ap (λ b. cond b script.names (script.names ++ one ∷ [])) (sym is))
        (record { lines = old_lines (ltb-true (session_number script.names one) (length script.names) is); none = old_none (ltb-true (session_number script.names one) (length script.names) is) })
    said_told not_past false is =
        let new = ltb-false (session_number script.names one) (length script.names) is in
        let room = leb-false MAX_SESSIONS (session_number script.names one) not_past in
        subst
        (λ (names : List (List ℕ)).
        HasItsLines (record script { names = names; lines = script.lines ++ record { session = session_number script.names one; statement = statement } ∷ [] })
        (λ name. said name ++ cond (bytes_eq one name) (statement ∷ []) []))
        (ap (λ b. cond b script.names (script.names ++ one ∷ [])) (sym is))
        (record { lines = new_lines new room; none = new_none new room })

    line_told : (b : Bool) → is_past_sessions script.names one ≡ b
        → HasItsLines (with_line script (Ok (plain.Say one statement))) (λ name. said name ++ cond (bytes_eq one name) (statement ∷ []) [])
    line_told true past =
        subst (λ (s : PlainScript). HasItsLines s (λ name. said name ++ cond (bytes_eq one name) (statement ∷ []) []))
        (sym (ap (λ b. cond b (with_text script (past_text one)) (with_statement script one statement)) past)) (past_told past (past_text one))
    line_told false not_past =
        subst (λ (s : PlainScript). HasItsLines s (λ name. said name ++ cond (bytes_eq one name) (statement ∷ []) []))
        (sym (ap (λ b. cond b (with_text script (past_text one)) (with_statement script one statement)) not_past))
        (said_told not_past (nat_lt (session_number script.names one) (length script.names)) refl)

  read_told : (read : Result PlainLine LineFault) → HasItsLines (with_line script read) (λ name. said name ++ said_by name read)
  read_told (Err fault) = told_text (unread_text fault) (λ name. []) (λ n name e. refl) (λ name is room. refl)
  read_told (Ok plain.Nothing) = record {
    lines = λ n name e. told.all.lines n name e ∙ sym (append-nil (said name));
    none = λ name is room. append-nil (said name) ∙ told.all.none name is room;
  }
  read_told (Ok (plain.Say one statement)) = line_told one statement (is_past_sessions script.names one) refl

  pub told_more : (read : Result PlainLine LineFault) → Told (with_line script read) (λ name. said name ++ said_by name read)
  told_more read = record { has = with_one script read told.has; all = read_told read }

told_all : (schema : Schema) (lines : List (List ℕ)) (script : PlainScript) (said : List ℕ → List Statement) → Told script said
    → Told (fold (λ s line. with_line s (plain_line_of schema line)) script lines) (λ name. said name ++ all_said_by schema lines name)
told_all schema [] script said told = told_same script said (λ name. said name ++ []) (λ name. append-nil (said name)) told
told_all schema (line ∷ lines) script said told =
    told_same (fold (λ s l. with_line s (plain_line_of schema l)) (with_line script (plain_line_of schema line)) lines)
    (λ name. (said name ++ said_by name (plain_line_of schema line)) ++ all_said_by schema lines name) (λ name. said name ++ all_said_by schema (line ∷ lines) name)
    (λ name. sym (append_assoc (said name) (said_by name (plain_line_of schema line)) (all_said_by schema lines name)))
    (told_all schema lines (with_line script (plain_line_of schema line)) (λ name. said name ++ said_by name (plain_line_of schema line)) (told_more script said told (plain_line_of schema line)))

-- each session has what the lines of its name say
pub sessions_have_their_lines : (schema : Schema) (lines : List (List ℕ)) → HasItsLines (plain_script schema lines) (all_said_by schema lines)
sessions_have_their_lines schema lines = (told_all schema lines no_lines (λ name. []) none).all
  where
    none : Told no_lines (λ name. [])
    none = record {
      has = has_its_sessions schema [];
      all = record { lines = λ n name e. absurd (cc); none = λ name is room. refl };
    }
