-- how sessions get their numbers, and what is so of every script
use Rattle.std.proofs.Common.{◌≡◌, ℕ, zero, suc, ◌+◌, ◌<◌, ◌≤◌, Bool, true, false, cond, List, [], ◌∷◌, ◌++◌, length, Some, Result, Ok, Err, ◌⊎◌, inl, inr, refl, sym, ap, ◌∙◌, subst, arith, length-append}
use Rattle.std.specs.Prelude.{slice_get, All, fold, nat_lt}
use Rattle.std.specs.Str.{bytes_eq}
use Rattle.std.proofs.lemmas.Bool.{leb-false, ltb-false, ltb-true}
use Rattle.std.proofs.lemmas.List.Elements.{All-append, All-weaker}
use Rattle.std.proofs.lemmas.Slice.Eq.{bytes_eq-Decides}
use Rattle.block_model.specs.declared.schema.Schema.{Schema}
use Rattle.store_layout.specs.declared.limits.TheConstants.{MAX_SESSIONS}
use Rattle.store_layout.specs.declared.statement.Statement.{Statement}
use Rattle.store_layout.specs.SessionNumbers.{is_past_sessions, session_from, session_number}
use Rattle.query_words.specs.declared.line.LineFault.{LineFault}
use Rattle.transcripts.specs.Transcript.{Line}
use Rattle.plain_script.specs.PlainLines.{plain_line_of}
use Rattle.plain_script.specs.PlainScripts.{HasItsSessions, PlainScript, no_lines, past_text, plain_script, with_line, with_statement, with_text}
use Rattle.plain_script.specs.declared.plain_line.PlainLine.{PlainLine}
use Rattle.plain_script.specs.declared.plain_line.PlainLine.TheVariants as plain
use Rattle.plain_script.proofs.ListLemmas.{snoc_cases, some_same}

-- what holds of one holds of each of one
pub all_one : (P : Line → Type 0) (x : Line) → P x → All P (x ∷ [])
all_one P x h zero d within = h
all_one P x h (suc k) d within = absurd (omega (arith, within))

-- the number of a name is one of theirs, or the next
pub number_most : (names : List (List ℕ)) (n : ℕ) (name : List ℕ) → session_from names n name ≤ n + length names
number_most [] n name = omega arith
number_most (m ∷ ms) n name = cases (bytes_eq m name) (number_most ms (n + 1) name)
  where
    cases : (b : Bool) → session_from ms (n + 1) name ≤ (n + 1) + length ms → cond b n (session_from ms (n + 1) name) ≤ n + suc (length ms)
    cases true h = omega arith
    cases false h = omega (arith, h)

-- a name that is there has one of their numbers
pub number_below : (names : List (List ℕ)) (n i : ℕ) (name : List ℕ) → slice_get names i ≡ Some name → session_from names n name < n + length names
number_below [] n i name e = absurd (cc)
number_below (m ∷ ms) n zero name e =
    let same : bytes_eq m name ≡ true = (bytes_eq-Decides m name).1 (some_same m name e) in
    subst (λ b. cond b n (session_from ms (n + 1) name) < n + suc (length ms)) (sym same) (let low : n < n + suc (length ms) = omega arith in low)
number_below (m ∷ ms) n (suc i) name e = cases (bytes_eq m name) (number_below ms (n + 1) i name e)
  where
    cases : (b : Bool) → session_from ms (n + 1) name < (n + 1) + length ms → cond b n (session_from ms (n + 1) name) < n + suc (length ms)
    cases true h = omega arith
    cases false h = omega (arith, h)

-- what is so of names behind one more
module _ (names : List (List ℕ)) (name : List ℕ) (fresh : length names ≤ session_number names name)
    (apart : (i j : ℕ) (one : List ℕ) → slice_get names i ≡ Some one → slice_get names j ≡ Some one → i ≡ j) where
  not_there : (i : ℕ) (one : List ℕ) → slice_get names i ≡ Some one → one ≡ name → ⊥
  not_there i one e same = absurd (omega (arith, fresh, number_below names 0 i name (e ∙ ap Some same)))

  apart_more : (i j : ℕ) (one : List ℕ) → slice_get (names ++ name ∷ []) i ≡ Some one → slice_get (names ++ name ∷ []) j ≡ Some one → i ≡ j
  apart_more i j one e f = cases (snoc_cases names name one i e) (snoc_cases names name one j f)
    where
      cases : ((i < length names) × (slice_get names i ≡ Some one)) ⊎ ((i ≡ length names) × (one ≡ name))
          → ((j < length names) × (slice_get names j ≡ Some one)) ⊎ ((j ≡ length names) × (one ≡ name)) → i ≡ j
      cases (inl p) (inl q) = apart i j one p.1 q.1
      cases (inl p) (inr q) = absurd (not_there i one p.1 q.1)
      cases (inr p) (inl q) = absurd (not_there j one q.1 p.1)
      cases (inr p) (inr q) = p.0 ∙ sym q.0

-- a line of the session, which is made where it is new
says : (script : PlainScript) (name : List ℕ) (statement : Statement) → HasItsSessions script → is_past_sessions script.names name ≡ false → HasItsSessions (with_statement script name statement)
says script name statement has not_past = by_case (nat_lt (session_number script.names name) (length script.names)) refl
  where
    by_case : (b : Bool) → nat_lt (session_number script.names name) (length script.names) ≡ b → HasItsSessions (with_statement script name statement)
    by_case true old =
        let there : session_number script.names name < length script.names = ltb-true (session_number script.names name) (length script.names) old in
        subst (λ (names : List (List ℕ)). HasItsSessions (record script { names = names; lines = script.lines ++ record { session = session_number script.names name; statement = statement } ∷ [] }))
        (ap (λ b. cond b script.names (script.names ++ name ∷ [])) (sym old))
        (record {
          few = has.few;
          apart = has.apart;
          within = All-append (λ (line : Line). line.session < length script.names) script.lines (record { session = session_number script.names name; statement = statement } ∷ []) has.within (all_one (λ (line : Line). line.session < length script.names) (record { session = session_number script.names name; statement = statement }) there);
        })
    by_case false new =
        let fresh : length script.names ≤ session_number script.names name = ltb-false (session_number script.names name) (length script.names) new in
        let room : session_number script.names name < MAX_SESSIONS = leb-false MAX_SESSIONS (session_number script.names name) not_past in
        let longer : length (script.names ++ name ∷ []) ≡ length script.names + 1 = length-append script.names (name ∷ []) in
        let most : session_number script.names name ≤ 0 + length script.names = number_most script.names 0 name in
        subst (λ (names : List (List ℕ)). HasItsSessions (record script { names = names; lines = script.lines ++ record { session = session_number script.names name; statement = statement } ∷ [] }))
        (ap (λ b. cond b script.names (script.names ++ name ∷ [])) (sym new))
        (record {
          few = omega (arith, fresh, room, longer);
          apart = apart_more script.names name fresh has.apart;
          within = All-append (λ (line : Line). line.session < length (script.names ++ name ∷ [])) script.lines (record { session = session_number script.names name; statement = statement } ∷ [])
              (All-weaker (λ (line : Line). line.session < length script.names) (λ (line : Line). line.session < length (script.names ++ name ∷ [])) (λ line below. omega (arith, below, longer)) script.lines has.within)
              (all_one (λ (line : Line). line.session < length (script.names ++ name ∷ [])) (record { session = session_number script.names name; statement = statement }) (omega (arith, most, longer)));
        })

pub with_one : (script : PlainScript) (read : Result PlainLine LineFault) → HasItsSessions script → HasItsSessions (with_line script read)
with_one script (Err fault) has = record { few = has.few; apart = has.apart; within = has.within }
with_one script (Ok plain.Nothing) has = has
with_one script (Ok (plain.Say name statement)) has = by_case (is_past_sessions script.names name) refl
  where
    by_case : (b : Bool) → is_past_sessions script.names name ≡ b → HasItsSessions (with_line script (Ok (plain.Say name statement)))
    by_case true past = subst HasItsSessions (sym (ap (λ b. cond b (with_text script (past_text name)) (with_statement script name statement)) past)) (record { few = has.few; apart = has.apart; within = has.within })
    by_case false not_past = subst HasItsSessions (sym (ap (λ b. cond b (with_text script (past_text name)) (with_statement script name statement)) not_past)) (says script name statement has not_past)

with_all : (schema : Schema) (lines : List (List ℕ)) (script : PlainScript) → HasItsSessions script → HasItsSessions (fold (λ s line. with_line s (plain_line_of schema line)) script lines)
with_all schema [] script has = has
with_all schema (line ∷ lines) script has = with_all schema lines (with_line script (plain_line_of schema line)) (with_one script (plain_line_of schema line) has)

-- each script has its sessions
pub has_its_sessions : (schema : Schema) (lines : List (List ℕ)) → HasItsSessions (plain_script schema lines)
has_its_sessions schema lines = with_all schema lines no_lines (record { few = omega arith; apart = λ i j name e f. absurd (none i e); within = λ k d h. absurd (omega (arith, h)) })
  where
    none : {name : List ℕ} (i : ℕ) → slice_get [] i ≡ Some name → ⊥
    none i e = absurd (cc)
