-- the lines of a script, one after the other
use Rattle.std.proofs.Common.{◌≡◌, ℕ, zero, suc, ◌+◌, ◌≤◌, Bool, true, false, cond, eqb, List, [], ◌∷◌, ◌++◌, length, take, Result, Ok, Err, refl, ap, ◌∙◌, arith, length-append}
use Rattle.std.specs.Prelude.{fold}
use Rattle.block_model.specs.declared.schema.Schema.{Schema}
use Rattle.store_layout.specs.SessionNumbers.{is_past_sessions, session_number}
use Rattle.query_words.specs.declared.line.LineFault.{LineFault}
use Rattle.script_run.specs.Answers.{AreAnswers}
use Rattle.script_run.specs.Script.{clip, ended_from, last_line, rest_from, script_lines}
use Rattle.script_run.specs.declared.cursor.TheConstants.{KEPT}
use Rattle.plain_script.specs.Gathering.{Gathered, Gathers}
use Rattle.plain_script.specs.PlainLines.{plain_line_of}
use Rattle.plain_script.specs.PlainScripts.{PlainScript, no_lines, plain_script, with_line, with_statement, with_text}
use Rattle.plain_script.specs.declared.plain_line.PlainLine.{PlainLine}
use Rattle.plain_script.specs.declared.plain_line.PlainLine.TheVariants as plain

-- lines that are answered are gathered
pub gathered : (g g' : Gathered) (lines texts : List (List ℕ)) → AreAnswers Gathers g lines texts g'
    → g' ≡ record g { script = fold (λ s line. with_line s (plain_line_of g.schema line)) g.script lines }
gathered g g' [] [] e = e
gathered g g' [] (text ∷ texts) h = absurd h
gathered g g' (line ∷ lines) [] h = absurd h
gathered g g' (line ∷ lines) (text ∷ texts) (m, first, rest) =
    gathered m g' lines texts rest ∙ ap (λ (n : Gathered). record n { script = fold (λ s l. with_line s (plain_line_of n.schema l)) n.script lines }) first.1

-- ---- how many lines there are

-- a line makes one line at most
one_more : (script : PlainScript) (read : Result PlainLine LineFault) → length (with_line script read).lines ≤ length script.lines + 1
one_more script (Err fault) = omega arith
one_more script (Ok plain.Nothing) = omega arith
one_more script (Ok (plain.Say name statement)) = cases (is_past_sessions script.names name) _
  where
    cases : (b : Bool) (text : List ℕ) → length (cond b (with_text script text) (with_statement script name statement)).lines ≤ length script.lines + 1
    cases true text = omega arith
    cases false text = omega (arith, length-append script.lines (record { session = session_number script.names name; statement = statement } ∷ []))

lines_most : (schema : Schema) (lines : List (List ℕ)) (script : PlainScript) → length (fold (λ s line. with_line s (plain_line_of schema line)) script lines).lines ≤ length script.lines + length lines
lines_most schema [] script = omega arith
lines_most schema (line ∷ lines) script = omega (arith, one_more script (plain_line_of schema line), lines_most schema lines (with_line script (plain_line_of schema line)))

-- one where there is a last line
last_most : (xs : List ℕ) → length (last_line xs) ≤ 1
last_most [] = omega arith
last_most (x ∷ xs) = omega arith

last_longer : (xs ys : List ℕ) → length (last_line xs) ≤ 1 + length (last_line ys)
last_longer xs ys = omega (arith, last_most xs)

ended_most : (line bytes : List ℕ) → length (ended_from line bytes) + length (last_line (rest_from line bytes)) ≤ length bytes + length (last_line line)
ended_most line [] = omega arith
ended_most line (b ∷ bytes) = cases (eqb b 10) (ended_most [] bytes) (ended_most (line ++ b ∷ []) bytes)
  where
    cases : (c : Bool) → length (ended_from [] bytes) + length (last_line (rest_from [] bytes)) ≤ length bytes + length (last_line [])
        → length (ended_from (line ++ b ∷ []) bytes) + length (last_line (rest_from (line ++ b ∷ []) bytes)) ≤ length bytes + length (last_line (line ++ b ∷ []))
        → length (cond c (clip line ∷ ended_from [] bytes) (ended_from (line ++ b ∷ []) bytes)) + length (last_line (cond c (rest_from [] bytes) (rest_from (line ++ b ∷ []) bytes)))
        ≤ length (b ∷ bytes) + length (last_line line)
    cases true h k = omega (arith, h)
    cases false h k = omega (arith, k, last_longer (line ++ b ∷ []) line)

take_none : (n : ℕ) (xs : List ℕ) → length xs ≡ 0 → length (last_line (take n xs)) ≡ 0
take_none zero xs e = refl
take_none (suc n) [] e = refl
take_none (suc n) (x ∷ xs) e = absurd (omega (arith, e))

clip_last : (xs : List ℕ) → length (last_line (clip xs)) ≤ length (last_line xs)
unfolding clip
clip_last [] = omega (arith, take_none KEPT [] refl)
clip_last (x ∷ xs) = omega (arith, last_most (take KEPT (x ∷ xs)))

-- each line of a script takes a byte
pub lines_are_few : (script : List ℕ) → length (script_lines script) ≤ length script
lines_are_few script =
    omega (arith, length-append (ended_from [] script) (last_line (clip (rest_from [] script))), ended_most [] script, clip_last (rest_from [] script))

-- and so does each line of a worker
pub plain_lines_are_few : (schema : Schema) (script : List ℕ) → length (plain_script schema (script_lines script)).lines ≤ length script
plain_lines_are_few schema script = omega (arith, lines_most schema (script_lines script) no_lines, lines_are_few script)
