-- what a line of a script says
use Rattle.std.specs.Prelude.{◌≡◌, ℕ, ◌+◌, ◌<◌, ◌≤◌, Bool, true, false, nat_lt, List, length, take, refl, Option, None, Some, Result, Ok, Err, IsOk, if◌then◌else◌}
use Rattle.std.proofs.Common.{arith, sym, ap, ◌∙◌}
use Rattle.std.proofs.lemmas.Bool.{ltb-true, ltb-false, lt-ltb}
use Rattle.std.proofs.lemmas.List.{take_all, length-take}
use Rattle.block_model.specs.declared.schema.Schema.{Schema}
use Rattle.query_words.specs.declared.line_length.TheConstants.{MAX_LINE}
use Rattle.query_words.specs.declared.verb.Verb.{Verb}
use Rattle.query_words.specs.Words.{PlacedWord, words_of}
use Rattle.query_words.specs.Verbs.{answered}
use Rattle.query_words.specs.declared.line.Line.{Line}
use Rattle.query_words.specs.declared.line.Line.TheVariants as lines
use Rattle.query_words.specs.declared.line.LineFault.{LineFault}
use Rattle.query_words.specs.declared.line.LineFault.TheVariants as faults
use Rattle.query_words.specs.Grammar.{SaidLine, Nothing, Say}
use Rattle.query_words.specs.Syntax.{stop_of}
use Rattle.query_words.specs.Parsed.{said_of}
use Rattle.query_words.specs.Statements.{◌>>=◌, order_said}

-- the line that is said where these tables are declared, or the fault of the first word that has one
abbrev pub line_said : Schema → ℕ → SaidLine PlacedWord → Result Line LineFault
line_said schema length (Nothing words) = Ok lines.Nothing
line_said schema length (Say session order) = order_said schema length order >>= λ o. Ok (lines.Say session.text o)

-- Syntax is judged first, over the whole line. The last case is for words that stop nowhere and yet say nothing: none do.
abbrev pub line_judged : Schema → ℕ → Option ℕ → Option (SaidLine PlacedWord) → Result Line LineFault
line_judged schema length (Some at) said = Err (faults.Syntax at)
line_judged schema length None (Some said) = line_said schema length said
line_judged schema length None None = Err (faults.Syntax length)

abbrev pub line_of_words : List Verb → Schema → ℕ → List PlacedWord → Result Line LineFault
line_of_words language schema length words = line_judged schema length (stop_of language length words) (said_of language words)

-- a line past the limit is refused there, whatever it holds
abbrev pub line_within : Bool → List Verb → Schema → List ℕ → Result Line LineFault
line_within too_long language schema line =
    if too_long then Err (faults.Syntax MAX_LINE) else line_of_words language schema (length line) (words_of line)

-- the line of the language, or why it isn't one, with the place of the fault
unfoldable pub line_in : List Verb → Schema → List ℕ → Result Line LineFault
line_in language schema line = line_within (nat_lt MAX_LINE (length line)) language schema line

-- the same in the language that the engine answers today
abbrev pub line_of : Schema → List ℕ → Result Line LineFault
line_of schema line = line_in answered schema line

-- The answer is what is said. Want of memory may come in place of what is said without a fault.
abbrev pub ReadsAs : {T : Type 0} → Result T LineFault → Result T LineFault → Type 0
ReadsAs (Ok x) said = said ≡ Ok x
ReadsAs (Err faults.Memory) said = IsOk said
ReadsAs (Err fault) said = said ≡ Err fault

-- What one look at words finds: what is said of words that stop nowhere, or a fault, which counts where they stop nowhere.
abbrev pub ReadsOnce : {T : Type 0} → Result T LineFault → Option ℕ → Result T LineFault → Type 0
ReadsOnce (Ok x) stop said = (stop ≡ None) × (said ≡ Ok x)
ReadsOnce {T = T} (Err fault) stop said = stop ≡ None → ReadsAs {T = T} (Err fault) said

-- a line above the limit is refused
pub line_in_long : (language : List Verb) (schema : Schema) (line : List ℕ) → MAX_LINE < length line → line_in language schema line ≡ Err (faults.Syntax MAX_LINE)
unfolding line_in
line_in_long language schema line long = ap (λ b. line_within b language schema line) (lt-ltb MAX_LINE (length line) long)

take_cases : (language : List Verb) (schema : Schema) (line : List ℕ) (b : Bool) → nat_lt MAX_LINE (length line) ≡ b
    → line_in language schema (take (MAX_LINE + 1) line) ≡ line_in language schema line
take_cases language schema line true long =
    let above : MAX_LINE < length line = ltb-true MAX_LINE (length line) long in
    let still : MAX_LINE < length (take (MAX_LINE + 1) line) = omega (arith, length-take (MAX_LINE + 1) line) in
    line_in_long language schema (take (MAX_LINE + 1) line) still ∙ sym (line_in_long language schema line above)
take_cases language schema line false short =
    let within : length line ≤ MAX_LINE + 1 = omega (arith, ltb-false MAX_LINE (length line) short) in
    ap (line_in language schema) (take_all (MAX_LINE + 1) line within)

-- a line above the limit is known by its first bytes
pub line_in-take : (language : List Verb) (schema : Schema) (line : List ℕ) → line_in language schema (take (MAX_LINE + 1) line) ≡ line_in language schema line
line_in-take language schema line = take_cases language schema line (nat_lt MAX_LINE (length line)) refl

-- the same in the engine's language
pub line_of-take : (schema : Schema) (line : List ℕ) → line_of schema (take (MAX_LINE + 1) line) ≡ line_of schema line
line_of-take schema line = line_in-take answered schema line
