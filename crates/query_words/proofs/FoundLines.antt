-- What one look at the words of a line finds, as the answer.
use Rattle.std.proofs.Common.{◌≡◌, ℕ, ◌≤◌, Bool, true, false, cond, List, length, Option, None, Some, Result, Ok, Err, IfOk, refl, sym, ap, subst}
use Rattle.std.specs.Result.{is_err}
use Rattle.block_model.specs.declared.schema.Schema.{Schema}
use Rattle.query_words.specs.declared.line_length.TheConstants.{MAX_LINE}
use Rattle.query_words.specs.declared.verb.Verb.{Verb}
use Rattle.query_words.specs.Words.{PlacedWord, words_of}
use Rattle.query_words.specs.declared.line.Line.{Line}
use Rattle.query_words.specs.declared.line.LineFault.{LineFault}
use Rattle.query_words.specs.declared.line.LineFault.TheVariants as faults
use Rattle.query_words.specs.Grammar.{SaidLine}
use Rattle.query_words.specs.Lines.{ReadsAs, ReadsOnce, line_judged, line_in}
use Rattle.query_words.specs.Parsed.{said_of}
use Rattle.query_words.specs.Syntax.{stop_of}
use Rattle.query_words.proofs.FitLemmas.{KnowsValues, LineFitsBoth, words_fit}
use Rattle.query_words.proofs.LineLawLemmas.{within_limit}

once_counts : {T : Type 0} (r : Result T LineFault) (stop : Option ℕ) (said : Result T LineFault) → ReadsOnce r stop said → stop ≡ None → ReadsAs r said
once_counts (Ok x) stop said h e = h.1
once_counts (Err fault) stop said h e = h e

once_unstopped : {T : Type 0} (r : Result T LineFault) (stop : Option ℕ) (said : Result T LineFault) → ReadsOnce r stop said → cond (is_err r) stop None ≡ None → stop ≡ None
once_unstopped (Ok x) stop said h e = h.0
once_unstopped (Err fault) stop said h e = e

-- what one look finds is what the words say, unless it is a fault of words that stop somewhere
pub once_judged : (schema : Schema) (len : ℕ) (stop : Option ℕ) (said : Option (SaidLine PlacedWord)) (r : Result Line LineFault) → ReadsOnce r stop (line_judged schema len None said)
    → cond (is_err r) stop None ≡ None → ReadsAs r (line_judged schema len stop said)
once_judged schema len stop said r once kept =
    let nowhere : stop ≡ None = once_unstopped r stop (line_judged schema len None said) once kept in
    subst (λ (o : Option ℕ). ReadsAs r (line_judged schema len o said)) (sym nowhere) (once_counts r stop (line_judged schema len None said) once nowhere)

stops_there : (b : Bool) (stop : Option ℕ) (at : ℕ) → cond b stop None ≡ Some at → stop ≡ Some at
stops_there true stop at h = h
stops_there false stop at h = cc

-- a fault of words that stop at a word is one of syntax, there
pub stop_judged : (schema : Schema) (len : ℕ) (stop : Option ℕ) (said : Option (SaidLine PlacedWord)) (b : Bool) (at : ℕ) → cond b stop None ≡ Some at
    → line_judged schema len stop said ≡ Err (faults.Syntax at)
stop_judged schema len stop said b at h = ap (λ (o : Option ℕ). line_judged schema len o said) (stops_there b stop at h)

-- what the words of a line within the limit say is what the line says
pub judged_reads : (language : List Verb) (schema : Schema) (line : List ℕ) (r : Result Line LineFault) → length line ≤ MAX_LINE
    → ReadsAs r (line_judged schema (length line) (stop_of language (length line) (words_of line)) (said_of language (words_of line))) → ReadsAs r (line_in language schema line)
judged_reads language schema line r short h = subst (λ (told : Result Line LineFault). ReadsAs r told) (sym (within_limit language schema line short)) h

-- a line that one look finds fits the schema, and its verbs are the language's
pub once_fits : (language : List Verb) → KnowsValues → (schema : Schema) (len : ℕ) (words : List PlacedWord) (r : Result Line LineFault)
    → ReadsOnce r (stop_of language len words) (line_judged schema len None (said_of language words)) → IfOk r (LineFitsBoth language schema)
once_fits language knows schema len words (Ok read) h = words_fit language knows schema len words read h
once_fits language knows schema len words (Err fault) h = tt

-- what one look reads is what the line says, and it fits
pub once_said : (language : List Verb) → KnowsValues → (schema schema' : Schema) (line : List ℕ) (x : Line) → schema' ≡ schema → length line ≤ MAX_LINE
    → ReadsOnce (Ok x) (stop_of language (length line) (words_of line)) (line_judged schema' (length line) None (said_of language (words_of line)))
    → (line_in language schema line ≡ Ok x) × LineFitsBoth language schema x
once_said language knows schema schema' line x same short once =
    let h = subst (λ (s : Schema). ReadsOnce (Ok x) (stop_of language (length line) (words_of line)) (line_judged s (length line) None (said_of language (words_of line)))) same once in (
      judged_reads language schema line (Ok x) short (once_judged schema (length line) (stop_of language (length line) (words_of line)) (said_of language (words_of line)) (Ok x) h refl),
      once_fits language knows schema (length line) (words_of line) (Ok x) h,
    )
