use Rattle.std.proofs.Common.{None, Ok, length, subst, sym, arith}
use Rattle.std.proofs.lemmas.Result.{IfOk-weaker}
use Rattle.block_model.specs.declared.schema.Schema.{Schema}
use Rattle.query_words.specs.Words.{words_of}
use Rattle.query_words.specs.declared.line.Line.{Line}
use Rattle.query_words.specs.LineFits.{IsLineFor}
use Rattle.query_words.specs.Lines.{ReadsAs, ReadsOnce, line_judged}
use Rattle.query_words.specs.Parsed.{said_of}
use Rattle.query_words.specs.SmallSchemas.{IsSmallSchema}
use Rattle.query_words.specs.Syntax.{stop_of}
use Rattle.query_words.proofs.FitLemmas.{KnowsValues, LineFitsBoth}
use Rattle.query_words.proofs.FoundLines.{judged_reads, once_said}
use Rattle.query_words.proofs.SmallSchemaLemmas.{small_schema}
use Rattle.query_words.proofs.line.read_line_in.Goals as goal

pub read_insert-requires-clause-schema : goal.read_insert-requires-clause-schema
read_insert-requires-clause-schema c =
    subst (λ (s : Schema). IsSmallSchema s) (sym c.schema-schema.ensures) (small_schema c.args.layout.now.schema c.args.layout.now.sizes c.known.ensures.limits)

pub read_any-requires : goal.read_any-requires
read_any-requires c =
    subst (λ (s : Schema). IsSmallSchema s) (sym c.schema-schema.ensures) (small_schema c.args.layout.now.schema c.args.layout.now.sizes c.known.ensures.limits)

pub returns-in-Some : goal.returns-in-Some
returns-in-Some c =
    let knows : KnowsValues = record { denoted = c.value_of_is_denoted.ensures; of_kind = c.denoted_is_of_kind.ensures } in
    let said = once_said c.args.language.now knows c.args.layout.now.schema c.schema-schema.result.now c.args.line.now _
    c.schema-schema.ensures (omega (arith, c.if-line-gt-MAX_LINE.false)) c.in-Some.ensures in
    record { reads = said.0; fits = said.1.fits; language = said.1.spoken }

pub returns : goal.returns
returns c =
    let knows : KnowsValues = record { denoted = c.value_of_is_denoted.ensures; of_kind = c.denoted_is_of_kind.ensures } in
    let fits = IfOk-weaker c.read_any.result
    (λ (read : Line). ReadsOnce (Ok read) (stop_of c.args.language.now (length c.args.line.now) (words_of c.args.line.now)) (line_judged c.schema-schema.result.now (length c.args.line.now) None (said_of c.args.language.now (words_of c.args.line.now))))
    (LineFitsBoth c.args.language.now c.args.layout.now.schema)
    (λ read once. (once_said c.args.language.now knows c.args.layout.now.schema c.schema-schema.result.now c.args.line.now read c.schema-schema.ensures (omega (arith, c.if-line-gt-MAX_LINE.false)) once).1)
    c.read_any.ensures.once in record {
      reads =
          judged_reads c.args.language.now c.args.layout.now.schema c.args.line.now c.read_any.result (omega (arith, c.if-line-gt-MAX_LINE.false))
          (subst
          (λ (s : Schema). ReadsAs c.read_any.result (line_judged s (length c.args.line.now) (stop_of c.args.language.now (length c.args.line.now) (words_of c.args.line.now)) (said_of c.args.language.now (words_of c.args.line.now))))
          c.schema-schema.ensures c.read_any.ensures.reads);
      fits = IfOk-weaker c.read_any.result (LineFitsBoth c.args.language.now c.args.layout.now.schema) (IsLineFor c.args.layout.now.schema) (λ line both. both.fits) fits;
      language = IfOk-weaker c.read_any.result (LineFitsBoth c.args.language.now c.args.layout.now.schema) _ (λ line both. both.spoken) fits;
    }
