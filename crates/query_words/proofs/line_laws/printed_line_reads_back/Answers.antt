use Rattle.std.proofs.Common.{subst}
use Rattle.block_model.specs.declared.schema.Schema.{Schema}
use Rattle.query_words.specs.LineLaws.{HasNames}
use Rattle.query_words.proofs.PrintedLines.{read_back}
use Rattle.query_words.proofs.line_laws.printed_line_reads_back.Goals as goal

pub returns : goal.returns
returns c =
    read_back c.args.language.now (record { denoted = c.value_of_is_denoted.ensures; canonical = c.canonical_text_denotes.ensures })
    c.args.layout.now.schema c.args.layout.now.sizes c.args.line.now c.known.ensures.limits
    (subst (λ (s : Schema). HasNames s) c.schema.ensures c.names_known.ensures) c.requires.fits c.requires.language c.line_known.ensures.named c.line_known.ensures.typed
