use Rattle.std.proofs.Common.{◌∙◌, sym, ap, map, Bor, [], arith}
use Rattle.std.specs.Str.{is_utf8}
use Rattle.std.proofs.lemmas.Bool.{false_from_ne_true}
use Rattle.std.proofs.lemmas.List.Folds.{list_all_at}
use Rattle.std.proofs.lemmas.Str.{IsUtf8-from_is_utf8, is_utf8-from_IsUtf8}
use Rattle.command_line.specs.CommandWords.{Text}
use Rattle.command_line.proofs.TextLemmas.{text_more, utf8_more}
use Rattle.command_line.proofs.text.texts_of.Goals as goal

pub returns-in-Err-clause-usage : goal.returns-in-Err-clause-usage
returns-in-Err-clause-usage c = λ u.
    list_all_at is_utf8 c.args.words.now c.words.at [] (omega arith)
    (ap is_utf8 (sym c.word.ensures) ∙ false_from_ne_true (is_utf8 c.word.result.now) (λ h. c.in-Err.ensures.cases.0 (IsUtf8-from_is_utf8 c.word.result.now h)))

pub words-preserved : goal.words-preserved
words-preserved c = record {
  texts = ap (map (λ (w : Bor Text). w.now)) c.in_ok-push.ensures.items
      ∙ text_more c.words.texts.items c.args.words.now c.words.at c.in-Ok.text (omega arith) (c.in-Ok.ensures.cases.0 ∙ c.word.ensures) c.words.invariant.texts;
  utf8 = utf8_more c.args.words.now c.words.at (omega arith) c.words.invariant.utf8
      (ap is_utf8 (sym c.word.ensures) ∙ is_utf8-from_IsUtf8 c.word.result.now c.in-Ok.ensures.cases.1);
}
