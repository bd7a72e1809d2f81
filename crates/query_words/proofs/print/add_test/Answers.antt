use Rattle.std.proofs.Common.{◌≡◌, ℕ, List, [], ◌∷◌, ◌++◌, sym, subst, arith}
use Rattle.std.specs.Result.{OnOk}
use Rattle.std.proofs.lemmas.Grind.{common_steps}
use Rattle.value_text.specs.CanonicalTexts.{canonical_text}
use Rattle.query_words.specs.Operators.{op_text}
use Rattle.query_words.specs.LineTexts.{spaced}
use Rattle.query_words.proofs.LineTextLemmas.{compared_words}
use Rattle.query_words.proofs.print.add_test.Goals as goal

pub returns-in_default-clause-ok : goal.returns-in_default-clause-ok
returns-in_default-clause-ok c =
    let e = compared_words c.args.column.now c.args.op c.args.key.now c.in_default.not-IsNull c.in_default.not-NotNull in
    let here : OnOk c.add_key.result (c.add_key.new.out.items ≡ c.args.out.now.items ++ spaced (c.args.column.now ∷ op_text c.args.op ∷ canonical_text c.args.key.now ∷ [])) =
    grind (arith, common_steps) in
    subst (λ (ws : List (List ℕ)). OnOk c.add_key.result (c.add_key.new.out.items ≡ c.args.out.now.items ++ spaced ws)) (sym e) here
