use Rattle.std.proofs.Common.{◌≡◌, ℕ, List, ◌++◌, map, codes, sym, subst, arith}
use Rattle.std.specs.Result.{OnOk}
use Rattle.std.proofs.lemmas.Grind.{common_steps}
use Rattle.std.proofs.lemmas.List.Folds.{flat_map-map}
use Rattle.value_text.specs.CanonicalTexts.{canonical_text, values_text}
use Rattle.query_words.specs.LineTexts.{spaced, table_name}
use Rattle.query_words.proofs.print.add_insert.Goals as goal

pub returns-clause-ok : goal.returns-clause-ok
returns-clause-ok c =
    let e : spaced (map canonical_text c.args.values.now) ≡ values_text c.args.values.now =
    flat_map-map (λ (word : List ℕ). codes " " ++ word) canonical_text c.args.values.now in
    let name : List ℕ = table_name c.args.schema.now c.args.table in
    let here : OnOk c.write_values.result (c.write_values.new.out.items ≡ c.args.out.now.items ++ (codes " " ++ (name ++ values_text c.args.values.now))) = grind (arith, common_steps) in
    subst (λ (text : List ℕ). OnOk c.write_values.result (c.write_values.new.out.items ≡ c.args.out.now.items ++ (codes " " ++ (name ++ text)))) (sym e) here
