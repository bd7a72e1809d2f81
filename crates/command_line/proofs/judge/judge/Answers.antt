use Rattle.std.proofs.Common.{ℕ, List, [], None, subst, inl, inr, get_or}
use Rattle.std.proofs.lemmas.Result.{MatchResult-weaker}
use Rattle.value_text.specs.StopsAt.{StopsAt}
use Rattle.command_line.specs.DeclarationTexts.{bytes_of, IsDeclaration}
use Rattle.command_line.proofs.WordLemmas.{index_known}
use Rattle.command_line.proofs.Judging.{declares_any_table, declares_judged, declares_misnamed}
use Rattle.command_line.proofs.judge.judge.Goals as goal

pub returns-in-Ok-Table : goal.returns-in-Ok-Table
returns-in-Ok-Table c before h =
    declares_any_table c.args.autos c.word.result.now (get_or c.args.words.now c.args.word []) before c.in-Ok-Table.field-0 c.word.ensures c.in-Ok-Table._table c.in-Ok-Table.field-0-is c.in-Ok-Table.ensures

pub judge_index-requires-clause-index : goal.judge_index-requires-clause-index
judge_index-requires-clause-index c = (index_known c.args.autos None [] c.word.result.now c.in-Ok-Index.field-0 c.in-Ok-Index.index c.in-Ok-Index.field-0-is c.in-Ok-Index.ensures).is

pub returns-in-Ok-Index : goal.returns-in-Ok-Index
returns-in-Ok-Index c before h =
    let word : List ℕ = get_or c.args.words.now c.args.word [] in
    MatchResult-weaker c.judge_index.result (c.judge_index.ensures before h)
    (λ u k. declares_judged c.args.autos c.word.result.now word before c.in-Ok-Index.field-0 c.word.ensures c.in-Ok-Index.index c.in-Ok-Index.field-0-is c.in-Ok-Index.ensures k)
    (λ at k. inr (declares_misnamed c.args.autos c.word.result.now word before c.in-Ok-Index.field-0 c.word.ensures c.in-Ok-Index.index c.in-Ok-Index.field-0-is c.in-Ok-Index.ensures at k))

pub returns-in-Err : goal.returns-in-Err
returns-in-Err c before h = inl (subst (λ (b : List ℕ). StopsAt bytes_of (IsDeclaration c.args.autos) b c.in-Err.at) c.word.ensures c.in-Err.ensures)
