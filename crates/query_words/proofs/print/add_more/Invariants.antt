use Rattle.std.proofs.Common.{◌≡◌, ◌++◌, map, take}
use Rattle.value_text.specs.Appended.{IsLonger}
use Rattle.query_words.specs.Grammar.{words_of_more}
use Rattle.query_words.specs.LineTexts.{cond_of, spaced}
use Rattle.query_words.proofs.print.add_more.Given as goal

abbrev pub invariant-conds : goal.invariant-conds
invariant-conds l = record {
  all : l.out.items ≡ l.initial.out.items ++ spaced (words_of_more (map (cond_of l.columns) (take l.cond-index l.conds)));
  longer : IsLonger l.initial.out.items l.out.items;
}
