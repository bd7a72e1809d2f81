-- the words of a condition, without where they lie in memory
use Rattle.query_words.specs.Words.{PlacedWord}
use Rattle.query_words.specs.LineParts.{word_here}
use Rattle.query_words.specs.declared.query.CondWords.{CondWords}
use Rattle.query_words.specs.declared.query.CondWords.TheVariants as words
use Rattle.query_words.specs.Grammar.{SaidCond, Compared, Null, NotNull}

abbrev pub cond_here : CondWords → SaidCond PlacedWord
cond_here (words.Compared column op value) = Compared (word_here column) (word_here op) (word_here value)
cond_here (words.Null column) = Null (word_here column)
cond_here (words.NotNull column) = NotNull (word_here column)
