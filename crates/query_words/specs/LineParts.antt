-- words and what is left of a line, without where they lie in memory
use Rattle.std.specs.Prelude.{List, []}
use Rattle.query_words.specs.declared.word.Word.{Word}
use Rattle.query_words.specs.declared.word.Rest.{Rest}
use Rattle.query_words.specs.Words.{PlacedWord, words_from}

abbrev pub word_here : Word → PlacedWord
word_here word = record { text = word.text.now; at = word.at }

-- the words of what is left
abbrev pub words_left : Rest → List PlacedWord
words_left rest = words_from rest.at [] rest.bytes.now
