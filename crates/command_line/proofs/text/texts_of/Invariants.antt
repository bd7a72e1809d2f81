use Rattle.std.proofs.Common.{◌≡◌, map, take, true}
use Rattle.std.specs.List.{list_all}
use Rattle.std.specs.Str.{is_utf8}
use Rattle.command_line.proofs.text.texts_of.Given as goal

abbrev pub invariant-words : goal.invariant-words
invariant-words l = record {
  texts : map (λ w. w.now) l.texts.items ≡ take l.at l.words;
  utf8 : list_all is_utf8 (take l.at l.words) ≡ true;
}
