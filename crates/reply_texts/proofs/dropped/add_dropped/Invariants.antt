use Rattle.std.proofs.Common.{◌≡◌, ◌++◌, take}
use Rattle.value_text.specs.Appended.{IsLonger}
use Rattle.reply_texts.specs.DroppedTexts.{dropped_text}
use Rattle.reply_texts.proofs.dropped.add_dropped.Given as goal

abbrev pub invariant-dropped : goal.invariant-dropped
invariant-dropped l = record {
  all : l.out.items ≡ l.initial.out.items ++ dropped_text (take l.one-index l.dropped);
  longer : IsLonger l.initial.out.items l.out.items;
}
