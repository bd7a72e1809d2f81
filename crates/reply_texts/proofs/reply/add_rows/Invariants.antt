use Rattle.std.proofs.Common.{◌≡◌, ◌++◌, take}
use Rattle.std.specs.List.{flat_map}
use Rattle.value_text.specs.Appended.{IsLonger}
use Rattle.reply_texts.specs.Texts.{row_text}
use Rattle.reply_texts.proofs.reply.add_rows.Given as goal

abbrev pub invariant-rows : goal.invariant-rows
invariant-rows l = record {
  texts : l.out.items ≡ l.fn.out.items ++ flat_map (row_text l.name) (take l.row-index l.rows);
  longer : IsLonger l.fn.out.items l.out.items;
}
