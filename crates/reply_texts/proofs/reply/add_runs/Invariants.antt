use Rattle.std.proofs.Common.{◌≡◌, ◌++◌, drop}
use Rattle.std.specs.List.{flat_map}
use Rattle.value_text.specs.Appended.{IsLonger}
use Rattle.reply_texts.specs.Texts.{runs_from, run_text}
use Rattle.reply_texts.proofs.reply.add_runs.Given as goal

abbrev pub invariant-numbers : goal.invariant-numbers
invariant-numbers l = record {
  longer : IsLonger l.fn.out.items l.out.items;
  runs : l.out.items ++ flat_map run_text (runs_from l.first l.last (drop l.block-index l.blocks)) ≡ l.fn.out.items ++ flat_map run_text (runs_from l.start l.start l.blocks);
}
