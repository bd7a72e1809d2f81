use Rattle.std.proofs.Common.{◌≡◌, take, map, length}
use Rattle.std.proofs.Common.{true}
use Rattle.block_model.specs.SerialRun.{serial_run, replies_to, is_legal}
use Rattle.model_laws.specs.Answers.{answer_of}
use Rattle.model_laws.proofs.model.SerialModel.run.Given as goal

abbrev pub invariant-entries : goal.invariant-entries
invariant-entries l = record {
  legal : is_legal l.fn.self (take l.entry-index l.journal) ≡ true;
  state : l.self ≡ serial_run l.fn.self (take l.entry-index l.journal);
  answered : map answer_of l.answers ≡ replies_to l.fn.self (take l.entry-index l.journal);
  as_many : length l.answers ≡ l.entry-index;
}
