use Rattle.std.proofs.Common.{◌≡◌, ◌∙◌, sym, arith}
use Rattle.script_run.specs.declared.end.Stage.TheVariants.{Open, Spent}
use Rattle.script_run.proofs.Steps.{nothing_read}
use Rattle.script_run.proofs.reader.Lines.new.Goals as goal

pub invariant_of-result : goal.invariant_of-result
invariant_of-result c = record {
  size = sym c.in_ok-buffer.buffer.ok.0 ∙ c.in_ok-buffer.ensures.len;
  ordered = omega arith;
  inside = omega arith;
  within = omega arith;
  spent = λ e. let no : Open ≡ Spent = e in cc;
}

pub returns-clause-limit : goal.returns-clause-limit
returns-clause-limit c = nothing_read c.args.limit
