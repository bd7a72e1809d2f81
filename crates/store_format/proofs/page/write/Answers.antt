use Rattle.std.proofs.Common.{sym, ap, ◌∙◌}
use Rattle.block_model.specs.Padded.{padded}
use Rattle.store_format.specs.ControlPage.{control_bytes}
use Rattle.store_format.proofs.Layouts.{area_again}
use Rattle.store_format.proofs.page.write.Goals as goal

pub copy_from_slice-requires : goal.copy_from_slice-requires
copy_from_slice-requires c = c.requires.page ∙ sym c.page.ensures.whole

pub returns-clause-written : goal.returns-clause-written
unfolding control_bytes
returns-clause-written c = c.copy_from_slice.ensures.after ∙ c.page.ensures.page ∙ ap (padded 8192 0) c.write_layout.ensures.written

pub returns-clause-control : goal.returns-clause-control
returns-clause-control c = λ is_open. record {
  names = c.write_layout.ensures.names;
  limits = c.known.ensures.limits;
  bytes = area_again c.args.layout.now c.copy_from_slice.new.self c.args.gate c.args.area (returns-clause-written c) is_open;
}
