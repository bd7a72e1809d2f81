use Rattle.std.proofs.Common.{◌≡◌, slice_index, sym, ap, ◌∙◌}
use Rattle.std.proofs.lemmas.Bool.{false≢true}
use Rattle.std.proofs.lemmas.Slice.Eq.{bytes_eq-Decides}
use Rattle.block_model.specs.Padded.{padded}
use Rattle.store_format.specs.ControlPage.{control_bytes, written_bytes}
use Rattle.store_format.proofs.page.is_control_of.Goals as goal

-- the page that was written
made : (c : goal.After-eq) → c.page.result.now ≡ control_bytes c.args.layout.now 1 (slice_index c.args.bytes.now 1)
unfolding control_bytes
made c =
    c.page.ensures.page ∙ ap (padded 8192 0) (c.write_layout.ensures.written ∙ ap (written_bytes c.args.layout.now 1) c.area_byte.ensures)

pub returns-clause-same : goal.returns-clause-same
returns-clause-same c = λ same. record {
  names = c.write_layout.ensures.names;
  limits = c.known.ensures.limits;
  bytes = sym ((bytes_eq-Decides c.page.result.now c.args.bytes.now).0 (sym c.eq.ensures ∙ same)) ∙ made c;
}

pub returns-clause-other : goal.returns-clause-other
returns-clause-other c = λ other has.
    false≢true (sym other ∙ c.eq.ensures ∙ (bytes_eq-Decides c.page.result.now c.args.bytes.now).1 (made c ∙ sym has.bytes))
