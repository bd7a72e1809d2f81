use Rattle.std.proofs.Common.{ap, ◌∙◌, arith}
use Rattle.disk_trait.specs.Recorded.{Recorded, with_write}
use Rattle.disk_trait.proofs.Notes.{write_whole, write_recorded}
use Rattle.disk_trait.proofs.history.History.note_write.Goals as goal

pub invariant_of-self : goal.invariant_of-self
invariant_of-self c = record {
  whole = write_whole _ _ _ _ _ _ c.in-Ok.ensures.items c.in-Ok-extend_from_slice.ensures.items c.self.invariant.whole;
  calls = omega (arith, c.in-Ok.ensures.len, c.push.ensures.capacity, ap (λ (p : Recorded). p.calls_left) c.self.view_is);
  bytes = omega (arith, c.in-Ok-extend_from_slice.ensures.len, c.extend_from_slice.ensures.capacity, ap (λ (p : Recorded). p.bytes_left) c.self.view_is);
}

pub returns : goal.returns
returns c =
    write_recorded _ _ _ _ _ _ c.in-Ok.ensures.items c.in-Ok-extend_from_slice.ensures.items c.self.invariant.whole _ _
    ∙ ap (λ (p : Recorded). with_write p c.args.at c.args.replaced.now) c.self.view_is
