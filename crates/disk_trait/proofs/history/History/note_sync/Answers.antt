use Rattle.std.proofs.Common.{ap, ◌∙◌, arith}
use Rattle.disk_trait.specs.Recorded.{Recorded, with_sync}
use Rattle.disk_trait.proofs.Notes.{sync_whole, sync_recorded}
use Rattle.disk_trait.proofs.history.History.note_sync.Goals as goal

pub invariant_of-self : goal.invariant_of-self
invariant_of-self c = record {
  whole = sync_whole _ _ _ c.in-Ok.ensures.items c.self.invariant.whole;
  calls = omega (arith, c.in-Ok.ensures.len, c.push.ensures.capacity, ap (λ (p : Recorded). p.calls_left) c.self.view_is);
  bytes = c.self.invariant.bytes;
}

pub returns : goal.returns
returns c = sync_recorded _ _ _ c.in-Ok.ensures.items _ _ ∙ ap with_sync c.self.view_is
