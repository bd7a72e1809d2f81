use Rattle.std.proofs.Common.{◌≡◌, [], length}
use Rattle.disk_trait.specs.AreWithin.{AreWithin}
use Rattle.disk_trait.specs.Undone.{undone}
use Rattle.disk_trait.specs.Noted.{events_onto, replaced_count}
use Rattle.disk_trait.proofs.history.put_back.Given as goal

-- what is left to put back leads to the same bytes
abbrev pub invariant-writes : goal.invariant-writes
invariant-writes l =
    record {
      whole : replaced_count l.left ≡ length l.kept;
      within : AreWithin (length l.image.items) (events_onto [] l.left l.kept);
      same : undone l.image.items (events_onto [] l.left l.kept) ≡ undone l.fn.image.items (events_onto [] l.fn.calls l.fn.replaced);
    }

abbrev pub decreases-writes : goal.decreases-writes
decreases-writes l = length l.left
