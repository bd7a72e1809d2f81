use Rattle.std.proofs.Common.{ℕ, ◌*◌, ◌/◌, Bool, List, false, length, ◌∙◌, ap}
use Rattle.std.proofs.lemmas.List.{length-replicate}
use Rattle.block_model.specs.declared.limits.TheConstants.{PAGE_SIZE}
use Rattle.recovery.proofs.Sizes.{whole_disk}
use Rattle.recovery.proofs.beginning.room_for_pages.Goals as goal

pub returns-clause-marks : goal.returns-clause-marks
returns-clause-marks c =
    ap (λ (l : List Bool). PAGE_SIZE * length l) (c.in_ok-marks.ensures.items_if_clones_equal (λ y is. is))
    ∙ ap (λ (n : ℕ). PAGE_SIZE * n) (length-replicate (c.disk_size.result / PAGE_SIZE) false)
    ∙ ap (λ (n : ℕ). PAGE_SIZE * (n / PAGE_SIZE)) c.disk_size.ensures
    ∙ whole_disk c.args.layout.now
