use Rattle.bitmap_scan.proofs.Honest.{honest}
use Rattle.bitmap_scan.proofs.honesty.scans_are_honest.Goals as goal

pub returns : goal.returns
returns c = λ layout pages locks blocks u hand beside s limits own task. honest layout pages locks blocks u hand beside limits own c.tuples_exclude_what_they_do_not_keep.ensures s task
