use Rattle.bitmap_scan.proofs.Listing.{one_more}
use Rattle.summary_directory.specs.Verdicts.{all_keep}
use Rattle.summary_directory.proofs.listing.list.Goals as goal

pub candidates-preserved : goal.candidates-preserved
candidates-preserved c = one_more (all_keep c.args.verdicts.now) c.candidates.block c.candidates.blocks c.list_if.new.blocks c.candidates.invariant c.are_kept.result c.are_kept.ensures c.in_ok-list_if.ensures
