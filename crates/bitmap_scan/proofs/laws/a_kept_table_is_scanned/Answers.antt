use Rattle.bitmap_scan.proofs.KeptTable.{undamaged}
use Rattle.bitmap_scan.proofs.laws.a_kept_table_is_scanned.Goals as goal

pub returns : goal.returns
returns c = λ layout pages locks blocks s hand beside u of known task kept damage.
    undamaged layout pages locks blocks hand beside u of.indexes kept c.a_sound_index_is_not_misread.ensures.named c.a_sound_index_is_not_misread.ensures.read c.index_stays_covered.ensures.read s known.at task damage
