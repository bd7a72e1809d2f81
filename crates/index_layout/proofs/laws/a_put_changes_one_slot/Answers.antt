use Rattle.index_layout.proofs.SlotLaws.{put_here, put_others, trimmed_same}
use Rattle.index_layout.proofs.laws.a_put_changes_one_slot.Goals as goal

pub returns : goal.returns
returns c = record { put = put_here; others = put_others; trimmed = trimmed_same }
