use Rattle.coverage.proofs.FullApart.{room_not_full, room_not_full_swap}
use Rattle.coverage.proofs.PageRooms.{room_within}
use Rattle.coverage.proofs.index_laws.a_page_with_room_is_not_full.Goals as goal

pub returns : goal.returns
returns c = record { put = room_not_full; swap = room_not_full_swap; room = room_within }
