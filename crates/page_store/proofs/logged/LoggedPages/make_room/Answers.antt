use Rattle.std.proofs.Common.{ap, ◌∙◌, arith}
use Rattle.page_store.specs.KeptPages.{kept_on}
use Rattle.page_store.specs.LoggedState.{store_of}
use Rattle.store_layout.specs.DiskLayout.{DiskLayout}
use Rattle.page_store.proofs.RoomSteps.{room_made}
use Rattle.page_store.proofs.logged.LoggedPages.make_room.Goals as goal

pub returns-in_err-make_log_room-clause-kept : goal.returns-in_err-make_log_room-clause-kept
returns-in_err-make_log_room-clause-kept g c =
    let told = g.D.Disk.told in
    kept_on told (store_of told c.args.self.now) (store_of told c.make_buffer_room.new.self) (store_of told c.make_log_room.new.self) c.make_buffer_room.ensures.kept c.make_log_room.ensures.kept

pub returns-clause-kept : goal.returns-clause-kept
returns-clause-kept g c =
    let told = g.D.Disk.told in
    kept_on told (store_of told c.args.self.now) (store_of told c.make_buffer_room.new.self) (store_of told c.make_log_room.new.self) c.make_buffer_room.ensures.kept c.make_log_room.ensures.kept

pub returns-clause-room : goal.returns-clause-room
returns-clause-room g c =
    let first = ap (λ (l : DiskLayout). l.sizes.log_pages) c.layout.ensures in
    let last = ap (λ (l : DiskLayout). l.sizes.log_pages) (c.make_log_room.ensures.kept.leaves.layout ∙ c.make_buffer_room.ensures.kept.leaves.layout) in
    room_made c.args.self.now c.make_buffer_room.new.self c.make_log_room.new.self c.args.place c.args.begins c.args.size c.need-need.result c.requires.few c.need-need.ensures c.make_buffer_room.ensures.marks c.make_buffer_room.ensures.kept.leaves.layout c.in_ok-make_buffer_room.ensures.room c.in_ok-make_log_room.ensures.room
    (omega (arith, first, last, c.known-2.ensures.sizes.some_log_pages, c.known-3.ensures.area))
