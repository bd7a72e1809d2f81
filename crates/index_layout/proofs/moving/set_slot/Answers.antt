use Rattle.std.proofs.Common.{◌≡◌, ℕ, ◌+◌, ◌-◌, ◌*◌, ◌++◌, length, get_or, take, drop, sym, ap, ◌∙◌, arith}
use Rattle.std.specs.Prelude.{None}
use Rattle.index_layout.specs.IndexPages.{tuple_bytes}
use Rattle.index_layout.specs.IndexReading.{slots_of}
use Rattle.index_layout.specs.IndexWrites.{laid}
use Rattle.index_layout.proofs.SlotWrites.{place_sizes, slot_placed, same_length, length_parts, relaid, lengths_room}
use Rattle.index_layout.proofs.moving.set_slot.Goals as goal

pub place_tuple-requires : goal.place_tuple-requires
place_tuple-requires c =
    let slots = slots_of c.args.page.now in
    let s = place_sizes slots c.args.slot c.args.count c.end_of-low.result c.end_of-end.result c.size_at-size.result c.args.tuple.now (omega (arith, c.requires.slot, c.requires.count)) c.requires.page.fit c.requires.room c.requires.count c.size_at-size.ensures.size c.end_of-end.ensures c.end_of-low.ensures in
    record { order = s.order; ends = omega arith; within = omega (arith, s.within, c.requires.whole); whole = c.requires.whole; room = s.room }

pub returns-then-size-tuple : goal.returns-then-size-tuple
returns-then-size-tuple c =
    let page = c.args.page.now in
    let slots = slots_of page in
    let kind = get_or page 0 0 in
    let n = c.args.slot in
    let tuple = c.args.tuple.now in
    let has = c.requires.page in
    let placed = slot_placed kind slots n c.args.count c.end_of-low.result c.end_of-end.result c.size_at-size.result tuple page c.place_tuple.new.page (omega (arith, c.requires.slot, c.requires.count)) has c.requires.room c.requires.count c.size_at-size.ensures.size c.end_of-end.ensures c.end_of-low.ensures c.place_tuple.ensures.placed in
    let same : length (tuple_bytes (get_or slots n None)) ≡ length tuple = sym c.size_at-size.ensures.size ∙ c.if-size-tuple.true in
    record { set = same_length kind slots n tuple c.place_tuple.new.page (omega (arith, c.requires.slot, c.requires.count)) has.of has.fit c.requires.room same placed }

pub lay_offsets-requires-clause-lengths : goal.lay_offsets-requires-clause-lengths
lay_offsets-requires-clause-lengths c =
    let page = c.args.page.now in
    let slots = slots_of page in
    let kind = get_or page 0 0 in
    let n = c.args.slot in
    let tuple = c.args.tuple.now in
    let has = c.requires.page in
    let at = 32 + c.from.result * 4 in
    let here : at ≡ 32 + n * 4 = ap (λ (k : ℕ). 32 + k * 4) c.from.ensures in
    let placed = slot_placed kind slots n c.args.count c.end_of-low.result c.end_of-end.result c.size_at-size.result tuple page c.place_tuple.new.page (omega (arith, c.requires.slot, c.requires.count)) has c.requires.room c.requires.count c.size_at-size.ensures.size c.end_of-end.ensures c.end_of-low.ensures c.place_tuple.ensures.placed in
    let parts = length_parts kind slots n at tuple c.place_tuple.new.page c.put_u16.new.bytes (omega (arith, c.requires.slot, c.requires.count)) here placed c.put_u16.ensures.put in
    let room = lengths_room kind slots n at c.args.count tuple c.put_u16.new.bytes (omega (arith, c.requires.slot, c.requires.count)) here c.requires.count has.fit c.requires.room parts in
    omega (arith, room, c.end_of-end.ensures)

pub returns : goal.returns
returns c =
    let page = c.args.page.now in
    let slots = slots_of page in
    let kind = get_or page 0 0 in
    let n = c.args.slot in
    let tuple = c.args.tuple.now in
    let has = c.requires.page in
    let at = 32 + c.from.result * 4 in
    let here : at ≡ 32 + n * 4 = ap (λ (k : ℕ). 32 + k * 4) c.from.ensures in
    let placed = slot_placed kind slots n c.args.count c.end_of-low.result c.end_of-end.result c.size_at-size.result tuple page c.place_tuple.new.page (omega (arith, c.requires.slot, c.requires.count)) has c.requires.room c.requires.count c.size_at-size.ensures.size c.end_of-end.ensures c.end_of-low.ensures c.place_tuple.ensures.placed in
    let parts = length_parts kind slots n at tuple c.place_tuple.new.page c.put_u16.new.bytes (omega (arith, c.requires.slot, c.requires.count)) here placed c.put_u16.ensures.put in
    let lay = c.lay_offsets.ensures.laid ∙ ap (λ (e : ℕ). take at c.put_u16.new.bytes ++ laid e (c.args.count - n) (drop at c.put_u16.new.bytes)) c.end_of-end.ensures in
    record { set = relaid kind slots n at c.args.count tuple c.put_u16.new.bytes c.lay_offsets.new.page (omega (arith, c.requires.slot, c.requires.count)) here c.requires.count has.of has.fit c.requires.room parts lay }
