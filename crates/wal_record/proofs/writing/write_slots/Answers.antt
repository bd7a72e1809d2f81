use Rattle.std.proofs.Common.{◌≡◌, ℕ, ◌+◌, ◌-◌, ◌/◌, [], length, drop, ap, ◌∙◌, ◌++◌, refl, arith}
use Rattle.std.specs.Int.{bytes_high_first}
use Rattle.wal_record.specs.ChangeBytes.{counted_slots, tagged}
use borrow.Rule.Slice.PartMut.{put_mid}
use Rattle.byte_fields.specs.Written.{put-next, part_next}
use Rattle.wal_record.proofs.writing.write_slots.Goals as goal

pub returns-clause-written : goal.returns-clause-written
returns-clause-written c =
    let old = c.args.out.now in
    let slots = c.args.slots.now in
    let one = put-next old c.write_head.new.out c.put_u16.new.bytes (tagged c.args.tag c.args.place []) 6 2 (length slots / 2) c.write_head.ensures.written refl c.put_u16.ensures.put in
    let front = tagged c.args.tag c.args.place (bytes_high_first 2 (length slots / 2)) in
    let long : 8 + (8 + length slots - 8) ≡ length (tagged c.args.tag c.args.place (counted_slots slots)) = omega arith in
    ap (put_mid 8 _ c.put_u16.new.bytes) c.copy_from_slice.ensures.after
    ∙ part_next old c.put_u16.new.bytes front slots 8 _ one refl
    ∙ ap (λ (n : ℕ). (front ++ slots) ++ drop n old) long
