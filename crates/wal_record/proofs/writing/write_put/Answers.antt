use Rattle.std.proofs.Common.{◌≡◌, ℕ, ◌+◌, ◌-◌, [], length, drop, ap, ◌∙◌, ◌++◌, refl, arith}
use Rattle.std.specs.Int.{bytes_high_first}
use Rattle.wal_record.specs.ChangeBytes.{put_bytes, tagged}
use borrow.Rule.Slice.PartMut.{put_mid}
use Rattle.byte_fields.specs.Written.{put-next, part_next}
use Rattle.wal_record.proofs.writing.write_put.Goals as goal

pub returns-clause-written : goal.returns-clause-written
returns-clause-written c =
    let old = c.args.out.now in
    let bytes = c.args.bytes.now in
    let one = put-next old c.write_head.new.out c.put_u16.new.bytes (tagged c.args.tag c.args.place []) 6 2 c.args.slot c.write_head.ensures.written refl c.put_u16.ensures.put in
    let two = put-next old c.put_u16.new.bytes c.put_u16-2.new.bytes (tagged c.args.tag c.args.place (bytes_high_first 2 c.args.slot)) 8 2 (length bytes) one refl c.put_u16-2.ensures.put in
    let front = tagged c.args.tag c.args.place (bytes_high_first 2 c.args.slot ++ bytes_high_first 2 (length bytes)) in
    let long : 10 + (10 + length bytes - 10) ≡ length (tagged c.args.tag c.args.place (put_bytes c.args.slot bytes)) = omega arith in
    ap (put_mid 10 _ c.put_u16-2.new.bytes) c.copy_from_slice.ensures.after
    ∙ part_next old c.put_u16-2.new.bytes front bytes 10 _ two refl
    ∙ ap (λ (n : ℕ). (front ++ bytes) ++ drop n old) long
