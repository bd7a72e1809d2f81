use Rattle.std.proofs.Common.{[], ◌++◌, refl}
use Rattle.std.specs.Int.{bytes_high_first}
use Rattle.wal_record.specs.ChangeBytes.{tagged}
use Rattle.byte_fields.specs.Written.{put-next}
use Rattle.wal_record.proofs.writing.write_entry.Goals as goal

pub returns-clause-written : goal.returns-clause-written
returns-clause-written c =
    let old = c.args.out.now in
    let one = put-next old c.write_head.new.out c.put_u16.new.bytes (tagged 11 c.args.place []) 6 2 c.args.entry c.write_head.ensures.written refl c.put_u16.ensures.put in
    let two = put-next old c.put_u16.new.bytes c.put_u32.new.bytes (tagged 11 c.args.place (bytes_high_first 2 c.args.entry)) 8 4 c.args.spot.block one refl c.put_u32.ensures.put in
    put-next old c.put_u32.new.bytes c.put_u16-2.new.bytes (tagged 11 c.args.place (bytes_high_first 2 c.args.entry ++ bytes_high_first 4 c.args.spot.block)) 12 2 c.args.spot.slot two refl c.put_u16-2.ensures.put
