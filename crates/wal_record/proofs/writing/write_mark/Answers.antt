use Rattle.std.proofs.Common.{[], refl}
use Rattle.std.specs.Int.{bytes_high_first}
use Rattle.wal_record.specs.ChangeBytes.{tagged}
use Rattle.byte_fields.specs.Written.{put-next}
use Rattle.wal_record.proofs.writing.write_mark.Goals as goal

pub returns-clause-written : goal.returns-clause-written
returns-clause-written c =
    let old = c.args.out.now in
    let one = put-next old c.write_head.new.out c.put_u16.new.bytes (tagged 4 c.args.place []) 6 2 c.args.slot c.write_head.ensures.written refl c.put_u16.ensures.put in
    put-next old c.put_u16.new.bytes c.put_u64.new.bytes (tagged 4 c.args.place (bytes_high_first 2 c.args.slot)) 8 8 c.args.deleter one refl c.put_u64.ensures.put
