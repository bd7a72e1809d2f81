use Rattle.std.proofs.Common.{[], refl, arith}
use Rattle.std.specs.Int.{bytes_high_first}
use Rattle.wal_record.specs.ChangeBytes.{tagged}
use Rattle.byte_fields.specs.Written.{put-next, set-next}
use Rattle.wal_record.proofs.writing.write_status.Goals as goal

pub returns-clause-written : goal.returns-clause-written
returns-clause-written c =
    let old = c.args.out.now in
    let one = put-next old c.write_head.new.out c.put_u16.new.bytes (tagged 13 c.args.place []) 6 2 c.args.entry c.write_head.ensures.written refl c.put_u16.ensures.put in
    set-next old c.put_u16.new.bytes (tagged 13 c.args.place (bytes_high_first 2 c.args.entry)) 8 c.args.status one refl (omega arith)
