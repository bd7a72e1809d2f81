use Rattle.std.proofs.Common.{[], refl}
use Rattle.wal_record.specs.ChangeBytes.{tagged}
use Rattle.byte_fields.specs.Written.{put-next}
use Rattle.wal_record.proofs.writing.write_maps.Goals as goal

pub returns-clause-written : goal.returns-clause-written
returns-clause-written c = put-next c.args.out.now c.write_head.new.out c.put_u32.new.bytes (tagged 12 c.args.place []) 6 4 c.args.maps c.write_head.ensures.written refl c.put_u32.ensures.put
