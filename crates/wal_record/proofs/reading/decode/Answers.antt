use Rattle.std.proofs.Common.{length, length-append, ap, arith}
use Rattle.wal_record.specs.Changes.{logged}
use Rattle.wal_record.specs.ChangeBytes.{bytes_of}
use Rattle.wal_record.proofs.Changes.{change_takes, change_only, change_none}
use Rattle.wal_record.proofs.Fault.{fault_goes_on, fault_stops}
use Rattle.wal_record.proofs.reading.decode.Goals as goal

pub overflow_sub-result : goal.overflow_sub-result
overflow_sub-result c =
    let t = change_takes c.args.bytes.now (logged c.in-Some.change) c.in-Some.rest.now (λ i. let byte = c.type_inv.bytes i in omega (arith, byte)) c.in-Some.ensures in
    omega (arith, ap length t.1, length-append (bytes_of (logged c.in-Some.change)) c.in-Some.rest.now)

pub returns-in-Some-clause-change : goal.returns-in-Some-clause-change
returns-in-Some-clause-change c = (change_takes c.args.bytes.now (logged c.in-Some.change) c.in-Some.rest.now (λ i. let byte = c.type_inv.bytes i in omega (arith, byte)) c.in-Some.ensures).0

pub returns-in-Some-clause-front : goal.returns-in-Some-clause-front
returns-in-Some-clause-front c = (c.in-Some.rest.now, (change_takes c.args.bytes.now (logged c.in-Some.change) c.in-Some.rest.now (λ i. let byte = c.type_inv.bytes i in omega (arith, byte)) c.in-Some.ensures).1)

pub returns-in-Some-clause-length : goal.returns-in-Some-clause-length
returns-in-Some-clause-length c =
    let t = change_takes c.args.bytes.now (logged c.in-Some.change) c.in-Some.rest.now (λ i. let byte = c.type_inv.bytes i in omega (arith, byte)) c.in-Some.ensures in
    omega (arith, ap length t.1, length-append (bytes_of (logged c.in-Some.change)) c.in-Some.rest.now)

pub returns-in-Some-clause-only : goal.returns-in-Some-clause-only
returns-in-Some-clause-only c = λ change fits begins. change_only c.args.bytes.now (logged c.in-Some.change) change c.in-Some.rest.now c.in-Some.ensures fits begins

pub returns-in-None-clause-refused : goal.returns-in-None-clause-refused
returns-in-None-clause-refused c = λ change fits begins. change_none c.args.bytes.now change c.in-None.ensures fits begins

pub returns-in-None-clause-goes_on : goal.returns-in-None-clause-goes_on
returns-in-None-clause-goes_on c = rw c.fault_place.ensures (fault_goes_on c.args.bytes.now (λ i. let byte = c.type_inv.bytes i in omega (arith, byte)) c.in-None.ensures)

pub returns-in-None-clause-stops : goal.returns-in-None-clause-stops
returns-in-None-clause-stops c = rw c.fault_place.ensures (λ within change on. fault_stops c.args.bytes.now within change on)
