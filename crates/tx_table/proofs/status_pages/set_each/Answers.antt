use Rattle.std.proofs.Common.{get_or, refl, rules}
use Rattle.tx_table.specs.Durable.{HasPart}
use Rattle.tx_table.proofs.Parts.{part_made, part_then, passed_none}
use Rattle.tx_table.proofs.Stores.{each_next, rest_then}
use Rattle.tx_table.proofs.status_pages.set_each.Goals as goal

pub list-preserved : goal.list-preserved
list-preserved g c =
    let told = g.D.Disk.told in
    let old = c.args.pages.now in
    let mid = c.list.pages in
    let new = c.set_status.new.pages in
    record {
      began = c.list.invariant.began;
      none = c.in-Ok-set_status.ensures.outcome.1;
      rest = rest_then told old mid new c.list.invariant.rest c.set_status.ensures.rest;
      survives = part_then told old mid new c.args.list.now c.args.status c.list.invariant.rest.leaves.layout
          (part_made told old mid c.args.list.now c.list.t-index c.args.status c.list.invariant.rest c.list.invariant.set) c.list.invariant.survives c.set_status.ensures.survives;
      set = each_next told old mid new c.args.list.now c.list.t-index (get_or c.args.list.now c.list.t-index 0) c.args.status c.list.invariant.rest.leaves c.list-test.true refl c.list.invariant.set c.in-Ok-set_status.ensures.set;
    }

pub list-init : goal.list-init
list-init g c =
    let told = g.D.Disk.told in
    let store = c.args.pages.now in
    record {
      began = search rules;
      none = search rules;
      rest = search rules;
      survives = passed_none told (HasPart store.layout store.pages c.args.list.now c.args.status) store store c.ready.ensures.stays;
      set = search rules;
    }

pub returns-in-Err-clause-survives : goal.returns-in-Err-clause-survives
returns-in-Err-clause-survives g c =
    let store = c.args.pages.now in
    passed_none g.D.Disk.told (HasPart store.layout store.pages c.args.list.now c.args.status) store store c.ready.ensures.stays

pub returns-in-Err-set_status-clause-survives : goal.returns-in-Err-set_status-clause-survives
returns-in-Err-set_status-clause-survives g c =
    let told = g.D.Disk.told in
    let old = c.args.pages.now in
    let mid = c.list.pages in
    part_then told old mid c.set_status.new.pages c.args.list.now c.args.status c.list.invariant.rest.leaves.layout
    (part_made told old mid c.args.list.now c.list.t-index c.args.status c.list.invariant.rest c.list.invariant.set) c.list.invariant.survives c.set_status.ensures.survives
