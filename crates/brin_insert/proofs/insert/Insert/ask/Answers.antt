use Rattle.std.proofs.Common.{◌≡◌, ◌+◌, ◌-◌, ◌/◌, ◌≤◌, length, refl, ap, arith}
use Rattle.std.proofs.lemmas.Bool.{false≢true}
use Rattle.std.proofs.lemmas.Option.{slice_get_within}
use Rattle.store_layout.specs.DiskLayout.{DiskLayout}
use Rattle.index_steps.specs.IndexTuples.{index_at}
use Rattle.brin_insert.specs.Inserts.{work_of}
use Rattle.brin_insert.proofs.Asked.{asks_here}
use Rattle.brin_insert.proofs.InTable.{asked}
use Rattle.brin_insert.proofs.Numbers.{number_within}
use Rattle.brin_insert.proofs.Outcomes.{index_next, map_names}
use Rattle.brin_insert.proofs.Tasks.{asking_there, few_asking, few_then, got_there, number_there, range_is}
use Rattle.brin_insert.proofs.insert.Insert.ask.Goals as goal

pub range_in-range-requires : goal.range_in-range-requires
range_in-range-requires g c =
    let store = c.args.pages.now in
    let old = c.args.self.now in
    let e = c.index-work.result.now in
    let asking = c.requires.made.asks c.requires.asking in
    let got = got_there old.works.items old.at e (slice_get_within old.works.items old.at asking.hand asking.work) c.index-work.ensures in
    let there = number_there store.layout old old.at e c.requires.made got in
    omega (arith, c.index-index.ensures, ap (λ (l : DiskLayout). length l.schema.indexes) c.layout.ensures, number_within store.layout old.row.table old.at e.index there)

pub overflow_sub-range : goal.overflow_sub-range
overflow_sub-range g c =
    let store = c.args.pages.now in
    let old = c.args.self.now in
    let x = c.in-Some.spot in
    let e = c.index-work.result.now in
    let asking = c.requires.made.asks c.requires.asking in
    let got = got_there old.works.items old.at e (slice_get_within old.works.items old.at asking.hand asking.work) c.index-work.ensures in
    let ranged : c.range_in-range.result ≡ x.block / (index_at store.layout e.index).pages_per_range = range_is store.layout c.layout.result.now e.index c.index-index.result x.block c.range_in-range.result c.range_in-range.ensures c.layout.ensures c.index-index.ensures in
    let above = (asking_there store.layout old x e asking c.in-Some.is got).1.3 in
    omega (arith, ranged, above)

pub ask_at-requires-clause-index : goal.ask_at-requires-clause-index
ask_at-requires-clause-index g c =
    let store = c.args.pages.now in
    let old = c.args.self.now in
    let e = c.index-work.result.now in
    let asking = c.requires.made.asks c.requires.asking in
    let got = got_there old.works.items old.at e (slice_get_within old.works.items old.at asking.hand asking.work) c.index-work.ensures in
    let there = number_there store.layout old old.at e c.requires.made got in
    omega (arith, c.index-index.ensures, number_within store.layout old.row.table old.at e.index there)

pub ask_at-requires-clause-room : goal.ask_at-requires-clause-room
ask_at-requires-clause-room g c =
    let old = c.args.self.now in
    let asking = c.requires.made.asks c.requires.asking in
    let below = slice_get_within old.works.items old.at asking.hand asking.work in
    let few = few_asking old.place asking.spot old.asking old.at (length old.dropped.items) asking.placed c.requires.asking c.requires.made.few in
    omega (arith, below, few, c.requires.made.room)

pub returns-in-Ok-clause-stepped : goal.returns-in-Ok-clause-stepped
returns-in-Ok-clause-stepped g c = λ tells blocks has locks actor.
    let store = c.args.pages.now in
    let old = c.args.self.now in
    let x = c.in-Some.spot in
    let e = c.index-work.result.now in
    let asking = c.requires.made.asks c.requires.asking in
    let got = got_there old.works.items old.at e (slice_get_within old.works.items old.at asking.hand asking.work) c.index-work.ensures in
    asked store.layout store.pages locks actor old _ x e blocks c.in-Some.is got c.requires.asking (asking_there store.layout old x e asking c.in-Some.is got).0 refl refl refl refl got
    c.ask_at.new.pages.pages (c.ask_at.ensures.kept.pages tells) has

pub returns-in-Ok-clause-asked : goal.returns-in-Ok-clause-asked
returns-in-Ok-clause-asked g c = λ tells.
    let store = c.args.pages.now in
    let old = c.args.self.now in
    let x = c.in-Some.spot in
    let e = c.index-work.result.now in
    let asking = c.requires.made.asks c.requires.asking in
    let got = got_there old.works.items old.at e (slice_get_within old.works.items old.at asking.hand asking.work) c.index-work.ensures in
    let ranged : c.range_in-range.result ≡ x.block / (index_at store.layout e.index).pages_per_range = range_is store.layout c.layout.result.now e.index c.index-index.result x.block c.range_in-range.result c.range_in-range.ensures c.layout.ensures c.index-index.ensures in
    let above = (asking_there store.layout old x e asking c.in-Some.is got).1.3 in
    asks_here store.layout store.pages old.asking old.place (work_of old) x e c.index-index.result (c.range_in-range.result - 1) c.args.queue.now c.ask_at.new.queue old.dropped.items c.ask_at.new.dropped.items
    c.requires.asking c.in-Some.is got c.index-index.ensures (omega (arith, ranged, above)) (c.in-Ok.ensures.asked tells)

pub returns-in-Err-clause-at : goal.returns-in-Err-clause-at
returns-in-Err-clause-at g c =
    let store = c.args.pages.now in
    let old = c.args.self.now in
    let x = c.in-Some.spot in
    let e = c.index-work.result.now in
    let asking = c.requires.made.asks c.requires.asking in
    let got = got_there old.works.items old.at e (slice_get_within old.works.items old.at asking.hand asking.work) c.index-work.ensures in
    map_names store.layout _ e.index c.index-index.result c.in-Err.error (index_next store.layout old x e c.in-Some.is got) c.index-index.ensures c.in-Err.ensures.at

pub returns-in-Ok-clause-made : goal.returns-in-Ok-clause-made
returns-in-Ok-clause-made g c =
    let store = c.args.pages.now in
    let old = c.args.self.now in
    let made = c.requires.made in
    let e = c.index-work.result.now in
    let asking = made.asks c.requires.asking in
    let got = got_there old.works.items old.at e (slice_get_within old.works.items old.at asking.hand asking.work) c.index-work.ensures in
    let there = number_there store.layout old old.at e made got in
    let was = few_asking old.place c.in-Some.spot old.asking old.at (length old.dropped.items) c.in-Some.is c.requires.asking made.few in
    let more : length c.ask_at.new.dropped.items ≤ length old.dropped.items + 1 = c.ask_at.ensures.few in
    record {
      table = made.table;
      kinds = made.kinds;
      taken = made.taken;
      numbers = made.numbers;
      tuples = made.tuples;
      asks = λ wants. absurd (false≢true wants);
      room = let capacity = c.ask_at.ensures.capacity in let room = made.room in omega (arith, capacity, room);
      few = few_then old.place c.in-Some.spot old.at (length c.ask_at.new.dropped.items) c.in-Some.is (omega (arith, was, more));
      named = c.ask_at.ensures.named (length store.layout.schema.indexes)
          (omega (arith, c.index-index.ensures, number_within store.layout old.row.table old.at e.index there)) made.named;
    }
