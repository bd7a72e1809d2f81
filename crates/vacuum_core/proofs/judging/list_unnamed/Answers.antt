use Rattle.std.proofs.Common.{◌≡◌, ◌<◌, ℕ, true, List, length, refl, sym, ap, subst, ◌∙◌, arith}
use Rattle.coverage.specs.Counts.{NoneBelow}
use Rattle.page_store.specs.SurvivesLaws.{survives_on, survives_still}
use Rattle.page_map.specs.Keeps.{Tells, keeps_on}
use Rattle.index_layout.specs.IndexWrites.{are_ascending}
use Rattle.index_contents.specs.IndexContents.{contents}
use Rattle.vacuum_core.specs.SweptPages.{IsListed, IsUnnamedOn, Judges}
use Rattle.vacuum_core.proofs.JudgedSlots.{ascends_next, counts_next, few_next, lists_next}
use Rattle.vacuum_core.proofs.Onward.{judged_before, keeps_same}
use Rattle.vacuum_core.proofs.SlotBytes.{none_listed}
use Rattle.vacuum_core.proofs.SweptBytes.{few_slots, slot_within, spot_at}
use Rattle.vacuum_core.proofs.judging.list_unnamed.Goals as goal

pub slots-init : goal.slots-init
slots-init g c = record {
  kept = keeps_same g.D.Disk.told c.args.pages.now;
  survives = survives_still g.D.Disk.told c.args.pages.now c.known.ensures.stays;
  started = c.requires.ready;
  ready = c.requires.ready;
  capacity = refl;
  few = let e = ap (length {A = ℕ}) c.clear.ensures.items in omega (arith, e);
  small = omega arith;
  ascending = subst (λ (l : List ℕ). are_ascending 0 0 l ≡ true) (sym c.clear.ensures.items) (none_listed 0);
  listed = λ tells n. (λ is. absurd (subst (λ (l : List ℕ). IsListed l n) c.clear.ensures.items is), λ at. absurd (let low = at.0 in omega (arith, low)));
  counted = λ tells. NoneBelow;
}

pub add_unnamed-requires-clause-room : goal.add_unnamed-requires-clause-room
add_unnamed-requires-clause-room g c =
    let most = few_slots c.args.page.now (c.an_index_page_has_one_list.ensures.regular c.args.page.now c.requires.page) in
    omega (arith, most, c.slots.invariant.few, c.slots.invariant.capacity, c.clear.ensures.capacity, c.requires.room, c.slots-test.true, c.slots-slot-end.ensures)

pub returns-in-Err-clause-survives : goal.returns-in-Err-clause-survives
returns-in-Err-clause-survives g c = survives_on g.D.Disk.told c.args.pages.now c.slots.pages c.add_unnamed.new.pages c.slots.invariant.kept c.slots.invariant.survives c.in-Err.ensures.survives

pub slots-preserved : goal.slots-preserved
slots-preserved g c =
    let told = g.D.Disk.told in
    let first = c.args.pages.now in
    let mid = c.slots.pages in
    let slot : ℕ = c.slots.slot in
    let most = few_slots c.args.page.now (c.an_index_page_has_one_list.ensures.regular c.args.page.now c.requires.page) in
    let small : slot < 65536 = omega (arith, most, c.slots-test.true, c.slots-slot-end.ensures) in
    let P : ℕ → Type 0 = λ k. IsUnnamedOn (contents first.layout first.pages c.args.index) c.args.page.now (spot_at c.args.block k) in
    let judged : Judges (Tells told first) (P slot) slot c.slots.unnamed.items c.add_unnamed.new.unnamed.items c.in-Ok.one =
    judged_before told first mid c.slots.invariant.kept c.args.index c.args.page.now c.args.block slot c.in-Ok.one c.slots.unnamed.items c.add_unnamed.new.unnamed.items c.in-Ok.ensures.judged in
    let few = few_next (Tells told first) P slot c.in-Ok.one c.slots.unnamed.items c.add_unnamed.new.unnamed.items small judged c.slots.invariant.ascending in
    record {
      kept = keeps_on told first mid c.add_unnamed.new.pages c.slots.invariant.kept c.in-Ok.ensures.kept;
      survives = survives_on told first mid c.add_unnamed.new.pages c.slots.invariant.kept c.slots.invariant.survives c.in-Ok.ensures.survives;
      started = c.requires.ready;
      ready = c.in-Ok.ensures.outcome.1;
      capacity = c.in-Ok.ensures.capacity ∙ c.slots.invariant.capacity;
      few = omega (arith, few.0, c.slots.invariant.few);
      small = omega (arith, few.1, c.slots.invariant.small);
      ascending = ascends_next (Tells told first) P slot c.in-Ok.one c.slots.unnamed.items c.add_unnamed.new.unnamed.items small judged c.slots.invariant.ascending;
      listed = λ tells. lists_next (Tells told first) P slot c.in-Ok.one c.slots.unnamed.items c.add_unnamed.new.unnamed.items small judged c.slots.invariant.ascending tells (c.slots.invariant.listed tells);
      counted = λ tells. counts_next (Tells told first) P slot c.in-Ok.one c.slots.unnamed.items c.add_unnamed.new.unnamed.items small judged c.slots.invariant.ascending tells c.slots.count (c.slots.invariant.counted tells);
    }

pub returns-clause-listed : goal.returns-clause-listed
returns-clause-listed g c = λ tells n.
    let all = c.slots.invariant.listed tells n in (
      λ is. (all.0 is).1,
      λ at. let below = slot_within c.args.page.now n at.0 at.1 in all.1 (omega (arith, below, c.slots-test.false, c.slots-slot-end.ensures), at),
    )

pub returns-clause-counted : goal.returns-clause-counted
returns-clause-counted g c = λ tells. record {
  below = c.slots.slot;
  counted = c.slots.invariant.counted tells;
  rest = λ n past at. let below = slot_within c.args.page.now n at.0 at.1 in absurd (omega (arith, below, past, c.slots-test.false, c.slots-slot-end.ensures));
}
