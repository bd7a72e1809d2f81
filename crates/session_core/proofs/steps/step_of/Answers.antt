use Rattle.std.proofs.Common.{◌≡◌, Option, IfSome, sym, ap, subst}
use Rattle.std.proofs.lemmas.Bool.{false≢true}
use Rattle.session_parts.specs.declared.hand.Hand.{Hand}
use Rattle.session_parts.specs.Stepping.{IsFit, IsShown}
use Rattle.session_inserts.specs.Settling.{SettlesSo}
use Rattle.session_starts.specs.Stops.{StopsSo}
use Rattle.session_core.specs.declared.slots.Held.{Held}
use Rattle.session_core.specs.declared.slots.Held.TheVariants as held
use Rattle.session_core.specs.Slots.{hand_of, hand_there}
use Rattle.session_core.proofs.InSlots.{at_held, from_held, keeps_elsewhere, some_held}
use Rattle.session_core.proofs.steps.step_of.Goals as goal

pub unreachable-requires : goal.unreachable-requires
unreachable-requires g c = false≢true (some_held c.args.slot.now held.Nothing c.in-Nothing.is c.requires.hand)

pub unreachable-unreachable : goal.unreachable-unreachable
unreachable-unreachable g c = c.unreachable.result

-- an insert before its first step

pub put-requires-clause-held : goal.put-requires-clause-held
put-requires-clause-held g c = c.in-Put.is

pub put-requires-clause-fit : goal.put-requires-clause-fit
put-requires-clause-fit g c = at_held (λ was. IsFit g.D.Disk.told c.args.parts.now c.args.session was) c.args.slot.now held.Put c.in-Put.is c.requires.fit

pub put-requires-clause-few : goal.put-requires-clause-few
put-requires-clause-few g c = c.requires.few

pub put-requires-clause-shown : goal.put-requires-clause-shown
put-requires-clause-shown g c = at_held (λ was. IsShown g.D.Disk.told c.args.parts.now c.args.session was) c.args.slot.now held.Put c.in-Put.is c.requires.shown

pub put-requires-clause-slot : goal.put-requires-clause-slot
put-requires-clause-slot g c = c.requires.slot

pub returns-in-Put : goal.returns-in-Put
returns-in-Put g c =
    let old = c.args.parts.now in
    let made = c.put in
    record {
      so = from_held (λ was. SettlesSo g.D.Disk.told old made.new.parts c.args.session was (hand_of made.new.slot) made.result) c.args.slot.now held.Put c.in-Put.is made.ensures.so;
      survives = from_held (λ was. StopsSo g.D.Disk.told old.transactions c.args.session old.pages made.new.parts.pages was made.result) c.args.slot.now held.Put c.in-Put.is made.ensures.survives;
      slot = made.ensures.slot;
    }

-- a later step of one

pub insert_in-requires-clause-held : goal.insert_in-requires-clause-held
insert_in-requires-clause-held g c = c.in-Insert.is

pub insert_in-requires-clause-hand : goal.insert_in-requires-clause-hand
insert_in-requires-clause-hand g c = some_held c.args.slot.now held.Insert c.in-Insert.is c.requires.hand

pub insert_in-requires-clause-fit : goal.insert_in-requires-clause-fit
insert_in-requires-clause-fit g c = at_held (λ was. IsFit g.D.Disk.told c.args.parts.now c.args.session was) c.args.slot.now held.Insert c.in-Insert.is c.requires.fit

pub insert_in-requires-clause-few : goal.insert_in-requires-clause-few
insert_in-requires-clause-few g c = c.requires.few

pub insert_in-requires-clause-shown : goal.insert_in-requires-clause-shown
insert_in-requires-clause-shown g c = at_held (λ was. IsShown g.D.Disk.told c.args.parts.now c.args.session was) c.args.slot.now held.Insert c.in-Insert.is c.requires.shown

pub insert_in-requires-clause-slot : goal.insert_in-requires-clause-slot
insert_in-requires-clause-slot g c = c.requires.slot

pub returns-in-Insert : goal.returns-in-Insert
returns-in-Insert g c =
    let old = c.args.parts.now in
    let made = c.insert_in in
    record {
      so = from_held (λ was. SettlesSo g.D.Disk.told old made.new.parts c.args.session was (hand_of made.new.slot) made.result) c.args.slot.now held.Insert c.in-Insert.is made.ensures.so;
      survives = from_held (λ was. StopsSo g.D.Disk.told old.transactions c.args.session old.pages made.new.parts.pages was made.result) c.args.slot.now held.Insert c.in-Insert.is made.ensures.survives;
      slot = made.ensures.slot;
    }

-- any other statement

pub other_in-requires-clause-hand : goal.other_in-requires-clause-hand
other_in-requires-clause-hand g c = some_held c.args.slot.now held.Other c.in-Other.is c.requires.hand

pub other_in-requires-clause-few : goal.other_in-requires-clause-few
other_in-requires-clause-few g c = c.requires.few

pub other_in-requires-clause-elsewhere : goal.other_in-requires-clause-elsewhere
other_in-requires-clause-elsewhere g c = c.requires.slot.elsewhere

pub other_in-requires-clause-fit : goal.other_in-requires-clause-fit
other_in-requires-clause-fit g c = at_held (λ was. IsFit g.D.Disk.told c.args.parts.now c.args.session was) c.args.slot.now held.Other c.in-Other.is c.requires.fit

pub other_in-requires-clause-shown : goal.other_in-requires-clause-shown
other_in-requires-clause-shown g c = at_held (λ was. IsShown g.D.Disk.told c.args.parts.now c.args.session was) c.args.slot.now held.Other c.in-Other.is c.requires.shown

pub returns-in-Other : goal.returns-in-Other
returns-in-Other g c =
    let told = g.D.Disk.told in
    let old = c.args.parts.now in
    let made = c.other_in in
    let slot = c.args.slot.now in
    let n = c.args.session in
    let now : hand_there slot.held slot.put slot.machine made.new.hand ≡ made.new.hand = ap (λ (k : Held). hand_there k slot.put slot.machine made.new.hand) c.in-Other.is in
    record {
      so = subst (λ (left : Option Hand). IfSome (hand_of slot) (λ was. SettlesSo told old made.new.parts n was left made.result)) (sym now)
          (from_held (λ was. SettlesSo told old made.new.parts n was made.new.hand made.result) slot held.Other c.in-Other.is made.ensures.so);
      survives = from_held (λ was. StopsSo told old.transactions n old.pages made.new.parts.pages was made.result) slot held.Other c.in-Other.is made.ensures.survives;
      slot = record {
        machine = c.requires.slot.machine;
        elsewhere = keeps_elsewhere told old made.new.parts n slot.other made.new.hand made.result (some_held slot held.Other c.in-Other.is c.requires.hand) c.requires.slot.elsewhere
            (at_held (λ was. IsFit told old n was) slot held.Other c.in-Other.is c.requires.fit) made.ensures.so;
      };
    }
