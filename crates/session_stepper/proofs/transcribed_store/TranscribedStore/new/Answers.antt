use Rattle.std.proofs.Common.{rules, ◌≡◌, refl}
use Rattle.std.specs.Prelude.{None, replicate}
use Rattle.session_stepper.proofs.Kept.{begins, in_hand_none}
use Rattle.session_stepper.proofs.transcribed_store.TranscribedStore.new.Goals as goal

pub invariant_of-result : goal.invariant_of-result
invariant_of-result g c =
    begins g.D.Disk.told c.args.store c.make_sessions.new.store c.args.script c.new.result.items c.in-Ok-vec.counts.items c.in-Ok-vec-2.in_hand.items None c.sessions.result c.requires c.in-Ok.ensures.ok (search rules)
    (search rules) (search rules) refl (search rules)

pub returns-clause-ok : goal.returns-clause-ok
returns-clause-ok g c =
    let nones : c.in-Ok-vec-2.in_hand.items ≡ replicate c.sessions-2.result None = search rules in
    record { sessions = c.in-Ok.ensures.ok; script_is = refl; said = c.new.ensures.items; in_hand = in_hand_none c.in-Ok-vec-2.in_hand.items c.sessions-2.result nones; ended = refl }
