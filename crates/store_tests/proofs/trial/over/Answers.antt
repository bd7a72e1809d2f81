use Rattle.store_tests.proofs.Kept.{started_kept}
use Rattle.store_tests.proofs.trial.over.Goals as goal

pub invariant_of-result : goal.invariant_of-result
invariant_of-result g c =
    let store = c.args.store in (
      c.in-Ok.ensures.over,
      started_kept g.D.Disk.told store c.start.new.pages c.start.ensures.kept (λ tells.
          c.pages_in_order_are_started.ensures store.layout store.pages (c.requires.order tells) (λ block below. c.known.ensures.checked tells (record { relation = 0; block = block }))),
    )
