use Rattle.std.proofs.Common.{ℕ, sym, subst}
use Rattle.session_core.specs.FreshPages.{fresh_pages}
use Rattle.brin_app.specs.Statuses.{IsUnfit}
use Rattle.brin_app.proofs.Making.{fresh_holds, fresh_moments_of, moments_of, unfit_of}
use Rattle.brin_app.proofs.top.make.Goals as goal

pub returns-in-Ok-clause-any_moment : goal.returns-in-Ok-clause-any_moment
returns-in-Ok-clause-any_moment g c =
    moments_of c.args.layout.now (g.D.Disk.told c.args.disk.now) (g.D.Disk.told c.format.new.disk) c.a_new_store_is_an_image.ensures (c.a_format_leaves_old_or_none_or_new.ensures (g.D.Disk.told c.args.disk.now)) c.format.ensures.any_moment

pub returns-in-Err-clause-any_moment : goal.returns-in-Err-clause-any_moment
returns-in-Err-clause-any_moment g c =
    moments_of c.args.layout.now (g.D.Disk.told c.args.disk.now) (g.D.Disk.told c.format.new.disk) c.a_new_store_is_an_image.ensures (c.a_format_leaves_old_or_none_or_new.ensures (g.D.Disk.told c.args.disk.now)) c.format.ensures.any_moment

pub returns-in-Ok-clause-made : goal.returns-in-Ok-clause-made
returns-in-Ok-clause-made g c = λ image now.
    (fresh_pages c.args.layout.now, c.a_new_store_opens_to_fresh_pages.ensures.opens image (c.in-Ok.ensures.made image now), c.a_new_store_is_an_image.ensures)

pub returns-in-Ok-clause-holds : goal.returns-in-Ok-clause-holds
returns-in-Ok-clause-holds g c = λ tells.
    fresh_holds c.args.layout.now (g.D.Disk.told c.args.disk.now) (g.D.Disk.told c.format.new.disk) c.a_new_store_is_an_image.ensures c.in-Ok.ensures.answers.0 c.format.ensures.any_moment
    (c.a_new_store_opens_to_fresh_pages.ensures.opens (g.D.Disk.told c.format.new.disk).contents (c.in-Ok.ensures.bytes tells))

pub returns-in-Ok-clause-fit : goal.returns-in-Ok-clause-fit
returns-in-Ok-clause-fit g c = c.in-Ok.ensures.answers

pub returns-in-Err-clause-unfit : goal.returns-in-Err-clause-unfit
returns-in-Err-clause-unfit g c =
    subst (λ (status : ℕ). IsUnfit status c.args.layout.now (g.D.Disk.told c.args.disk.now) (g.D.Disk.told c.format.new.disk)) (sym c.format_status.ensures)
    (unfit_of c.args.layout.now (g.D.Disk.told c.args.disk.now) (g.D.Disk.told c.format.new.disk) c.in-Err.fault c.in-Err.ensures.answers)

pub returns-in-Ok-clause-fresh_moment : goal.returns-in-Ok-clause-fresh_moment
returns-in-Ok-clause-fresh_moment g c =
    fresh_moments_of c.args.layout.now (g.D.Disk.told c.args.disk.now) (g.D.Disk.told c.format.new.disk) (c.a_format_leaves_old_or_none_or_new.ensures (g.D.Disk.told c.args.disk.now)) c.format.ensures.any_moment

pub returns-in-Err-clause-fresh_moment : goal.returns-in-Err-clause-fresh_moment
returns-in-Err-clause-fresh_moment g c =
    fresh_moments_of c.args.layout.now (g.D.Disk.told c.args.disk.now) (g.D.Disk.told c.format.new.disk) (c.a_format_leaves_old_or_none_or_new.ensures (g.D.Disk.told c.args.disk.now)) c.format.ensures.any_moment

pub returns-in-Ok-clause-fresh : goal.returns-in-Ok-clause-fresh
returns-in-Ok-clause-fresh g c = λ image now. c.a_new_store_opens_to_fresh_pages.ensures.opens image (c.in-Ok.ensures.made image now)
