use Rattle.std.proofs.Common.{◌∙◌, arith}
use Rattle.std.specs.Prelude.{IsTrue}
use Rattle.store_format.proofs.Made.{blank_after}
use Rattle.store_format.proofs.making.write_rest.Goals as goal

pub returns-clause-blank : goal.returns-clause-blank
returns-clause-blank g c tells =
    let one = g.D.Disk.told c.write_control.new.disk in
    let two = g.D.Disk.told c.close_areas.new.disk in
    let three = g.D.Disk.told c.write_pages.new.disk in
    let new = g.D.Disk.told c.sync.new.self in
    let on_one : IsTrue one.tells_contents = c.write_control.ensures.any_moment.tells_contents ∙ tells in
    let on_two : IsTrue two.tells_contents = c.close_areas.ensures.any_moment.tells_contents ∙ on_one in
    blank_after c.args.layout.now one.contents two.contents three.contents new.contents (omega (arith, c.known.ensures.sizes.some_log_pages))
    (c.in_ok-write_control.ensures.rest tells) (c.close_areas.ensures.front on_one) (c.in_ok-close_areas.ensures.areas on_one) (c.write_pages.ensures.front on_two) (c.in_ok-write_pages.ensures.pages on_two) c.sync.ensures.same
