use Rattle.std.proofs.Common.{List, Option, ◌∙◌, ap}
use Rattle.std.specs.Box.{boxed_slice_items}
use Rattle.buffer_pool.specs.declared.held.Held.{Held}
use Rattle.buffer_pool.specs.Frames.{shown}
use Rattle.buffer_pool.proofs.Puts.{shown_none}
use Rattle.buffer_pool.proofs.pool.Pool.new.Goals as goal

pub returns : goal.returns
returns c =
    let pages = boxed_slice_items c.in_ok-pages.pages in
    ap (λ (t : List (Option Held)). shown t pages) c.in_ok-table.ensures ∙ shown_none c.args.frames pages
