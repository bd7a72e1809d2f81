use Rattle.std.proofs.Common.{[], Some, refl, sym, ◌∙◌, ap, arith}
use Rattle.std.specs.Prelude.{option_map}
use Rattle.std.specs.Box.{boxed_slice_items}
use Rattle.std.proofs.lemmas.List.{get_or_read}
use Rattle.buffer_pool.specs.PoolState.{HeldPage, PoolState, held_at}
use Rattle.buffer_pool.proofs.Sets.{absent_is, content_is}
use Rattle.buffer_pool.proofs.pool.Pool.get.Goals as goal

pub returns-in_default : goal.returns-in_default
returns-in_default c =
    let pages = boxed_slice_items c.self.inside.pages in
    let none = ap (λ (p : PoolState). held_at p c.args.page) (sym c.self.view_is) ∙ absent_is c.self.inside.table pages c.args.page c.in_default.ensures.absent in
    ((refl, λ _. tt, c.self.view_is), record { page = sym (ap (option_map (λ (held : HeldPage). held.content)) none); rests = tt })

pub returns : goal.returns
returns c =
    let table = c.self.inside.table in
    let pages = boxed_slice_items c.self.inside.pages in
    let frame = c.in-Some.frame in
    let page = c.args.page in
    let is = ap Some (get_or_read pages frame c.index.result.now (omega (arith, c.in-Some.ensures.within, c.self.invariant.0)) c.index.ensures [])
    ∙ sym (content_is table pages frame page c.in-Some.ensures.within c.self.invariant.0 c.known.ensures.apart c.in-Some.ensures.found)
    ∙ ap (λ (p : PoolState). option_map (λ (held : HeldPage). held.content) (held_at p page)) c.self.view_is in
    ((refl, λ _. tt, c.self.view_is), record { page = is; rests = tt })
