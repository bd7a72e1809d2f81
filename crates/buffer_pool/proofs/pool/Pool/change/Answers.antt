use Rattle.std.proofs.Common.{◌≡◌, ℕ, List, [], Some, set, sym, ◌∙◌, ap, arith, inl, inr}
use Rattle.std.specs.Prelude.{option_map}
use Rattle.std.specs.Box.{boxed_slice_items}
use Rattle.std.proofs.lemmas.List.{get_or_read}
use Rattle.block_model.specs.NumberMaps.{same_Some}
use Rattle.buffer_pool.specs.PoolState.{HeldPage, PoolState, held_at, with_page}
use Rattle.buffer_pool.specs.Frames.{shown}
use Rattle.buffer_pool.proofs.Puts.{shown_own}
use Rattle.buffer_pool.proofs.Sets.{absent_is, content_is}
use Rattle.buffer_pool.proofs.pool.Pool.change.Goals as goal

pub returns-in_default : goal.returns-in_default
returns-in_default c =
    let pages = boxed_slice_items c.self.inside.pages in (
      (λ i. inr (c.self.view_is i)),
      record {
        page = sym (ap (option_map (λ (held : HeldPage). held.content)) (ap (λ (p : PoolState). held_at p c.args.page) (sym c.self.view_is) ∙ absent_is c.self.inside.table pages c.args.page c.in_default.ensures.absent));
        changes = tt;
      },
    )

pub returns : goal.returns
returns c =
    let table = c.self.inside.table in
    let pages = boxed_slice_items c.self.inside.pages in
    let frame = c.in-Some.frame in
    let page = c.args.page in
    let lent : (w : List ℕ) → shown c.put.new.self (set pages frame w) ≡ with_page c.args.self.now page (record { content = w; log = Some c.args.log }) =
    λ w. (λ i. shown (c.put.ensures i) (set pages frame w))
    ∙ shown_own table pages frame (record { page = page; log = Some c.args.log }) w c.in-Some.ensures.within c.self.invariant.0
    (λ k e. c.known.ensures.apart k frame page e c.in-Some.ensures.found)
    (λ q other e. other (sym (same_Some page q (sym c.in-Some.ensures.found ∙ e))))
    ∙ ap (λ (p : PoolState). with_page p page (record { content = w; log = Some c.args.log })) c.self.view_is in (
      (λ i. inl (c.index_mut.result.ghost_name, λ w. lent w i)),
      record {
        page = ap Some (get_or_read pages frame c.index_mut.result.now (omega (arith, c.in-Some.ensures.within, c.self.invariant.0)) c.index_mut.ensures.value [])
            ∙ sym (content_is table pages frame page c.in-Some.ensures.within c.self.invariant.0 c.known.ensures.apart c.in-Some.ensures.found)
            ∙ ap (λ (p : PoolState). option_map (λ (held : HeldPage). held.content) (held_at p page)) c.self.view_is;
        changes = tt;
      },
    )
