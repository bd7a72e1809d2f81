use Rattle.std.proofs.Common.{◌≡◌, ℕ, ◌<◌, List, [], Option, get_or, refl, sym, ◌∙◌, ap, subst, arith}
use Rattle.std.specs.Box.{boxed_slice_items}
use Rattle.std.proofs.lemmas.List.{get_or_read}
use Rattle.std.proofs.lemmas.Result.{err_from_is_err_and}
use Rattle.disk_trait.specs.Spliced.{spliced}
use Rattle.block_model.specs.NumberMaps.{same_Some}
use Rattle.buffer_pool.specs.declared.held.Held.{Held}
use Rattle.buffer_pool.specs.PoolState.{PoolState, IsDirty}
use Rattle.buffer_pool.specs.WritesPage.{place_of}
use Rattle.buffer_pool.specs.Slots.{page_of}
use Rattle.buffer_pool.specs.Frames.{shown}
use Rattle.buffer_pool.proofs.Cleaning.{cleans, fails, later, lies, on_page_fault}
use Rattle.buffer_pool.proofs.pool.Pool.clean.Goals as goal

pub returns-in_default-clause-cleans : goal.returns-in_default-clause-cleans
returns-in_default-clause-cleans g c = record {
  waits = subst (λ (p : PoolState). (log : ℕ) → IsDirty p c.args.page log → c.args.durable < log) c.self.view_is
      (later c.self.inside.table (boxed_slice_items c.self.inside.pages) c.args.durable c.args.page c.in_default.ensures.none);
  same = refl;
  untouched = refl;
}

pub clean_frame-requires-clause-within : goal.clean_frame-requires-clause-within
clean_frame-requires-clause-within g c =
    lies c.self.inside.table (boxed_slice_items c.self.inside.pages) c.in-Some.frame c.args.at (g.D.Disk.told c.args.disk.now).size c.in-Some-slot.held c.args.self.now c.in-Some.ensures.within c.self.invariant.0 c.known.ensures.apart (sym c.in-Some-slot.ensures) c.self.view_is c.requires

pub returns-in_err-clean_frame-clause-cleans : goal.returns-in_err-clean_frame-clause-cleans
returns-in_err-clean_frame-clause-cleans g c =
    let table = c.self.inside.table in
    let pages = boxed_slice_items c.self.inside.pages in
    let frame = c.in-Some.frame in
    let held = c.in-Some-slot.held in
    let number : held.page ≡ c.args.page = same_Some held.page c.args.page (ap page_of c.in-Some-slot.ensures ∙ c.in-Some.ensures.found) in
    let p = err_from_is_err_and c.from_residual.result c.from_residual.ensures.1 in
    let it = fails table pages frame c.args.durable c.args.at held c.args.self.now (shown c.clean_frame.new.table pages) _ _ c.in-Some.ensures.within c.self.invariant.0 c.known.ensures.apart (sym c.in-Some-slot.ensures) c.in-Some.ensures.suits c.self.view_is
    (ap (λ (t : List (Option Held)). shown t pages) c.in_err-clean_frame.ensures.same ∙ c.self.view_is) c.in_err-clean_frame.ensures.writes in
    on_page_fault _ _ _ _ _ _ _ c.from_residual.result p.0 p.1 (it.0, it.1 ∙ number)

pub returns-clause-cleans : goal.returns-clause-cleans
returns-clause-cleans g c =
    let table = c.self.inside.table in
    let pages = boxed_slice_items c.self.inside.pages in
    let frame = c.in-Some.frame in
    let held = c.in-Some-slot.held in
    let number : held.page ≡ c.args.page = same_Some held.page c.args.page (ap page_of c.in-Some-slot.ensures ∙ c.in-Some.ensures.found) in
    let bytes : c.as_bytes-bytes.result.now ≡ get_or pages frame [] = c.as_bytes-bytes.ensures.bytes ∙ get_or_read pages frame c.index.result.now (omega (arith, c.in-Some.ensures.within, c.self.invariant.0)) c.index.ensures [] in
    let it = cleans table pages frame c.args.durable c.args.at held c.args.self.now (shown c.clean_frame.new.table pages) _ _ c.in-Some.ensures.within c.self.invariant.0 c.known.ensures.apart (sym c.in-Some-slot.ensures) c.in-Some.ensures.suits c.self.view_is
    (ap (λ (t : List (Option Held)). shown t pages) (sym c.in_ok-clean_frame.ensures.clean))
    (λ tells. c.in_ok-clean_frame.ensures.written tells ∙ ap (λ (b : List ℕ). spliced (g.D.Disk.told c.args.disk.now).contents (place_of c.args.at held.page) b) bytes)
    c.in_ok-clean_frame.ensures.writes in
    (it.0, it.1 ∙ number)
