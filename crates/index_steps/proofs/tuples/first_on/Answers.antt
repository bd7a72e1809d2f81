use Rattle.std.proofs.Common.{◌≡◌, List, ℕ, ap, subst, sym, ◌∙◌, arith}
use Rattle.std.specs.Prelude.{Some}
use Rattle.index_layout.specs.IndexPages.{IsIndexPage}
use Rattle.index_contents.specs.IndexContents.{tuple_on}
use Rattle.index_steps.proofs.MapSizes.{sized}
use Rattle.index_steps.proofs.tuples.first_on.Goals as goal

pub slots-slot-end-requires : goal.slots-slot-end-requires
slots-slot-end-requires c = subst IsIndexPage (sym c.as_bytes-bytes.ensures.bytes) c.requires.page

pub tuple_at-requires : goal.tuple_at-requires
tuple_at-requires c = subst IsIndexPage (sym c.as_bytes-bytes.ensures.bytes) c.requires.page

pub copied-requires : goal.copied-requires
copied-requires c =
    let page = c.args.page.now in
    let there : tuple_on page c.slots.slot ≡ Some c.in-Some.tuple.now = ap (λ (p : List ℕ). tuple_on p c.slots.slot) (sym c.as_bytes-bytes.ensures.bytes) ∙ sym c.in-Some.ensures in
    let sizes = sized page c.slots.slot c.in-Some.tuple.now (c.an_index_page_has_one_list.ensures.regular page c.requires.page) there in
    omega (arith, sizes.1, c.requires.room, c.slots.auto.out)

pub returns-in-Some-clause-size : goal.returns-in-Some-clause-size
returns-in-Some-clause-size c =
    let page = c.args.page.now in
    let there : tuple_on page c.slots.slot ≡ Some c.in-Some.tuple.now = ap (λ (p : List ℕ). tuple_on p c.slots.slot) (sym c.as_bytes-bytes.ensures.bytes) ∙ sym c.in-Some.ensures in
    let sizes = sized page c.slots.slot c.in-Some.tuple.now (c.an_index_page_has_one_list.ensures.regular page c.requires.page) there in
    (omega (arith, sizes.0, c.copied.ensures.size), omega (arith, sizes.1, c.copied.ensures.size))
