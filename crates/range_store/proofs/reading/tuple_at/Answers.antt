use Rattle.std.proofs.Common.{◌≡◌, ◌<◌, ℕ, List, Option, None, Some, IfSome, length, refl, sym, ap, subst, ◌∙◌, arith}
use Rattle.std.proofs.lemmas.Option.{none-some}
use Rattle.block_model.specs.declared.place.Place.{Place}
use Rattle.block_model.specs.declared.schema.Sizes.{Sizes}
use Rattle.store_layout.specs.DiskLayout.{DiskLayout, relation_blocks}
use Rattle.page_layout.specs.declared.page.Form.TheVariants as forms
use Rattle.page_map.specs.declared.faults.StoreError.{StoreError}
use Rattle.page_map.specs.declared.faults.StoreError.TheVariants as errors
use Rattle.page_map.specs.Forms.{form_of}
use Rattle.page_map.specs.Outcome.{IsReopen, NamesPage}
use Rattle.page_map.specs.PageMap.{block_limit}
use Rattle.index_contents.specs.Calls.{past_the_limit}
use Rattle.index_contents.specs.IndexContents.{relation_of, tuple_on}
use Rattle.index_contents.specs.Reading.{tuple_there}
use Rattle.page_store.specs.SurvivesLaws.{survives_still}
use Rattle.range_store.proofs.Spots.{none_past}
use Rattle.range_store.proofs.reading.tuple_at.Goals as goal

pub tuple_of-requires : goal.tuple_of-requires
tuple_of-requires g c = record { page = c.index_pages_are_known.ensures c.args.pages.now.layout c.relation_of-relation.result c.in-Ok-read.page.now (subst (λ (l : DiskLayout). form_of l c.relation_of-relation.result ≡ forms.Index) c.layout.ensures c.relation_of-relation.ensures.form) c.in-Ok-read.ensures.form }

-- what holds of the tuple, if there is one, has this for it
if_there : {X : Type 0} {P Q : X → Type 0} (there : Option X) → ((x : X) → P x → Q x) → IfSome there P → IfSome there Q
if_there None then has = tt
if_there (Some x) then has = then x has

-- no damage is told
none_named : (layout : DiskLayout) (place : Place) (error : StoreError) → IsReopen error → NamesPage layout place error
none_named layout place (errors.Damaged at) is = absurd is
none_named layout place error is = tt

pub returns-in-Ok : goal.returns-in-Ok
returns-in-Ok g c =
    let store = c.args.pages.now in
    let there = subst (λ (l : DiskLayout). c.relation_of-relation.result < length (relation_blocks l)) c.layout.ensures c.relation_of-relation.ensures.there in
    let limit = subst (λ (l : DiskLayout). block_limit l c.relation_of-relation.result ≡ l.sizes.index_blocks) c.layout.ensures c.relation_of-relation.ensures.limit in
    let blocks = c.sizes.ensures ∙ ap (λ (l : DiskLayout). l.sizes) c.layout-2.ensures in
    let past = past_the_limit store.layout store.pages c.relation_of-relation.result c.args.spot.block c.known.ensures.whole there (omega (arith, limit, c.if-block-sizes.true, ap (λ (s : Sizes). s.index_blocks) blocks)) in
    let none = none_past store.layout store.pages c.args.index c.relation_of-relation.result c.args.spot (c.relation_of-relation.ensures.number ∙ ap (λ (l : DiskLayout). relation_of l c.args.index) c.layout.ensures) past in (
      (refl, λ _. tt, (record { leaves = record { layout = refl; tells = refl; faults = omega arith }; pages = λ tells. refl }, c.in-Ok.ensures.outcome, survives_still g.D.Disk.told store c.ready.ensures.stays)),
      record { there = tt; range = tt; short = tt; within = tt; gone = λ is tells bytes stands of. absurd (none-some _ (sym none ∙ stands)); at = tt; reopen = tt; rests = tt },
    )

pub returns-in-Err : goal.returns-in-Err
returns-in-Err g c =
    let store = c.args.pages.now in
    let named = none_named store.layout (record { relation = relation_of store.layout c.args.index; block = c.args.spot.block }) c.in-Err.error c.in-Err.ensures.reopen in (
      (refl, λ _. tt, (record { leaves = record { layout = refl; tells = refl; faults = omega arith }; pages = λ tells. refl }, c.in-Err.ensures.outcome, survives_still g.D.Disk.told store c.ready.ensures.stays)),
      record { there = tt; range = tt; short = tt; within = tt; gone = tt; at = named; reopen = λ past. c.in-Err.ensures.reopen; rests = tt },
    )

pub returns-in-Ok-read : goal.returns-in-Ok-read
returns-in-Ok-read g c =
    let store = c.args.pages.now in
    let relation = c.relation_of-relation.ensures.number ∙ ap (λ (l : DiskLayout). relation_of l c.args.index) c.layout.ensures in
    let blocks = c.sizes.ensures ∙ ap (λ (l : DiskLayout). l.sizes) c.layout-2.ensures in
    let on_page = tuple_there store.layout store.pages c.args.index c.relation_of-relation.result c.args.spot relation in (
      (refl, λ _. tt, rw c.in-Ok-read.is at c.read.follows.holds-at-none),
      record {
        there = if_there c.tuple_of.result (λ tuple has tells. sym on_page ∙ ap (λ (p : List ℕ). tuple_on p c.args.spot.slot) (sym (c.in-Ok-read.ensures.page tells)) ∙ has.0) c.tuple_of.ensures.there;
        range = if_there c.tuple_of.result (λ tuple has. has.1) c.tuple_of.ensures.there;
        short = c.tuple_of.ensures.short;
        within = if_there c.tuple_of.result (λ tuple has. omega (arith, c.if-block-sizes.false, ap (λ (s : Sizes). s.index_blocks) blocks)) c.tuple_of.ensures.there;
        gone = λ is tells bytes stands of. c.tuple_of.ensures.gone is bytes (ap (λ (p : List ℕ). tuple_on p c.args.spot.slot) (c.in-Ok-read.ensures.page tells) ∙ on_page ∙ stands) of;
        at = tt;
        reopen = tt;
        rests = tt;
      },
    )
