use Rattle.std.proofs.Common.{◌≡◌, ℕ, List, Some, refl, sym, ap, subst, ◌∙◌, arith}
use Rattle.index_contents.specs.IndexContents.{contents}
use Rattle.range_tuple.specs.TupleBytes.{tuple_bytes}
use Rattle.range_tuple.specs.TupleReading.{read_of}
use Rattle.range_tuple.specs.Tuples.{parts_of}
use Rattle.range_store.specs.Tuples.{IsOfRange}
use Rattle.std.specs.Prelude.{Ok, Err}
use Rattle.index_steps.specs.IndexTuples.{shape_of}
use Rattle.index_steps.specs.DamagedPages.{names_page}
use Rattle.index_steps.proofs.Copying.{is_misread, read_as, shows_gone, shows_tuple}
use Rattle.index_steps.proofs.Damage.{none_misread, well_read}
use Rattle.index_steps.proofs.reading.copy_tuple.Goals as goal

pub hold-requires : goal.hold-requires
hold-requires g c = rw c.in-Ok-Some.field-0-is at c.in-Ok-Some.ensures.short

pub returns-in-Ok-None-clause-gone : goal.returns-in-Ok-None-clause-gone
returns-in-Ok-None-clause-gone g c = λ is tells.
    let old = c.args.pages.now in
    shows_gone (shape_of old.layout c.args.index) (contents old.layout old.pages c.args.index) c.args.range c.args.spot (omega arith) (c.in-Ok-None.ensures.gone c.in-Ok-None.field-0-is tells)

pub returns-in-Ok-None-clause-undamaged : goal.returns-in-Ok-None-clause-undamaged
returns-in-Ok-None-clause-undamaged g c = λ tells.
    let old = c.args.pages.now in
    none_misread (shape_of old.layout c.args.index) (contents old.layout old.pages c.args.index) c.args.range c.args.spot (omega arith) (c.in-Ok-None.ensures.gone c.in-Ok-None.field-0-is tells)

pub returns-in-Err-clause-at : goal.returns-in-Err-clause-at
returns-in-Err-clause-at g c = names_page c.args.pages.now.layout c.args.pages.now.layout c.args.index c.args.spot.block c.in-Err.error refl c.requires.index c.in-Err.ensures.reopen c.in-Err.ensures.at

pub returns-in-Ok-clause-there : goal.returns-in-Ok-clause-there
returns-in-Ok-clause-there g c = λ is tells.
    let old = c.args.pages.now in
    let there = rw c.in-Ok-Some.field-0-is at c.in-Ok-Some.ensures.there in
    let of = rw c.in-Ok-Some.field-0-is at c.in-Ok-Some.ensures.range in
    shows_tuple (shape_of old.layout c.args.index) (contents old.layout old.pages c.args.index) c.args.range c.args.spot c.hold.new.self (there tells ∙ ap Some (sym c.hold.ensures)) (subst (λ (bytes : List ℕ). IsOfRange bytes c.args.range) (sym c.hold.ensures) of)

pub returns-in-Err-decode-clause-outcome : goal.returns-in-Err-decode-clause-outcome
returns-in-Err-decode-clause-outcome g c =
    let old = c.args.pages.now in
    let done = rw c.in-Ok-Some.is at c.tuple_at.follows.holds-at-none in
    let there = rw c.in-Ok-Some.field-0-is at c.in-Ok-Some.ensures.there in
    let of = rw c.in-Ok-Some.field-0-is at c.in-Ok-Some.ensures.range in (
      done.1.0,
      done.1.1,
      done.1.2,
      λ tells.
          is_misread (shape_of old.layout c.args.index) (contents old.layout old.pages c.args.index) (parts_of c.args.tuple.now.columns) c.args.range c.in-Err-decode.field-0.at c.args.spot c.in-Ok-Some.bytes.now c.requires.tuple (there tells) of
          (subst (λ (bytes : List ℕ). read_of (parts_of c.args.tuple.now.columns) bytes ≡ Err c.in-Err-decode.field-0.at) (c.bytes.ensures ∙ c.hold.ensures) c.in-Err-decode.ensures.read),
    )

pub returns-in-Ok-clause-undamaged : goal.returns-in-Ok-clause-undamaged
returns-in-Ok-clause-undamaged g c = λ tells.
    let old = c.args.pages.now in
    let there = rw c.in-Ok-Some.field-0-is at c.in-Ok-Some.ensures.there in
    let same = c.bytes.ensures ∙ c.hold.ensures in
    let read = read_as (shape_of old.layout c.args.index) (parts_of c.args.tuple.now.columns) c.in-Ok-Some.bytes.now c.decode.new.self c.requires.tuple
    (subst (λ (bytes : List ℕ). bytes ≡ tuple_bytes c.decode.new.self) same c.in-Ok.ensures.found)
    (subst (λ (bytes : List ℕ). read_of (parts_of c.args.tuple.now.columns) bytes ≡ Ok c.decode.new.self) same c.in-Ok.ensures.read) in
    well_read (shape_of old.layout c.args.index) (contents old.layout old.pages c.args.index) c.args.range c.args.spot c.in-Ok-Some.bytes.now c.decode.new.self (there tells) read
