use Rattle.std.proofs.Common.{◌≡◌, inl, inr, true, ℕ, List, refl, sym, ap, subst, ◌∙◌}
use Rattle.block_model.specs.declared.value.Value.{Value}
use Rattle.store_layout.specs.DiskLayout.{DiskLayout}
use Rattle.page_locks.specs.LockChanges.{IsFreeFor, page_of}
use Rattle.page_locks.specs.LockHolders.{holder}
use Rattle.std.specs.Prelude.{All, slice_get}
use Rattle.opclass_any.specs.declared.classes.AnyClass.{AnyClass}
use Rattle.range_tuple.specs.SameIndex.{takes_by_parts}
use Rattle.range_tuple.specs.TupleBytes.{tuple_bytes}
use Rattle.range_tuple.specs.TupleIncludes.{TakesThere}
use Rattle.range_tuple.specs.Tuples.{with_row}
use Rattle.index_contents.specs.IndexContents.{contents, relation_of}
use Rattle.index_steps.specs.IndexTuples.{are_values, kinds_of, shape_of}
use Rattle.index_steps.specs.ShownIndex.{lock_in}
use Rattle.index_steps.proofs.OnlyReading.{still_read}
use Rattle.brin_insert.proofs.Copies.{changes_seen, copied, is_gone, stays}
use Rattle.brin_insert.proofs.in_index.copy.Goals as goal

pub returns-in-Ok-false-clause-stepped : goal.returns-in-Ok-false-clause-stepped
returns-in-Ok-false-clause-stepped g c = λ tells before r values.
    let store = c.args.pages.now in
    let at = c.args.at in
    let shape = shape_of store.layout at.index in
    let lock = lock_in store.layout c.args.locks.now at.index in
    is_gone shape at.actor at.range r (contents store.layout store.pages at.index) (contents store.layout c.copy_tuple.new.pages.pages at.index) lock before (tuple_bytes c.args.tuple.now) (still_read g.D.Disk.told store c.copy_tuple.new.pages c.copy_tuple.ensures.kept tells at.index at.actor lock)
    c.copy_tuple.new.copied (tuple_bytes c.copy_tuple.new.tuple) c.args.spot (c.in-Ok-false.ensures.gone c.in-Ok-false.field-0-test tells)

pub returns-then-changed-clause-stepped : goal.returns-then-changed-clause-stepped
returns-then-changed-clause-stepped g c = λ tells before r values.
    let store = c.args.pages.now in
    let at = c.args.at in
    let shape = shape_of store.layout at.index in
    let lock = lock_in store.layout c.args.locks.now at.index in
    let bytes = c.copy_tuple.new.copied in
    let t = c.copy_tuple.new.tuple in
    let u = c.add_row-changed.new.self in
    let read = c.in-Ok-true.ensures.read c.in-Ok-true.field-0-test in
    copied shape at.actor at.range r (contents store.layout store.pages at.index) (contents store.layout c.copy_tuple.new.pages.pages at.index) lock before (tuple_bytes c.args.tuple.now) (still_read g.D.Disk.told store c.copy_tuple.new.pages c.copy_tuple.ensures.kept tells at.index at.actor lock)
    c.args.spot bytes t u (c.in-Ok-true.ensures.there c.in-Ok-true.field-0-test tells) read (c.add_row-changed.ensures.widened ∙ ap (λ (vs : List Value). with_row vs t) (sym values))
    (λ w shows. c.a_row_is_added_to_what_is_seen.ensures shape (contents store.layout store.pages at.index) lock w r bytes t shows read (subst (λ (vs : List Value). are_values (kinds_of shape) vs ≡ true) (sym values) (c.values_are_known.ensures (kinds_of shape) c.requires.takes.kinds)))
    (changes_seen shape bytes t u read.spelt (c.one_tuple.ensures.one u t c.known-2.ensures.tuple c.known.ensures.tuple c.add_row-changed.ensures.same_index refl))
    (inl (c.add_row-changed.ensures.changed c.if-changed.true))

pub returns-in-Some-clause-stepped : goal.returns-in-Some-clause-stepped
returns-in-Some-clause-stepped g c = λ tells before r values.
    let store = c.args.pages.now in
    let at = c.args.at in
    let shape = shape_of store.layout at.index in
    let lock = lock_in store.layout c.args.locks.now at.index in
    let bytes = c.copy_tuple.new.copied in
    let t = c.copy_tuple.new.tuple in
    let u = c.add_row-changed.new.self in
    let read = c.in-Ok-true.ensures.read c.in-Ok-true.field-0-test in
    let layout : c.layout.result.now ≡ store.layout = c.layout.ensures ∙ c.copy_tuple.ensures.kept.leaves.layout in
    let relation : c.relation_of.result ≡ relation_of store.layout at.index = c.relation_of.ensures.number ∙ ap (λ (l : DiskLayout). relation_of l at.index) layout in
    copied shape at.actor at.range r (contents store.layout store.pages at.index) (contents store.layout c.copy_tuple.new.pages.pages at.index) lock before (tuple_bytes c.args.tuple.now) (still_read g.D.Disk.told store c.copy_tuple.new.pages c.copy_tuple.ensures.kept tells at.index at.actor lock)
    c.args.spot bytes t u (c.in-Ok-true.ensures.there c.in-Ok-true.field-0-test tells) read (c.add_row-changed.ensures.widened ∙ ap (λ (vs : List Value). with_row vs t) (sym values))
    (λ w shows. c.a_row_is_added_to_what_is_seen.ensures shape (contents store.layout store.pages at.index) lock w r bytes t shows read (subst (λ (vs : List Value). are_values (kinds_of shape) vs ≡ true) (sym values) (c.values_are_known.ensures (kinds_of shape) c.requires.takes.kinds)))
    (changes_seen shape bytes t u read.spelt (c.one_tuple.ensures.one u t c.known-2.ensures.tuple c.known.ensures.tuple c.add_row-changed.ensures.same_index refl))
    (inr (c.in-Some.field-0.by, ap (λ (n : ℕ). holder c.args.locks.now (page_of n c.args.spot.block)) (sym relation) ∙ c.in-Some.ensures.another.0, c.in-Some.ensures.another.1))

pub returns-in-None-clause-stepped : goal.returns-in-None-clause-stepped
returns-in-None-clause-stepped g c = λ tells before r values.
    let store = c.args.pages.now in
    let at = c.args.at in
    let shape = shape_of store.layout at.index in
    let lock = lock_in store.layout c.args.locks.now at.index in
    let bytes = c.copy_tuple.new.copied in
    let t = c.copy_tuple.new.tuple in
    let u = c.add_row-changed.new.self in
    let read = c.in-Ok-true.ensures.read c.in-Ok-true.field-0-test in
    let layout : c.layout.result.now ≡ store.layout = c.layout.ensures ∙ c.copy_tuple.ensures.kept.leaves.layout in
    let relation : c.relation_of.result ≡ relation_of store.layout at.index = c.relation_of.ensures.number ∙ ap (λ (l : DiskLayout). relation_of l at.index) layout in
    stays shape at.actor at.range r (contents store.layout store.pages at.index) (contents store.layout c.copy_tuple.new.pages.pages at.index) lock before (tuple_bytes c.args.tuple.now) (still_read g.D.Disk.told store c.copy_tuple.new.pages c.copy_tuple.ensures.kept tells at.index at.actor lock)
    c.args.spot bytes t u (c.in-Ok-true.ensures.there c.in-Ok-true.field-0-test tells) read (c.add_row-changed.ensures.widened ∙ ap (λ (vs : List Value). with_row vs t) (sym values))
    (λ w shows. c.a_row_is_added_to_what_is_seen.ensures shape (contents store.layout store.pages at.index) lock w r bytes t shows read (subst (λ (vs : List Value). are_values (kinds_of shape) vs ≡ true) (sym values) (c.values_are_known.ensures (kinds_of shape) c.requires.takes.kinds)))
    (tuple_bytes u) (c.add_row-changed.ensures.same c.if-changed.false)
    (subst (λ (n : ℕ). IsFreeFor (holder c.args.locks.now) at.actor (page_of n c.args.spot.block)) relation c.in-None.ensures.free)

pub add_row-changed-requires : goal.add_row-changed-requires
add_row-changed-requires g c =
    let values = c.args.values.now in
    takes_by_parts c.copy_tuple.new.tuple.columns values
    (subst (λ (ps : List (ℕ × AnyClass)). All (λ (p : ℕ × AnyClass). TakesThere p.1 (slice_get values p.0)) ps) (sym (c.copy_tuple.ensures.same_index ∙ c.requires.tuple)) c.requires.takes.taken)
