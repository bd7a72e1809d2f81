use Rattle.std.proofs.Common.{◌≡◌, List, Some, None, sym, ap, ◌∙◌, subst}
use Rattle.page_locks.specs.declared.held.Held.{Held}
use Rattle.page_locks.specs.HeldLocks.{AreApart, found, holders_of}
use Rattle.page_locks.proofs.Entries.{apart_push, held_in_map, holders_push, insert_same}
use Rattle.page_locks.proofs.locks.hold.Goals as goal

pub returns-in-None-clause-holders : goal.returns-in-None-clause-holders
returns-in-None-clause-holders c =
    let held = c.args.held.now.items in
    let x : Held = record { page = c.args.page; by = c.args.actor } in
    let none : found held c.args.page ≡ None = subst (λ (xs : List Held). found xs c.args.page ≡ None) c.as_slice.ensures.value (sym c.holder_in.ensures ∙ c.in-None.is) in
    ap holders_of c.push_reserved.ensures.items ∙ holders_push held x none

pub returns-in-None-clause-apart : goal.returns-in-None-clause-apart
returns-in-None-clause-apart c =
    let held = c.args.held.now.items in
    let x : Held = record { page = c.args.page; by = c.args.actor } in
    let none : found held c.args.page ≡ None = subst (λ (xs : List Held). found xs c.args.page ≡ None) c.as_slice.ensures.value (sym c.holder_in.ensures ∙ c.in-None.is) in
    subst AreApart (sym c.push_reserved.ensures.items) (apart_push held x c.requires.apart none)

pub returns-in-Some-clause-holders : goal.returns-in-Some-clause-holders
returns-in-Some-clause-holders c =
    let held = c.args.held.now.items in
    let is : found held c.args.page ≡ Some c.in-Some.field-0 = subst (λ (xs : List Held). found xs c.args.page ≡ Some c.in-Some.field-0) c.as_slice.ensures.value (sym c.holder_in.ensures ∙ c.in-Some.is) in
    insert_same (holders_of held) c.args.page c.args.actor (held_in_map held c.args.page ∙ is ∙ ap Some (c.requires.free c.in-Some.field-0 is))
