use Rattle.std.proofs.Common.{◌≡◌, List, [], ◌∷◌, ◌++◌, ap, ◌∙◌, sym, arith}
use Rattle.disk_trait.specs.Event.{Event}
use Rattle.disk_trait.specs.Noted.{events_onto}
use Rattle.disk_trait.specs.Undone.{undone}
use Rattle.disk_trait.specs.declared.history.Call.{Call}
use Rattle.disk_trait.specs.declared.history.Call.TheVariants.{Wrote, Synced}
use Rattle.disk_trait.proofs.Notes.{events_onto-synced, last_count, last_fits, left_whole, left_within, left_same}
use Rattle.disk_trait.proofs.history.put_back.Goals as goal

pub returns-in_default-call : goal.returns-in_default-call
returns-in_default-call c =
    let is : c.writes.left.now ≡ c.in-Some.earlier.now ++ Synced ∷ [] = c.in-Some.ensures.cases.0 ∙ ap (λ (x : Call). c.in-Some.earlier.now ++ x ∷ []) c.in_default-call.is in
    sym (ap (λ (es : List Event). undone c.writes.image.items es) (ap (λ (l : List Call). events_onto [] l c.writes.kept.now) is ∙ events_onto-synced [] c.in-Some.earlier.now c.writes.kept.now))
    ∙ c.writes.invariant.same

pub overflow_sub-kept : goal.overflow_sub-kept
overflow_sub-kept c =
    let is : c.writes.left.now ≡ c.in-Some.earlier.now ++ Wrote c.in-Wrote.at c.in-Wrote.count ∷ [] = c.in-Some.ensures.cases.0 ∙ ap (λ (x : Call). c.in-Some.earlier.now ++ x ∷ []) c.in-Wrote.is in
    last_count _ _ _ _ _ is c.writes.invariant.whole

pub overwrite-requires : goal.overwrite-requires
overwrite-requires c =
    let is : c.writes.left.now ≡ c.in-Some.earlier.now ++ Wrote c.in-Wrote.at c.in-Wrote.count ∷ [] = c.in-Some.ensures.cases.0 ∙ ap (λ (x : Call). c.in-Some.earlier.now ++ x ∷ []) c.in-Wrote.is in
    omega (arith, last_fits _ _ _ _ _ is c.writes.invariant.whole c.writes.image.items c.writes.invariant.within c.split_at.result.1.now c.split_at.ensures.back, c.writes.image.ok)

pub writes-preserved : goal.writes-preserved
writes-preserved c =
    let is : c.writes.left.now ≡ c.in-Some.earlier.now ++ Wrote c.in-Wrote.at c.in-Wrote.count ∷ [] = c.in-Some.ensures.cases.0 ∙ ap (λ (x : Call). c.in-Some.earlier.now ++ x ∷ []) c.in-Wrote.is in
    let inv = c.writes.invariant in
    let parts = c.split_at.ensures in record {
      whole = left_whole _ _ _ _ _ is inv.whole c.writes.image.items inv.within c.split_at.result.0.now c.split_at.result.1.now c.overwrite.new.held.items parts.front parts.back c.overwrite.ensures;
      within = left_within _ _ _ _ _ is inv.whole c.writes.image.items inv.within c.split_at.result.0.now c.split_at.result.1.now c.overwrite.new.held.items parts.front parts.back c.overwrite.ensures;
      same = left_same _ _ _ _ _ is inv.whole c.writes.image.items inv.within c.split_at.result.0.now c.split_at.result.1.now c.overwrite.new.held.items parts.front parts.back c.overwrite.ensures ∙ inv.same;
    }
