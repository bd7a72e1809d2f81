use Rattle.std.proofs.Common.{◌≡◌, ℕ, ◌+◌, ◌<◌, ◌≤◌, ◌++◌, List, [], ◌∷◌, Vec, Global, drop, get_or, length, map, sym, ap, subst, ◌∙◌}
use Rattle.std.specs.Prelude.{All}
use Rattle.std.proofs.lemmas.List.{append-nil, drop_all}
use Rattle.std.proofs.lemmas.List.Elements.{All-push}
use Rattle.block_model.specs.declared.schema.Index.{Index}
use Rattle.block_model.specs.declared.schema.Schema.{Schema}
use Rattle.summarise_core.specs.declared.course.Standing.TheVariants as standings
use Rattle.summarise_core.specs.declared.wish.Wish.TheVariants as wishes
use Rattle.summarise_core.specs.Summarises.{IsSummariseOf, SummariseState}
use Rattle.index_steps.specs.ShownTable.{numbers_from}
use Rattle.session_parts.proofs.Onward.{indexes_are}
use Rattle.session_core.proofs.Summaries.{AreSoFar, so_far_more, so_far_skipped}
use Rattle.session_core.proofs.vacuuming.summaries_of.Goals.{then-index-table+in_ok-summary+in_ok-push, else-index-table}
use Rattle.session_core.proofs.vacuuming.summaries_of.Goals as goal

pub returns-clause-of : goal.returns-clause-of
returns-clause-of c =
    let layout = c.args.layout.now in
    let items = c.as_slice-index-items.ensures ∙ ap (λ (s : Schema). s.indexes) c.schema.ensures in
    let past : length layout.schema.indexes ≤ c.indexes.index-index = subst (λ (l : List Index). length l ≤ c.indexes.index-index) items c.indexes-test.false in
    let none : drop c.indexes.index-index layout.schema.indexes ≡ [] = drop_all c.indexes.index-index layout.schema.indexes past in
    let numbers = map (λ (a : SummariseState). a.index) c.indexes.summaries.items in
    record {
      indexes = sym (append-nil numbers) ∙ sym (ap (λ (l : List Index). numbers ++ numbers_from c.args.table c.indexes.number l) none) ∙ c.indexes.invariant.so_far ∙ sym (indexes_are layout c.args.table);
      of = c.indexes.invariant.of;
    }

pub indexes-preserved : goal.indexes-preserved
indexes-preserved c =
    let layout = c.args.layout.now in
    let items : c.as_slice-index-items.result.now ≡ layout.schema.indexes = c.as_slice-index-items.ensures ∙ ap (λ (s : Schema). s.indexes) c.schema.ensures in
    let within : c.indexes.index-index < length layout.schema.indexes = subst (λ (l : List Index). c.indexes.index-index < length l) items c.indexes-test.true in
    let is : c.index-item.result ≡ get_or layout.schema.indexes c.indexes.index-index c.index-item.result =
    subst (λ (l : List Index). c.index-item.result ≡ get_or l c.indexes.index-index c.index-item.result) items c.index-item.is in
    elim c.if-index-table.branch [
      | then-index-table+in_ok-summary+in_ok-push w ↦
          let one = w.in_ok-summary.summary in
          let now : c.if-index-table.summaries.items ≡ c.indexes.summaries.items ++ one ∷ [] = ap (λ (v : Vec SummariseState Global). v.items) w.summaries-is ∙ w.in_ok-push.ensures.items in
          record {
            counted = ap (λ (n : ℕ). n + 1) c.indexes.invariant.counted;
            so_far = subst (AreSoFar c.args.table (c.indexes.number + 1) (c.indexes.index-index + 1) layout.schema.indexes) (sym now)
                (so_far_more c.args.table c.indexes.number c.indexes.index-index layout.schema.indexes c.index-item.result within is c.indexes.summaries.items one w.if-index-table.true w.in_ok-summary.ensures.index c.indexes.invariant.so_far);
            of = subst (All (λ (a : SummariseState). IsSummariseOf layout a × (a.wish ≡ wishes.Complete))) (sym now)
                (All-push (λ (a : SummariseState). IsSummariseOf layout a × (a.wish ≡ wishes.Complete)) c.indexes.summaries.items one c.indexes.invariant.of (w.in_ok-summary.ensures.of, w.in_ok-summary.ensures.wish));
            new = subst (All (λ (a : SummariseState). a.standing ≡ standings.Begins)) (sym now)
                (All-push (λ (a : SummariseState). a.standing ≡ standings.Begins) c.indexes.summaries.items one c.indexes.invariant.new w.in_ok-summary.ensures.begins);
          }
      | else-index-table w ↦
          let now : c.if-index-table.summaries ≡ c.indexes.summaries = w.summaries-is in
          record {
            counted = ap (λ (n : ℕ). n + 1) c.indexes.invariant.counted;
            so_far = subst (λ (v : Vec SummariseState Global). AreSoFar c.args.table (c.indexes.number + 1) (c.indexes.index-index + 1) layout.schema.indexes v.items) (sym now)
                (so_far_skipped c.args.table c.indexes.number c.indexes.index-index layout.schema.indexes c.index-item.result within is c.indexes.summaries.items w.if-index-table.false c.indexes.invariant.so_far);
            of = subst (λ (v : Vec SummariseState Global). All (λ (a : SummariseState). IsSummariseOf layout a × (a.wish ≡ wishes.Complete)) v.items) (sym now) c.indexes.invariant.of;
            new = subst (λ (v : Vec SummariseState Global). All (λ (a : SummariseState). a.standing ≡ standings.Begins) v.items) (sym now) c.indexes.invariant.new;
          }
    ]
