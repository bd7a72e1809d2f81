use Rattle.std.proofs.Common.{◌≡◌, ℕ, ◌+◌, ◌<◌, List, length, take, get_or, fold, ap, sym, subst, ◌∙◌}
use Rattle.std.proofs.lemmas.List.Elements.{All-more, All-weaker}
use Rattle.std.proofs.lemmas.List.Sums.{fold_more}
use Rattle.opclass_api.proofs.summary.add_all.Goals as goal

-- one more item of the list is folded in
folded_one_more : {S X : Type 0} (f : S → X → S) (a s t : S) (xs : List X) (i : ℕ) (x : X) → i < length xs → s ≡ fold f a (take i xs) → x ≡ get_or xs i x → t ≡ f s x → t ≡ fold f a (take (i + 1) xs)
folded_one_more f a s t xs i x below so_far is next = next ∙ ap (λ before. f before x) so_far ∙ ap (f (fold f a (take i xs))) is ∙ sym (fold_more f a xs i x below)

pub values-preserved : goal.values-preserved
values-preserved g c =
    let class = g.C.OpClass in
    let includes_now = class.includes c.args.class.now c.add.new.s in
    record {
      of_class = c.add.ensures.stays_of_class;
      so_far = folded_one_more (class.add c.args.class.now) c.args.summary.now c.values.summary c.add.new.s c.args.values.now c.values.value-index c.value-item.result c.values-test.true c.values.invariant.so_far c.value-item.is c.add.ensures.widened;
      included =
          All-more includes_now c.args.values.now c.values.value-index c.value-item.result c.values-test.true
          (All-weaker (class.includes c.args.class.now c.values.summary) includes_now c.add.ensures.keeps_what_it_included _ c.values.invariant.included)
          (subst includes_now c.value-item.is c.add.ensures.includes_the_value);
      kept = λ w within. c.add.ensures.keeps_what_it_included w (c.values.invariant.kept w within);
    }
