use Rattle.std.proofs.Common.{◌≡◌, ◌+◌, ◌==◌, ℕ, Bool, true, All, List, [], ◌∷◌, ◌++◌, length, length-set, get_or, take, sym, ap, ◌∙◌, subst, arith}
use Rattle.std.specs.List.{list_any}
use Rattle.std.proofs.lemmas.List.{take_more_set}
use Rattle.std.proofs.lemmas.List.Elements.{All-push, All-weaker}
use Rattle.block_model.specs.declared.row.Cond.{Cond}
use Rattle.range_tuple.specs.GatheredKeys.{IsGathered}
use Rattle.range_tuple.specs.declared.scan_keys.ColumnKeys.{ColumnKeys}
use Rattle.range_tuple.proofs.Gathering.{IsBefore, all_more, asked_among, filtered_few, gathered_stays, is_on_one, keys_added, keys_kept, none_without_keys, room_more, room_same}
use Rattle.range_tuple.proofs.scan_keys.gather.Goals.{then-not-is_on_one, else-not-is_on_one}
use Rattle.range_tuple.proofs.scan_keys.gather.Goals as goal

pub gathered-keys-requires : goal.gathered-keys-requires
gathered-keys-requires c =
    let conds = c.args.conds.now in
    let at = c.conds.at in
    let x = get_or conds at c.index-conds-at.result in
    let there : x ≡ get_or conds at x = ap (get_or conds at) c.index-conds-at.is in
    let room = room_more conds at c.conds.end x c.conds-test.true there (sym c.if-not-is_on_one.ensures) c.conds.invariant.room in
    record { room = omega (arith, room, filtered_few (asked_among conds (at + 1)) conds, c.requires) }

pub conds-preserved : goal.conds-preserved
conds-preserved c =
    let conds = c.args.conds.now in
    let at = c.conds.at in
    let x = get_or conds at c.index-conds-at.result in
    let there : x ≡ get_or conds at x = ap (get_or conds at) c.index-conds-at.is in
    let before = c.conds.invariant in
    let had = take c.conds.count c.conds.columns in
    elim c.if-not-is_on_one.branch [
      | then-not-is_on_one w ↦
          let keys = w.gathered-keys.result in
          let told = w.gathered-keys.ensures in
          let new = w.gathered-keys.new.out in
          let ends : keys.end ≡ c.if-not-is_on_one.end = sym (w.end-is ∙ w.from-end.ensures) in
          let taken : had ++ keys ∷ [] ≡ take c.if-not-is_on_one.count c.if-not-is_on_one.columns =
          sym (take_more_set c.conds.columns c.conds.count keys (omega (arith, before.few, before.places, c.conds-test.true, c.requires))) ∙ (λ i. take (sym w.count-is i) (sym w.columns-is i)) in
          let each : All (IsBefore conds new keys.end) (had ++ keys ∷ []) =
          All-push (IsBefore conds new keys.end) had keys
          (gathered_stays conds c.conds.comparisons new c.conds.end keys.end told.before (omega (arith, told.end, told.keys.within)) (omega (arith, told.end)) had before.each)
          (omega arith, told.keys) in
          let has : ℕ → Bool = λ place. list_any (λ k. k.column == place) (had ++ keys ∷ []) in
          let room = room_more conds at c.conds.end x c.conds-test.true there (sym w.if-not-is_on_one.ensures) before.room in
          record {
            few = omega (arith, w.count-is, before.few);
            places = ap length w.columns-is ∙ length-set c.conds.columns c.conds.count keys ∙ before.places;
            room = omega (arith, sym ends, told.end, room);
            each = subst (λ (p : List Cond × (ℕ × List ColumnKeys)). All (IsBefore conds p.0 p.1.0) p.1.1) (λ i. (sym w.comparisons-is i, (ends i, taken i))) each;
            all = subst (λ (l : List ColumnKeys). (place : ℕ) → is_on_one place (take (at + 1) conds) ≡ true → list_any (λ k. k.column == place) l ≡ true) taken
                (all_more conds at x has c.conds-test.true there (λ place asked. keys_kept had keys place (before.all place asked)) (keys_added had keys x.column told.column));
          }
      | else-not-is_on_one w ↦
          let taken : had ≡ take c.if-not-is_on_one.count c.if-not-is_on_one.columns = (λ i. take (sym w.count-is i) (sym w.columns-is i)) in
          let has : ℕ → Bool = λ place. list_any (λ k. k.column == place) had in
          record {
            few = omega (arith, w.count-is, before.few);
            places = ap length w.columns-is ∙ before.places;
            room = omega (arith, w.end-is, room_same conds at c.conds.end before.room);
            each = subst (λ (p : List Cond × (ℕ × List ColumnKeys)). All (IsBefore conds p.0 p.1.0) p.1.1) (λ i. (sym w.comparisons-is i, (sym w.end-is i, taken i))) before.each;
            all = subst (λ (l : List ColumnKeys). (place : ℕ) → is_on_one place (take (at + 1) conds) ≡ true → list_any (λ k. k.column == place) l ≡ true) taken
                (all_more conds at x has c.conds-test.true there before.all (before.all x.column (sym w.if-not-is_on_one.ensures)));
          }
    ]

pub returns : goal.returns
returns c =
    let keys = take c.conds.count c.conds.columns in
    record {
      few = omega (arith, c.conds.invariant.few, c.conds.auto.at-end, c.requires);
      each = All-weaker (IsBefore c.args.conds.now c.conds.comparisons c.conds.end) (IsGathered c.args.conds.now c.conds.comparisons) (λ k before. before.1) keys c.conds.invariant.each;
      all = none_without_keys c.args.conds.now c.conds.at keys (omega (arith, c.conds-test.false)) c.conds.invariant.all;
    }
