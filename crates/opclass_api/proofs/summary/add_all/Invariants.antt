use Rattle.std.proofs.Common.{◌≡◌, All, fold, take}
use Rattle.block_model.specs.declared.value.Value.{Value}
use Rattle.opclass_api.proofs.summary.add_all.Given as goal

abbrev pub invariant-values : goal.invariant-values
invariant-values g l = record {
  of_class : g.C.OpClass.is_of l.class l.summary;
  so_far : l.summary ≡ fold (g.C.OpClass.add l.class) l.fn.summary (take l.value-index l.values);
  included : All (g.C.OpClass.includes l.class l.summary) (take l.value-index l.values);
  kept : (w : Value) → g.C.OpClass.includes l.class l.fn.summary w → g.C.OpClass.includes l.class l.summary w;
}
