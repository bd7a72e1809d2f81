-- a summary of networks that is asked misses no address that it includes
use Rattle.std.proofs.Common.{◌≡◌, ◌≤◌, true, false, List, refl, sym, ◌∙◌, subst, inl, inr, arith}
use Rattle.std.specs.Prelude.{◌⊎◌, nat_lt}
use Rattle.std.proofs.lemmas.Bool.{cases_lt, false≢true, and_parts, or_cases, or_left, or_right}
use Rattle.block_model.specs.declared.row.Cond.{Cond}
use Rattle.block_model.specs.declared.value.Value.{Value}
use Rattle.block_model.specs.declared.value.Value.TheVariants.{Null, Int, Span, Net}
use Rattle.block_model.specs.declared.value.Op.{Op}
use Rattle.block_model.specs.declared.value.Op.TheVariants.{Eq, Overlaps, Before, After, WithinEq, ContainsEq}
use Rattle.block_model.specs.Matches.{is_within, kind_matches, network_matches}
use Rattle.block_model.specs.Networks.{Network}
use Rattle.opclass_api.specs.Conditions.{AllCompare, compares, has_null_key, is_null, meets, meets_all}
use Rattle.opclass_inclusion.specs.NetConsistent.{condition_holds, consistent, key_holds, network_holds}
use Rattle.opclass_inclusion.specs.NetIncludes.{Includes, IsNet}
use Rattle.opclass_inclusion.specs.declared.net_summary.NetSummary.{NetSummary}
use Rattle.opclass_inclusion.specs.declared.net_summary.NetSummary.TheVariants.{NothingYet, Unmergeable, Hull}
use Rattle.opclass_inclusion.proofs.NetBits.{Within, fewer_bits, parts, whole, within_further}
use Rattle.opclass_api.specs.Asking as Asked
use Rattle.opclass_api.specs.EqualNetworks.{same_network}

-- of two networks that an address is in, one is in the other
shorter_holds : (v a b : Network) → Within v a → Within v b → b.prefix ≤ a.prefix → is_within a b ≡ true
shorter_holds v a b first second h = whole a b (record {
  family = sym first.family ∙ second.family;
  longer = h;
  agree = sym (fewer_bits v a a.prefix b.prefix first.family h first.agree) ∙ second.agree;
})

comparable : (v a b : Network) → is_within v a ≡ true → is_within v b ≡ true → network_matches a Overlaps b ≡ true
comparable v a b first second = elim (cases_lt a.prefix b.prefix) [
  | inl below ↦ or_right (is_within a b) (is_within b a) (shorter_holds v b a (parts v b second) (parts v a first) (omega (arith, below)))
  | inr above ↦ or_left (is_within a b) (is_within b a) (shorter_holds v a b (parts v a first) (parts v b second) above)
]

-- what an address in the network meets holds of the network
network_kept : (u v : Network) (op : Op) (k : Network) → is_within v u ≡ true → network_matches v op k ≡ true → network_holds u op k ≡ true
network_kept u v Eq k within m = subst (λ (n : Network). is_within n u ≡ true) (same_network v k m) within
network_kept u v Overlaps k within m = elim (or_cases (is_within v k) (is_within k v) m) [
  | inl there ↦ comparable v u k within there
  | inr there ↦ or_right (is_within u k) (is_within k u) (within_further k v u there within)
]
network_kept u v Before k within m =
    let p : (is_within v k ≡ true) × (nat_lt k.prefix v.prefix ≡ true) = and_parts _ _ m in
    comparable v u k within p.0
network_kept u v After k within m =
    let p : (is_within k v ≡ true) × (nat_lt v.prefix k.prefix ≡ true) = and_parts _ _ m in
    within_further k v u p.0 within
network_kept u v WithinEq k within m = comparable v u k within m
network_kept u v ContainsEq k within m = within_further k v u m within
network_kept u v op k within m = absurd (false≢true m)

key_kept : (u v : Network) (op : Op) (key : Value) → is_within v u ≡ true → kind_matches (Net v) op key ≡ true → key_holds u op key ≡ true
key_kept u v op (Net k) within m = network_kept u v op k within m
key_kept u v op Null within m = m
key_kept u v op (Int k) within m = m
key_kept u v op (Span k) within m = m

-- what an included value meets holds of the summary
kept : (s : NetSummary) (v : Value) → Includes s v → (cond : Cond) → compares cond.op ≡ true → meets v cond ≡ true → condition_holds s cond.op cond.key ≡ true
kept NothingYet v within cond c m = absurd within
kept Unmergeable v within cond c m = refl
kept (Hull u) (Net v) within cond c m = key_kept u v cond.op cond.key within (sym (Asked.by_kind (Net v) cond.op cond.key c) ∙ m)
kept (Hull u) Null within cond c m = absurd within
kept (Hull u) (Int n) within cond c m = absurd within
kept (Hull u) (Span r) within cond c m = absurd within

pub misses_none : (s : NetSummary) (conds : List Cond) (v : Value) → AllCompare conds → consistent s conds ≡ false → Includes s v → meets_all conds v ≡ false
misses_none s conds v all none within = Asked.misses_none (λ cond. condition_holds s cond.op cond.key) conds v (kept s v within) all none

key_null : (u : Network) (op : Op) (key : Value) → is_null key ≡ true → key_holds u op key ≡ false
key_null u op Null null = refl
key_null u op (Int n) null = absurd (false≢true null)
key_null u op (Span r) null = absurd (false≢true null)
key_null u op (Net n) null = absurd (false≢true null)

-- a null key holds nothing, but where every address is included
pub null_key : (s : NetSummary) (conds : List Cond) → has_null_key conds ≡ true → (consistent s conds ≡ false) ⊎ ((v : Value) → IsNet v → Includes s v)
null_key NothingYet conds some = inl (Asked.null_fails (λ cond. condition_holds NothingYet cond.op cond.key) conds (λ cond null. refl) some)
null_key Unmergeable conds some = inr (λ v net. net)
null_key (Hull u) conds some = inl (Asked.null_fails (λ cond. condition_holds (Hull u) cond.op cond.key) conds (λ cond null. key_null u cond.op cond.key null) some)
