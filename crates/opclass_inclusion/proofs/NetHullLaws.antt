-- the smallest network that two are in
use Rattle.std.proofs.Common.{◌≡◌, ℕ, ◌-◌, ◌^◌, ◌≤◌, Bool, true, false, refl, sym, ◌∙◌, arith}
use Rattle.std.specs.Prelude.{◌==◌, if◌then◌else◌}
use Rattle.std.proofs.Math.Nat.{div-mul-le_self}
use Rattle.block_model.specs.declared.value.Value.{Value}
use Rattle.block_model.specs.declared.value.Value.TheVariants.{Null, Int, Span, Net}
use Rattle.block_model.specs.Networks.{Network, IsNetwork, leading_bits, width_of}
use Rattle.opclass_inclusion.specs.NetHulls.{IsHull, IsSummary, common_prefix, merged, network_with, of_network, united}
use Rattle.opclass_inclusion.specs.NetIncludes.{Includes, IsIn, IsNet}
use Rattle.opclass_inclusion.specs.declared.net_summary.NetSummary.{NetSummary}
use Rattle.opclass_inclusion.specs.declared.net_summary.NetSummary.TheVariants.{NothingYet, Unmergeable, Hull}
use Rattle.opclass_inclusion.proofs.NetBits.{also_within_merged, common_prefix_is, equal, no_host_with, within_further, within_its_network, within_merged}

no_bits : (n : Network) → IsNetwork n → leading_bits n 0 ≡ 0
no_bits n is = rw is.family (omega (arith, is.address))

-- no bits agree
pub none_agree : (a b : Network) → IsNetwork a → IsNetwork b → leading_bits a 0 ≡ leading_bits b 0
none_agree a b first second = no_bits a first ∙ sym (no_bits b second)

pub hull_with : (n : Network) (p : ℕ) → IsNetwork n → p ≤ n.prefix → IsHull (network_with n p)
hull_with n p is h = record {
  is_network = record {
    family = is.family;
    prefix = omega (arith, is.prefix, h);
    address = omega (arith, is.address, div-mul-le_self n.address (2 ^ (width_of n.family - p)));
  };
  no_host = no_host_with n p;
}

joined_lawful : (a b : Network) (t : Bool) → IsNetwork a → IsNetwork b → IsSummary (if t then Hull (merged a b) else Unmergeable)
joined_lawful a b true first second = hull_with a (common_prefix a b) first (common_prefix_is a b (none_agree a b first second)).within_first
joined_lawful a b false first second = tt

pub union_lawful : (s t : NetSummary) → IsSummary s → IsSummary t → IsSummary (united s t)
union_lawful s NothingYet first second = first
union_lawful NothingYet Unmergeable first second = tt
union_lawful Unmergeable Unmergeable first second = tt
union_lawful (Hull a) Unmergeable first second = tt
union_lawful NothingYet (Hull b) first second = second
union_lawful Unmergeable (Hull b) first second = tt
union_lawful (Hull a) (Hull b) first second = joined_lawful a b (a.family == b.family) first.is_network second.is_network

pub in_wider : (u n : Network) (v : Value) → ((k : Network) → IsIn u (Net k) → IsIn n (Net k)) → IsIn u v → IsIn n v
in_wider u n (Net k) wider within = wider k within
in_wider u n Null wider within = within
in_wider u n (Int k) wider within = within
in_wider u n (Span k) wider within = within

any_net : (u : Network) (v : Value) → IsIn u v → IsNet v
any_net u (Net k) within = tt
any_net u Null within = within
any_net u (Int k) within = within
any_net u (Span k) within = within

joined_keeps : (a b : Network) (t : Bool) (v : Value) → IsNetwork a → IsNetwork b → IsIn a v → Includes (if t then Hull (merged a b) else Unmergeable) v
joined_keeps a b true v first second within = in_wider a (merged a b) v (λ k h. within_further k a (merged a b) h (within_merged a b (none_agree a b first second))) within
joined_keeps a b false v first second within = any_net a v within

joined_includes : (a b : Network) (t : Bool) (v : Value) → (a.family == b.family) ≡ t → IsNetwork a → IsNetwork b → IsIn b v → Includes (if t then Hull (merged a b) else Unmergeable) v
joined_includes a b true v e first second within = in_wider b (merged a b) v (λ k h. within_further k b (merged a b) h (also_within_merged a b (equal a.family b.family e) (none_agree a b first second))) within
joined_includes a b false v e first second within = any_net b v within

-- a union includes what both summaries did
pub union_keeps : (s t : NetSummary) (v : Value) → IsSummary s → IsSummary t → Includes s v → Includes (united s t) v
union_keeps s NothingYet v first second within = within
union_keeps NothingYet Unmergeable v first second within = absurd within
union_keeps Unmergeable Unmergeable v first second within = within
union_keeps (Hull a) Unmergeable v first second within = any_net a v within
union_keeps NothingYet (Hull b) v first second within = absurd within
union_keeps Unmergeable (Hull b) v first second within = within
union_keeps (Hull a) (Hull b) v first second within = joined_keeps a b (a.family == b.family) v first.is_network second.is_network within

pub union_includes : (s t : NetSummary) (v : Value) → IsSummary s → IsSummary t → Includes t v → Includes (united s t) v
union_includes s NothingYet v first second within = absurd within
union_includes NothingYet Unmergeable v first second within = within
union_includes Unmergeable Unmergeable v first second within = within
union_includes (Hull a) Unmergeable v first second within = within
union_includes NothingYet (Hull b) v first second within = within
union_includes Unmergeable (Hull b) v first second within = any_net b v within
union_includes (Hull a) (Hull b) v first second within = joined_includes a b (a.family == b.family) v refl first.is_network second.is_network within

-- and the summary of one address includes it
pub one_includes : (n : Network) → Includes (of_network n) (Net n)
one_includes n = within_its_network n n.prefix (omega arith)
