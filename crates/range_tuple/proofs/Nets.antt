-- summaries of networks
use Rattle.std.proofs.Common.{◌≡◌, ℕ, zero, suc, ◌-◌, ◌%◌, ◌^◌, ◌<◌, ◌≤◌, Bool, true, false, not, None, Some, List, ◌∷◌, length, Ok, refl, sym, ap, subst, ◌∙◌, arith}
use Rattle.std.specs.Prelude.{nat_lt, slice_index}
use Rattle.std.proofs.lemmas.Bool.{cond-false, eqb-true, false≢true, le-ltb, leb-true, ltb-false}
use Rattle.block_model.specs.declared.value.Kind.TheVariants as kinds
use Rattle.block_model.specs.declared.value.Value.{Value}
use Rattle.block_model.specs.declared.value.Value.TheVariants.{Int, Net, Null, Span}
use Rattle.block_model.specs.Networks.{width_of}
use Rattle.byte_fields.specs.Fields.{AreBytes, field_at, number_of, put-number}
use Rattle.opclass_inclusion.specs.NetEncoding.{address_bytes, bytes_of, field_bytes, fields_of}
use Rattle.opclass_inclusion.specs.NetFaults.{address_in_form, family_in_form, fault_in, field_end, field_fault, fields_in, prefix_in_form}
use Rattle.opclass_inclusion.specs.NetHulls.{IsSummary, of_network, united}
use Rattle.opclass_inclusion.specs.NetIncludes.{IsNet}
use Rattle.opclass_inclusion.specs.NetReading.{from_fields, read_of}
use Rattle.opclass_inclusion.specs.declared.net_class.NetHull.{NetHull}
use Rattle.opclass_inclusion.specs.declared.net_summary.NetSummary.{NetSummary}
use Rattle.opclass_inclusion.specs.declared.net_summary.NetSummary.TheVariants.{Hull, NothingYet, Unmergeable}
use Rattle.opclass_inclusion.proofs.NetHullLaws.{hull_with, one_includes, union_includes, union_keeps, union_lawful}
use Rattle.opclass_inclusion.proofs.NetReading.{bytes_again, length-fields, read_again}
use Rattle.opclass_any.specs.AnyClass.{add, bytes_of as any_bytes, empty, greatest_size, includes, is_of, kept_as, read_of as any_read, takes, united as any_united}
use Rattle.opclass_any.specs.declared.classes.AnyClass.TheVariants as forms
use Rattle.opclass_any.specs.declared.classes.AnySummary.{AnySummary}
use Rattle.opclass_any.specs.declared.classes.AnySummary.TheVariants as kept
use Rattle.range_tuple.specs.OwnKinds.{IsOfItsKind}
use Rattle.range_tuple.specs.SoundClasses.{IsSoundClass, IsSummarySpelt, IsSummaryWritten, Unites, Widens}
use Rattle.range_tuple.proofs.Forms.{IsForm, sound_form, was_kept}
use Rattle.range_tuple.proofs.Numbers.{by_cond, byte_more, number_bytes, number_small}
use Rattle.range_tuple.proofs.Placed.{placed_none, read_unless_ok}

some_bytes : (s : NetSummary) → 0 < length (bytes_of s)
some_bytes s = omega (arith, length-fields (fields_of s))

-- ---- an address added, and two united

widens : (class : NetHull) (s : NetSummary) (v : Value) → IsSummary s → IsNet v → IsOfItsKind v → Widens (forms.NetHull class) (kept.NetHull s) v
unfolding add is_of includes any_bytes
widens class s (Net n) of taken known =
    let one : IsSummary (of_network n) = hull_with n n.prefix (known kinds.Net refl) (omega arith) in
    record {
      of_class = union_lawful s (of_network n) of one;
      value = union_includes s (of_network n) (Net n) of one (one_includes n);
      kept = λ w within. union_keeps s (of_network n) w of one within;
      has_bytes = some_bytes (united s (of_network n));
    }
widens class s Null of taken known = absurd taken
widens class s (Int n) of taken known = absurd taken
widens class s (Span r) of taken known = absurd taken

unites : (class : NetHull) (s other : NetSummary) → IsSummary s → IsSummary other → Unites (forms.NetHull class) (kept.NetHull s) (kept.NetHull other)
unfolding any_united is_of includes any_bytes
unites class s other of also = record {
  of_class = union_lawful s other of also;
  first = λ w within. union_keeps s other w of also within;
  second = λ w within. union_includes s other w of also within;
  has_bytes = λ some. some_bytes (united s other);
}

-- ---- bytes

fields_are_bytes : (flags family prefix address : ℕ) → flags < 256 → family < 256 → prefix < 256 → AreBytes (field_bytes (record { flags = flags; family = family; prefix = prefix; address = address }))
unfolding address_bytes
fields_are_bytes flags family prefix address first second third =
    byte_more flags (family ∷ prefix ∷ address_bytes address) first (byte_more family (prefix ∷ address_bytes address) second (byte_more prefix (address_bytes address) third (number_bytes 4 address)))

are_bytes : (s : NetSummary) → IsSummary s → AreBytes (bytes_of s)
are_bytes NothingYet of = fields_are_bytes 0 0 0 0 (omega arith) (omega arith) (omega arith)
are_bytes Unmergeable of = fields_are_bytes 1 0 0 0 (omega arith) (omega arith) (omega arith)
are_bytes (Hull u) of =
    let is = of.is_network in
    fields_are_bytes 2 u.family u.prefix u.address (omega arith) (omega (arith, is.family)) (omega (arith, is.prefix))

written : (class : NetHull) (s : NetSummary) → IsSummary s → IsSummaryWritten (forms.NetHull class) (kept.NetHull s)
unfolding any_bytes any_read greatest_size
written class s of = record {
  bytes = are_bytes s of;
  bound = omega (arith, length-fields (fields_of s));
  again = ap (kept_as kept.NetHull) (read_again s of);
}

-- ---- fields in form are those of a summary

record InForm (flags family prefix address : ℕ) : Type 0 where
  few : flags ≤ 2
  family_is : family_in_form (record { flags = flags; family = family; prefix = prefix; address = address }) ≡ true
  prefix_is : prefix_in_form (record { flags = flags; family = family; prefix = prefix; address = address }) ≡ true
  address_is : address_in_form (record { flags = flags; family = family; prefix = prefix; address = address }) ≡ true

holds_not : (b : Bool) → not b ≡ false → b ≡ true
holds_not true is = refl
holds_not false is = absurd (false≢true (sym is))

in_form : (flags family prefix address : ℕ) → field_fault (record { flags = flags; family = family; prefix = prefix; address = address }) ≡ None → InForm flags family prefix address
in_form flags family prefix address none =
    let P = InForm flags family prefix address in
    by_cond (nat_lt 2 flags) (Some 0) _ None P none (λ t wrong. absurd (cc))
    (λ few none. by_cond (not (family_in_form (record { flags = flags; family = family; prefix = prefix; address = address }))) (Some 1) _ None P none (λ t wrong. absurd (cc))
    (λ second none. by_cond (not (prefix_in_form (record { flags = flags; family = family; prefix = prefix; address = address }))) (Some 2) _ None P none (λ t wrong. absurd (cc))
    (λ third none. by_cond (not (address_in_form (record { flags = flags; family = family; prefix = prefix; address = address }))) (Some 3) None None P none (λ t wrong. absurd (cc))
    (λ fourth none. record { few = ltb-false 2 flags few; family_is = holds_not _ second; prefix_is = holds_not _ third; address_is = holds_not _ fourth }))))

record IsRead (flags family prefix address : ℕ) : Type 0 where
  lawful : IsSummary (from_fields (record { flags = flags; family = family; prefix = prefix; address = address }))
  again : fields_of (from_fields (record { flags = flags; family = family; prefix = prefix; address = address })) ≡ (record { flags = flags; family = family; prefix = prefix; address = address })

of_network_fields : (family prefix address : ℕ) → address < 2 ^ 32 → family ≡ 4 → prefix ≤ 32 → address % 2 ^ (32 - prefix) ≡ 0 → IsRead 2 family prefix address
of_network_fields family prefix address small is within none = record {
  lawful = record {
    is_network = record { family = is; prefix = within; address = small };
    no_host = ap (λ (f : ℕ). address % 2 ^ (width_of f - prefix)) is ∙ none;
  };
  again = refl;
}

of_flags : (flags family prefix address : ℕ) → address < 2 ^ 32 → InForm flags family prefix address → IsRead flags family prefix address
of_flags zero family prefix address small form = record {
  lawful = tt;
  again = λ i. record { flags = 0; family = sym (eqb-true family 0 form.family_is) i; prefix = sym (eqb-true prefix 0 form.prefix_is) i; address = sym (eqb-true address 0 form.address_is) i };
}
of_flags (suc zero) family prefix address small form = record {
  lawful = tt;
  again = λ i. record { flags = 1; family = sym (eqb-true family 0 form.family_is) i; prefix = sym (eqb-true prefix 0 form.prefix_is) i; address = sym (eqb-true address 0 form.address_is) i };
}
of_flags (suc (suc zero)) family prefix address small form =
    of_network_fields family prefix address small (eqb-true family 4 form.family_is) (leb-true prefix 32 form.prefix_is) (eqb-true (address % 2 ^ (32 - prefix)) 0 form.address_is)
of_flags (suc (suc (suc n))) family prefix address small form = absurd (omega (arith, form.few))

-- ---- what is read

fields_there : (bytes : List ℕ) → length bytes ≡ 7 → fields_in bytes ≡ (record { flags = slice_index bytes 0; family = slice_index bytes 1; prefix = slice_index bytes 2; address = number_of (field_at bytes 3 4) })
fields_there bytes size =
    let there : nat_lt (length bytes) 7 ≡ false = le-ltb (length bytes) 7 (omega (arith, size)) in
    λ i. record { flags = slice_index bytes 0; family = slice_index bytes 1; prefix = slice_index bytes 2; address = cond-false (nat_lt (length bytes) 7) 0 (number_of (field_at bytes 3 4)) there i }

record Found (bytes : List ℕ) (s : NetSummary) : Type 0 where
  lawful : IsSummary s
  spelt : bytes ≡ bytes_of s

found : (bytes : List ℕ) (s : NetSummary) → AreBytes bytes → read_of bytes ≡ Ok s → Found bytes s
found bytes s small is =
    let was = read_unless_ok (fault_in bytes) (from_fields (fields_in bytes)) s is in
    let whole = placed_none (length bytes) 7 field_end (field_fault (fields_in bytes)) was.none in
    let address = number_of (field_at bytes 3 4) in
    let are = fields_there bytes whole.long in
    let form = in_form (slice_index bytes 0) (slice_index bytes 1) (slice_index bytes 2) address (ap field_fault (sym are) ∙ whole.none) in
    let fits : address < 2 ^ 32 = omega (arith, number_small bytes 3 4 small (omega (arith, whole.long))) in
    let read = of_flags (slice_index bytes 0) (slice_index bytes 1) (slice_index bytes 2) address fits form in
    let spelt = bytes_again address bytes whole.long (put-number bytes 3 4 (omega (arith, whole.long)) small) in
    subst (Found bytes) (ap from_fields (sym are) ∙ was.is) (record { lawful = read.lawful; spelt = spelt ∙ ap field_bytes (sym read.again) })

spelt : (class : NetHull) (bytes : List ℕ) (s : AnySummary) → AreBytes bytes → any_read (forms.NetHull class) bytes ≡ Ok s → IsSummarySpelt (forms.NetHull class) bytes s
unfolding any_bytes any_read is_of
spelt class bytes s small is =
    let was = was_kept kept.NetHull (read_of bytes) s is in
    let f = found bytes was.inside small was.read in
    subst (IsSummarySpelt (forms.NetHull class) bytes) was.is (record { of_class = f.lawful; spelt = f.spelt })

-- ---- the class

form : (class : NetHull) (s : AnySummary) → is_of (forms.NetHull class) s → IsForm kept.NetHull IsSummary s
unfolding is_of
form class (kept.NetHull s) of = record { inside = s; is = refl; lawful = of }
form class s of = absurd of

pub sound : (class : NetHull) → IsSoundClass (forms.NetHull class)
unfolding empty is_of takes greatest_size
sound class = sound_form (forms.NetHull class) kept.NetHull IsSummary (record {
  empty = tt;
  form = form class;
  widens = widens class;
  unites = unites class;
  written = written class;
  read = spelt class;
  small = omega arith;
})
