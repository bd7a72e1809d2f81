-- a class is sound where one of its forms is
use Rattle.std.proofs.Common.{◌≡◌, ℕ, ◌<◌, List, Result, Ok, Err, refl, sym, subst}
use Rattle.block_model.specs.declared.value.Value.{Value}
use Rattle.byte_fields.specs.Fields.{AreBytes}
use Rattle.opclass_any.specs.AnyClass.{empty, greatest_size, is_of, kept_as, read_of, takes}
use Rattle.opclass_any.specs.declared.classes.AnyClass.{AnyClass}
use Rattle.opclass_any.specs.declared.classes.AnySummary.{AnySummary}
use Rattle.range_tuple.specs.OwnKinds.{IsOfItsKind}
use Rattle.range_tuple.specs.SoundClasses.{IsSoundClass, IsSummarySpelt, IsSummaryWritten, Unites, Widens}

-- a summary of a form, by what is inside
pub record IsForm {X : Type 0} (wrap : X → AnySummary) (IsInside : X → Type 0) (s : AnySummary) : Type 0 where
  pub inside : X
  pub is : s ≡ wrap inside
  pub lawful : IsInside inside

pub record IsSoundForm {X : Type 0} (class : AnyClass) (wrap : X → AnySummary) (IsInside : X → Type 0) : Type 0 where
  pub empty : is_of class (empty class)
  pub form : (s : AnySummary) → is_of class s → IsForm wrap IsInside s
  pub widens : (x : X) (v : Value) → IsInside x → takes class v → IsOfItsKind v → Widens class (wrap x) v
  pub unites : (x y : X) → IsInside x → IsInside y → Unites class (wrap x) (wrap y)
  pub written : (x : X) → IsInside x → IsSummaryWritten class (wrap x)
  pub read : (bytes : List ℕ) (s : AnySummary) → AreBytes bytes → read_of class bytes ≡ Ok s → IsSummarySpelt class bytes s
  pub small : greatest_size class < 65536

pub sound_form : {X : Type 0} (class : AnyClass) (wrap : X → AnySummary) (IsInside : X → Type 0) → IsSoundForm class wrap IsInside → IsSoundClass class
sound_form class wrap IsInside sound = record {
  empty = sound.empty;
  widens = λ s v of taken known.
      let f = sound.form s of in
      subst (λ (t : AnySummary). Widens class t v) (sym f.is) (sound.widens f.inside v f.lawful taken known);
  unites = λ s other of also.
      let f = sound.form s of in
      let g = sound.form other also in
      subst (λ (t : AnySummary). Unites class t other) (sym f.is) (subst (λ (t : AnySummary). Unites class (wrap f.inside) t) (sym g.is) (sound.unites f.inside g.inside f.lawful g.lawful));
  written = λ s of.
      let f = sound.form s of in
      subst (λ (t : AnySummary). IsSummaryWritten class t) (sym f.is) (sound.written f.inside f.lawful);
  read = sound.read;
  small = sound.small;
}

-- what was kept as a summary of the form
pub record WasKept {X : Type 0} (wrap : X → AnySummary) (r : Result X ℕ) (s : AnySummary) : Type 0 where
  pub inside : X
  pub read : r ≡ Ok inside
  pub is : wrap inside ≡ s

pub was_kept : {X : Type 0} (wrap : X → AnySummary) (r : Result X ℕ) (s : AnySummary) → kept_as wrap r ≡ Ok s → WasKept wrap r s
was_kept wrap (Ok x) s is = let same : wrap x ≡ s = cc in record { inside = x; read = refl; is = same }
was_kept wrap (Err at) s is = absurd (cc)
