-- the byte that a page's kind is read from
use Rattle.std.specs.Prelude.{◌≡◌, ℕ, ◌==◌, Bool, true, false, if◌then◌else◌}
use Rattle.std.proofs.Common.{refl, ap, subst}
use Rattle.std.proofs.lemmas.Bool.{eqb-true}
use Rattle.index_layout.specs.declared.format.TheConstants.{UNSTARTED, REGULAR}
use Rattle.coverage.specs.IndexView.{PageKind, Unstarted, Mapping, Regular, Emptying}
use Rattle.index_contents.specs.IndexContents.{kind_at, map_kind}

abbrev pub WhereRegular : (Type 0) → PageKind → Type 0
WhereRegular P Regular = P
WhereRegular P kind = Unit {0}

abbrev pub WhereUnstarted : (Type 0) → PageKind → Type 0
WhereUnstarted P Unstarted = P
WhereUnstarted P kind = Unit {0}

abbrev pub WhereMapping : (Type 0) → PageKind → Type 0
WhereMapping P Mapping = P
WhereMapping P kind = Unit {0}

-- the kind by the three tests of the byte
abbrev pub kind_by : Bool → Bool → Bool → PageKind
kind_by regular unstarted map = if regular then Regular else (if unstarted then Unstarted else (if map then Mapping else Emptying))

pub regular_by : (P : Type 0) (a b c : Bool) → (a ≡ true → P) → WhereRegular P (kind_by a b c)
regular_by P true b c p = p refl
regular_by P false true c p = tt
regular_by P false false true p = tt
regular_by P false false false p = tt

pub unstarted_by : (P : Type 0) (a b c : Bool) → (b ≡ true → P) → WhereUnstarted P (kind_by a b c)
unstarted_by P true b c p = tt
unstarted_by P false true c p = p refl
unstarted_by P false false true p = tt
unstarted_by P false false false p = tt

pub mapping_by : (P : Type 0) (a b c : Bool) → (c ≡ true → P) → WhereMapping P (kind_by a b c)
mapping_by P true b c p = tt
mapping_by P false true c p = tt
mapping_by P false false true p = p refl
mapping_by P false false false p = tt

-- a page that takes tuples
pub is_regular_page : (block kind : ℕ) → kind_at block kind ≡ Regular → kind ≡ REGULAR
is_regular_page block kind is = subst (WhereRegular (kind ≡ REGULAR)) is (regular_by (kind ≡ REGULAR) (kind == REGULAR) (kind == UNSTARTED) (kind == map_kind block) (eqb-true kind REGULAR))

-- one that isn't started
pub is_unstarted_page : (block kind : ℕ) → kind_at block kind ≡ Unstarted → kind ≡ UNSTARTED
is_unstarted_page block kind is = subst (WhereUnstarted (kind ≡ UNSTARTED)) is (unstarted_by (kind ≡ UNSTARTED) (kind == REGULAR) (kind == UNSTARTED) (kind == map_kind block) (eqb-true kind UNSTARTED))

-- one of the map
pub is_map_page : (block kind : ℕ) → kind_at block kind ≡ Mapping → kind ≡ map_kind block
is_map_page block kind is = subst (WhereMapping (kind ≡ map_kind block)) is (mapping_by (kind ≡ map_kind block) (kind == REGULAR) (kind == UNSTARTED) (kind == map_kind block) (eqb-true kind (map_kind block)))

-- and the other way round
pub regular_page : (block kind : ℕ) → kind ≡ REGULAR → kind_at block kind ≡ Regular
regular_page block kind is = ap (kind_at block) is

pub unstarted_page_kind : (block kind : ℕ) → kind ≡ UNSTARTED → kind_at block kind ≡ Unstarted
unstarted_page_kind block kind is = ap (kind_at block) is
