-- What was taken apart is read as it was.
use Rattle.std.proofs.Common.{◌≡◌, ℕ, ℤ, ◌+◌, ◌*◌, ◌/◌, ◌%◌, ◌^◌, ◌<◌, ◌≤◌, ◌-◌, suc, Bool, true, cond, min, List, [], ◌∷◌, ◌++◌, length, map, take, drop, get_or, refl, sym, ap, ◌∙◌, FitsSigned, append_assoc, arith}
use Rattle.std.specs.Prelude.{None, Some, int_lt, nat_le}
use Rattle.std.specs.Int.{w64, cast_signed, cast_unsigned}
use Rattle.std.specs.List.{flat_map}
use Rattle.std.proofs.lemmas.Int.{to_z-of_z}
use Rattle.std.proofs.lemmas.Bool.{le-leb}
use Rattle.std.proofs.lemmas.List.{length-map, map-append, take_at, drop_at, flat_map_more, take_all}
use Rattle.block_model.specs.declared.limits.TheConstants.{MAX_COLUMNS}
use Rattle.block_model.specs.declared.value.Value.{Value}
use Rattle.block_model.specs.declared.value.Value.TheVariants.{Null, Int, Span, Net}
use Rattle.block_model.specs.declared.row.Query.{Query}
use Rattle.block_model.specs.declared.request.Request.{Request}
use Rattle.block_model.specs.declared.request.Request.TheVariants as requests
use Rattle.block_model.specs.declared.request.Entry.{Entry}
use Rattle.block_model.specs.Ranges.{Empty, Between}
use Rattle.block_model.specs.Networks.{Network, IsNetwork, network_v4}
use Rattle.packed_requests.specs.declared.head.Asked.{Asked}
use Rattle.packed_requests.specs.declared.head.Head.{Head}
use Rattle.packed_requests.specs.declared.shape.Shape.{Shape}
use Rattle.packed_requests.specs.Shapes.{shape_of, width}
use Rattle.packed_requests.specs.Packing.{AreRequests, AreValues, IsRequest, IsValue, asked_of, head_of, numbers_of, request_numbers, request_queries, request_shapes}
use Rattle.packed_requests.specs.Reading.{entries_in, network_in, numbers_after, numbers_behind, queries_after, range_between, request_in, shapes_after, shapes_in, value_in, values_in}
use Rattle.packed_requests.specs.ArePacked.{ArePacked, all_numbers, all_queries, all_shapes}

signed_back : (z : ℤ) → FitsSigned w64 z → cast_signed w64 (cast_unsigned w64 z) ≡ z
signed_back z fits = to_z-of_z w64 z fits

two_bounds : (l h l' h' : ℤ) → l' ≡ l → h' ≡ h → int_lt l h ≡ true → range_between l' h' ≡ Between (Some l) (Some h)
two_bounds l h l' h' e f below = (λ i. range_between (e i) (f i)) ∙ ap (λ (b : Bool). cond b (Between (Some l) (Some h)) Empty) below

high_part : (p a : ℕ) → a < 2 ^ 32 → (p * 2 ^ 32 + a) / 2 ^ 32 ≡ p
high_part p a small = omega arith

low_part : (p a : ℕ) → a < 2 ^ 32 → (p * 2 ^ 32 + a) % 2 ^ 32 ≡ a
low_part p a small = omega arith

network_from : ℕ → ℕ → Value
network_from p a = cond (nat_le p 32) (Net (network_v4 a p)) Null

network_back : (n : Network) → IsNetwork n → network_in (n.prefix * 2 ^ 32 + n.address) ≡ Net n
unfolding network_from
network_back n is =
    (λ i. network_from (high_part n.prefix n.address is.address i) (low_part n.prefix n.address is.address i))
    ∙ ap (λ (b : Bool). cond b (Net (network_v4 n.address n.prefix)) Null) (le-leb n.prefix 32 is.prefix)
    ∙ (λ i. Net (record { family = sym is.family i; prefix = n.prefix; address = n.address }))

-- a value is read from its numbers
value_back : (v : Value) (more : List ℕ) → IsValue v → value_in (shape_of v) (numbers_of v ++ more) ≡ v
value_back Null more is = refl
value_back (Int n) more is = ap Int (signed_back n is)
value_back (Span Empty) more is = refl
value_back (Span (Between None None)) more is = refl
value_back (Span (Between (Some l) None)) more is = ap (λ (z : ℤ). Span (Between (Some z) None)) (signed_back l is.1.0)
value_back (Span (Between None (Some h))) more is = ap (λ (z : ℤ). Span (Between None (Some z))) (signed_back h is.1.1)
value_back (Span (Between (Some l) (Some h))) more is = ap Span (two_bounds l h _ _ (signed_back l is.1.0) (signed_back h is.1.1) is.0)
value_back (Net n) more is = network_back n is

-- and the numbers behind them are left
rest_back : (v : Value) (more : List ℕ) → drop (width (shape_of v)) (numbers_of v ++ more) ≡ more
rest_back Null more = refl
rest_back (Int n) more = refl
rest_back (Span Empty) more = refl
rest_back (Span (Between None None)) more = refl
rest_back (Span (Between (Some l) None)) more = refl
rest_back (Span (Between None (Some h))) more = refl
rest_back (Span (Between (Some l) (Some h))) more = refl
rest_back (Net n) more = refl

values_back : (vs : List Value) (more : List ℕ) → AreValues vs → values_in (map shape_of vs) (flat_map numbers_of vs ++ more) ≡ vs
values_back [] more are = refl
values_back (v ∷ vs) more are =
    let left : List ℕ = flat_map numbers_of vs ++ more in
    ap (λ (ns : List ℕ). value_in (shape_of v) ns ∷ values_in (map shape_of vs) (drop (width (shape_of v)) ns)) (append_assoc (numbers_of v) (flat_map numbers_of vs) more)
    ∙ (λ i. value_back v left are.0 i ∷ values_in (map shape_of vs) (rest_back v left i))
    ∙ ap (λ (l : List Value). v ∷ l) (values_back vs more are.1)

behind_back : (vs : List Value) (more : List ℕ) → numbers_behind (map shape_of vs) (flat_map numbers_of vs ++ more) ≡ more
behind_back [] more = refl
behind_back (v ∷ vs) more =
    let left : List ℕ = flat_map numbers_of vs ++ more in
    ap (λ (ns : List ℕ). numbers_behind (map shape_of vs) (drop (width (shape_of v)) ns)) (append_assoc (numbers_of v) (flat_map numbers_of vs) more)
    ∙ ap (numbers_behind (map shape_of vs)) (rest_back v left)
    ∙ behind_back vs more

-- as many shapes as values
all_there : (vs : List Value) → length vs ≤ MAX_COLUMNS → length (map shape_of vs) ≡ min (length vs) MAX_COLUMNS
all_there vs few = omega (arith, length-map vs shape_of)

front_back : (vs : List Value) (ss : List Shape) → length vs ≤ MAX_COLUMNS → shapes_in (length vs) (map shape_of vs ++ ss) ≡ map shape_of vs
front_back vs ss few = take_at (map shape_of vs) ss (min (length vs) MAX_COLUMNS) (all_there vs few)

small_place : (k : ℕ) → k < 2 ^ 32 → k % 2 ^ 32 ≡ k
small_place k small = omega arith

-- a request is read from the fronts of the lists
request_back : (r : Request) (ss : List Shape) (ns : List ℕ) (qs : List Query) → IsRequest r → request_in (asked_of r) (request_shapes r ++ ss) (request_numbers r ++ ns) (request_queries r ++ qs) ≡ r
request_back requests.Begin ss ns qs is = refl
request_back (requests.Put vs) ss ns qs is = ap requests.Put (ap (λ (l : List Shape). values_in l (flat_map numbers_of vs ++ ns)) (front_back vs ss is.0) ∙ values_back vs ns is.1)
request_back (requests.Look q) ss ns qs is = refl
request_back (requests.Mark id) ss ns qs is = λ i. requests.Mark (record { t = id.t; k = small_place id.k is i })
request_back requests.Commit ss ns qs is = refl
request_back requests.Rollback ss ns qs is = refl

-- and what stands behind it is left
shapes_back : (r : Request) (ss : List Shape) → IsRequest r → shapes_after (asked_of r) (request_shapes r ++ ss) ≡ ss
shapes_back requests.Begin ss is = refl
shapes_back (requests.Put vs) ss is = drop_at (map shape_of vs) ss (min (length vs) MAX_COLUMNS) (all_there vs is.0)
shapes_back (requests.Look q) ss is = refl
shapes_back (requests.Mark id) ss is = refl
shapes_back requests.Commit ss is = refl
shapes_back requests.Rollback ss is = refl

numbers_back : (r : Request) (ss : List Shape) (ns : List ℕ) → IsRequest r → numbers_after (asked_of r) (request_shapes r ++ ss) (request_numbers r ++ ns) ≡ ns
numbers_back requests.Begin ss ns is = refl
numbers_back (requests.Put vs) ss ns is = ap (λ (l : List Shape). numbers_behind l (flat_map numbers_of vs ++ ns)) (front_back vs ss is.0) ∙ behind_back vs ns
numbers_back (requests.Look q) ss ns is = refl
numbers_back (requests.Mark id) ss ns is = refl
numbers_back requests.Commit ss ns is = refl
numbers_back requests.Rollback ss ns is = refl

queries_back : (r : Request) (qs : List Query) → queries_after (asked_of r) (request_queries r ++ qs) ≡ qs
queries_back requests.Begin qs = refl
queries_back (requests.Put vs) qs = refl
queries_back (requests.Look q) qs = refl
queries_back (requests.Mark id) qs = refl
queries_back requests.Commit qs = refl
queries_back requests.Rollback qs = refl

-- entries are read from their lists
read_back : (es : List Entry) → AreRequests es → entries_in (map head_of es) (all_shapes es) (all_numbers es) (all_queries es) ≡ es
unfolding entries_in
read_back [] are = refl
read_back (e ∷ es) are =
    let r : Request = e.request in
    let ss : List Shape = all_shapes es in
    let ns : List ℕ = all_numbers es in
    let qs : List Query = all_queries es in
    (λ i. record { session = e.session; table = e.table; request = request_back r ss ns qs are.0 i; tag = e.tag } ∷ entries_in (map head_of es) (shapes_back r ss are.0 i) (numbers_back r ss ns are.0 i) (queries_back r qs i))
    ∙ ap (λ (l : List Entry). e ∷ l) (read_back es are.1)

packed_back : (hs : List Head) (ss : List Shape) (ns : List ℕ) (qs : List Query) (p : ArePacked hs ss ns qs) → entries_in hs ss ns qs ≡ p.entries
packed_back hs ss ns qs p = (λ i. entries_in (p.heads_are i) (p.shapes_are i) (p.numbers_are i) (p.queries_are i)) ∙ read_back p.entries p.requests

requests_push : (es : List Entry) (e : Entry) → AreRequests es → IsRequest e.request → AreRequests (es ++ e ∷ [])
requests_push [] e are is = (is, tt)
requests_push (x ∷ es) e are is = (are.0, requests_push es e are.1 is)

-- one entry more
packed_push : (hs : List Head) (ss : List Shape) (ns : List ℕ) (qs : List Query) (e : Entry) → ArePacked hs ss ns qs → IsRequest e.request
    → ArePacked (hs ++ head_of e ∷ []) (ss ++ request_shapes e.request) (ns ++ request_numbers e.request) (qs ++ request_queries e.request)
packed_push hs ss ns qs e p is = record {
  entries = p.entries ++ e ∷ [];
  heads_are = ap (λ (l : List Head). l ++ head_of e ∷ []) p.heads_are ∙ sym (map-append head_of p.entries (e ∷ []));
  shapes_are = ap (λ (l : List Shape). l ++ request_shapes e.request) p.shapes_are ∙ flat_map_more (λ (x : Entry). request_shapes x.request) [] p.entries e;
  numbers_are = ap (λ (l : List ℕ). l ++ request_numbers e.request) p.numbers_are ∙ flat_map_more (λ (x : Entry). request_numbers x.request) [] p.entries e;
  queries_are = ap (λ (l : List Query). l ++ request_queries e.request) p.queries_are ∙ flat_map_more (λ (x : Entry). request_queries x.request) [] p.entries e;
  requests = requests_push p.entries e p.requests is;
}

-- What was added, as the lists and as entries.
pub record Entered (hs : List Head) (ss : List Shape) (ns : List ℕ) (qs : List Query) (e : Entry) (hs' : List Head) (ss' : List Shape) (ns' : List ℕ) (qs' : List Query) : Type 0 where
  pub packed : ArePacked hs' ss' ns' qs'
  pub entries : entries_in hs' ss' ns' qs' ≡ entries_in hs ss ns qs ++ e ∷ []

pub entered : (hs : List Head) (ss : List Shape) (ns : List ℕ) (qs : List Query) (e : Entry) (asked : Asked) (hs' : List Head) (ss' : List Shape) (ns' : List ℕ) (qs' : List Query)
    → ArePacked hs ss ns qs → IsRequest e.request → asked ≡ asked_of e.request
    → hs' ≡ hs ++ record { session = e.session; table = e.table; asked = asked; tag = e.tag } ∷ [] → ss' ≡ ss ++ request_shapes e.request → ns' ≡ ns ++ request_numbers e.request → qs' ≡ qs ++ request_queries e.request
    → Entered hs ss ns qs e hs' ss' ns' qs'
unfolding packed_push
entered hs ss ns qs e asked hs' ss' ns' qs' p is a h s n q =
    let more = packed_push hs ss ns qs e p is in
    let whole : ArePacked hs' ss' ns' qs' =
    record {
      entries = p.entries ++ e ∷ [];
      heads_are = h ∙ (λ i. hs ++ record { session = e.session; table = e.table; asked = a i; tag = e.tag } ∷ []) ∙ more.heads_are;
      shapes_are = s ∙ more.shapes_are;
      numbers_are = n ∙ more.numbers_are;
      queries_are = q ∙ more.queries_are;
      requests = more.requests;
    } in
    record { packed = whole; entries = packed_back hs' ss' ns' qs' whole ∙ ap (λ (l : List Entry). l ++ e ∷ []) (sym (packed_back hs ss ns qs p)) }

-- an entry for each head
pub length-entries : (hs : List Head) (ss : List Shape) (ns : List ℕ) (qs : List Query) → length (entries_in hs ss ns qs) ≡ length hs
unfolding entries_in
length-entries [] ss ns qs = refl
length-entries (h ∷ hs) ss ns qs = ap (λ (n : ℕ). suc n) (length-entries hs (shapes_after h.asked ss) (numbers_after h.asked ss ns) (queries_after h.asked qs))

pub none_in : (hs : List Head) (ss : List Shape) (ns : List ℕ) (qs : List Query) → length hs < 1 → entries_in hs ss ns qs ≡ []
unfolding entries_in
none_in [] ss ns qs few = refl
none_in (h ∷ hs) ss ns qs few = absurd (omega arith)

-- the first entry, and what is read behind it
pub next_in : (hs : List Head) (ss : List Shape) (ns : List ℕ) (qs : List Query) (d : Head) (r : Request) (ss' : List Shape) (ns' : List ℕ) (qs' : List Query) → 1 ≤ length hs
    → r ≡ request_in (get_or hs 0 d).asked ss ns qs → ss' ≡ shapes_after (get_or hs 0 d).asked ss → ns' ≡ numbers_after (get_or hs 0 d).asked ss ns → qs' ≡ queries_after (get_or hs 0 d).asked qs
    → entries_in hs ss ns qs ≡ record { session = (get_or hs 0 d).session; table = (get_or hs 0 d).table; request = r; tag = (get_or hs 0 d).tag } ∷ entries_in (take (length hs - 1) (drop 1 hs)) ss' ns' qs'
unfolding entries_in
next_in [] ss ns qs d r ss' ns' qs' some is s n q = absurd (omega arith)
next_in (h ∷ hs) ss ns qs d r ss' ns' qs' some is s n q =
    let rest : hs ≡ take (length (h ∷ hs) - 1) hs = sym (take_all (length (h ∷ hs) - 1) hs (omega arith)) in
    λ i. record { session = h.session; table = h.table; request = sym is i; tag = h.tag } ∷ entries_in (rest i) (sym s i) (sym n i) (sym q i)
