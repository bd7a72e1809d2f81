-- Pages: what has no fault is a page of its form, and a page of its form has none.
use Rattle.std.proofs.Common.{◌≡◌, ℕ, zero, suc, ◌+◌, ◌-◌, ◌*◌, ◌<◌, ◌≤◌, inl, inr, Bool, true, false, cond, eqb, List, [], ◌∷◌, ◌++◌, length, take, drop, refl, sym, ap, ◌∙◌, length-append, length-drop, arith}
use Rattle.std.specs.Prelude.{Option, None, Some, replicate}
use Rattle.std.proofs.lemmas.Bool.{eqb-true}
use Rattle.std.proofs.lemmas.List.{length-replicate, take_all, take-append-drop, length-take-le}
use Rattle.std.proofs.Math.Nat.{suc-mul, mul-le-mul_right}
use Rattle.block_model.specs.declared.value.Kind.{Kind}
use Rattle.block_model.specs.RowSize.{row_size}
use Rattle.index_layout.specs.Fields.{AreBytes, AreBytes-drop}
use Rattle.page_layout.specs.declared.page.Form.{Form}
use Rattle.page_layout.specs.declared.page.Form.TheVariants as forms
use Rattle.page_layout.specs.RowFaults.{first_of, shifted, slot_fault}
use Rattle.index_layout.specs.IndexFaults.{index_fault}
use Rattle.page_layout.specs.PageContents.{slots_bytes, header_bytes, heap_bytes, IsStarted, IsPageOf, IsForm, HasFewColumns, statuses}
use Rattle.page_layout.specs.PageFaults.{zeros_fault, slots_fault, has_page_kind, started_fault, rows_fault, page_fault}
use Rattle.page_layout.specs.PageWrites.{IsOfIndex}
use Rattle.page_layout.proofs.Faults.{first_none, shifted-none}
use Rattle.page_layout.proofs.HeapSlots.{zeros_take, zeros_pass, slots-take, slots-pass}

-- the slots are walked one by one

pub slots-start : (ks : List Kind) (n row : ℕ) (body : List ℕ) → shifted (0 * row) (slots_fault ks (n - 0) (drop (0 * row) body)) ≡ slots_fault ks n body
slots-start ks n row body =
    let none : 0 * row ≡ 0 = omega arith in
    let all : n - 0 ≡ n = omega arith in
    (λ i. shifted (none i) (slots_fault ks (all i) (drop (none i) body))) ∙ at_zero (slots_fault ks n body)
  where
    at_zero : (o : Option ℕ) → shifted 0 o ≡ o
    at_zero None = refl
    at_zero (Some at) = ap Some (let e : 0 + at ≡ at = omega arith in e)

shifted-twice : (a b : ℕ) (o : Option ℕ) → shifted a (shifted b o) ≡ shifted (a + b) o
shifted-twice a b None = refl
shifted-twice a b (Some at) = ap Some (let e : a + (b + at) ≡ a + b + at = omega arith in e)

-- a slot's fault is the page's, where no slot before it has one
pub slots-stop : (ks : List Kind) (m n row at width fault : ℕ) (body : List ℕ) (all : Option ℕ) → row ≡ row_size ks → width ≡ row → m ≡ suc n
    → shifted at (slots_fault ks m (drop at body)) ≡ all → Some fault ≡ slot_fault ks (take width (drop at body)) → Some (at + fault) ≡ all
unfolding slots_fault
slots-stop ks m n row at width fault body all is wide more so_far found =
    let here : Some fault ≡ slot_fault ks (take (row_size ks) (drop at body)) = found ∙ ap (λ (w : ℕ). slot_fault ks (take w (drop at body))) (wide ∙ is) in
    ap (λ (o : Option ℕ). shifted at (first_of o (shifted (row_size ks) (slots_fault ks n (drop (row_size ks) (drop at body)))))) here
    ∙ ap (λ (k : ℕ). shifted at (slots_fault ks k (drop at body))) (sym more)
    ∙ so_far

-- the slots behind one without a fault
pub slots-next : (ks : List Kind) (m n row at width next : ℕ) (body : List ℕ) (all : Option ℕ) → row ≡ row_size ks → width ≡ row → m ≡ suc n → next ≡ at + row
    → shifted at (slots_fault ks m (drop at body)) ≡ all → None ≡ slot_fault ks (take width (drop at body)) → shifted next (slots_fault ks n (drop next body)) ≡ all
unfolding slots_fault
slots-next ks m n row at width next body all is wide more on so_far found =
    let here : None ≡ slot_fault ks (take (row_size ks) (drop at body)) = found ∙ ap (λ (w : ℕ). slot_fault ks (take w (drop at body))) (wide ∙ is) in
    let there : next ≡ at + row_size ks = on ∙ ap (λ (r : ℕ). at + r) is in
    ap (λ (k : ℕ). shifted k (slots_fault ks n (drop k body))) there
    ∙ sym (shifted-twice at (row_size ks) (slots_fault ks n (drop (at + row_size ks) body)))
    ∙ ap (λ (l : List ℕ). shifted at (shifted (row_size ks) (slots_fault ks n l))) (sym (Rattle.std.proofs.lemmas.List.drop-drop (row_size ks) at body))
    ∙ ap (λ (o : Option ℕ). shifted at (first_of o (shifted (row_size ks) (slots_fault ks n (drop (row_size ks) (drop at body)))))) here
    ∙ ap (λ (k : ℕ). shifted at (slots_fault ks k (drop at body))) (sym more)
    ∙ so_far

-- the zeros behind the last slot
pub slots-end : (ks : List Kind) (m at : ℕ) (body rest : List ℕ) (all : Option ℕ) → m ≡ 0 → rest ≡ drop at body → shifted at (slots_fault ks m (drop at body)) ≡ all → shifted at (zeros_fault rest) ≡ all
unfolding slots_fault
slots-end ks m at body rest all none is so_far = ap (λ (l : List ℕ). shifted at (zeros_fault l)) is ∙ ap (λ (k : ℕ). shifted at (slots_fault ks k (drop at body))) (sym none) ∙ so_far

pub row_room : (slots slot row : ℕ) → slot < slots → (slot + 1) * row ≤ slots * row
row_room slots slot row below = mul-le-mul_right {m = slot + 1} {n = slots} row (omega arith)

pub next_row : (slot row : ℕ) → (slot + 1) * row ≡ slot * row + row
next_row slot row = ap (λ (n : ℕ). n * row) (let e : slot + 1 ≡ suc slot = omega arith in e) ∙ suc-mul slot row

-- the header's zeros, and the body
parts_of : (x : ℕ) (c : List ℕ) → length (x ∷ c) ≡ 8192 → zeros_fault (take 31 c) ≡ None → x ∷ c ≡ header_bytes x ++ drop 31 c
parts_of x c len f =
    let zeros : take 31 c ≡ replicate 31 0 = zeros_take (take 31 c) f ∙ ap (λ (n : ℕ). replicate n 0) (length-take-le 31 c (omega arith)) in
    ap (λ (l : List ℕ). x ∷ l) (sym (take-append-drop 31 c) ∙ ap (λ (l : List ℕ). l ++ drop 31 c) zeros)

started_takes : (form : Form) (x : ℕ) (c : List ℕ) → (IsOfIndex form → ⊥) → IsForm form → HasFewColumns form → length (x ∷ c) ≡ 8192 → AreBytes (x ∷ c) → has_page_kind form x ≡ true → started_fault form (x ∷ c) ≡ None → IsStarted form (x ∷ c)
unfolding started_fault heap_bytes
started_takes forms.Status x c rows is few len small kind f =
    let parts = first_none (shifted 1 (zeros_fault (take 31 c))) None f in
    let whole = parts_of x c len (shifted-none 1 _ parts.0) in
    (statuses (drop 31 c), record { bytes = (drop 31 c, omega (arith, length-drop 31 c), whole ∙ ap (λ (k : ℕ). header_bytes k ++ drop 31 c) (eqb-true x 1 kind), refl) })
started_takes (forms.Heap row count ks format) x c rows is few len small kind f =
    let body = drop 31 c in
    let parts = first_none (shifted 1 (zeros_fault (take 31 c))) (shifted 32 (slots_fault ks count body)) f in
    let whole = parts_of x c len (shifted-none 1 _ parts.0) in
    let long : length body ≡ 8160 = omega (arith, length-drop 31 c) in
    let room : count * row_size ks ≤ length body = omega (arith, is.1, ap (λ (r : ℕ). count * r) is.0) in
    let t = slots-take ks count body few room (AreBytes-drop 31 c (λ i. small (suc i))) (shifted-none 32 _ parts.1) in
    let zeros : t.1.0 ≡ 8160 - length (slots_bytes ks t.0) = omega (arith, ap length t.1.1.written, length-append (slots_bytes ks t.0) (replicate t.1.0 0), length-replicate {A = ℕ} t.1.0 0) in (
      t.0,
      record {
        counted = t.1.1.counted;
        are = t.1.1.are;
        bytes = whole ∙ (λ i. header_bytes (eqb-true x 2 kind i) ++ sym t.1.1.written i) ∙ ap (λ (n : ℕ). header_bytes 2 ++ (slots_bytes ks t.0 ++ replicate n 0)) zeros;
      },
    )
started_takes forms.Index x c rows is few len small kind f = absurd (rows tt)

by_kind : (form : Form) (x : ℕ) (c : List ℕ) (unstarted started : Bool) → eqb x 0 ≡ unstarted → has_page_kind form x ≡ started → (IsOfIndex form → ⊥) → IsForm form → HasFewColumns form → length (x ∷ c) ≡ 8192 → AreBytes (x ∷ c)
    → cond unstarted (zeros_fault (x ∷ c)) (cond started (started_fault form (x ∷ c)) (Some 0)) ≡ None → IsPageOf form (x ∷ c)
by_kind form x c true started eu es rows is few len small f = inl (zeros_take (x ∷ c) f ∙ ap (λ (n : ℕ). replicate n 0) len)
by_kind form x c false true eu es rows is few len small f = inr (started_takes form x c rows is few len small es f)
by_kind form x c false false eu es rows is few len small f = absurd cc

-- what has no fault is a page of its form
pub rows_takes : (form : Form) (page : List ℕ) → (IsOfIndex form → ⊥) → IsForm form → HasFewColumns form → length page ≡ 8192 → AreBytes page → rows_fault form page ≡ None → IsPageOf form page
unfolding rows_fault
rows_takes form [] rows is few len small f = absurd (omega arith)
rows_takes form (x ∷ c) rows is few len small f = by_kind form x c (eqb x 0) (has_page_kind form x) refl refl rows is few len small f

zeros_page : (form : Form) (n : ℕ) → rows_fault form (replicate (suc n) 0) ≡ None
unfolding rows_fault
zeros_page form n = zeros_pass (suc n)

unstarted_passes : (form : Form) (n : ℕ) → 0 < n → rows_fault form (replicate n 0) ≡ None
unstarted_passes form zero some = absurd (omega arith)
unstarted_passes form (suc n) some = zeros_page form n

started_passes : (form : Form) (page : List ℕ) → (IsOfIndex form → ⊥) → IsForm form → HasFewColumns form → IsStarted form page → rows_fault form page ≡ None
unfolding rows_fault started_fault heap_bytes
started_passes forms.Status page rows is few started =
    let body = started.1.bytes.0 in
    ap (rows_fault forms.Status) started.1.bytes.2 ∙ ap (λ (o : Option ℕ). first_of (shifted 1 o) None) (zeros_pass 31)
started_passes (forms.Heap row count ks format) page rows is few started =
    let slots = started.0 in
    let zeros = 8160 - length (slots_bytes ks slots) in
    let body = slots_bytes ks slots ++ replicate zeros 0 in
    ap (rows_fault (forms.Heap row count ks format)) started.1.bytes
    ∙ ap (λ (o : Option ℕ). first_of (shifted 1 o) (shifted 32 (slots_fault ks count body))) (zeros_pass 31)
    ∙ ap (λ (n : ℕ). shifted 32 (slots_fault ks n body)) (sym started.1.counted)
    ∙ ap (shifted 32) (slots-pass ks slots zeros few started.1.are)
started_passes forms.Index page rows is few started = absurd (rows tt)

-- a page of its form has no fault
pub rows_passes : (form : Form) (page : List ℕ) (n : ℕ) → n ≡ 8192 → (IsOfIndex form → ⊥) → IsForm form → HasFewColumns form → IsPageOf form page → rows_fault form page ≡ None
rows_passes form page n is_long rows is few (inl zeros) = ap (rows_fault form) (zeros ∙ ap (λ (k : ℕ). replicate k 0) (sym is_long)) ∙ unstarted_passes form n (omega arith)
rows_passes form page n is_long rows is few (inr started) = started_passes form page rows is few started

-- the fault of a page is that of its form
pub rows_same : (form : Form) (page : List ℕ) → (IsOfIndex form → ⊥) → rows_fault form page ≡ page_fault form page
rows_same forms.Status page rows = refl
rows_same (forms.Heap row count ks format) page rows = refl
rows_same forms.Index page rows = absurd (rows tt)

pub index_same : (form : Form) (page : List ℕ) → IsOfIndex form → index_fault page ≡ page_fault form page
index_same forms.Status page index = absurd index
index_same (forms.Heap row count ks format) page index = absurd index
index_same forms.Index page index = refl
