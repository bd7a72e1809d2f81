-- what a session's own requests make of its transaction
use Rattle.std.proofs.Common.{◌≡◌, ℕ, Bool, true, false, cond, ◌==◌, ◌⊎◌, inl, inr, List, [], ◌∷◌, fold, if◌then◌else◌, refl, sym, ap, subst, ◌∙◌, Some, eqb-true}
use Rattle.std.specs.List.{list_any}
use Rattle.std.specs.FinMap.{get}
use Rattle.std.proofs.lemmas.Bool.{false≢true, true≢false, or_parts, eqb-false}
use Rattle.std.proofs.lemmas.Cmp.{nat_cmp_total}
use Rattle.block_model.specs.declared.row.RowId.{RowId}
use Rattle.block_model.specs.declared.request.Entry.{Entry}
use Rattle.block_model.specs.declared.request.Request.{Request}
use Rattle.block_model.specs.declared.request.Request.TheVariants.{Begin, Put, Look, Mark, Commit, Rollback}
use Rattle.block_model.specs.declared.request.Tag.{Tag}
use Rattle.block_model.specs.declared.request.Tag.TheVariants as tags
use Rattle.block_model.specs.DatabaseState.{DatabaseState, OpenTransaction}
use Rattle.block_model.specs.RequestEffect.{Answer, effect, effect_within, after_request, reply_to, is_conflict, failed_transaction, after_put, after_mark}
use Rattle.block_model.specs.SerialRun.{serial_run}
use Rattle.model_laws.specs.OwnRequestsAlone.{OwnRequestsAlone, IsOwnRun, NeverEnds, is_end, own_entries, own_after, own_step, own_reply, own_replies, replies_of}
use Rattle.block_model.specs.NumberMaps.{get_put_here, same_Some}
use Rattle.block_model.specs.RequestLaws.{effect_by, others_stay, mark_effect}

-- After a request that isn't an end the transaction x is under way, and has failed, or is what the request made of it alone.
record OwnStep (n : ℕ) (x : OpenTransaction) (table : ℕ) (request : Request) (p : DatabaseState × Answer) : Type 0 where
  after : OpenTransaction
  under_way : get p.0.sessions n ≡ Some after
  stays_failed : x.failed ≡ true → after.failed ≡ true
  alone : (after.failed ≡ true) ⊎ ((after ≡ own_after x table request) × (p.1 ≡ own_reply x table request))

module _ (s : DatabaseState) (n : ℕ) (x : OpenTransaction) (got : get s.sessions n ≡ Some x) where
  mark_step : (table : ℕ) (id : RowId) (b : Bool) → OwnStep n x table (Mark id) (mark_effect s n x id b)
  mark_step table id true = record { after = failed_transaction x; under_way = get_put_here nat_cmp_total s.sessions n (failed_transaction x); stays_failed = λ _. refl; alone = inl refl }
  mark_step table id false = record { after = after_mark x id; under_way = get_put_here nat_cmp_total s.sessions n (after_mark x id); stays_failed = λ h. h; alone = inr (refl, refl) }

  own_within : (table : ℕ) (request : Request) (tag : Tag) → is_end request ≡ false → OwnStep n x table request (effect_within s n x table request tag)
  own_within table (Put values) tags.Ok h = record { after = after_put x table values; under_way = get_put_here nat_cmp_total s.sessions n (after_put x table values); stays_failed = λ f. f; alone = inr (refl, refl) }
  own_within table (Put values) tags.Full h = record { after = failed_transaction x; under_way = get_put_here nat_cmp_total s.sessions n (failed_transaction x); stays_failed = λ _. refl; alone = inl refl }
  own_within table (Put values) tags.NoMemory h = record { after = failed_transaction x; under_way = get_put_here nat_cmp_total s.sessions n (failed_transaction x); stays_failed = λ _. refl; alone = inl refl }
  own_within table (Look q) tags.Ok h = record { after = x; under_way = got; stays_failed = λ f. f; alone = inr (refl, refl) }
  own_within table (Look q) tags.Full h = record { after = x; under_way = got; stays_failed = λ f. f; alone = inr (refl, refl) }
  own_within table (Look q) tags.NoMemory h = record { after = failed_transaction x; under_way = get_put_here nat_cmp_total s.sessions n (failed_transaction x); stays_failed = λ _. refl; alone = inl refl }
  own_within table (Mark id) tag h = mark_step table id (is_conflict s n x id)
  own_within table Commit tag h = absurd (true≢false h)
  own_within table Rollback tag h = absurd (true≢false h)
  own_within table Begin tag h = record { after = x; under_way = got; stays_failed = λ f. f; alone = inr (refl, refl) }

own_effect : (s : DatabaseState) (e : Entry) (x : OpenTransaction) → get s.sessions e.session ≡ Some x → is_end e.request ≡ false → OwnStep e.session x e.table e.request (effect s e)
own_effect s e x got h = subst (OwnStep e.session x e.table e.request) (sym (effect_by s e (Some x) got)) (own_within s e.session x got e.table e.request e.tag h)

-- the journal's first request is the session's own, or another's
ends_rest : (e : Entry) (n : ℕ) (es : List Entry) (b : Bool) → list_any (λ (f : Entry). is_end f.request) (cond b (e ∷ own_entries n es) (own_entries n es)) ≡ false → NeverEnds n es
ends_rest e n es true h = (or_parts (is_end e.request) (list_any (λ (f : Entry). is_end f.request) (own_entries n es)) h).1
ends_rest e n es false h = h

-- a transaction that has failed stays so
failed_stays : (n : ℕ) (s : DatabaseState) (journal : List Entry) (x y : OpenTransaction) → get s.sessions n ≡ Some x → NeverEnds n journal → get (serial_run s journal).sessions n ≡ Some y → x.failed ≡ true → y.failed ≡ true
failed_stays n s [] x y got ends last failed = ap (λ (z : OpenTransaction). z.failed) (sym (same_Some x y (sym got ∙ last))) ∙ failed
failed_stays n s (e ∷ es) x y got ends last failed =
    elim (e.session == n) as (λ b. (e.session == n) ≡ b → list_any (λ (f : Entry). is_end f.request) (cond b (e ∷ own_entries n es) (own_entries n es)) ≡ false → y.failed ≡ true) [
      | true ↦ λ is ends.
          let here : e.session ≡ n = eqb-true e.session n is in
          let step = own_effect s e x (ap (get s.sessions) here ∙ got) (or_parts (is_end e.request) (list_any (λ (f : Entry). is_end f.request) (own_entries n es)) ends).0 in
          failed_stays n (after_request s e) es step.after y (ap (get (after_request s e).sessions) (sym here) ∙ step.under_way) (ends_rest e n es true ends) last (step.stays_failed failed)
      | false ↦ λ is ends. failed_stays n (after_request s e) es x y (others_stay s e n (λ same. eqb-false e.session n is (sym same)) ∙ got) ends last failed
    ] refl ends

module _ (n : ℕ) where
  -- one more request of its own
  more_own : (s : DatabaseState) (e : Entry) (es : List Entry) (x x' y : OpenTransaction) → x' ≡ own_step x e → reply_to s e ≡ own_reply x e.table e.request
      → IsOwnRun n (after_request s e) es x' y
      → (y ≡ fold own_step (own_step x e) (own_entries n es)) × ((reply_to s e ∷ replies_of n (after_request s e) es) ≡ (own_reply x e.table e.request ∷ own_replies (own_step x e) (own_entries n es)))
  more_own s e es x x' y step reply rest = (rest.transaction ∙ ap (λ z. fold own_step z (own_entries n es)) step, λ i. reply i ∷ (rest.replies ∙ ap (λ z. own_replies z (own_entries n es)) step) i)

  own_runs : (s : DatabaseState) (journal : List Entry) (x y : OpenTransaction) → get s.sessions n ≡ Some x → NeverEnds n journal → get (serial_run s journal).sessions n ≡ Some y → y.failed ≡ false → IsOwnRun n s journal x y
  own_runs s [] x y got ends last sound = record { transaction = sym (same_Some x y (sym got ∙ last)); replies = refl }
  own_runs s (e ∷ es) x y got ends last sound =
      let found = elim (e.session == n) as (λ b. (e.session == n) ≡ b → list_any (λ (f : Entry). is_end f.request) (cond b (e ∷ own_entries n es) (own_entries n es)) ≡ false
      → (y ≡ fold own_step x (cond b (e ∷ own_entries n es) (own_entries n es)))
      × ((if b then reply_to s e ∷ replies_of n (after_request s e) es else replies_of n (after_request s e) es) ≡ own_replies x (cond b (e ∷ own_entries n es) (own_entries n es)))) [
        | true ↦ λ is ends.
            let here : e.session ≡ n = eqb-true e.session n is in
            let step = own_effect s e x (ap (get s.sessions) here ∙ got) (or_parts (is_end e.request) (list_any (λ (f : Entry). is_end f.request) (own_entries n es)) ends).0 in
            let now : get (after_request s e).sessions n ≡ Some step.after = ap (get (after_request s e).sessions) (sym here) ∙ step.under_way in
            elim step.alone [
              | inl failed ↦ absurd (false≢true (sym sound ∙ failed_stays n (after_request s e) es step.after y now (ends_rest e n es true ends) last failed))
              | inr alone ↦ more_own s e es x step.after y alone.0 alone.1 (own_runs (after_request s e) es step.after y now (ends_rest e n es true ends) last sound)
            ]
        | false ↦ λ is ends.
            let rest = own_runs (after_request s e) es x y (others_stay s e n (λ same. eqb-false e.session n is (sym same)) ∙ got) ends last sound in
            (rest.transaction, rest.replies)
      ] refl ends in
      record { transaction = found.0; replies = found.1 }

pub own_requests_alone : OwnRequestsAlone
own_requests_alone n s journal x y got ends last sound = own_runs n s journal x y got ends last sound
