-- places that lead on
use Rattle.std.proofs.Common.{◌≡◌, ℕ, refl, sym, ap, ◌∙◌, subst, None, arith}
use Rattle.std.specs.Prelude.{IfErr, IfOk, Result, Ok, Err}
use Rattle.block_model.specs.Causes.{rose_earlier}
use Rattle.disk_trait.specs.Told.{Told}
use Rattle.page_map.specs.Keeps.{Leaves}
use Rattle.page_map.specs.PageMap.{View}
use Rattle.script_run.specs.declared.engine.AnswerFault.{AnswerFault}
use Rattle.script_run.specs.declared.engine.AnswerFault.TheVariants.{Memory, Full, Disk, Damaged}
use Rattle.script_semantics.specs.Place.{Place}
use Rattle.session_parts.specs.ShowsPlace.{ShowsPlace}
use Rattle.session_parts.specs.StepIs.{LeadsOn}
use Rattle.session_parts.specs.StoreStates.{StoreState}
use Rattle.session_orders.specs.CrashRule.{IsFurther, StopsBetween}
use Rattle.session_orders.specs.Leading.{HasStopCause, IsLeftBy, PlacesLead, PlacesStop}
use Rattle.session_orders.proofs.Crash.{KeepsJournal, OnlyNow, amid_then, between_kept, between_then, further_on, kept_further, still}

module _ {D : Type 0} (told : D → Told) where
  pub leaves_as_is : (v : View D) → Leaves told v v
  leaves_as_is v = record { layout = refl; tells = refl; faults = omega arith }

  leaves_same : (v w : View D) → w ≡ v → Leaves told v w
  leaves_same v w same = subst (λ (x : View D). Leaves told v x) (sym same) (leaves_as_is v)

  pub leaves_on : (v w x : View D) → Leaves told v w → Leaves told w x → Leaves told v x
  leaves_on v w x first second = record {
    layout = second.layout ∙ first.layout;
    tells = second.tells ∙ first.tells;
    faults = omega (arith, first.faults, second.faults);
  }

  -- no page is changed, and no request is entered
  pub led_beside : (s s' : StoreState D) (P Q : Place → Place → Type 0) → OnlyNow told s.pages → s'.pages ≡ s.pages → LeadsOn told s s' P
      → ((p q : Place) → P p q → KeepsJournal p q) → ((p q : Place) → P p q → Q p q) → PlacesLead told s s' Q
  led_beside s s' P Q only same leads keeps so = record {
    leaves = leaves_same s.pages s'.pages same;
    ready = λ was. ap (λ (v : View D). v.failed) same ∙ was;
    places = λ tells was p shown.
        let far = leads tells was (ap (λ (v : View D). v.failed) same ∙ was) p shown in
        record {
          place = far.0;
          shown = far.1;
          so = so p far.0 far.2;
          further = kept_further p far.0 (keeps p far.0 far.2);
          stops = between_kept told s s' p far.0 same only (keeps p far.0 far.2);
        };
  }

  stays_so : (s : StoreState D) (P : Place → Place → Type 0) → OnlyNow told s.pages → ((p : Place) → ShowsPlace s p → P p p) → PlacesLead told s s P
  stays_so s P only so = record {
    leaves = leaves_as_is s.pages;
    ready = λ was. was;
    places = λ tells was p shown. record {
      place = p;
      shown = shown;
      so = so p shown;
      further = still p;
      stops = between_kept told s s p p refl only (record { layout = refl; opening = refl; journal = refl });
    };
  }

  -- nothing is changed
  pub led_still : (s s' : StoreState D) (P : Place → Place → Type 0) → OnlyNow told s.pages → s' ≡ s → ((p : Place) → ShowsPlace s p → P p p) → PlacesLead told s s' P
  led_still s s' P only same so = subst (λ (t : StoreState D). PlacesLead told s t P) (sym same) (stays_so s P only so)

  -- the same, said otherwise
  pub led_as : (s s' : StoreState D) (P Q : Place → Place → Type 0) → PlacesLead told s s' P → ((p q : Place) → ShowsPlace s p → ShowsPlace s' q → P p q → Q p q) → PlacesLead told s s' Q
  led_as s s' P Q leads so = record {
    leaves = leads.leaves;
    ready = leads.ready;
    places = λ tells was p shown.
        let far = leads.places tells was p shown in
        record { place = far.place; shown = far.shown; so = so p far.place shown far.shown far.so; further = far.further; stops = far.stops };
  }

  pub stops_as : (s s' : StoreState D) (n : ℕ) (fault : AnswerFault) (P Q : Place → Place → Type 0) → PlacesStop told s s' n fault P → ((p q : Place) → ShowsPlace s p → P p q → Q p q) → PlacesStop told s s' n fault Q
  stops_as s s' n fault P Q stops so = record {
    leaves = stops.leaves;
    cause = stops.cause;
    places = λ tells was p shown.
        let far = stops.places tells was p shown in
        record { place = far.place; so = so p far.place shown far.so; further = far.further; left = far.left };
  }

  -- all is done, and memory is short for its text
  pub lost_behind : (s s' : StoreState D) (n : ℕ) (P Q : Place → Place → Type 0) → PlacesLead told s s' P → ((p q : Place) → ShowsPlace s p → ShowsPlace s' q → P p q → Q p q) → PlacesStop told s s' n Memory Q
  lost_behind s s' n P Q leads so = record {
    leaves = leads.leaves;
    cause = tt;
    places = λ tells was p shown.
        let far = leads.places tells was p shown in
        record { place = far.place; so = so p far.place shown far.shown far.so; further = far.further; left = (far.shown, far.stops) };
  }

  -- ---- one behind the other

  pub led_further : (s t u : StoreState D) (P Q R : Place → Place → Type 0) → PlacesLead told s t P → PlacesLead told t u Q
      → ((p q r : Place) → ShowsPlace s p → ShowsPlace t q → ShowsPlace u r → P p q → Q q r → R p r) → PlacesLead told s u R
  led_further s t u P Q R first second so = record {
    leaves = leaves_on s.pages t.pages u.pages first.leaves second.leaves;
    ready = λ was. second.ready (first.ready was);
    places = λ tells was p shown.
        let mid = first.places tells was p shown in
        let far = second.places (first.leaves.tells ∙ tells) (first.ready was) mid.place mid.shown in
        record {
          place = far.place;
          shown = far.shown;
          so = so p mid.place far.place shown mid.shown far.shown mid.so far.so;
          further = further_on p mid.place far.place mid.further far.further;
          stops = between_then told s t u p mid.place far.place mid.further far.further mid.stops far.stops;
        };
  }

  pub cause_after : (s t u : StoreState D) (fault : AnswerFault) → Leaves told s.pages t.pages → (s.pages.failed ≡ None → t.pages.failed ≡ None) → HasStopCause told t u fault → HasStopCause told s u fault
  cause_after s t u Memory leaves ready cause = tt
  cause_after s t u Full leaves ready cause = tt
  cause_after s t u Disk leaves ready cause = λ was. rose_earlier (told s.pages.disk).faults (told t.pages.disk).faults (told u.pages.disk).faults leaves.faults (cause (ready was))
  cause_after s t u Damaged leaves ready cause = λ tells was. cause (leaves.tells ∙ tells) (ready was)

  pub left_later : (s t u : StoreState D) (n : ℕ) (fault : AnswerFault) (p q r : Place) → IsFurther p q → IsFurther q r → StopsBetween told s t p q → IsLeftBy told t u n fault q r → IsLeftBy told s u n fault p r
  left_later s t u n Memory p q r further more stops left = (left.0, between_then told s t u p q r further more stops left.1)
  left_later s t u n Full p q r further more stops left = (left.0, between_then told s t u p q r further more stops left.1)
  left_later s t u n Disk p q r further more stops left = amid_then told s t u n p q r further more stops left
  left_later s t u n Damaged p q r further more stops left = left

  pub stops_further : (s t u : StoreState D) (n : ℕ) (fault : AnswerFault) (P Q R : Place → Place → Type 0) → PlacesLead told s t P → PlacesStop told t u n fault Q
      → ((p q r : Place) → ShowsPlace s p → ShowsPlace t q → P p q → Q q r → R p r) → PlacesStop told s u n fault R
  stops_further s t u n fault P Q R first second so = record {
    leaves = leaves_on s.pages t.pages u.pages first.leaves second.leaves;
    cause = cause_after s t u fault first.leaves first.ready second.cause;
    places = λ tells was p shown.
        let mid = first.places tells was p shown in
        let far = second.places (first.leaves.tells ∙ tells) (first.ready was) mid.place mid.shown in
        record {
          place = far.place;
          so = so p mid.place far.place shown mid.shown mid.so far.so;
          further = further_on p mid.place far.place mid.further far.further;
          left = left_later s t u n fault p mid.place far.place mid.further far.further mid.stops far.left;
        };
  }

  -- ---- where a call is done, and where it isn't

  pub ok_led : {A E : Type 0} (s s' : StoreState D) (result : Result A E) (P Q : A → Place → Place → Type 0) → IfOk result (λ a. PlacesLead told s s' (P a))
      → ((a : A) (p q : Place) → ShowsPlace s p → ShowsPlace s' q → P a p q → Q a p q) → IfOk result (λ a. PlacesLead told s s' (Q a))
  ok_led s s' (Ok a) P Q leads so = led_as s s' (P a) (Q a) leads (so a)
  ok_led s s' (Err e) P Q leads so = tt

  pub err_stops : {A : Type 0} (s s' : StoreState D) (n : ℕ) (result : Result A AnswerFault) (P Q : AnswerFault → Place → Place → Type 0) → IfErr result (λ fault. PlacesStop told s s' n fault (P fault))
      → ((fault : AnswerFault) (p q : Place) → P fault p q → Q fault p q) → IfErr result (λ fault. PlacesStop told s s' n fault (Q fault))
  err_stops s s' n (Ok a) P Q stops so = tt
  err_stops s s' n (Err fault) P Q stops so = stops_as s s' n fault (P fault) (Q fault) stops (λ p q _ is. so fault p q is)

  pub ok_further : {A E : Type 0} (s t u : StoreState D) (result : Result A E) (P : Place → Place → Type 0) (Q R : A → Place → Place → Type 0) → PlacesLead told s t P → IfOk result (λ a. PlacesLead told t u (Q a))
      → ((a : A) (p q r : Place) → P p q → Q a q r → R a p r) → IfOk result (λ a. PlacesLead told s u (R a))
  ok_further s t u (Ok a) P Q R first second so = led_further s t u P (Q a) (R a) first second (λ p q r _ _ _ before behind. so a p q r before behind)
  ok_further s t u (Err e) P Q R first second so = tt

  pub err_further : {A : Type 0} (s t u : StoreState D) (n : ℕ) (result : Result A AnswerFault) (P : Place → Place → Type 0) (Q R : AnswerFault → Place → Place → Type 0) → PlacesLead told s t P
      → IfErr result (λ fault. PlacesStop told t u n fault (Q fault)) → ((fault : AnswerFault) (p q r : Place) → P p q → Q fault q r → R fault p r) → IfErr result (λ fault. PlacesStop told s u n fault (R fault))
  err_further s t u n (Ok a) P Q R first second so = tt
  err_further s t u n (Err fault) P Q R first second so = stops_further s t u n fault P (Q fault) (R fault) first second (λ p q r _ _ before behind. so fault p q r before behind)
