-- the place that an opened store shows
use Rattle.std.proofs.Common.{ℕ, List, [], Option, None, refl, sym, subst, ◌∙◌}
use Rattle.std.proofs.lemmas.Option.{none-some}
use Rattle.snapshot_core.specs.StoredVersions.{transaction_of}
use Rattle.coverage.specs.Accounts.{no_account}
use Rattle.coverage.specs.Table.{Resting}
use Rattle.transactions.specs.CountedRows.{counts as counts_of}
use Rattle.brin_insert.specs.AskedFor.{AreRequestsOf, NoRequests}
use Rattle.session_parts.proofs.Starting.{start_stands}
use Rattle.session_parts.specs.declared.hand.Hand.{Hand}
use Rattle.session_parts.specs.Hands.{HandShows}
use Rattle.session_parts.specs.HandsAsk.{HandAsked}
use Rattle.session_parts.specs.HandsInTables.{IsTaskOf}
use Rattle.session_parts.specs.OpeningLaws.{OpenedIsShown, place_opened}

pub opened_is_shown : OpenedIsShown
opened_is_shown s opening tables empty unasked undropped none started database opened order = record {
  layout = refl;
  names = refl;
  queue = subst (λ (l : List (ℕ × ℕ)). AreRequestsOf s.layout l []) (sym unasked) NoRequests;
  told = undropped;
  asked = λ n. subst (λ (h : Option Hand). HandAsked s.layout h []) (sym (none n)) tt;
  journal = sym empty;
  legal = refl;
  database = database;
  fronts = start_stands s.layout s.pages s.transactions database.stored (place_opened s opening tables) database database.has started refl;
  hands = λ n. subst (λ (h : Option Hand). HandShows h None no_account) (sym (none n)) refl;
  own = λ n hand is. absurd (none-some hand (sym (none n) ∙ is));
  tables = λ table below. record {
    blocks = (opened table below).blocks;
    has = (opened table below).has;
    unseen = record { summarise_lock = None; task = λ n. Resting; counts = counts_of s.transactions database.stored; unnamed = (opened table below).unnamed };
    shown = (opened table below).is;
    lock = sym (opened table below).free;
    counts = λ t. refl;
    tasks = λ n. subst (λ (h : Option Hand). IsTaskOf s.layout table (opened table below).blocks s.transactions.tx database.stored (transaction_of s.transactions.opens n) h Resting) (sym (none n)) refl;
    kept = (opened table below).kept;
  };
  order = order;
}
