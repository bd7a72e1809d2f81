use Rattle.bitmap_scan.proofs.Seen.{since_unseen, stays_seen}
use Rattle.bitmap_scan.proofs.laws.what_is_seen_stays.Goals as goal

pub returns-clause-stays : goal.returns-clause-stays
returns-clause-stays c = λ old new row now later stays. stays_seen old new later row now stays

pub returns-clause-put_since : goal.returns-clause-put_since
returns-clause-put_since c = λ sight row since. since_unseen sight row since
