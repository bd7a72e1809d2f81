use Rattle.index_steps.proofs.Kept.{ready_at, sound_at}
use Rattle.index_steps.proofs.growth_laws.a_kept_index_takes_a_growth.Goals as goal

pub returns-clause-ready : goal.returns-clause-ready
returns-clause-ready c = λ shape e lock w s range hand shows kept is. ready_at shape e lock w s range hand shows kept hand.stage is

pub returns-clause-sound : goal.returns-clause-sound
returns-clause-sound c = λ layout pages shape lock w s range hand order shows kept is damage.
    sound_at layout pages shape lock w s range hand order shows kept (c.a_page_in_order_is_not_damaged.ensures layout pages hand.index) (c.an_uncounted_map_page_is_left_over.ensures layout pages hand.index) hand.stage is damage
