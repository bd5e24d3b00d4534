-- `lent_calls::ticking::tick_started` meets its contract.
use Rattle.lent_calls.proofs.Ticks.{ticks_fit, ticks_heeded}
use Rattle.lent_calls.proofs.ticking.tick_started.Goals as goal

pub heed-requires : goal.heed-requires
heed-requires c =
    let t = c.tick_networks-outcome in
    ticks_fit _ _ _ t.ensures.0 t.ensures.1 c.requires

pub returns : goal.returns
returns c = (
  c.tick_networks-outcome.ensures.0,
  ticks_heeded _ _ _ c.tick_networks-outcome.ensures.0 c.tick_networks-outcome.ensures.1 c.requires c.heed.ensures,
)
