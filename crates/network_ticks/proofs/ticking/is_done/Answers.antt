-- `network_ticks::ticking::is_done` meets its contract.
use Rattle.lists.proofs.Basics.{sym, ◌∙◌}
use mathlib.Core.Logic.{inl, inr}
use Rattle.lists.proofs.Any.{every-list}
use Rattle.network.specs.State.{heard_of}
use Rattle.network.specs.Rules.{is_okay, is_done}
use Rattle.network_ticks.proofs.ticking.is_done.Goals as goal

pub returns-in-Nothing : goal.returns-in-Nothing
unfolding is_done
returns-in-Nothing c = simp (c.if-state.true, sym c.asks.ensures ∙ c.in-Nothing.is)

pub returns-in-Controllers : goal.returns-in-Controllers
unfolding is_done
returns-in-Controllers c =
    simp (c.if-state.true, sym c.asks.ensures ∙ c.in-Controllers.is, c.all_okay.ensures ∙ sym (every-list is_okay (heard_of c.args.network c.args.state)))

pub returns-in-Transceiver : goal.returns-in-Transceiver
unfolding is_done
returns-in-Transceiver c =
    elim c.in-Transceiver.is [
      | inl w ↦ simp (c.if-state.true, sym c.asks.ensures ∙ w.1)
      | inr (inl w) ↦ simp (c.if-state.true, sym c.asks.ensures ∙ w)
      | inr (inr w) ↦ simp (c.if-state.true, sym c.asks.ensures ∙ w)
    ]

pub returns-else-state : goal.returns-else-state
unfolding is_done
returns-else-state c = simp c.if-state.false
