-- Demand 3, the figures, what is said of listening, and that nothing leaks across hold of what calls returned to the code that made them.
use Rattle.lists.proofs.Basics.{◌≡◌, refl, sym, ap, ◌∙◌, ◌∷◌, ◌++◌}
use Rattle.slots.specs.declared.Manager.{Manager}
use Rattle.slots.specs.declared.Outcome.{Outcome}
use Rattle.slots.specs.Calls.{start, outcome}
use Rattle.calls.specs.Histories.{Entry, History}
use Rattle.calling.specs.Returned.{New}
use Rattle.calling.specs.Lived.{Lived}
use Rattle.calling.proofs.Lived.{lived_since, lived_reached, cut, number_accepted}
use Rattle.demands.specs.Demands.{Begun}
use Rattle.demands.specs.Lives.{SinceStart}
use Rattle.demands.proofs.DemandThree.{demand_3}
use Rattle.demands.proofs.ComesUp.{comes_up}
use Rattle.demands.proofs.Listening.{listening_since, listens_in}
use Rattle.demands.proofs.Across.{nothing_leaks}

-- wherever a start was accepted, as code read it off the number that came back
pub lived_demand_3 : (m₀ m : Manager) (s : History) (e : Entry) (h : History) → New m₀ → Lived m₀ m (s ++ (e ∷ h)) → e.call ≡ start → e.number ≡ 0
    → SinceStart m s
lived_demand_3 m₀ m s e h new l starts accepted =
    let c = cut m₀ m (s ++ (e ∷ h)) l s e h refl in
    let result : c.result ≡ outcome c.on start = c.given ∙ ap (outcome c.on) starts in
    let begun : Begun c.result.manager =
    record {
      before = c.on;
      reached = lived_reached m₀ c.on h new c.earlier;
      accepted = ap (λ (o : Outcome). o.answer) (sym result) ∙ number_accepted c.result.answer (c.number ∙ accepted);
      same = ap (λ (o : Outcome). o.manager) result;
    } in
    record {
      started = c.result.manager;
      begun = begun;
      since = lived_since c.result.manager m s c.since;
      demand = λ i used. demand_3 c.result.manager begun i used;
      comes_up = λ i used. comes_up c.result.manager begun i used;
      listening = listening_since c.result.manager begun;
      listens_in = λ i used. listens_in c.result.manager begun i used;
      nothing_leaks = λ i used. nothing_leaks c.result.manager begun i used;
    }
