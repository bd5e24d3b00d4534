-- The words in which it is said what listening does to one network: whether its controllers were last set to send, read off calls, answers and
-- records. The rules L3 and L6 of docs/RULES.md.
use Rattle.std.specs.Prelude.{ℕ, List, [], ◌∷◌, Bool, ◌&&◌, ◌||◌, cond, eqb}
use Rattle.lists.specs.Lists.{any}
use Rattle.records.specs.declared.Record.{Record}
use Rattle.settings.specs.declared.Network.{Network}
use Rattle.network_demands.specs.Words.{Seen, OwnHistory, hands, since, stalled, shut, told}

-- full is said, silent is entered, the network falls, or its shutdown begins
abbrev pub released : Network → Seen → Bool
released n e = hands 6 n.handle 2 e || (hands 7 n.handle 1 e || (hands 7 n.handle 3 e || shut n e))

-- held: a stall was accepted since the last of these
abbrev pub held : Network → OwnHistory → Bool
held n h = any stalled (since (released n) h)

-- L3, L6: full is told, or the network is held: its controllers were last set to send
abbrev pub sending : Network → OwnHistory → Bool
sending n h = eqb 2 (told n h) || held n h

-- the argument of the last record of kind 3 for a controller; where there is none, `before`, as it was
unfoldable pub pdu_by : ℕ → List Record → ℕ → ℕ
pdu_by c [] before = before
pdu_by c (r ∷ rs) before = pdu_by c rs (cond (eqb 3 r.kind && eqb c r.target) r.argument before)
