-- Nothing leaks across: what reaches one network of a history, and what it is given for it. The second follows from the first and from the network's
-- own settings, whatever else is called. All of it is read off calls, answers and records. A history has the latest call first: in e ∷ h, e follows
-- h. The rules V1 to V7 of docs/RULES.md.
use Rattle.std.specs.Prelude.{ℕ, ◌<◌, ◌≡◌, List, [], ◌∷◌, ◌++◌, map, Bool, cond, length}
use Rattle.lists.specs.Lists.{any}
use Rattle.records.specs.declared.Record.{Record}
use Rattle.settings.specs.declared.Network.{Network}
use Rattle.settings.specs.declared.Id.{Id}
use Rattle.settings.specs.Settings.{has}
use Rattle.handing.specs.Handing.{own_record}
use Rattle.network.specs.declared.State.{State}
use Rattle.slots.specs.declared.Manager.{Manager}
use Rattle.slots.specs.Manager.{networks_of, network_at, state_at}
use Rattle.slots.specs.Calls.{Call}
use Rattle.calls.specs.Histories.{Entry, History, Since, ids_of, Address, to, to_all, to_nobody, address_of, Switch, turns, leaves, switch_of}
use Rattle.demands.specs.View.{keep}
use Rattle.demands.specs.Demands.{Begun}

-- ---- what reaches a network

-- V1: a call names a network by its handle, by one of its controllers or by its transceiver
abbrev pub names : Network → Call → Bool
names n c = any (λ (id : Id). has id n) (ids_of c)

-- V2: what can reach a network: a call that names it, with all its arguments; a tick; that listening is set or cleared
pub data Asked : Type 0 where
  itself : (call : Call) → Asked
  ticks : Asked
  listens : (listening : Bool) → Asked

-- V2, V3: of a call that does not name it an accepted tick, or that listening is set or cleared, whatever was lent for it; of any other call nothing
abbrev pub asked_of_all : Address → Switch → List Asked
asked_of_all (to id sight) switch = []
asked_of_all to_all switch = ticks ∷ []
asked_of_all to_nobody (turns listening) = listens listening ∷ []
asked_of_all to_nobody leaves = []

-- V2: what reaches it of an entry, as a list of none or one
abbrev pub asked_by : Network → Entry → List Asked
asked_by n e =
    cond (names n e.call) (itself e.call ∷ []) (asked_of_all (address_of e.number e.call) (switch_of e.number e.call))

-- V2: and of a history, in its order
unfoldable pub asked : Network → History → List Asked
asked n [] = []
asked n (e ∷ h) = asked_by n e ++ asked n h

-- V3: two histories are the same to it where the same reached it, in the same order
abbrev pub SameTo : Network → History → History → Type 0
SameTo n h h' = asked n h ≡ asked n h'

-- ---- what it is given

-- V4: the number of the answer, the polled mode, and the records that name its own ids, in their order
pub record Given : Type 0 where
  pub number : ℕ
  pub mode : ℕ
  pub records : List Record

abbrev pub given_by : Network → Entry → Given
given_by n e = record { number = e.number; mode = e.mode; records = keep (own_record n) e.records }

-- V4: in a history, for each that reached it
unfoldable pub given : Network → History → List Given
given n [] = []
given n (e ∷ h) = map (λ (a : Asked). given_by n e) (asked_by n e) ++ given n h

-- ---- sentences

-- V4: its record is the same, and so is all that it was given
pub record Alike (n : Network) (s s' : State) (h h' : History) : Type 0 where
  pub record_same : s ≡ s'
  pub given_same : given n h ≡ given n h'

-- V5: what does not reach it hands out nothing that names its ids
abbrev pub Elsewhere : Network → Entry → Type 0
Elsewhere n e = asked_by n e ≡ [] → keep (own_record n) e.records ≡ []

-- V7: a call that names nobody has the same answer
abbrev pub BySheet : Entry → Entry → Type 0
BySheet e e' = e.call ≡ e'.call → ids_of e.call ≡ [] → e.number ≡ e'.number

-- of the network in slot i of a manager that was just started
pub record NothingLeaks (m₀ : Manager) (i : ℕ) : Type 0 where
  -- V4: any two histories since then
  pub alike : (m m' : Manager) (h h' : History) → Since m₀ m h → Since m₀ m' h' → SameTo (network_at m₀ i) h h'
      → Alike (network_at m₀ i) (state_at m i) (state_at m' i) h h'
  -- V6: one since then, and one since the start of any manager in which a network has the same settings, in whichever slot
  pub other_sheet : (m₀' : Manager) (j : ℕ) → Begun m₀' → j < length (networks_of m₀') → network_at m₀ i ≡ network_at m₀' j
      → (m m' : Manager) (h h' : History) → Since m₀ m h → Since m₀' m' h' → SameTo (network_at m₀ i) h h'
      → Alike (network_at m₀ i) (state_at m i) (state_at m' j) h h'
  -- V5: any entry since then
  pub elsewhere : (m : Manager) (e : Entry) (h : History) → Since m₀ m (e ∷ h) → Elsewhere (network_at m₀ i) e
  -- V7: any two entries since then
  pub by_sheet : (m m' : Manager) (e e' : Entry) (h h' : History) → Since m₀ m (e ∷ h) → Since m₀ m' (e' ∷ h') → BySheet e e'
