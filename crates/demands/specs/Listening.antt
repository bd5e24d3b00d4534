-- What listening does, for a started manager and for each of its networks, over every history of calls since the start. It is read off calls, answers
-- and records as they were handed out. A history has the latest call first: in e ∷ h, e follows h. The rules L1 to L6 of docs/RULES.md.
use Rattle.std.specs.Prelude.{ℕ, ◌≡◌, [], ◌∷◌, map, Bool, true, false, not, cond}
use Rattle.lists.specs.Lists.{any}
use Rattle.records.specs.Records.{handed, is_online}
use Rattle.settings.specs.declared.Network.{Network}
use Rattle.settings.specs.Settings.{controllers_of, member}
use Rattle.steps.specs.Steps.{step_number}
use Rattle.handing.specs.Handing.{own_record}
use Rattle.slots.specs.declared.Manager.{Manager}
use Rattle.slots.specs.Manager.{network_at, state_at, with_listening}
use Rattle.calls.specs.Histories.{Entry, History, Since, Switch, turns, leaves, switch_of, listening}
use Rattle.network_demands.specs.Listening.{sending, pdu_by}
use Rattle.demands.specs.View.{keep, is_turned, unturned, views_of}

-- ---- words

-- L2: the argument with which online goes out
abbrev pub online_as : Bool → ℕ
online_as listening = cond listening 2 0

-- the argument of the last record of kind 3 that a controller was handed; 3, which no record of the kind has, where there was none
unfoldable pub last_pdu : ℕ → History → ℕ
last_pdu c [] = 3
last_pdu c (e ∷ h) = pdu_by c e.records (last_pdu c h)

-- an entry that sets or clears listening is left out; of any other argument 2 of kind 3 is read as online
abbrev pub left_out : Switch → Entry → History → History
left_out (turns listening) e h = h
left_out leaves e h = record { call = e.call; number = e.number; mode = e.mode; records = map unturned e.records } ∷ h

-- a history with listening taken out
unfoldable pub without : History → History
without [] = []
without (e ∷ h) = left_out (switch_of e.number e.call) e (without h)

-- ---- sentences
-- of an entry e that follows h, and of the network n

-- L2: while the manager listens no record "3 online" is handed out, by any call
abbrev pub Quiet : Entry → History → Type 0
Quiet e h = listening (e ∷ h) ≡ true → any is_online e.records ≡ false

-- L2: and while it does not, none of kind 3 with argument 2
abbrev pub Aloud : Entry → History → Type 0
Aloud e h = listening (e ∷ h) ≡ false → any is_turned e.records ≡ false

-- L6: where full is told or the network is held, each controller was last handed online if the manager does not listen, and argument 2 if it does
abbrev pub LastHeard : Network → History → Type 0
LastHeard n h =
    sending n (views_of n h) ≡ true → (c : ℕ) → member c (controllers_of n) ≡ true → last_pdu c h ≡ online_as (listening h)

-- L3: a call that changes it hands that out for each controller there, in the order of the sheet, and elsewhere nothing
abbrev pub HandsAnew : Network → Entry → History → Type 0
HandsAnew n e h =
    (to : Bool) → switch_of e.number e.call ≡ turns to → listening h ≡ not to → keep (own_record n) e.records
    ≡ cond (sending n (views_of n h)) (map (λ (c : ℕ). handed 3 c (online_as to)) (controllers_of n)) []

-- L3: one that changes nothing hands out nothing
abbrev pub NotAgain : Entry → History → Type 0
NotAgain e h = (to : Bool) → switch_of e.number e.call ≡ turns to → listening h ≡ to → e.records ≡ []

-- ---- for the whole manager
pub record Listening (m₀ : Manager) : Type 0 where
  -- L1, L5: the manager listens exactly if the last accepted call to listen since the start set it
  pub shared : (m : Manager) (h : History) → Since m₀ m h → m.listening ≡ listening h
  pub quiet : (m : Manager) (e : Entry) (h : History) → Since m₀ m (e ∷ h) → Quiet e h
  pub aloud : (m : Manager) (e : Entry) (h : History) → Since m₀ m (e ∷ h) → Aloud e h
  pub not_again : (m : Manager) (e : Entry) (h : History) → Since m₀ m (e ∷ h) → NotAgain e h
  -- L4: nothing else changes: the same calls with those left out that set or clear it lead to the same manager, but for listening itself, with the
  -- same answers and modes, and with the same records, but for argument 2 in the place of 0 in kind 3
  pub nothing_else : (m : Manager) (h : History) → Since m₀ m h → Since m₀ (with_listening m false) (without h)

-- ---- for one network, by its slot
pub record ListensIn (m₀ : Manager) (i : ℕ) : Type 0 where
  -- L3: full is told or the network is held exactly in steps 4, 5, 15 and 16 of its record
  pub steps : (m : Manager) (h : History) → Since m₀ m h
      → sending (network_at m₀ i) (views_of (network_at m₀ i) h) ≡ member (step_number (state_at m i).step) (4 ∷ 5 ∷ 15 ∷ 16 ∷ [])
  pub last_heard : (m : Manager) (h : History) → Since m₀ m h → LastHeard (network_at m₀ i) h
  pub hands_anew : (m : Manager) (e : Entry) (h : History) → Since m₀ m (e ∷ h) → HandsAnew (network_at m₀ i) e h
