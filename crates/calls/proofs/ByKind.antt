-- A call by its kind: it names an id, or reports trouble of one and is lent a buffer for it, or is one of six others. What goes by the calls one by one
-- goes by these: a new call that names an id is a line of `kind_of`.
use Rattle.lists.proofs.Basics.{ℕ, arith, ◌≡◌, refl, sym, ap, ◌∙◌, List, [], ◌∷◌, Bool, true, false, cond, ◌&&◌, eqb, ltb}
use Rattle.settings.specs.declared.Id.{Id}
use Rattle.network.specs.declared.Report.{Report}
use Rattle.network.specs.declared.Trouble.{Trouble}
use Rattle.network.specs.Parts.{Sight, an_answer, a_request, a_report, sight_of}
use Rattle.slots.specs.declared.Manager.{Manager}
use Rattle.slots.specs.Calls.{Call, read, write, start, request, poll, bus_off, stall, answer, transceiver_mode, clear_done, check_done, tick, listen}
use Rattle.slots.specs.Calls.{slot_of, named, slot_records, gate_of, by_gate, gate_records, trouble_needs, outcome, by_rules}
use Rattle.calls.specs.Histories.{ids_of, to, to_all, to_nobody, address_of, leaves, switch_of}

-- it names an id: what it gives is what the network that has it makes of it, and it makes no record
pub record Names (c : Call) (id : Id) (sight : Sight) : Type 0 where
  pub gives : (m : Manager) → outcome m c ≡ named m id sight
  pub makes : (m : Manager) → by_rules m c ≡ []
  pub ids : ids_of c ≡ id ∷ []
  pub address : (number : ℕ) → address_of number c ≡ to id sight
  pub switch : (number : ℕ) → switch_of number c ≡ leaves

-- it reports trouble of the network that has an id, where it is lent the bytes for that
pub record Reports (c : Call) (room : ℕ) (id : Id) (trouble : Trouble) : Type 0 where
  pub gives : (m : Manager) → outcome m c ≡ by_gate m (gate_of m room (trouble_needs trouble)) (named m id (sight_of trouble))
  pub makes : (m : Manager)
      → by_rules m c ≡ gate_records (gate_of m room (trouble_needs trouble)) (slot_records m (slot_of m id) (sight_of trouble))
  pub ids : ids_of c ≡ id ∷ []
  pub address : (number : ℕ) →
      address_of number c ≡ cond (ltb room (trouble_needs trouble) && eqb 0x20 number) to_nobody (to id (sight_of trouble))
  pub switch : (number : ℕ) → switch_of number c ≡ leaves

pub data Kind : Call → Type 0 where
  names_id : (c : Call) (id : Id) (sight : Sight) → Names c id sight → Kind c
  reports_trouble : (c : Call) (room : ℕ) (id : Id) (trouble : Trouble) → Reports c room id trouble → Kind c
  is_poll : (handle : ℕ) → Kind (poll handle)
  is_read : (bytes : List ℕ) → Kind (read bytes)
  is_write : (room : ℕ) → Kind (write room)
  is_start : Kind start
  is_tick : (room : ℕ) → Kind (tick room)
  is_listen : (value room : ℕ) → Kind (listen value room)

pub kind_of : (c : Call) → Kind c
unfolding outcome by_rules
kind_of (read bytes) = is_read bytes
kind_of (write room) = is_write room
kind_of start = is_start
kind_of (request handle mode) = names_id _ (Id.OfNetwork handle) (a_request mode)
    (record { gives = λ m. refl; makes = λ m. refl; ids = refl; address = λ number. refl; switch = λ number. refl })
kind_of (poll handle) = is_poll handle
kind_of (bus_off controller room) = reports_trouble _ room (Id.OfController controller) Trouble.BusOff
    (record { gives = λ m. refl; makes = λ m. refl; ids = refl; address = λ number. refl; switch = λ number. refl })
kind_of (stall handle room) = reports_trouble _ room (Id.OfNetwork handle) Trouble.Stall
    (record { gives = λ m. refl; makes = λ m. refl; ids = refl; address = λ number. refl; switch = λ number. refl })
kind_of (answer controller mode ok) = names_id _ (Id.OfController controller) (an_answer controller mode ok)
    (record { gives = λ m. refl; makes = λ m. refl; ids = refl; address = λ number. refl; switch = λ number. refl })
kind_of (transceiver_mode transceiver mode) = names_id _ (Id.OfTransceiver transceiver) (a_report (Report.Transceiver mode))
    (record { gives = λ m. refl; makes = λ m. refl; ids = refl; address = λ number. refl; switch = λ number. refl })
kind_of (clear_done transceiver) = names_id _ (Id.OfTransceiver transceiver) (a_report Report.Cleared)
    (record { gives = λ m. refl; makes = λ m. refl; ids = refl; address = λ number. refl; switch = λ number. refl })
kind_of (check_done transceiver) = names_id _ (Id.OfTransceiver transceiver) (a_report Report.Checked)
    (record { gives = λ m. refl; makes = λ m. refl; ids = refl; address = λ number. refl; switch = λ number. refl })
kind_of (tick room) = is_tick room
kind_of (listen value room) = is_listen value room

-- ---- a call that concerns the network of an id
-- an address is one of its id
same_id : {x y : Id} {sight sight' : Sight} → to x sight ≡ to y sight' → x ≡ y
same_id e = cc

unless : (b : Bool) (x y : Id) (sight sight' : Sight) → cond b to_nobody (to x sight) ≡ to y sight' → x ≡ y
unless true x y sight sight' e = absurd cc
unless false x y sight sight' e = same_id e

no_address : {A : Type 0} {id : Id} {sight : Sight} → to_nobody ≡ to id sight → A
no_address e = absurd cc

-- a tick that is accepted concerns all, and one that is refused nobody
tick_address : {A : Type 0} {id : Id} {sight : Sight} (b : Bool) → cond b to_all to_nobody ≡ to id sight → A
tick_address true e = absurd cc
tick_address false e = no_address e

-- it names that id, and leaves it as it was whether the manager listens
pub address_names : (number : ℕ) (c : Call) (id : Id) (sight : Sight) → address_of number c ≡ to id sight
    → (ids_of c ≡ id ∷ []) × (switch_of number c ≡ leaves)
address_names number c id sight e = by_kind c (kind_of c) e
  where
    by_kind : (c : Call) → Kind c → address_of number c ≡ to id sight → (ids_of c ≡ id ∷ []) × (switch_of number c ≡ leaves)
    by_kind _ (names_id c x y k) e = (k.ids ∙ ap (λ (z : Id). z ∷ []) (same_id (sym (k.address number) ∙ e)), k.switch number)
    by_kind _ (reports_trouble c room x trouble k) e = (
      k.ids ∙ ap (λ (z : Id). z ∷ []) (unless (ltb room (trouble_needs trouble) && eqb 0x20 number) x id (sight_of trouble) sight
          (sym (k.address number) ∙ e)),
      k.switch number,
    )
    by_kind _ (is_poll handle) e = no_address e
    by_kind _ (is_read bytes) e = no_address e
    by_kind _ (is_write room) e = no_address e
    by_kind _ is_start e = no_address e
    by_kind _ (is_tick room) e = tick_address (eqb 0 number) e
    by_kind _ (is_listen value room) e = no_address e
