-- A history of the manager since its start, as one network sees it, is one of the network's own rules; and the network's record is the one that they
-- give.
use Rattle.lists.proofs.Basics.{ℕ, zero, suc, ◌*◌, ◌<◌, arith, ◌≡◌, refl, sym, ap, subst, ◌∙◌, List, [], ◌∷◌, ◌++◌, length, get_or, take}
use Rattle.std.specs.Prelude.{Ok}
use Rattle.slots.specs.declared.CallRefusal.{CallRefusal}
use Rattle.settings.specs.declared.Network.{Network}
use Rattle.settings.specs.declared.Settings.{Settings}
use Rattle.settings.specs.Settings.{blank_network, controllers_of}
use Rattle.settings.specs.Good.{InRange, Distinct, Fresh, all}
use Rattle.settings.proofs.Good.{fresh_left, fresh_right}
use Rattle.network.specs.declared.State.{State}
use Rattle.network.specs.State.{started as started-state}
use Rattle.slots.specs.declared.Stage.{Stage}
use Rattle.slots.specs.declared.Manager.{Manager}
use Rattle.slots.specs.declared.Outcome.{Outcome}
use Rattle.slots.specs.Manager.{networks_of, settings_of, network_at, state_at, refused, accepted, summed, share, tick_needs}
use Rattle.slots.specs.Calls.{Call, start, by_stage, started_from, outcome}
use Rattle.calls.specs.Histories.{Entry, entry_of, History, Since, begun, goes}
use Rattle.slots.proofs.Own.{slot_network, each_slot}
use Rattle.manager_theorems.specs.Careful.{Sound}
use Rattle.manager_theorems.proofs.Sound.{slot_in_range, call_sound, call_settled, reached_sound}
use Rattle.network_demands.specs.Own.{played, state_of, Fits, Ran}
use Rattle.network_demands.proofs.Slots.{fresh_distinct}
use Rattle.demands.specs.View.{view_of, views_of}
use Rattle.demands.specs.Demands.{Begun}
use Rattle.demands.proofs.Apart.{Once}
use Rattle.demands.proofs.Parts.{entry_fits}

-- ---- a manager that was just started
-- a start that is accepted is one of a manager that has a sheet and was not started
start_by : (m : Manager) (x : Outcome) (g : Stage) → (by_stage g (refused m CallRefusal.NotReady) x (refused m CallRefusal.Running)).answer ≡ Ok tt
    → by_stage g (refused m CallRefusal.NotReady) x (refused m CallRefusal.Running) ≡ x
start_by m x Stage.Empty p = absurd cc
start_by m x Stage.Loaded p = refl
start_by m x Stage.Started p = absurd cc

start_is : (m : Manager) → (outcome m start).answer ≡ Ok tt → outcome m start ≡ accepted (started_from m) 0
unfolding outcome
start_is m p = start_by m (accepted (started_from m) 0) m.stage p

-- what holds after every call since the start
pub record Tracked (m₀ m : Manager) (h : History) : Type 0 where
  pub started : m.stage ≡ Stage.Started
  pub settings : settings_of m ≡ settings_of m₀
  pub sound : Sound m
  pub state : (i : ℕ) → i < length (networks_of m₀) → state_of (network_at m₀ i) (views_of (network_at m₀ i) h) ≡ state_at m i
  pub ran : (i : ℕ) → i < length (networks_of m₀) → Ran (network_at m₀ i) (views_of (network_at m₀ i) h)

begins_at : (m : Manager) → Sound m → Sound (started_from m) → Tracked (started_from m) (started_from m) []
unfolding state_of Ran
begins_at m s t = record {
  started = refl;
  settings = refl;
  sound = t;
  state = λ i h. sym (each_slot m (λ n s. started-state n) s.networks s.states i h);
  ran = λ i h. tt;
}

begins : (m₀ : Manager) → Begun m₀ → Tracked m₀ m₀ []
begins m₀ b =
    let s = reached_sound b.before b.reached in
    let e : (outcome b.before start).manager ≡ started_from b.before = ap (λ (o : Outcome). o.manager) (start_is b.before b.accepted) in
    let t = call_sound b.before s start (λ bytes q f. absurd cc) in
    subst (λ (m : Manager). Tracked m m []) (sym (b.same ∙ e)) (begins_at b.before s (subst Sound e t))

module _ (m₀ m : Manager) (h : History) (f : Tracked m₀ m h) where
  pub same_network : (i : ℕ) → network_at m i ≡ network_at m₀ i
  same_network i = ap (λ (s : Settings). get_or s.networks i blank_network) f.settings

  pub same_needs : tick_needs m ≡ tick_needs m₀
  unfolding tick_needs
  same_needs = ap (λ (s : Settings). 3 * summed share (take s.count s.networks)) f.settings

  pub in_use : (i : ℕ) → i < length (networks_of m₀) → i < length (networks_of m)
  in_use i l = subst (λ (s : Settings). i < length (take s.count s.networks)) (sym f.settings) l

  pub once : Once (networks_of m)
  once =
      let g = f.sound.good (λ e. let started = f.started in cc) in
      record { handles = g.handles; controllers = g.controllers; transceivers = g.transceivers }

  -- the network's part in the call, by its settings at the start
  pub part : (c : Call) (i : ℕ) → i < length (networks_of m₀)
      → Fits (network_at m₀ i) (state_at m i) (view_of (network_at m₀ i) (entry_of m c))
      × (state_at (outcome m c).manager i ≡ (played (network_at m₀ i) (state_at m i) (view_of (network_at m₀ i) (entry_of m c)).sight).state)
  part c i l =
      subst (λ (n : Network). Fits n (state_at m i) (view_of n (entry_of m c)) × (state_at (outcome m c).manager i ≡ (played n
      (state_at m i) (view_of n (entry_of m c)).sight).state)) (same_network i) (entry_fits m f.sound once f.started i (in_use i l) c)

  goes_on : (c : Call) → Tracked m₀ (outcome m c).manager (entry_of m c ∷ h)
  unfolding state_of Ran
  goes_on c =
      let k = call_settled m f.sound f.started c in
      record {
        started = k.0;
        settings = k.1 ∙ f.settings;
        sound = call_sound m f.sound c (λ bytes e g. absurd (g f.started));
        state = λ i l. ap (λ (s : State). (played (network_at m₀ i) s (view_of (network_at m₀ i) (entry_of m c)).sight).state) (f.state i l)
            ∙ sym (part c i l).1;
        ran = λ i l. (
          subst (λ (s : State). Fits (network_at m₀ i) s (view_of (network_at m₀ i) (entry_of m c))) (sym (f.state i l)) (part c i l).0,
          f.ran i l,
        );
      }

pub follow : (m₀ m : Manager) (h : History) → Begun m₀ → Since m₀ m h → Tracked m₀ m h
follow m₀ _ _ b begun = begins m₀ b
follow m₀ _ _ b (goes m h c s) = goes_on m₀ m h (follow m₀ m h b s) c

-- ---- the latest call of a history
-- the manager that it was made on, and what it added
pub record Latest (m₀ m : Manager) (e : Entry) (h : History) : Type 0 where
  pub on : Manager
  pub since : Since m₀ on h
  pub call : Call
  pub entry : entry_of on call ≡ e
  pub manager : m ≡ (outcome on call).manager

pub latest : (m₀ m : Manager) (x : History) → Since m₀ m x → (e : Entry) (h : History) → x ≡ e ∷ h → Latest m₀ m e h
latest m₀ _ _ begun e h q = absurd cc
latest m₀ _ _ (goes m h' c s) e h q =
    let head : entry_of m c ≡ e = cc in
    let tail : h' ≡ h = cc in
    record { on = m; since = subst (Since m₀ m) tail s; call = c; entry = head; manager = refl }

-- ---- the networks of a manager that was just started
-- their controllers are pairwise different
distinct_at : (ns : List Network) (i : ℕ) (d : Network) (e : List ℕ) →
    Fresh e (all controllers_of ns) → i < length ns → Distinct (controllers_of (get_or ns i d))
unfolding all
distinct_at [] i d e f h = absurd (omega arith)
distinct_at (n ∷ ns) zero d e f h = fresh_distinct e (controllers_of n) (fresh_left e (controllers_of n) (all controllers_of ns) f)
distinct_at (n ∷ ns) (suc i) d e f h =
    distinct_at ns i d (e ++ controllers_of n) (fresh_right e (controllers_of n) (all controllers_of ns) f) (omega arith)

module _ (m₀ : Manager) (b : Begun m₀) where
  pub sound : Sound m₀
  sound = (begins m₀ b).sound

  module _ (i : ℕ) (l : i < length (networks_of m₀)) where
    -- a history since the start, as the network sees it
    pub ran_since : (m : Manager) (h : History) → Since m₀ m h → Ran (network_at m₀ i) (views_of (network_at m₀ i) h)
    ran_since m h s = (follow m₀ m h b s).ran i l

    pub in_range : InRange (network_at m₀ i)
    in_range = slot_in_range m₀ sound i l

    pub distinct : Distinct (controllers_of (network_at m₀ i))
    distinct =
        let started = (begins m₀ b).started in
        let g = sound.good (λ e. cc) in
        subst (λ (n : Network). Distinct (controllers_of n)) (slot_network m₀ i l) (distinct_at (networks_of m₀) i blank_network [] g.controllers l)
