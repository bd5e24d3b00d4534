-- What a network's record keeps of a history: the mode last wanted and the mode last told.
use Rattle.lists.proofs.Basics.{ℕ, ◌≡◌, refl, sym, ap, ◌∙◌, [], ◌∷◌, Bool, cond, eqb}
use Rattle.records.specs.declared.Mode.{Mode}
use Rattle.records.specs.Records.{mode_number}
use Rattle.settings.specs.declared.Network.{Network}
use Rattle.settings.specs.Good.{InRange}
use Rattle.handing.specs.Handing.{recovery, reset}
use Rattle.network.specs.declared.State.{State}
use Rattle.network.specs.State.{started}
use Rattle.network.specs.Moving.{after_move}
use Rattle.network.specs.BusOff.{made_anew, after_hit}
use Rattle.network.specs.Parts.{Sight, a_tick, a_bus_off, a_stall}
use Rattle.network_theorems.specs.Kept.{Kept}
use Rattle.network_theorems.proofs.Kept.{start_kept}
use Rattle.network_demands.specs.Words.{Seen, OwnHistory, wanted_by, told_by, told, wanted}
use Rattle.network_demands.specs.Own.{decides, tick_after, tick_hands, recovered, reset_after, played, state_of, Fits, Ran}
use Rattle.network_demands.proofs.Views.{either_way, seen, Plain, plain_state, by_part, part_kept}
use Rattle.network_demands.proofs.Handed.{eqb_same, move_tells}

-- from the start on, in a history that ran by the rules, the record has what `Kept` says
pub state_kept : (n : Network) → InRange n → (h : OwnHistory) → Ran n h → Kept n (state_of n h)
unfolding state_of Ran
state_kept n g [] r = start_kept n
state_kept n g (e ∷ h) r = part_kept n (state_of n h) g (state_kept n g h r.1) e r.0

-- a bus-off while up tells silent
recovery_tells : (n : Network) (mode : ℕ) → told_by n (recovery n.handle) mode ≡ 1
unfolding told_by recovery
recovery_tells n mode = rw (eqb_same n.handle) refl

-- ---- the record follows the history
pub record Follows (n : Network) (s : State) (h : OwnHistory) : Type 0 where
  pub wanted : mode_number s.wanted ≡ wanted h
  pub told : mode_number s.told ≡ told n h

module _ (n : Network) (h : OwnHistory) (s : State) (k : Follows n s h) where
  -- and still does after a call
  abbrev StillFollows : Seen → State → Type 0
  StillFollows e t = Follows n t (e ∷ h)

  follows_plain : (sight : Sight) (number : ℕ) (mode : Mode) (reported : Bool) → Plain n s sight (eqb 0 number) mode reported
      → StillFollows (seen sight number []) (plain_state s mode reported)
  unfolding told told_by wanted
  follows_plain sight number mode reported p = record {
    wanted = p.wanted ∙ ap (λ (before : ℕ). cond (eqb 0 number) (wanted_by sight before) before) k.wanted;
    told = k.told;
  }

  follows_fall : StillFollows (seen a_bus_off 0 (recovery n.handle)) (recovered s)
  unfolding told wanted after_hit made_anew
  follows_fall = record { wanted = k.wanted; told = sym (recovery_tells n (told n h)) }

  -- a bus-off that finds the network down changes nothing that is followed
  follows_down : (number : ℕ) (t : State) → t.wanted ≡ s.wanted → t.told ≡ s.told → StillFollows (seen a_bus_off number []) t
  unfolding told told_by wanted
  follows_down number t same-wanted same-told = record {
    wanted = ap mode_number same-wanted ∙ k.wanted ∙ either_way (eqb 0 number) (wanted h);
    told = ap mode_number same-told ∙ k.told;
  }

  -- a stall tells silent, and does not touch the wanted mode
  follows_reset : StillFollows (seen a_stall 0 (reset n.handle)) (reset_after s)
  unfolding told told_by wanted reset after_hit made_anew
  follows_reset = record {
    wanted = k.wanted;
    told = rw (eqb_same n.handle) refl;
  }

  follows_tick : StillFollows (seen a_tick 0 (tick_hands n s)) (tick_after n s)
  unfolding told wanted after_move
  follows_tick =
      record { wanted = k.wanted; told = sym (move_tells n s.step s.told (decides n s)) ∙ ap (told_by n (tick_hands n s)) k.told }

  follows_call : (e : Seen) → Fits n s e → StillFollows e (played n s e.sight).state
  unfolding told told_by wanted after_hit made_anew
  follows_call = by_part n s StillFollows (record {
    plain = follows_plain;
    hears = λ c mode ok m l e. record { wanted = k.wanted; told = k.told };
    recovers = λ f. follows_fall;
    restarts = λ f a. follows_down 0 _ refl refl;
    not_taken = λ f a. follows_down 0x22 _ refl refl;
    resets = λ f. follows_reset;
    ticks = follows_tick;
  })

-- from the start on the record follows the history: its wanted mode is the mode last wanted, its told mode the mode last told
pub follows : (n : Network) (h : OwnHistory) → Ran n h → Follows n (state_of n h) h
unfolding state_of Ran started told wanted
follows n [] r = record { wanted = refl; told = refl }
follows n (e ∷ h) r = follows_call n h (state_of n h) (follows n h r.1) e r.0

-- each of them by itself
pub wanted_follows : (n : Network) (h : OwnHistory) → Ran n h → mode_number (state_of n h).wanted ≡ wanted h
wanted_follows n h r = (follows n h r).wanted

pub told_follows : (n : Network) (h : OwnHistory) → Ran n h → mode_number (state_of n h).told ≡ told n h
told_follows n h r = (follows n h r).told
