-- Where a network stands by what it told: it is up exactly in the up steps, and no is the mode last told exactly if full was not told since.
use Rattle.lists.proofs.Basics.{◌≡◌, refl, sym, ap, ◌∙◌, [], ◌∷◌, Bool, true, false, cond, not, ◌||◌, false≢true, eqb}
use Rattle.lists.specs.Lists.{any}
use Rattle.records.specs.declared.Mode.{Mode}
use Rattle.records.specs.Records.{mode_number}
use Rattle.settings.specs.declared.Network.{Network}
use Rattle.steps.specs.declared.Step.{Step}
use Rattle.steps.specs.declared.Move.{Move}
use Rattle.steps.specs.Steps.{up_phase, is_up}
use Rattle.steps.specs.After.{first_down, step_after}
use Rattle.handing.specs.Handing.{recovery, reset}
use Rattle.network.specs.declared.State.{State}
use Rattle.network.specs.State.{started}
use Rattle.network.specs.Moving.{lowered, told_after, after_move}
use Rattle.network.specs.BusOff.{made_anew, after_hit}
use Rattle.network.specs.Parts.{a_tick}
use Rattle.network_theorems.proofs.Moves.{ByMove, full_quiet}
use Rattle.network_demands.specs.Words.{Seen, OwnHistory, hands, since, shut, up}
use Rattle.network_demands.specs.Own.{finished, decides, tick_after, tick_hands, played, state_of, Fits, Ran}
use Rattle.network_demands.proofs.Views.{seen, by_part, by_tick}
use Rattle.network_demands.proofs.Arrows.{first_down_lem}
use Rattle.network_demands.proofs.Handed.{is_go_down, is_enter_full, is_end, move_shuts, move_says_full, move_says_no}

-- full was told since no was last told
abbrev spoken : Network → OwnHistory → Bool
spoken n h = any (hands 6 n.handle 2) (since (hands 6 n.handle 0) h)

-- what is said of an entry that follows the last one that passes a test, with one entry more
pub any_since : (p q : Seen → Bool) (e : Seen) (h : OwnHistory) → any p (since q (e ∷ h)) ≡ cond (q e) false (p e || any p (since q h))
unfolding since any
any_since p q e h = by_test (q e)
  where
    by_test : (b : Bool) → any p (cond b [] (e ∷ since q h)) ≡ cond b false (p e || any p (since q h))
    by_test true = refl
    by_test false = refl

-- what was told, by the record: its step says whether the network is up; no was told last exactly if full was not told since; up, full was
pub record Says (n : Network) (s : State) (h : OwnHistory) : Type 0 where
  pub stands : up n h ≡ is_up s.step
  pub silence : eqb 0 (mode_number s.told) ≡ not (spoken n h)
  pub voice : is_up s.step ≡ true → spoken n h ≡ true

-- ---- ticks
first_down_not_up : (partial : Bool) → is_up (first_down partial) ≡ false
first_down_not_up partial = ap up_phase (first_down_lem partial).falls

-- the move that enters full makes a network up, the one that goes down ends that
abbrev UpAfter : Bool → Step → Mode → Move → Type 0
UpAfter partial step wanted m = is_up (step_after m step partial) ≡ cond (is_go_down m) false (is_enter_full m || is_up step)

up_after : (partial done : Bool) → ByMove done (UpAfter partial)
up_after partial done = record {
  stays = λ step wanted. refl;
  asks_again = λ step wanted a. refl;
  counts = λ step next wanted p p' f. p'.up ∙ sym p.up;
  passes = λ step wanted p f. sym p.up;
  fills = λ step wanted p. refl;
  starts = λ step wanted d a. refl;
  silences = λ step wanted u. sym u;
  waits = λ step wanted d a f. sym (ap up_phase f);
  goes_down_lem = λ step o. first_down_not_up partial;
  ends = λ step wanted u. sym u;
  enters = λ step next wanted a u f. u;
}

-- a network that is up has told full since no; only the move that enters no communication tells no
abbrev VoiceAfter : Bool → Mode → Bool → Step → Mode → Move → Type 0
VoiceAfter partial told spoken step wanted m =
    eqb 0 (mode_number told) ≡ not spoken → (is_up step ≡ true → spoken ≡ true)
    → (eqb 0 (mode_number (told_after m told)) ≡ not (cond (is_end m) false (is_enter_full m || spoken)))
    × (is_up (step_after m step partial) ≡ true → cond (is_end m) false (is_enter_full m || spoken) ≡ true)

lowered_no : (told : Mode) → eqb 0 (mode_number (lowered told)) ≡ eqb 0 (mode_number told)
lowered_no Mode.No = refl
lowered_no Mode.Silent = refl
lowered_no Mode.Full = refl

voice_after : (partial : Bool) (told : Mode) (spoken done : Bool) → ByMove done (VoiceAfter partial told spoken)
voice_after partial told spoken done = record {
  stays = λ step wanted e v. (e, v);
  asks_again = λ step wanted a e v. (e, v);
  counts = λ step next wanted p p' f e v. (e, λ _. v p.up);
  passes = λ step wanted p f e v. (e, λ _. v p.up);
  fills = λ step wanted p e v. (refl, λ _. refl);
  starts = λ step wanted d a e v. (refl, λ _. refl);
  silences = λ step wanted u e v. (sym (ap not (v u)), λ _. v u);
  waits = λ step wanted d a f e v. (e, λ _. v (ap up_phase f));
  goes_down_lem = λ step o e v. (lowered_no told ∙ e, λ u. absurd (false≢true (sym (first_down_not_up partial) ∙ u)));
  ends = λ step wanted u e v. (refl, λ z. absurd (false≢true z));
  enters = λ step next wanted a u f e v. (e, λ z. v (sym u ∙ z));
}

module _ (n : Network) (h : OwnHistory) (s : State) (k : Says n s h) where
  abbrev StillSays : Seen → State → Type 0
  StillSays e t = Says n t (e ∷ h)

  -- what hands out none of 6 full, 6 no and 7 no leaves all as it is
  says_same : (e : Seen) (t : State) → hands 6 n.handle 2 e ≡ false → hands 6 n.handle 0 e ≡ false → hands 7 n.handle 0 e ≡ false
      → is_up t.step ≡ is_up s.step → eqb 0 (mode_number t.told) ≡ eqb 0 (mode_number s.told) → StillSays e t
  says_same e t full none shut step told =
      let same : spoken n (e ∷ h) ≡ spoken n h = any_since _ _ e h ∙ rw (full, none) refl in
      record {
        stands = any_since _ _ e h ∙ rw (full, shut) (k.stands ∙ sym step);
        silence = told ∙ k.silence ∙ ap not (sym same);
        voice = λ u. same ∙ k.voice (sym step ∙ u);
      }

  says_tick : StillSays (seen a_tick 0 (tick_hands n s)) (tick_after n s)
  unfolding after_move
  says_tick =
      let e : Seen = seen a_tick 0 (tick_hands n s) in
      let m = decides n s in
      let full : hands 6 n.handle 2 e ≡ is_enter_full m = move_says_full n s.step _ m in
      let no : hands 6 n.handle 0 e ≡ is_end m = move_says_no n s.step _ m in
      let shuts : shut n e ≡ is_go_down m = move_shuts n s.step _ m in
      let said : spoken n (e ∷ h) ≡ cond (is_end m) false (is_enter_full m || spoken n h) = any_since _ _ e h ∙ rw (full, no) refl in
      let voice = by_tick n s (VoiceAfter n.partial s.told (spoken n h)) (voice_after n.partial s.told (spoken n h) (finished n s))
      k.silence k.voice in
      record {
        stands = any_since _ _ e h
            ∙ rw (full, shuts, k.stands) (sym (by_tick n s (UpAfter n.partial) (up_after n.partial (finished n s))));
        silence = voice.0 ∙ ap not (sym said);
        voice = λ u. said ∙ voice.1 u;
      }

  says_call : (e : Seen) → Fits n s e → StillSays e (played n s e.sight).state
  unfolding any recovery reset after_hit made_anew
  says_call = by_part n s StillSays (record {
    plain = λ sight number mode reported p. says_same _ _ refl refl refl refl refl;
    hears = λ c mode ok m l e. says_same _ _ refl refl refl refl refl;
    recovers = λ u.
        says_same _ _ refl refl refl (sym u) (sym (k.silence ∙ ap not (k.voice u)));
    restarts = λ u a. says_same _ _ refl refl refl refl refl;
    not_taken = λ u a. says_same _ _ refl refl refl refl refl;
    resets = λ f. let u = (full_quiet s.step f).up in says_same _ _ refl refl refl (sym u) (sym (k.silence ∙ ap not (k.voice u)));
    ticks = says_tick;
  })

pub says : (n : Network) (h : OwnHistory) → Ran n h → Says n (state_of n h) h
unfolding state_of Ran started since any
says n [] r =
    let down = first_down_not_up n.partial in
    record { stands = sym down; silence = refl; voice = λ u. absurd (false≢true (sym down ∙ u)) }
says n (e ∷ h) r = says_call n h (state_of n h) (says n h r.1) e r.0

-- up is read off what was told: a network is up in steps 4 to 8, 15 and 16
pub up_means : (n : Network) (h : OwnHistory) → Ran n h → up n h ≡ is_up (state_of n h).step
up_means n h r = (says n h r).stands
