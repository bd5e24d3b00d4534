-- The slots of the controllers' answers: what an answer changes, and when all are ok.
use Rattle.lists.proofs.Basics.{ℕ, zero, suc, ◌<◌, arith, eqb-true, eqb-false, ◌≡◌, refl, sym, ap, subst, ◌∙◌, List, [], ◌∷◌, ◌++◌, append-nil}
use Rattle.lists.proofs.Basics.{append_assoc, Bool, true, false, not, ◌||◌, or-true, false≢true, or-false, eqb, length, get_or, take, set}
use Rattle.lists.proofs.Basics.{get_or-set_same, get_or-set_other}
use Rattle.lists.specs.Lists.{any, every, first}
use Rattle.lists.proofs.Any.{any_append_left, any_append_right, every_cons, every_false, every_at, or_second, first_below, first_passes}
use Rattle.lists.proofs.Parts.{padded_length}
use Rattle.settings.specs.declared.Network.{Network}
use Rattle.settings.specs.Settings.{controllers_of, member}
use Rattle.settings.specs.Good.{Fresh, Distinct, InRange}
use Rattle.settings.proofs.Good.{controllers_counted}
use Rattle.network.specs.declared.LastAnswer.{LastAnswer}
use Rattle.network.specs.declared.State.{State}
use Rattle.network.specs.State.{blank_answers, heard_of}
use Rattle.network.specs.Rules.{is_okay}
use Rattle.network_theorems.specs.Kept.{Kept}
use Rattle.network_demands.proofs.Handed.{eqb_same}
use Rattle.network_demands.proofs.Views.{seat_of}

-- ---- members
-- a test that a member passes is passed by some
pub any_member : (p : ℕ → Bool) (c : ℕ) (l : List ℕ) → member c l ≡ true → p c ≡ true → any p l ≡ true
unfolding any
any_member p c [] m e = absurd (false≢true m)
any_member p c (x ∷ l) m e = by_test (eqb x c) refl m (λ f. any_member p c l f e)
  where
    by_test : (b : Bool) → eqb x c ≡ b → b || member c l ≡ true → (member c l ≡ true → any p l ≡ true) → p x || any p l ≡ true
    by_test true q f ih = rw (ap p (eqb-true x c q) ∙ e) refl
    by_test false q f ih = rw (ih f) (or-true (p x))

-- a test that all pass is passed by each member
pub every_member : (p : ℕ → Bool) (c : ℕ) (l : List ℕ) → every p l ≡ true → member c l ≡ true → p c ≡ true
every_member p c l e m = by_test (p c) refl
  where
    by_test : (b : Bool) → p c ≡ b → b ≡ true
    by_test true q = refl
    by_test false q =
        absurd (false≢true (sym (every_false p l (any_member (λ (x : ℕ). not (p x)) c l m (ap not q))) ∙ e))

-- and one that each member passes is passed by all
pub each_member : (p : ℕ → Bool) (l : List ℕ) → ((c : ℕ) → member c l ≡ true → p c ≡ true) → every p l ≡ true
unfolding every any
each_member p [] f = refl
each_member p (x ∷ l) f =
    every_cons p x l ∙ rw (f x (rw (eqb_same x) refl), each_member p l (λ c m. f c (or_second (eqb x c) _ m))) refl

-- two tests that pass together are one
both_ways : (a b : Bool) → (a ≡ true → b ≡ true) → (b ≡ true → a ≡ true) → a ≡ b
both_ways true b p q = sym (p refl)
both_ways false true p q = absurd (false≢true (q refl))
both_ways false false p q = refl

-- tests that agree on the members are passed by all together
pub every_same : (p q : ℕ → Bool) (l : List ℕ) → ((c : ℕ) → member c l ≡ true → p c ≡ q c) → every p l ≡ every q l
every_same p q l f =
    both_ways (every p l) (every q l)
    (λ e. each_member q l (λ c m. sym (f c m) ∙ every_member p c l e m)) (λ e. each_member p l (λ c m. f c m ∙ every_member q c l e m))

-- a member of a list of fresh numbers is none of those before it
fresh_apart : (e l : List ℕ) → Fresh e l → (c : ℕ) → member c l ≡ true → member c e ≡ false
unfolding any Fresh
fresh_apart e [] f c m = absurd (false≢true m)
fresh_apart e (x ∷ l) f c m = by_test (eqb x c) refl m (λ q. fresh_apart (e ++ (x ∷ [])) l f.1 c q)
  where
    by_test : (b : Bool) → eqb x c ≡ b → b || member c l ≡ true → (member c l ≡ true → member c (e ++ (x ∷ [])) ≡ false) → member c e ≡ false
    by_test true q g ih = ap (λ (y : ℕ). member y e) (sym (eqb-true x c q)) ∙ f.0
    by_test false q g ih = any_append_left (λ (y : ℕ). eqb y c) e (x ∷ []) (ih g)

-- fresh numbers are pairwise different
pub fresh_distinct : (e l : List ℕ) → Fresh e l → Distinct l
unfolding Fresh
fresh_distinct e l f = fewer e [] l (rw (append-nil e) f)
  where
    fewer : (e d l : List ℕ) → Fresh (e ++ d) l → Fresh d l
    fewer e d [] f = tt
    fewer e d (x ∷ l) f = (
      any_append_right (λ (y : ℕ). eqb y x) e d f.0,
      fewer e (d ++ (x ∷ [])) l (subst (λ (k : List ℕ). Fresh k l) (append_assoc e d (x ∷ [])) f.1),
    )

-- ---- the slot of a controller
-- two controllers of the network that have the same slot are one
same_slot : (n : Network) (c d : ℕ) → member c (controllers_of n) ≡ true → member d (controllers_of n) ≡ true → seat_of n c ≡ seat_of n d → c ≡ d
same_slot n c d p q e =
    let x = first_passes (λ (x : ℕ). eqb x c) (controllers_of n) 0 p in
    let y = first_passes (λ (x : ℕ). eqb x d) (controllers_of n) 0 q in
    sym (eqb-true _ c x) ∙ ap (λ (i : ℕ). get_or (controllers_of n) i 0) e ∙ eqb-true _ d y

-- the slot of a controller is one of those in use
pub slot_in_use : (n : Network) (s : State) (c : ℕ) →
    InRange n → Kept n s → member c (controllers_of n) ≡ true → (seat_of n c < n.count) × (seat_of n c < length s.answers)
slot_in_use n s c g k m =
    let a = controllers_counted n g in
    let b : length s.answers ≡ 4 = padded_length 4 LastAnswer.Pending s.answers n.count g.few_controllers k.slots in
    let f = first_below (λ (x : ℕ). eqb x c) (controllers_of n) m in
    let few = g.few_controllers in
    (omega arith, omega arith)

-- ---- answers
-- a controller's last answer is ok
abbrev pub said_okay : Network → List LastAnswer → ℕ → Bool
said_okay n answers c = is_okay (get_or answers (seat_of n c) LastAnswer.Pending)

-- blank answers say nothing
pub no_answer_yet : (n : Network) (c : ℕ) → said_okay n blank_answers c ≡ false
no_answer_yet n c = blank (seat_of n c)
  where
    blank : (i : ℕ) → is_okay (get_or blank_answers i LastAnswer.Pending) ≡ false
    blank zero = refl
    blank (suc zero) = refl
    blank (suc (suc zero)) = refl
    blank (suc (suc (suc zero))) = refl
    blank (suc (suc (suc (suc i)))) = refl

-- what a controller answers stands in its slot
pub okay_own : (n : Network) (s : State) → InRange n → Kept n s → (c : ℕ) (answer : LastAnswer) → member c (controllers_of n) ≡ true
    → said_okay n (set s.answers (seat_of n c) answer) c ≡ is_okay answer
okay_own n s g k c answer m = ap is_okay (get_or-set_same s.answers (seat_of n c) answer LastAnswer.Pending (slot_in_use n s c g k m).1)

-- and leaves the other slots alone
pub okay_other : (n : Network) (answers : List LastAnswer) (c c' : ℕ) (answer : LastAnswer) → eqb c c' ≡ false →
    member c (controllers_of n) ≡ true → member c' (controllers_of n) ≡ true → said_okay n (set answers (seat_of n c') answer) c ≡ said_okay n answers c
okay_other n answers c c' answer e m m' =
    ap is_okay (get_or-set_other answers (seat_of n c') (seat_of n c) answer LastAnswer.Pending (λ q. eqb-false c c' e (same_slot n c c' m m' q)))

-- where each controller's slot is ok, all answers are
each_okay : (e ids : List ℕ) (hs : List LastAnswer) → Fresh e ids → ((c : ℕ) → member c ids ≡ true →
    is_okay (get_or hs (first (λ (x : ℕ). eqb x c) ids) LastAnswer.Pending) ≡ true) → every is_okay (take (length ids) hs) ≡ true
unfolding any first every Fresh
each_okay e [] hs f o = refl
each_okay e (x ∷ ids) [] f o = refl
each_okay e (x ∷ ids) (h ∷ hs) f o =
    let g = each_okay (e ++ (x ∷ [])) ids hs f.1 (λ c m. rw (apart c m) at (o c (rw (apart c m) m))) in
    every_cons is_okay h (take (length ids) hs)
    ∙ rw (rw (eqb_same x) at (o x (rw (eqb_same x) refl)), g) refl
  where
    apart : (c : ℕ) → member c ids ≡ true → eqb x c ≡ false
    apart c m = sym (or-false (eqb x c)) ∙ any_append_right (λ (y : ℕ). eqb y c) e (x ∷ []) (fresh_apart (e ++ (x ∷ [])) ids f.1 c m)

-- all answers are ok exactly if each controller's is
pub all_okay : (n : Network) (s : State) → InRange n → Distinct (controllers_of n) → Kept n s
    → every is_okay (heard_of n s) ≡ every (said_okay n s.answers) (controllers_of n)
all_okay n s g f k =
    both_ways (every is_okay (heard_of n s)) (every (said_okay n s.answers) (controllers_of n))
    (λ e. each_member (said_okay n s.answers) (controllers_of n) (λ c m. let u = slot_in_use n s c g k m in
    every_at is_okay s.answers (seat_of n c) n.count LastAnswer.Pending e u.0 u.1))
    (λ e. ap (λ (i : ℕ). every is_okay (take i s.answers)) (sym (controllers_counted n g))
    ∙ each_okay [] (controllers_of n) s.answers f (λ c m. every_member (said_okay n s.answers) c (controllers_of n) e m))
