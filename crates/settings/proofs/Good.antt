-- What `Good` says: a network's controllers are as many as it counts; and ids that are used once: what the reader tests of each id, and what `Good`
-- says of all of them, are the same.
use Rattle.lists.proofs.Basics.{ℕ, ◌<◌, arith, ◌≡◌, refl, sym, ap, subst, ◌∙◌, List, [], ◌∷◌, ◌++◌, append-nil, append_assoc, false, or-false}
use Rattle.lists.proofs.Basics.{append_snoc, length}
use Rattle.lists.specs.Lists.{any}
use Rattle.lists.proofs.Any.{any_append}
use Rattle.lists.proofs.Parts.{padded_count}
use Rattle.std.specs.Prelude.{Option, None, Some}
use Rattle.settings.specs.declared.Network.{Network}
use Rattle.settings.specs.declared.Id.{Id}
use Rattle.settings.specs.declared.Id.TheVariants.{OfNetwork, OfController, OfTransceiver}
use Rattle.settings.specs.Settings.{handles_of, controllers_of, transceivers_of, listed, member, has_transceiver, has, used}
use Rattle.settings.specs.Good.{Below, Fresh, all, InRange, EachInRange}

-- ---- InRange
-- a network has as many controllers as it counts, and so one at least
pub controllers_counted : (n : Network) → InRange n → length (controllers_of n) ≡ n.count
controllers_counted n g = padded_count 4 0 n.controllers n.count g.few_controllers g.blank_slots

pub some_controller : (n : Network) → InRange n → 0 < length (controllers_of n)
some_controller n g =
    let counted = controllers_counted n g in
    let some = g.some_controller in
    omega arith

-- ---- Below
pub below_append : (limit : ℕ) (l m : List ℕ) → Below limit l → Below limit m → Below limit (l ++ m)
unfolding Below
below_append limit [] m p q = q
below_append limit (x ∷ l) m p q = (p.0, below_append limit l m p.1 q)

-- ---- Fresh
pub fresh_append : (e l m : List ℕ) → Fresh e l → Fresh (e ++ l) m → Fresh e (l ++ m)
unfolding Fresh
fresh_append e [] m p q = rw append-nil at q
fresh_append e (x ∷ l) m p q = (p.0, fresh_append (e ++ (x ∷ [])) l m p.1 (subst (λ (k : List ℕ). Fresh k m) (sym (append_snoc e x l)) q))

pub fresh_left : (e l m : List ℕ) → Fresh e (l ++ m) → Fresh e l
unfolding Fresh
fresh_left e [] m p = tt
fresh_left e (x ∷ l) m p = (p.0, fresh_left (e ++ (x ∷ [])) l m p.1)

pub fresh_right : (e l m : List ℕ) → Fresh e (l ++ m) → Fresh (e ++ l) m
unfolding Fresh
fresh_right e [] m p = rw append-nil p
fresh_right e (x ∷ l) m p = subst (λ (k : List ℕ). Fresh k m) (append_snoc e x l) (fresh_right (e ++ (x ∷ [])) l m p.1)

-- one number more
pub fresh_more : (e l : List ℕ) (x : ℕ) → Fresh e l → member x (e ++ l) ≡ false → Fresh e (l ++ (x ∷ []))
unfolding Fresh
fresh_more e l x p q = fresh_append e l (x ∷ []) p (q, tt)

-- ---- all
pub all_snoc : (ids : Network → List ℕ) (ns : List Network) (n : Network) → all ids (ns ++ (n ∷ [])) ≡ all ids ns ++ ids n
unfolding all
all_snoc ids [] n = append-nil (ids n)
all_snoc ids (m ∷ ns) n = ap (λ (l : List ℕ). ids m ++ l) (all_snoc ids ns n) ∙ sym (append_assoc (ids m) (all ids ns) (ids n))

-- ---- used
-- an id is used where its number is one of all the ids of its kind
used_all : (id : Id) (ids : Network → List ℕ) (x : ℕ) →
    ((n : Network) → has id n ≡ member x (ids n)) → (ns : List Network) → used id ns ≡ member x (all ids ns)
unfolding used all any
used_all id ids x h [] = refl
used_all id ids x h (n ∷ ns) = rw (h n, used_all id ids x h ns) (sym (any_append _ (ids n) (all ids ns)))

pub used_handle : (x : ℕ) (ns : List Network) → used (OfNetwork x) ns ≡ member x (all handles_of ns)
unfolding any
used_handle x ns = used_all (OfNetwork x) handles_of x (λ n. sym (or-false _)) ns

pub used_controller : (x : ℕ) (ns : List Network) → used (OfController x) ns ≡ member x (all controllers_of ns)
used_controller x ns = used_all (OfController x) controllers_of x (λ n. refl) ns

has_listed : (x : ℕ) (t : Option ℕ) → has_transceiver t x ≡ member x (listed t)
unfolding any
has_listed x None = refl
has_listed x (Some y) = sym (or-false _)

pub used_transceiver : (x : ℕ) (ns : List Network) → used (OfTransceiver x) ns ≡ member x (all transceivers_of ns)
used_transceiver x ns = used_all (OfTransceiver x) transceivers_of x (λ n. has_listed x n.transceiver) ns

-- ---- EachInRange
pub each_snoc : (ns : List Network) (n : Network) → EachInRange ns → InRange n → EachInRange (ns ++ (n ∷ []))
unfolding EachInRange
each_snoc [] n p q = (q, tt)
each_snoc (m ∷ ns) n p q = (p.0, each_snoc ns n p.1 q)

-- another in the place of the last
pub each_last : (ns : List Network) (n m : Network) → (InRange n → InRange m) → EachInRange (ns ++ (n ∷ [])) → EachInRange (ns ++ (m ∷ []))
unfolding EachInRange
each_last [] n m f p = (f p.0, tt)
each_last (l ∷ ns) n m f p = (p.0, each_last ns n m f p.1)
