-- An id is used once in the whole sheet: of two networks that have it, or that a record names as its own, both are the same.
use Rattle.lists.proofs.Basics.{ℕ, zero, suc, ◌<◌, arith, eqb-true, ◌≡◌, refl, sym, ap, ◌∙◌, List, [], ◌∷◌, ◌++◌, Bool, true, false, cond, ◌&&◌}
use Rattle.lists.proofs.Basics.{◌||◌, or-false, true≢false, eqb, length, get_or}
use Rattle.lists.specs.Lists.{any, every}
use Rattle.lists.proofs.Any.{any_append, every_cons, or_first, or_second, and_both}
use Rattle.records.specs.declared.Record.{Record}
use Rattle.settings.specs.declared.Network.{Network}
use Rattle.settings.specs.declared.Id.{Id}
use Rattle.std.specs.Prelude.{Option, None, Some}
use Rattle.settings.specs.Settings.{handles_of, controllers_of, transceivers_of, listed, has_transceiver, member, has}
use Rattle.settings.specs.Good.{Fresh, Distinct, all}
use Rattle.settings.proofs.Good.{fresh_right}
use Rattle.handing.specs.Handing.{targets_of, own_record}
use Rattle.demands.specs.View.{keep}

-- ---- members
member_left : (x : ℕ) (l m : List ℕ) → member x l ≡ true → member x (l ++ m) ≡ true
member_left x l m e = any_append _ l m ∙ or_first _ _ e

member_right : (x : ℕ) (l m : List ℕ) → member x m ≡ true → member x (l ++ m) ≡ true
member_right x l m e = any_append _ l m ∙ or_second (member x l) _ e

-- what stands in the earlier list is none of a fresh one
fresh_absent : (e l : List ℕ) (x : ℕ) → Fresh e l → member x e ≡ true → member x l ≡ false
unfolding Fresh any
fresh_absent e [] x f p = refl
fresh_absent e (y ∷ l) x f p =
    by_test (eqb y x) refl (fresh_absent (e ++ (y ∷ [])) l x f.1 (member_left x e (y ∷ []) p)) where
      by_test : (b : Bool) → eqb y x ≡ b → member x l ≡ false → b || member x l ≡ false
      by_test true q r = absurd (true≢false (sym p ∙ ap (λ (z : ℕ). member z e) (sym (eqb-true y x q)) ∙ f.0))
      by_test false q r = r

-- a network's id is one of all
all_member : (ids : Network → List ℕ) (ns : List Network) (j : ℕ) (d : Network) (x : ℕ) →
    j < length ns → member x (ids (get_or ns j d)) ≡ true → member x (all ids ns) ≡ true
unfolding all
all_member ids [] j d x h e = absurd (omega arith)
all_member ids (n ∷ ns) zero d x h e = member_left x (ids n) (all ids ns) e
all_member ids (n ∷ ns) (suc j) d x h e = member_right x (ids n) (all ids ns) (all_member ids ns j d x (omega arith) e)

fresh_once : (ids : Network → List ℕ) (e : List ℕ) (ns : List Network) (i j : ℕ) (d : Network) (x : ℕ) →
    Fresh e (all ids ns) → i < length ns → j < length ns → member x (ids (get_or ns i d)) ≡ true → member x (ids (get_or ns j d)) ≡ true → i ≡ j
unfolding all
fresh_once ids e [] i j d x f h k p q = absurd (omega arith)
fresh_once ids e (n ∷ ns) zero zero d x f h k p q = refl
fresh_once ids e (n ∷ ns) zero (suc j) d x f h k p q =
    absurd (true≢false (sym (all_member ids ns j d x (omega arith) q)
    ∙ fresh_absent (e ++ ids n) (all ids ns) x (fresh_right e (ids n) (all ids ns) f) (member_right x e (ids n) p)))
fresh_once ids e (n ∷ ns) (suc i) zero d x f h k p q =
    absurd (true≢false (sym (all_member ids ns i d x (omega arith) p)
    ∙ fresh_absent (e ++ ids n) (all ids ns) x (fresh_right e (ids n) (all ids ns) f) (member_right x e (ids n) q)))
fresh_once ids e (n ∷ ns) (suc i) (suc j) d x f h k p q =
    ap suc (fresh_once ids (e ++ ids n) ns i j d x (fresh_right e (ids n) (all ids ns) f) (omega arith) (omega arith) p q)

-- ---- of all networks of a sheet
pub record Once (ns : List Network) : Type 0 where
  pub handles : Distinct (all handles_of ns)
  pub controllers : Distinct (all controllers_of ns)
  pub transceivers : Distinct (all transceivers_of ns)

pub has_transceiver_lem : (t : Option ℕ) (x : ℕ) → has_transceiver t x ≡ member x (listed t)
unfolding any
has_transceiver_lem None x = refl
has_transceiver_lem (Some y) x = sym (or-false _)

module _ (ns : List Network) (once : Once ns) (i j : ℕ) (d : Network) (h : i < length ns) (k : j < length ns) where
  -- two networks that have an id are one
  pub has_once : (id : Id) → has id (get_or ns i d) ≡ true → has id (get_or ns j d) ≡ true → i ≡ j
  unfolding any
  has_once (Id.OfNetwork x) p q = fresh_once handles_of [] ns i j d x once.handles h k (or-false _ ∙ p) (or-false _ ∙ q)
  has_once (Id.OfController x) p q = fresh_once controllers_of [] ns i j d x once.controllers h k p q
  has_once (Id.OfTransceiver x) p q =
      fresh_once transceivers_of [] ns i j d x
      once.transceivers h k (sym (has_transceiver_lem (get_or ns i d).transceiver x) ∙ p) (sym (has_transceiver_lem (get_or ns j d).transceiver x) ∙ q)

  targets_once : (b c e : Bool) (x : ℕ)
      → member x (cond b (controllers_of (get_or ns i d)) (cond c (transceivers_of (get_or ns i d)) (cond e (handles_of (get_or ns i d)) []))) ≡ true
      → member x (cond b (controllers_of (get_or ns j d)) (cond c (transceivers_of (get_or ns j d)) (cond e (handles_of (get_or ns j d)) []))) ≡ true → i ≡ j
  unfolding any
  targets_once true c e x p q = fresh_once controllers_of [] ns i j d x once.controllers h k p q
  targets_once false true e x p q = fresh_once transceivers_of [] ns i j d x once.transceivers h k p q
  targets_once false false true x p q = fresh_once handles_of [] ns i j d x once.handles h k p q
  targets_once false false false x p q = absurd (true≢false (sym p))

  -- two networks that a record names as its own are one
  pub own_once : (r : Record) → own_record (get_or ns i d) r ≡ true → own_record (get_or ns j d) r ≡ true → i ≡ j
  unfolding own_record targets_of
  own_once r p q =
      targets_once (member r.kind (1 ∷ 3 ∷ [])) (member r.kind (2 ∷ 4 ∷ 5 ∷ [])) (member r.kind (6 ∷ 7 ∷ 8 ∷ [])) r.target p q

-- ---- keep
module _ {A : Type 0} (p : A → Bool) where
  keep_cond : (b : Bool) (x : A) (l m : List A) → cond b (x ∷ l) l ++ m ≡ cond b (x ∷ (l ++ m)) (l ++ m)
  keep_cond true x l m = refl
  keep_cond false x l m = refl

  pub keep_append : (l m : List A) → keep p (l ++ m) ≡ keep p l ++ keep p m
  unfolding keep
  keep_append [] m = refl
  keep_append (x ∷ l) m = ap (λ (r : List A). cond (p x) (x ∷ r) r) (keep_append l m) ∙ sym (keep_cond (p x) x (keep p l) (keep p m))

  pub keep_all : (l : List A) → every p l ≡ true → keep p l ≡ l
  unfolding keep
  keep_all [] e = refl
  keep_all (x ∷ l) e =
      let both : p x && every p l ≡ true = sym (every_cons p x l) ∙ e in
      rw (and_both (p x) (every p l) both).0 (ap (λ (r : List A). x ∷ r) (keep_all l (and_both (p x) (every p l) both).1))

  -- nothing is kept of what passes a test that p fails
  pub keep_none : (q : A → Bool) → ((x : A) → q x ≡ true → p x ≡ false) → (l : List A) → every q l ≡ true → keep p l ≡ []
  unfolding keep
  keep_none q f [] e = refl
  keep_none q f (x ∷ l) e =
      let both : q x && every q l ≡ true = sym (every_cons q x l) ∙ e in
      rw (f x (and_both (q x) (every q l) both).0) (keep_none q f l (and_both (q x) (every q l) both).1)
