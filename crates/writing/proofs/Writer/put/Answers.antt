-- `writing::Writer::put` meets its contract.
use Rattle.lists.proofs.Basics.{ℕ, ◌+◌, ◌-◌, ◌≤◌, arith, ◌≡◌, refl, sym, ap, ◌∙◌, List, ◌++◌, length, take, drop, sets, sets-eq, drop-drop, append_assoc, length-sets}
use Rattle.writing.proofs.Writer.put.Goals as goal

-- a run in the middle of a list
middle : (l vs ws : List ℕ) (i k : ℕ) → i + length vs ≤ length l → k ≡ length vs → ws ≡ vs → take i l ++ (ws ++ drop k (drop i l)) ≡ sets l i vs
middle l vs ws i k h e f =
    rw (e, f, drop-drop (length vs) i l) (sym (sets-eq vs l i h ∙ append_assoc (take i l) vs (drop (i + length vs) l)))

pub returns : goal.returns
returns c =
    let b = c.args.self.now.buffer.now in
    let p = c.args.self.now.place in
    let bytes = c.args.bytes.now in
    let e = middle b bytes _ p (p + length bytes - p) (omega arith) (omega arith) c.copy_from_slice.ensures.after in
    record { stored = record { place = refl; buffer = e }; same = refl; kept = ap length e ∙ length-sets b p bytes }
