-- `records::Record::turn` meets its contract: a record is the one of PDU mode online for its own target if its kind and its argument are.
use Rattle.lists.proofs.Basics.{ℕ, ◌≡◌, ap, sym, ◌∙◌, true, ◌&&◌, eqb, arith}
use Rattle.records.specs.declared.Record.{Record}
use Rattle.records.specs.Records.{handed, turned, is_online}
use Rattle.records.proofs.Record.turn.Goals as goal

same_test : (r : Record) → (eqb r.kind 3 && (eqb r.target r.target && eqb r.argument 0)) ≡ is_online r
same_test r = grind arith

online_kind : (r : Record) → is_online r ≡ true → r.kind ≡ 3
online_kind r e = grind arith

pub returns-then-eq : goal.returns-then-eq
unfolding turned
returns-then-eq c =
    let e = sym (same_test c.args.self) ∙ sym (rw c.pdu_mode.ensures at c.eq.ensures) ∙ c.if-eq.true in
    simp e (ap (λ (kind : ℕ). handed kind c.args.self.target 2) (online_kind c.args.self e))

pub returns : goal.returns
unfolding turned
returns c = simp (sym (same_test c.args.self) ∙ sym (rw c.pdu_mode.ensures at c.eq.ensures) ∙ c.if-eq.false)
