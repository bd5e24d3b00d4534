-- A history as one network sees it: of each entry what the call is to the network, the number of its answer, and the records that name its own ids,
-- with listening taken out. The rules L2 and L3 of docs/RULES.md.
use Rattle.std.specs.Prelude.{List, [], ◌∷◌, map, Bool, not, ◌&&◌, cond, eqb}
use Rattle.records.specs.declared.Record.{Record}
use Rattle.records.specs.Records.{handed, is_online}
use Rattle.settings.specs.declared.Network.{Network}
use Rattle.handing.specs.Handing.{own_record}
use Rattle.calls.specs.Histories.{Entry, History, address_of, seen_as, Switch, turns, leaves, switch_of}
use Rattle.network_demands.specs.Words.{Seen, OwnHistory}

-- the elements that pass the test, in their order
unfoldable pub keep : {A : Type 0} → (A → Bool) → List A → List A
keep p [] = []
keep p (x ∷ l) = cond (p x) (x ∷ keep p l) (keep p l)

-- ---- listening taken out

-- kind 3 with argument 2, whichever controller it is for
abbrev pub is_turned : Record → Bool
is_turned r = eqb 3 r.kind && eqb 2 r.argument

-- L2: argument 2 of kind 3 stands for online; every other record is as it is
unfoldable pub unturned : Record → Record
unturned r = cond (is_turned r) (handed 3 r.target 0) r

-- L2, L3: the records of an entry as the rules of the networks make them. Of a call that sets or clears listening online is left out, in either form,
-- and nothing else; of every other call nothing is left out
abbrev pub plainly : Switch → List Record → List Record
plainly (turns listening) rs = keep (λ (r : Record). not (is_online (unturned r))) rs
plainly leaves rs = map unturned rs

-- ---- the view

-- an entry as the network sees it
abbrev pub view_of : Network → Entry → Seen
view_of n e =
    record {
      sight = seen_as n (address_of e.number e.call);
      number = e.number;
      records = keep (own_record n) (plainly (switch_of e.number e.call) e.records);
    }

-- each entry of a history so viewed; none is left out
abbrev pub views_of : Network → History → OwnHistory
views_of n h = map (view_of n) h
