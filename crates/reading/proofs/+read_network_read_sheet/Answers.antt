-- `reading::read_sheet` and `reading::read_network`, which call each other, meet their contracts: an entry that is taken brings the reader further,
-- and what follows is what the rules make of the entry.
use Rattle.lists.proofs.Basics.{◌≡◌, ◌-◌, ◌<◌, ◌^◌, sym, ap, ◌∙◌, rules, length}
use Rattle.std.specs.Prelude.{Ok}
use Rattle.sheet.specs.Reading.{after_opening, after_filling}
use Rattle.reading.proofs.Steps.{sheet_by, network_by, opens_fits, fills_fits, fills_further, begins_further, amends_further, fewer_left}
use Rattle.reading.proofs.+read_network_read_sheet.Goals as goal

-- ---- within a network
pub read_network-read_network-requires : goal.read_network-read_network-requires
read_network-read_network-requires t c =
    let d : t ≡ length c.args.reader.bytes.now - c.args.reader.place = sym c.decreases in
    let taken = sym c.in-Ok.is ∙ c.fill_network.ensures in
    let further = fills_further c.next_entry-found.ensures c.args.settings c.args.part c.args.progress _ taken in
    let fewer = fewer_left _ _ _ c.moved_to.ensures further in
    (rw d fewer, c.requires)

pub read_network-read_sheet-requires : goal.read_network-read_sheet-requires
read_network-read_sheet-requires t c =
    let d : t ≡ length c.args.reader.bytes.now - c.args.reader.place = sym c.decreases in
    let taken = sym c.in-Ok.is ∙ c.fill_network.ensures in
    let further = fills_further c.next_entry-found.ensures c.args.settings c.args.part c.args.progress _ taken in
    let fewer = fewer_left _ _ _ c.moved_to-in-None.ensures further in
    (rw d fewer, tt)

pub read_network-refuse_entry-requires : goal.read_network-refuse_entry-requires
read_network-refuse_entry-requires t c =
    let few : length c.args.reader.bytes.now < 2 ^ 63 = search rules in
    let place : c.args.reader.place < 2 ^ 64 = search rules in
    fills_fits c.next_entry-found.ensures c.args.settings c.args.part c.args.progress _ (sym c.in-Err.is ∙ c.fill_network.ensures) place few

pub read_network-returns-in-Some : goal.read_network-returns-in-Some
unfolding after_filling
read_network-returns-in-Some t c =
    let by = network_by c.next_entry-found.ensures c.args.settings c.args.part c.args.progress _ c.fill_network.ensures in
    rw (by, c.in-Ok.is, c.in-Some.is, ← c.moved_to.ensures.0, ← c.moved_to.ensures.1) c.read_network.ensures

pub read_network-returns-in-None : goal.read_network-returns-in-None
unfolding after_filling
read_network-returns-in-None t c =
    let by = network_by c.next_entry-found.ensures c.args.settings c.args.part c.args.progress _ c.fill_network.ensures in
    let moved = c.moved_to-in-None.ensures in
    rw (by, c.in-Ok.is, c.in-None.is, ← moved.0, ← moved.1, ← c.push_network.ensures) c.read_sheet.ensures

pub read_network-returns-in-Err : goal.read_network-returns-in-Err
unfolding after_filling
read_network-returns-in-Err t c =
    let by = network_by c.next_entry-found.ensures c.args.settings c.args.part c.args.progress _ c.fill_network.ensures in
    rw (by, c.in-Err.is) c.refuse_entry.ensures

-- ---- where a network may begin
pub read_sheet-read_network-requires : goal.read_sheet-read_network-requires
read_sheet-read_network-requires t c =
    let d : t ≡ length c.args.reader.bytes.now - c.args.reader.place = sym c.decreases in
    let begun = sym (c.in-Ok-Begins.is ∙ ap Ok c.in-Ok-Begins.field-0-is) ∙ c.open_network.ensures in
    let further = begins_further c.next_entry-found.ensures c.args.settings _ begun in
    let fewer = fewer_left _ _ _ c.moved_to.ensures further.0 in
    (rw d fewer, further.1)

pub read_sheet-refuse_entry-requires : goal.read_sheet-refuse_entry-requires
read_sheet-refuse_entry-requires t c =
    let few : length c.args.reader.bytes.now < 2 ^ 63 = search rules in
    opens_fits c.next_entry-found.ensures c.args.settings _ (sym c.in-Err.is ∙ c.open_network.ensures) few

pub read_sheet-amend_network-requires : goal.read_sheet-amend_network-requires
read_sheet-amend_network-requires t c =
    let amends = sym (c.in-Ok-Amends.is ∙ ap Ok c.in-Ok-Amends.field-0-is) ∙ c.open_network.ensures in
    (amends_further c.next_entry-found.ensures c.args.settings amends).1

pub read_sheet-read_sheet-requires : goal.read_sheet-read_sheet-requires
read_sheet-read_sheet-requires t c =
    let d : t ≡ length c.args.reader.bytes.now - c.args.reader.place = sym c.decreases in
    let amends = sym (c.in-Ok-Amends.is ∙ ap Ok c.in-Ok-Amends.field-0-is) ∙ c.open_network.ensures in
    let further = amends_further c.next_entry-found.ensures c.args.settings amends in
    let fewer = fewer_left _ _ _ c.moved_to-in-Ok-Amends.ensures further.0 in
    (rw d fewer, tt)

pub read_sheet-returns-in-Ok-Closes : goal.read_sheet-returns-in-Ok-Closes
unfolding after_opening
read_sheet-returns-in-Ok-Closes t c =
    let by = sheet_by c.next_entry-found.ensures c.args.settings _ c.open_network.ensures in
    rw (by, c.in-Ok-Closes.is, c.in-Ok-Closes.field-0-is) c.close_sheet.ensures

pub read_sheet-returns-in-Ok-Begins : goal.read_sheet-returns-in-Ok-Begins
unfolding after_opening
read_sheet-returns-in-Ok-Begins t c =
    let by = sheet_by c.next_entry-found.ensures c.args.settings _ c.open_network.ensures in
    let moved = c.moved_to.ensures in
    rw (by, c.in-Ok-Begins.is, c.in-Ok-Begins.field-0-is, ← moved.0, ← moved.1, ← c.begin_network.ensures) c.read_network.ensures

pub read_sheet-returns-in-Ok-Amends : goal.read_sheet-returns-in-Ok-Amends
unfolding after_opening
read_sheet-returns-in-Ok-Amends t c =
    let by = sheet_by c.next_entry-found.ensures c.args.settings _ c.open_network.ensures in
    let moved = c.moved_to-in-Ok-Amends.ensures in
    rw (by, c.in-Ok-Amends.is, c.in-Ok-Amends.field-0-is, ← moved.0, ← moved.1, ← c.amend_network.ensures) c.read_sheet.ensures

pub read_sheet-returns-in-Err : goal.read_sheet-returns-in-Err
unfolding after_opening
read_sheet-returns-in-Err t c =
    let by = sheet_by c.next_entry-found.ensures c.args.settings _ c.open_network.ensures in
    rw (by, c.in-Err.is) c.refuse_entry.ensures
