-- What a proof has to open that computes calls on the definitions: `unfolding computed_outcome` opens what stands on its line.
use Rattle.lists.specs.Lists.{any, every, first}
use Rattle.records.specs.Records.{turned, bytes}
use Rattle.settings.specs.Settings.{holder_of}
use Rattle.sheet.specs.Bench.{computed_reading}
use Rattle.steps.specs.Decision.{decision}
use Rattle.handing.specs.Handing.{requests, entering, entering_full, entering_silent, down_notices, going_down, move_records, recovery, reset}
use Rattle.handing.specs.Handing.{online_in}
use Rattle.network.specs.State.{started, wants}
use Rattle.network.specs.Rules.{is_done, delay_of, move_of}
use Rattle.network.specs.Moving.{after_move, tick_state, tick_records}
use Rattle.network.specs.Answers.{takes_report, after_answer, after_report}
use Rattle.network.specs.BusOff.{hit_of, stall_of, made_anew, after_hit, hit_records}
use Rattle.network.specs.Parts.{wanted_part, request_part, taken_part, report_part, answer_part, hit_part, part_of, records_of}
use Rattle.slots.specs.declared.Manager.{Manager}
use Rattle.slots.specs.declared.Outcome.{Outcome}
use Rattle.slots.specs.Manager.{each, gathered, summed, tick_needs, listen_needs}
use Rattle.slots.specs.Calls.{Call, read_into, slot_of, settled, slot_outcome, named, gate_of, all_ticked, outcome, handed_out, run}
use Rattle.slots.specs.Calls.{all_online, online_anew, listened, by_rules}

-- what a call gives, with all open that it takes to compute it
unfoldable pub computed_outcome : Manager → Call → Outcome
unfolding computed_reading any every first turned bytes holder_of decision requests entering entering_full entering_silent down_notices going_down move_records
    recovery reset online_in started wants is_done delay_of move_of after_move tick_state tick_records takes_report after_answer after_report hit_of stall_of made_anew
    after_hit hit_records wanted_part request_part taken_part report_part answer_part hit_part part_of records_of each gathered summed tick_needs listen_needs
    read_into slot_of settled slot_outcome named gate_of all_ticked all_online online_anew listened outcome by_rules handed_out run
computed_outcome m c = outcome m c
