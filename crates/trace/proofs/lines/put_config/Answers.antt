-- `trace::lines::put_config` meets its contract.
use Rattle.text.proofs.Appending.{appended_then}
use Rattle.trace.specs.Lines.{config_line}
use Rattle.trace.proofs.lines.put_config.Goals as goal

pub returns-clause-line : goal.returns-clause-line
unfolding config_line
returns-clause-line c =
    appended_then c.text.ensures (appended_then c.small.ensures.appended (appended_then c.byte.ensures
    (appended_then c.decimal.ensures.appended c.byte-2.ensures)))
