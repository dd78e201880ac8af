use Rattle.std.proofs.Common.{◌≡◌, drop}
use Rattle.kid_top.specs.Finishing.{report_status}
use Rattle.kid_top.proofs.finish.report_status.Given as goal

-- no entry that was passed ran out of fuel
abbrev pub invariant-loop-entry : goal.invariant-loop-entry
invariant-loop-entry l = report_status (drop l.entry-index l.entries) ≡ report_status l.entries
