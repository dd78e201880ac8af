use Rattle.std.proofs.Common.{◌≡◌, ◌++◌, take, option_map}
use Rattle.kid_run.specs.Lines.{text_of}
use Rattle.kid_run.proofs.put.put_lines.Given as goal

abbrev pub invariant-loop-line : goal.invariant-loop-line
invariant-loop-line g l = record {
  put : g.O.Sink.written l.out ≡ option_map (λ w. w ++ text_of (take l.line-index l.lines)) (g.O.Sink.written l.fn.out);
  still : g.O.Sink.faults l.out ≡ g.O.Sink.faults l.fn.out;
}
