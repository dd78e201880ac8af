use Rattle.std.proofs.Common.{◌≡◌, ◌++◌, true, map, drop}
use Rattle.kid_value.specs.ValueView.{plain}
use Rattle.kid_term.specs.PlainTerm.{term_row}
use Rattle.kid_term.specs.TermView.{plain_term}
use Rattle.kid_term.specs.Eval.{evals, calls_of}
use Rattle.kid_term.specs.Small.{all_stay_small, checks_of}
use Rattle.kid_prog.specs.ProgramView.{plain_program}
use Rattle.kid_run.proofs.moves.values_of.Given as goal

abbrev pub invariant-loop-term : goal.invariant-loop-term
invariant-loop-term l =
    record {
      small : all_stay_small (calls_of (plain_program l.program).definitions) (checks_of (plain_program l.program).definitions) l.env (term_row (map plain_term (drop l.term-index l.terms))) ≡ true;
      made : map plain l.values.items ++ evals (calls_of (plain_program l.program).definitions) l.env (term_row (map plain_term (drop l.term-index l.terms)))
          ≡ evals (calls_of (plain_program l.program).definitions) l.env (term_row (map plain_term l.terms));
    }
