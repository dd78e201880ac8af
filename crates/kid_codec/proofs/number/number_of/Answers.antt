use Rattle.std.proofs.Common.{sym, subst}
use Rattle.std.specs.Str.{IsUtf8}
use Rattle.kid_codec.proofs.Numbers.{number_of-none, number_text}
use Rattle.kid_codec.proofs.number.number_of.Goals as goal

pub returns-in-Err : goal.returns-in-Err
returns-in-Err c = sym (number_of-none c.args.word.now (λ n h is. c.in-Err.ensures.cases.0 (subst IsUtf8 (sym is) (number_text n h))))
