use Rattle.std.proofs.Common.{ℕ, List, sym, subst, FitsSigned, w64}
use Rattle.std.specs.Str.Parse.{IsNumeral, signed_digits_value, without_leading_sign}
use Rattle.kid_codec.proofs.Numbers.{number_of-none, number_parses}
use Rattle.kid_codec.proofs.number.number_in.Goals as goal

pub returns-in-Err : goal.returns-in-Err
returns-in-Err c =
    sym (number_of-none c.args.text.now (λ n h is.
    c.in-Err.ensures.value.0
    (subst (λ (w : List ℕ). IsNumeral 10 (without_leading_sign w) × FitsSigned w64 (signed_digits_value 10 w)) (sym is) (number_parses n h))))
