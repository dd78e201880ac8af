-- How the logic stores an environment.
use Rattle.std.specs.Coded.{Coded, coded_list, coded×}
use Rattle.kid_value.specs.ValueCode.{coded_value}
use Rattle.kid_term.specs.TermCode.{coded_name}
use Rattle.kid_term.specs.Eval.{Env}

abbrev pub coded_env : Coded Env
coded_env = coded_list (coded× coded_name coded_value)
