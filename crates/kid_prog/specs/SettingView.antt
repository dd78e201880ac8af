-- A setting of the code as plain data.
use Rattle.std.specs.Prelude.{map, option_map}
use Rattle.kid_value.specs.SortView.{plain_sort}
use Rattle.kid_term.specs.DefView.{plain_def}
use Rattle.kid_prog.specs.Rules as rules
use Rattle.kid_prog.specs.Forms.{setting}
use Rattle.kid_prog.specs.declared.rules.Setting.{Setting}

abbrev pub plain_setting : Setting → rules.Setting
plain_setting g = setting (map plain_def g.definitions.now) (plain_sort g.sort.now) (option_map (λ ps. ps.now) g.parameters)
