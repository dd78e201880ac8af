-- The script as a forest, and which files spell it.
use Rattle.std.specs.Prelude.{◌≡◌, ℕ, List, Some, codes}
use Rattle.kid_sexp.specs.Plain.{Plains, atom, one}
use Rattle.kid_sexp.specs.Spells.{Spells}
use Rattle.kid_codec.specs.SortSpelling.{headed}
use Rattle.kid_top.specs.Files.{script_file}

-- the one script that there is
abbrev pub range_script : Plains
range_script = one (headed (codes "match") (one (atom (codes "range"))))

-- A file is taken for the script just where it spells it.
pub record ScriptsAreSpelled : Type 0 where
  pub taken : (bytes : List ℕ) → script_file bytes ≡ Some tt → Spells bytes range_script
  pub spelled : (bytes : List ℕ) → Spells bytes range_script → script_file bytes ≡ Some tt
