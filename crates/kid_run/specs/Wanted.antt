-- How many values of a run are still wanted, where not all are.
use Rattle.std.specs.Prelude.{ℕ, ◌-◌, Bool, false, nat_eq, Option, Some, None, option_map}

-- whether no more are
abbrev pub has_all : Option ℕ → Bool
has_all None = false
has_all (Some n) = nat_eq n 0

-- how many are after one more
abbrev pub after_one : Option ℕ → Option ℕ
after_one wanted = option_map (λ n. n - 1) wanted
