-- What stands behind the word of a form.
use Rattle.std.specs.Prelude.{ℕ, List, Option}
use Rattle.kid_sexp.specs.Plain.{Plain, Plains}
use Rattle.kid_codec.specs.Reading.{◌>>=◌}
use Rattle.kid_codec.specs.Shape.{form, single}

-- what the trees behind the word are
abbrev pub behind : {A : Type 0} → List ℕ → (Plains → Option A) → Plain → Option A
behind word what t = form word t >>= what

-- what the tree is that stands alone behind the word
abbrev pub alone : {A : Type 0} → List ℕ → (Plain → Option A) → Plain → Option A
alone word what t = form word t >>= single >>= what
