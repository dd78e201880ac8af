-- A scope of the program as a list of names and values.
use Rattle.std.specs.Prelude.{◌∷◌, ◌++◌, map, reverse}
use Rattle.kid_value.specs.PlainValue.{PlainValue}
use Rattle.kid_value.specs.ValueView.{plain}
use Rattle.kid_value.specs.NameView.{plain_name}
use Rattle.kid_term.specs.Eval.{Env, bound}
use Rattle.kid_eval.specs.EnvView.{plain_binding}
use Rattle.kid_eval.specs.declared.scope.Seen.{Seen}
use Rattle.kid_eval.specs.declared.scope.Seen.TheVariants.{Owned, Lent}
use Rattle.kid_eval.specs.declared.scope.Scope.{Scope, Names, Parameters, More'}

abbrev pub plain_seen : Seen → PlainValue
plain_seen (Owned v) = plain v
plain_seen (Lent v) = plain v.now

abbrev pub env_of : Scope → Env
env_of (Names items names values) = reverse (map plain_binding items.now) ++ bound (map plain_name names.now) (map plain values.now)
env_of (Parameters ps vs) = bound (map plain_name ps.now) (map plain_seen vs.now)
env_of (More' x v p rest) = (x.now, plain v.now) ∷ env_of rest
