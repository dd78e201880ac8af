use Rattle.std.proofs.Common.{◌≡◌, ◌++◌, drop, map}
use Rattle.kid_value.specs.NameView.{plain_name}
use Rattle.kid_kernel.specs.Differ.{words_of}
use Rattle.kid_theory.proofs.names.add_words.Given as goal

abbrev pub invariant-loop-name : goal.invariant-loop-name
invariant-loop-name l = l.texts ++ words_of (map plain_name (drop l.name-index l.name-items)) ≡ l.initial.texts ++ words_of l.names
