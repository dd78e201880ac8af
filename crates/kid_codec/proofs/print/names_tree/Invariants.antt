use Rattle.std.proofs.Common.{◌≡◌, drop}
use Rattle.std.specs.Prelude.{codes}
use Rattle.kid_sexp.specs.Plain.{atom, join, one}
use Rattle.kid_codec.specs.NameSpelling.{name_spellings}
use Rattle.kid_codec.proofs.print.names_tree.Given as goal

abbrev pub invariant-loop-name : goal.invariant-loop-name
invariant-loop-name l = join l.trees (name_spellings (drop l.name-index l.names)) ≡ join (one (atom (codes "enum"))) (name_spellings l.names)
