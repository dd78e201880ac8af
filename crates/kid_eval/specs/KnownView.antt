-- The definitions that a term sees as plain data.
use Rattle.std.specs.Prelude.{List, take}
use Rattle.kid_term.specs.Names.{PlainDef}
use Rattle.kid_eval.specs.declared.opened.Known.{Known}

abbrev pub known_of : Known → List PlainDef
known_of k = take k.count k.defs.now
