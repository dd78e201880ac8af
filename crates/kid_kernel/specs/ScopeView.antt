-- Scopes of the program as plain data.
use Rattle.std.specs.Prelude.{map}
use Rattle.kid_term.specs.TermView.{plain_term}
use Rattle.kid_scope.specs.Scope.{PlainScope}
use Rattle.kid_kernel.specs.declared.scope.Scope.{Scope}

abbrev pub plain_scope : Scope → PlainScope
plain_scope s = record { names = s.names; facts = map plain_term s.facts.now; assumed = s.assumed }
