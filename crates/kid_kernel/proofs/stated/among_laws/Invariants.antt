use Rattle.std.proofs.Common.{◌≡◌, map, drop}
use Rattle.kid_scope.specs.LawRules.{law_named}
use Rattle.kid_kernel.specs.LawView.{plain_law}
use Rattle.kid_kernel.proofs.stated.among_laws.Given as goal

abbrev pub invariant-loop-law : goal.invariant-loop-law
invariant-loop-law l = law_named l.name (map plain_law l.laws) ≡ law_named l.name (map plain_law (drop l.law-index l.laws))
