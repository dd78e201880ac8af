-- Casts by the number of their arguments.
use Rattle.std.proofs.Common.{◌≡◌, ◌≢◌, List, [], ◌∷◌, Result, map, length, refl, sym, subst}
use Rattle.kid_value.specs.PlainSort.{PlainSort}
use Rattle.kid_term.specs.PlainTerm.{cast, app, term_row}
use Rattle.kid_term.specs.TermView.{plain_term}
use Rattle.kid_term.specs.Names.{Names, PlainDef}
use Rattle.kid_term.specs.Sorting.{sort_of}
use Rattle.kid_term.specs.declared.Term.{Term}
use Rattle.kid_term.specs.declared.why.Why.{Why}
use Rattle.kid_scope.specs.InstanceView.{InstanceGiven}
use Rattle.kid_scope.specs.Instances.{no_match}
use Rattle.kid_scope.specs.Uncasting.{uncast_from, uncast_in}
use Rattle.kid_scope.specs.declared.instance.Instance.{Instance}

module _ (defs : List PlainDef) (names : Names) (s : PlainSort) where
  pub one_part : (found : Result Instance Why) (ts : List Term) (t : Term) → ts ≡ t ∷ [] → InstanceGiven found (uncast_from s (plain_term t) (sort_of defs names (plain_term t)))
      → InstanceGiven found (uncast_in defs names (app (cast s) (term_row (map plain_term ts))))
  one_part found ts t e h = subst (λ z. InstanceGiven found (uncast_in defs names (app (cast s) (term_row (map plain_term z))))) (sym e) h

  pub no_part : (ts : List Term) → length ts ≢ 1 → uncast_in defs names (app (cast s) (term_row (map plain_term ts))) ≡ no_match
  no_part [] n = refl
  no_part (a ∷ []) n = absurd (n refl)
  no_part (a ∷ b ∷ ts) n = refl
