-- Whether two terms are one, names of binders included.
use Rattle.std.specs.Prelude.{Bool, true, false, not, ◌&&◌, cond, nat_eq}
use Rattle.std.specs.Ordering.{int_eq}
use base.Stored.{Gv, gnil, gnum, gcons}
use Rattle.kid_value.specs.PlainSort.{PlainSort}
use Rattle.kid_value.specs.SortCode.{sort_code}
use Rattle.kid_term.specs.Names.{same_name}
use Rattle.kid_term.specs.PlainTerm.{PlainHead, op, call, cast, PlainTerm, var, number, truth, tag, app, bind, PlainTerms, no_term, term}
use Rattle.kid_term.specs.contracts.operator.Op as contract_of_op
use Rattle.kid_term.specs.contracts.operator.Binder as contract_of_binder
use Rattle.kid_term.specs.declared.operator.Op.{Op}
use Rattle.kid_term.specs.declared.operator.Binder.{Binder}

-- whether the logic stores two operators, binders or sorts as the same
abbrev pub same_code : Gv → Gv → Bool
same_code gnil gnil = true
same_code (gnum m) (gnum n) = nat_eq m n
same_code (gcons a b) (gcons c d) = same_code a c && same_code b d
same_code a b = false

abbrev pub same_operator : Op → Op → Bool
same_operator o p = same_code (contract_of_op.the_row.coded.code o) (contract_of_op.the_row.coded.code p)

abbrev pub same_binder : Binder → Binder → Bool
same_binder b c = same_code (contract_of_binder.the_row.coded.code b) (contract_of_binder.the_row.coded.code c)

abbrev pub same_sort : PlainSort → PlainSort → Bool
same_sort s t = same_code (sort_code s) (sort_code t)

abbrev pub same_head : PlainHead → PlainHead → Bool
same_head (op o) (op p) = same_operator o p
same_head (call f) (call g) = same_name f g
same_head (cast s) (cast t) = same_sort s t
same_head h k = false

abbrev mutual
  pub same_term : PlainTerm → PlainTerm → Bool
  same_term (var x) (var y) = same_name x y
  same_term (number m) (number n) = int_eq m n
  same_term (truth b) (truth c) = cond b c (not c)
  same_term (tag m) (tag n) = same_name m n
  same_term (app h ts) (app k us) = same_head h k && same_terms ts us
  same_term (bind b x s t) (bind c y u v) = same_binder b c && same_name x y && same_term s u && same_term t v
  same_term t u = false

  pub same_terms : PlainTerms → PlainTerms → Bool
  same_terms no_term no_term = true
  same_terms (term t ts) (term u us) = same_term t u && same_terms ts us
  same_terms ts us = false
