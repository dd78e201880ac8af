-- What makes the truth of a law carry over to its instances, as tests of the law itself.
use Rattle.std.specs.Prelude.{ℕ, Bool, true, false, ◌&&◌, ◌||◌, cond, List, [], ◌∷◌, map}
use Rattle.std.specs.List.{list_all}
use Rattle.kid_term.specs.PlainTerm.{op, PlainTerm, var, number, truth, tag, app, bind, PlainTerms, no_term, term}
use Rattle.kid_value.specs.NameSet.{is_among}
use Rattle.kid_term.specs.Names.{same_name}
use Rattle.kid_term.specs.declared.operator.Op.{Op}
use Rattle.kid_term.specs.declared.operator.Op.TheVariants.{Logic, Number, Set, Seq, Map}
use Rattle.kid_term.specs.declared.operator.LogicOp.{LogicOp}
use Rattle.kid_term.specs.declared.operator.LogicOp.TheVariants as logic
use Rattle.kid_term.specs.declared.operator.NumberOp.{NumberOp}
use Rattle.kid_term.specs.declared.operator.NumberOp.TheVariants as num
use Rattle.kid_term.specs.declared.operator.SetOp.{SetOp}
use Rattle.kid_term.specs.declared.operator.SetOp.TheVariants as set
use Rattle.kid_term.specs.declared.operator.SeqOp.{SeqOp}
use Rattle.kid_term.specs.declared.operator.SeqOp.TheVariants as seq
use Rattle.kid_term.specs.declared.operator.MapOp.{MapOp}
use Rattle.kid_term.specs.declared.operator.MapOp.TheVariants as map_op
use Rattle.kid_laws.specs.Law.{Law}

-- what a variable's value is where both sides have a sort
pub data Kind : Type 0 where
  anys : Kind
  bools : Kind
  ints : Kind
  sets : Kind
  seqs : Kind
  maps : Kind

-- whether the term has no binder, and no other names than these
abbrev mutual
  pub is_side : List (List ℕ) → PlainTerm → Bool
  is_side xs (var x) = is_among x xs
  is_side xs (number n) = true
  is_side xs (truth b) = true
  is_side xs (tag n) = true
  is_side xs (app h ts) = are_sides xs ts
  is_side xs (bind b x s t) = false

  pub are_sides : List (List ℕ) → PlainTerms → Bool
  are_sides xs no_term = true
  are_sides xs (term t ts) = is_side xs t && are_sides xs ts

abbrev pub logic_takes : LogicOp → List Kind
logic_takes logic.Not = bools ∷ []
logic_takes logic.If = bools ∷ anys ∷ anys ∷ []
logic_takes logic.Eq = anys ∷ anys ∷ []
logic_takes o = bools ∷ bools ∷ []

abbrev pub number_takes : NumberOp → List Kind
number_takes num.Neg = ints ∷ []
number_takes o = ints ∷ ints ∷ []

abbrev pub set_takes : SetOp → List Kind
set_takes set.Set = []
set_takes set.Range = ints ∷ ints ∷ []
set_takes set.In = anys ∷ sets ∷ []
set_takes set.With = anys ∷ sets ∷ []
set_takes set.Without = anys ∷ sets ∷ []
set_takes set.Card = sets ∷ []
set_takes set.Sum = sets ∷ []
set_takes set.Least = sets ∷ anys ∷ []
set_takes o = sets ∷ sets ∷ []

abbrev pub seq_takes : SeqOp → List Kind
seq_takes seq.Seq = []
seq_takes seq.At = seqs ∷ ints ∷ anys ∷ []
seq_takes seq.Snoc = seqs ∷ anys ∷ []
seq_takes seq.Rest = seqs ∷ ints ∷ []
seq_takes seq.Prefix = seqs ∷ seqs ∷ []
seq_takes o = seqs ∷ []

abbrev pub map_takes : MapOp → List Kind
map_takes map_op.Map = []
map_takes map_op.Dom = maps ∷ []
map_takes map_op.Ran = maps ∷ []
map_takes map_op.Get = maps ∷ anys ∷ anys ∷ []
map_takes map_op.Put = maps ∷ anys ∷ anys ∷ []
map_takes map_op.Drop = maps ∷ anys ∷ []
map_takes map_op.Fill = sets ∷ anys ∷ []
map_takes o = maps ∷ maps ∷ []

-- the kinds of the values that an operator takes where it has a sort
abbrev pub takes : Op → List Kind
takes (Logic o) = logic_takes o
takes (Number o) = number_takes o
takes (Set o) = set_takes o
takes (Seq o) = seq_takes o
takes (Map o) = map_takes o
takes o = []

abbrev pub same_kind : Kind → Kind → Bool
same_kind anys anys = true
same_kind bools bools = true
same_kind ints ints = true
same_kind sets sets = true
same_kind seqs seqs = true
same_kind maps maps = true
same_kind j k = false

abbrev pub is_name : List ℕ → PlainTerm → Bool
is_name x (var y) = same_name y x
is_name x t = false

-- whether the name stands where an operator takes a value of the kind
abbrev mutual
  pub stands : List ℕ → Kind → PlainTerm → Bool
  stands x k (app (op o) ts) = stands_among x k (takes o) ts
  stands x k t = false

  pub stands_among : List ℕ → Kind → List Kind → PlainTerms → Bool
  stands_among x k js no_term = false
  stands_among x k [] (term t ts) = stands x k t || stands_among x k [] ts
  stands_among x k (j ∷ js) (term t ts) = (is_name x t && same_kind j k) || stands x k t || stands_among x k js ts

abbrev pub or_kind : Kind → Kind → Kind
or_kind anys k = k
or_kind j k = j

-- the kind that an operator takes at some place of the name
abbrev mutual
  pub kind_in : List ℕ → PlainTerm → Kind
  kind_in x (app (op o) ts) = kind_among x (takes o) ts
  kind_in x t = anys

  pub kind_among : List ℕ → List Kind → PlainTerms → Kind
  kind_among x js no_term = anys
  kind_among x [] (term t ts) = or_kind (kind_in x t) (kind_among x [] ts)
  kind_among x (j ∷ js) (term t ts) = or_kind (cond (is_name x t) j (kind_in x t)) (kind_among x js ts)

-- the variables with their values' kinds
abbrev pub kinded : Law → List (List ℕ × Kind)
kinded l = map (λ x. (x, or_kind (kind_in x l.left) (kind_in x l.right))) l.variables

-- whether the sorts of both sides give the name a value of the kind
abbrev pub is_told : Law → List ℕ × Kind → Bool
is_told l x = same_kind x.1 anys || stands x.0 x.1 l.left || stands x.0 x.1 l.right

abbrev pub names_of : Law → List (List ℕ)
names_of l = map (λ x. x.0) (kinded l)

abbrev pub is_lawful : Law → Bool
is_lawful l = is_side (names_of l) l.left && is_side (names_of l) l.right && list_all (is_side (names_of l)) l.conditions && list_all (is_told l) (kinded l)
