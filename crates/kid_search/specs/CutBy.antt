-- What a cut of each kind changes, and the fact that it takes.
use Rattle.std.specs.Prelude.{ℕ, pos, Bool, true, false, List, [], ◌∷◌}
use Rattle.kid_value.specs.PlainSort.{PlainSort, ints, sets, seqs, maps}
use Rattle.kid_value.specs.PlainValue.{PlainValue, int}
use Rattle.kid_value.specs.Rows.Set.{union, inter, diff}
use Rattle.kid_value.specs.Rows.Map.{narrow}
use Rattle.kid_value.specs.Rows.Number.{add, sub, min, max}
use Rattle.kid_term.specs.PlainTerm.{PlainTerm, var}
use Rattle.kid_term.specs.Names.{Names}
use Rattle.kid_term.specs.declared.operator.LogicOp.TheVariants.{Eq}
use Rattle.kid_term.specs.declared.operator.NumberOp.TheVariants.{Le}
use Rattle.kid_term.specs.declared.operator.SetOp.TheVariants as set_ops
use Rattle.kid_term.specs.declared.operator.SeqOp.TheVariants.{Len, Rest, Items}
use Rattle.kid_term.specs.declared.operator.MapOp.TheVariants.{Fits}
use Rattle.kid_search.specs.Space.{Descriptor}
use Rattle.kid_search.specs.Operators.{on_truths, on_numbers, on_sets, on_seqs, on_maps}
use Rattle.kid_search.specs.declared.cut_kind.CutKind.{CutKind}
use Rattle.kid_search.specs.declared.cut_kind.CutKind.TheVariants.{Drop, Take, Pool, Low, High}

-- which kinds there are for components of these sorts: two sets, a sequence and a set, two maps, or two numbers
abbrev pub has_cut : CutKind → List PlainSort → Bool
has_cut Drop (sets a ∷ sets b ∷ []) = true
has_cut Take (sets a ∷ sets b ∷ []) = true
has_cut Pool (seqs a n ∷ sets b ∷ []) = true
has_cut Pool (maps a b ∷ maps c d ∷ []) = true
has_cut Low (ints a b ∷ ints c d ∷ []) = true
has_cut High (ints a b ∷ ints c d ∷ []) = true
has_cut kind ss = false

-- what is left of a pool: of the values of each key where the components are maps, and else of a set
abbrev pub less_pool : List PlainSort → PlainValue → PlainValue → PlainValue
less_pool (maps a b ∷ ss) p c = narrow p c
less_pool ss p c = inter p c

-- the descriptor that a cut by a value makes of one
abbrev pub cut_by : CutKind → List PlainSort → PlainValue → Descriptor → Descriptor
cut_by Drop ss c (u ∷ w ∷ []) = u ∷ diff w c ∷ []
cut_by Take ss c (u ∷ w ∷ []) = union u (inter w c) ∷ diff w c ∷ []
cut_by Pool ss c (v ∷ p ∷ []) = v ∷ less_pool ss p c ∷ []
cut_by Low ss c (l ∷ h ∷ []) = max l (min c (add h (int (pos 1)))) ∷ h ∷ []
cut_by High ss c (l ∷ h ∷ []) = l ∷ min h (max c (sub l (int (pos 1)))) ∷ []
cut_by kind ss c d = d

-- the first component
abbrev pub first_name : Names → List ℕ
first_name [] = []
first_name (n ∷ names) = n.0

abbrev pub pool_fact : Names → List ℕ → PlainTerm → PlainTerm
pool_fact ((m, maps a b) ∷ names) z c = on_maps Fits (var z ∷ c ∷ [])
pool_fact names z c = on_sets set_ops.Subset (on_seqs Items (on_seqs Rest (var z ∷ on_seqs Len (var (first_name names) ∷ []) ∷ []) ∷ []) ∷ c ∷ [])

-- the fact about the output that a cut takes: each answer under the descriptor has it
abbrev pub cut_fact : CutKind → Names → List ℕ → PlainTerm → PlainTerm
cut_fact Drop names z c = on_truths Eq (on_sets set_ops.Inter (var z ∷ c ∷ []) ∷ on_sets set_ops.Set [] ∷ [])
cut_fact Take names z c = on_sets set_ops.Subset (c ∷ var z ∷ [])
cut_fact Pool names z c = pool_fact names z c
cut_fact Low names z c = on_numbers Le (c ∷ var z ∷ [])
cut_fact High names z c = on_numbers Le (var z ∷ c ∷ [])
