-- How deep the calls of definitions go.
use Rattle.std.specs.Prelude.{ℕ, suc, max, nat_le, cond, List, [], ◌∷◌, ◌++◌}
use Rattle.kid_term.specs.PlainTerm.{PlainHead, op, call, cast, PlainTerm, var, number, truth, tag, app, bind, PlainTerms, no_term, term}
use Rattle.kid_term.specs.Names.{same_name, PlainDef}

-- definitions with the depth of each
abbrev pub Depths : Type 0
Depths = List (List ℕ × ℕ)

-- the depth of the first definition of the name, and 0 where there is none
abbrev pub depth_at : List ℕ → Depths → ℕ
depth_at f [] = 0
depth_at f (d ∷ ds) = cond (same_name f d.0) d.1 (depth_at f ds)

abbrev pub head_depth : Depths → PlainHead → ℕ
head_depth ds (op o) = 0
head_depth ds (call f) = depth_at f ds
head_depth ds (cast s) = 0

-- the depth of the deepest call in a term
abbrev mutual
  pub deepest_call : Depths → PlainTerm → ℕ
  deepest_call ds (var x) = 0
  deepest_call ds (number n) = 0
  deepest_call ds (truth b) = 0
  deepest_call ds (tag n) = 0
  deepest_call ds (app h ts) = max (head_depth ds h) (deepest_of ds ts)
  deepest_call ds (bind b x s t) = max (deepest_call ds s) (deepest_call ds t)

  pub deepest_of : Depths → PlainTerms → ℕ
  deepest_of ds no_term = 0
  deepest_of ds (term t ts) = max (deepest_call ds t) (deepest_of ds ts)

-- one more, and 17 where that is more than 16, beyond which no definition may go
abbrev pub one_deeper : ℕ → ℕ
one_deeper n = cond (nat_le n 16) (suc n) 17

-- a definition with this body is one deeper than the deepest that it calls
abbrev pub body_depth : Depths → PlainTerm → ℕ
body_depth ds t = one_deeper (deepest_call ds t)

abbrev pub depths_over : Depths → List PlainDef → Depths
depths_over ds [] = ds
depths_over ds (d ∷ more) = depths_over (ds ++ (d.name, body_depth ds d.body) ∷ []) more

abbrev pub depths_of : List PlainDef → Depths
depths_of defs = depths_over [] defs
