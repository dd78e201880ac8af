-- When pieces are refused that a search theory has made.
use Rattle.std.specs.Prelude.{nat_le, Bool, true, ◌&&◌, cond, List, [], ◌∷◌, Option, Some, None, Result, Ok, Err}
use Rattle.kid_term.specs.PlainTerm.{PlainTerm, node_count, depth}
use Rattle.kid_term.specs.declared.why.Why.{Why}
use Rattle.kid_term.specs.declared.why.Why.TheVariants.{IllSorted, Limit}
use Rattle.kid_search.specs.Pieces.{PlainBranch, PlainPieces}

-- whether a term has at most 4096 nodes and is at most 128 deep
abbrev pub fits_limits : PlainTerm → Bool
fits_limits t = nat_le (node_count t) 4096 && nat_le (depth t) 128

abbrev pub all_fit : List PlainTerm → Bool
all_fit [] = true
all_fit (t ∷ ts) = fits_limits t && all_fit ts

abbrev pub each_fit : List (List PlainTerm) → Bool
each_fit [] = true
each_fit (ts ∷ tss) = all_fit ts && each_fit tss

abbrev pub pool_fits : Option PlainBranch → Bool
pool_fits None = true
pool_fits (Some b) = fits_limits b.pool

-- all terms but the measure, which nothing evaluates
abbrev pub pieces_fit : PlainPieces → Bool
pieces_fit p =
    all_fit p.start && fits_limits p.inv && all_fit p.sat && fits_limits p.goal && fits_limits p.leaf_guard && fits_limits p.leaf && fits_limits p.kid_guard
    && pool_fits p.branch && each_fit p.kids

-- pieces are refused first where a term does not fit, and then where what the search procedure takes has no sorts
abbrev pub judged : Bool → PlainPieces → Result PlainPieces Why
judged sorted p = cond (pieces_fit p) (cond sorted (Ok p) (Err IllSorted)) (Err Limit)
