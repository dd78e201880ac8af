-- The depths of definitions with one more.
use Rattle.std.proofs.Common.{◌≡◌, List, [], ◌∷◌, ◌++◌, refl}
use Rattle.kid_term.specs.CallDepth.{Depths, body_depth, depths_over, depths_of}
use Rattle.kid_term.specs.Names.{PlainDef}

depths_over-more : (ds : Depths) (defs : List PlainDef) (d : PlainDef) → depths_over ds (defs ++ d ∷ []) ≡ depths_over ds defs ++ (d.name, body_depth (depths_over ds defs) d.body) ∷ []
depths_over-more ds [] d = refl
depths_over-more ds (e ∷ defs) d = depths_over-more (ds ++ (e.name, body_depth ds e.body) ∷ []) defs d

pub depths_more : (defs : List PlainDef) (d : PlainDef) → depths_of (defs ++ d ∷ []) ≡ depths_of defs ++ (d.name, body_depth (depths_of defs) d.body) ∷ []
depths_more defs d = depths_over-more [] defs d
