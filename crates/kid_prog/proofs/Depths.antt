-- The depths of definitions with one more.
use Rattle.std.proofs.Common.{◌≡◌, ℕ, List, [], ◌∷◌, ◌++◌, refl, sym, ap, ◌∙◌}
use Rattle.kid_term.specs.CallDepth.{Depths, body_depth, depths_over, depths_of}
use Rattle.kid_term.specs.Names.{PlainDef}
use Rattle.kid_term.specs.PlainSignature.{PlainSignature}
use Rattle.kid_prog.specs.Loading.{defined}

depths_over-append : (ds : Depths) (defs : List PlainDef) (d : PlainDef) → depths_over ds (defs ++ d ∷ []) ≡ depths_over ds defs ++ (d.name, body_depth (depths_over ds defs) d.body) ∷ []
depths_over-append ds [] d = refl
depths_over-append ds (e ∷ defs) d = depths_over-append (ds ++ (e.name, body_depth ds e.body) ∷ []) defs d

pub known-more : (s new : PlainSignature) (depths deeper : Depths) (d : PlainDef) (f : List ℕ) (n : ℕ)
    → depths ≡ depths_of s.definitions → s ≡ defined s.definitions → f ≡ d.name → n ≡ body_depth depths d.body
    → deeper ≡ depths ++ (f, n) ∷ [] → new ≡ record s { definitions = s.definitions ++ d ∷ [] }
    → (deeper ≡ depths_of new.definitions) × (new ≡ defined new.definitions)
known-more s new depths deeper d f n are alone named deep pushed added =
    let defs = s.definitions ++ d ∷ [] in
    let more : new.definitions ≡ defs = ap (λ (z : PlainSignature). z.definitions) added in
    let entry : depths ++ (f, n) ∷ [] ≡ depths ++ (d.name, body_depth depths d.body) ∷ [] = λ i. depths ++ (named i, deep i) ∷ [] in (
      pushed ∙ entry ∙ ap (λ (ds : Depths). ds ++ (d.name, body_depth ds d.body) ∷ []) are ∙ sym (depths_over-append [] s.definitions d) ∙ ap depths_of (sym more),
      added ∙ ap (λ (z : PlainSignature). record z { definitions = defs }) alone ∙ ap defined (sym more),
    )
