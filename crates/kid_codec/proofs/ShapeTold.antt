-- A form, or a list of so many trees, is the tree of what stands in it.
use Rattle.std.proofs.Common.{◌≡◌, ℕ, List, Some, ap}
use Rattle.std.specs.Str.{bytes_eq}
use Rattle.kid_sexp.specs.Plain.{Plain, Plains, atom, list, none, more, one}
use Rattle.kid_codec.specs.Shape.{form, single, couple, quadruple}
use Rattle.kid_codec.specs.SortSpelling.{headed}
use Rattle.kid_codec.proofs.Found.{same_some, if_some}
use Rattle.kid_codec.proofs.Numbers.{bytes_eq-true}

pub form_told : (w : List ℕ) (t : Plain) (ts : Plains) → form w t ≡ Some ts → t ≡ headed w ts
form_told w (atom v) ts p = cc
form_told w (list none) ts p = cc
form_told w (list (more (list us) rest)) ts p = cc
form_told w (list (more (atom v) rest)) ts p =
    let r = if_some (bytes_eq v w) (Some rest) ts p in
    let q = bytes_eq-true v w r.0 in
    let e = same_some rest ts r.1 in
    λ i. list (more (atom (q i)) (e i))

pub single_told : (ts : Plains) (t : Plain) → single ts ≡ Some t → ts ≡ one t
single_told none t p = cc
single_told (more u none) t p = ap one (same_some u t p)
single_told (more u (more v vs)) t p = cc

pub couple_told : (ts : Plains) (p : Plain × Plain) → couple ts ≡ Some p → ts ≡ more p.0 (one p.1)
couple_told none p e = cc
couple_told (more t none) p e = cc
couple_told (more t (more u none)) p e = ap (λ (q : Plain × Plain). more q.0 (one q.1)) (same_some (t, u) p e)
couple_told (more t (more u (more v vs))) p e = cc

pub quadruple_told : (ts : Plains) (q : Plain × Plain × Plain × Plain) → quadruple ts ≡ Some q → ts ≡ more q.0 (more q.1 (more q.2 (one q.3)))
quadruple_told none q e = cc
quadruple_told (more t none) q e = cc
quadruple_told (more t (more u none)) q e = cc
quadruple_told (more t (more u (more v none))) q e = cc
quadruple_told (more t (more u (more v (more w none)))) q e =
    ap (λ (p : Plain × Plain × Plain × Plain). more p.0 (more p.1 (more p.2 (one p.3)))) (same_some (t, u, v, w) q e)
quadruple_told (more t (more u (more v (more w (more x xs))))) q e = cc
