-- Where the latest definition of a name stands, along the list.
use Rattle.std.proofs.Common.{◌≡◌, ℕ, zero, suc, ◌-◌, ◌<◌, ◌≤◌, Bool, true, false, List, [], ◌∷◌, ◌++◌, length, map, take, get_or, Option, Some, None, Result, Ok, Err, refl, sym, ap, ◌∙◌, cond, arith}
use Rattle.std.specs.Prelude.{OnOk, OnErr}
use Rattle.kid_term.specs.Names.{same_name, PlainDef, latest_over}
use Rattle.kid_term.specs.Definition.{first_named, definition_of}
use Rattle.std.proofs.lemmas.List.{map-append, length-map}
use Rattle.kid_term.specs.DefView.{plain_def}
use Rattle.kid_term.specs.declared.definition.Def.{Def}
use Rattle.kid_term.specs.Latest.{later, latest_place}

abbrev place : ℕ → Option ℕ
place i = Some i

abbrev nowhere : Option ℕ
nowhere = None

module _ (f : List ℕ) where
  -- one more definition at the end
  pub latest_place-push : (ds : List PlainDef) (d : PlainDef) → latest_place f (ds ++ d ∷ []) ≡ cond (same_name f d.name) (Some (length ds)) (latest_place f ds)
  latest_place-push [] d = by (same_name f d.name)
    where
      by : (b : Bool) → later None b ≡ cond b (Some 0) None
      by true = refl
      by false = refl
  latest_place-push (e ∷ ds) d = ap (λ o. later o (same_name f e.name)) (latest_place-push ds d) ∙ by (same_name f d.name) (latest_place f ds) (same_name f e.name)
    where
      by : (b : Bool) (o : Option ℕ) (c : Bool) → later (cond b (Some (length ds)) o) c ≡ cond b (Some (suc (length ds))) (later o c)
      by true o c = refl
      by false o c = refl

  -- none has the name among the first ones where none has it
  pub none-take : (n : ℕ) (ds : List PlainDef) → latest_place f ds ≡ None → latest_place f (take n ds) ≡ None
  none-take zero ds p = refl
  none-take (suc n) [] p = refl
  none-take (suc n) (d ∷ ds) p = by (latest_place f ds) (same_name f d.name) p refl (none-take n ds)
    where
      by : (o : Option ℕ) (b : Bool) → later o b ≡ nowhere → latest_place f ds ≡ o → (latest_place f ds ≡ nowhere → latest_place f (take n ds) ≡ nowhere)
          → later (latest_place f (take n ds)) b ≡ nowhere
      by (Some i) b r e rest = cc
      by None true r e rest = cc
      by None false r e rest = ap (λ o. later o false) (rest e)

  -- the place among all is the place among the first ones that it is one of
  pub place-take : (n : ℕ) (ds : List PlainDef) (i : ℕ) → latest_place f ds ≡ Some i → i < n → latest_place f (take n ds) ≡ Some i
  place-take zero ds i p lt = absurd (omega arith)
  place-take (suc n) [] i p lt = p
  place-take (suc n) (d ∷ ds) i p lt = by (latest_place f ds) (same_name f d.name) p refl (place-take n ds) (none-take n ds)
    where
      shorter : (k : ℕ) → place (suc k) ≡ place i → k < n
      shorter k r = let e : suc k ≡ i = cc in omega arith

      by : (o : Option ℕ) (b : Bool) → later o b ≡ place i → latest_place f ds ≡ o
          → ((k : ℕ) → latest_place f ds ≡ place k → k < n → latest_place f (take n ds) ≡ place k) → (latest_place f ds ≡ nowhere → latest_place f (take n ds) ≡ nowhere)
          → later (latest_place f (take n ds)) b ≡ place i
      by (Some k) b r e there absent = ap (λ o. later o b) (there k e (shorter k r)) ∙ r
      by None true r e there absent = ap (λ o. later o true) (absent e) ∙ r
      by None false r e there absent = cc

  -- one more of the first ones
  take-step : (ds : List Def) (i : ℕ) (d : Def) → i < length ds → d ≡ get_or ds i d
      → latest_place f (take (suc i) (map plain_def ds)) ≡ cond (same_name f d.name) (Some i) (latest_place f (take i (map plain_def ds)))
  take-step [] i d lt is = absurd (omega arith)
  take-step (e ∷ ds) zero d lt is = ap (λ (z : Def). later None (same_name f z.name)) (sym is) ∙ by (same_name f d.name)
    where
      by : (b : Bool) → later None b ≡ cond b (Some 0) None
      by true = refl
      by false = refl
  take-step (e ∷ ds) (suc i) d lt is =
      ap (λ o. later o (same_name f e.name)) (take-step ds i d (omega arith) is) ∙ by (same_name f d.name) (latest_place f (take i (map plain_def ds))) (same_name f e.name)
    where
      by : (b : Bool) (o : Option ℕ) (c : Bool) → later (cond b (Some i) o) c ≡ cond b (Some (suc i)) (later o c)
      by true o c = refl
      by false o c = refl

  -- a walk from the end finds the last, or goes on among those before it
  pub walked : (ds : List Def) (at : ℕ) (d : Def) (b : Bool) → 0 < at → at ≤ length ds → d ≡ get_or ds (at - 1) d → b ≡ same_name f d.name
      → latest_place f (take at (map plain_def ds)) ≡ cond b (Some (at - 1)) (latest_place f (take (at - 1) (map plain_def ds)))
  walked ds at d b some within is same =
      let e : suc (at - 1) ≡ at = omega arith in
      ap (λ n. latest_place f (take n (map plain_def ds))) (sym e) ∙ take-step ds (at - 1) d (omega arith) is
      ∙ ap (λ c. cond c (Some (at - 1)) (latest_place f (take (at - 1) (map plain_def ds)))) (sym same)

  -- the place is one of the list
  pub place-within : (ds : List Def) (i : ℕ) → latest_place f (map plain_def ds) ≡ Some i → i < length ds
  place-within [] i p = cc
  place-within (d ∷ ds) i p = by (latest_place f (map plain_def ds)) (same_name f d.name) p refl (place-within ds)
    where
      by : (o : Option ℕ) (b : Bool) → later o b ≡ place i → latest_place f (map plain_def ds) ≡ o → ((k : ℕ) → latest_place f (map plain_def ds) ≡ place k → k < length ds)
          → i < suc (length ds)
      by (Some k) b r e rest = let within : k < length ds = rest k e in let same : suc k ≡ i = cc in omega arith
      by None true r e rest = let same : 0 ≡ i = cc in omega arith
      by None false r e rest = cc

  absent-over : (known ds : List PlainDef) → latest_place f ds ≡ None → first_named f (latest_over known ds) ≡ first_named f known
  absent-over known [] p = refl
  absent-over known (d ∷ ds) p = by (latest_place f ds) (same_name f d.name) p refl refl (absent-over (d ∷ known) ds)
    where
      by : (o : Option ℕ) (b : Bool) → later o b ≡ nowhere → latest_place f ds ≡ o → same_name f d.name ≡ b
          → (latest_place f ds ≡ nowhere → first_named f (latest_over (d ∷ known) ds) ≡ cond (same_name f d.name) (Some d) (first_named f known))
          → first_named f (latest_over (d ∷ known) ds) ≡ first_named f known
      by (Some i) b r e q rest = cc
      by None true r e q rest = cc
      by None false r e q rest = rest e ∙ ap (λ c. cond c (Some d) (first_named f known)) q

  place-over : (known : List PlainDef) (ds : List Def) (i : ℕ) (d : Def) → latest_place f (map plain_def ds) ≡ Some i → d ≡ get_or ds i d
      → first_named f (latest_over known (map plain_def ds)) ≡ Some (plain_def d)
  place-over known [] i d p is = cc
  place-over known (x ∷ ds) i d p is =
      by (latest_place f (map plain_def ds)) (same_name f x.name) p refl refl (place-over (plain_def x ∷ known) ds) (absent-over (plain_def x ∷ known) (map plain_def ds))
    where
      at : (k : ℕ) → place k ≡ place i → d ≡ get_or (x ∷ ds) k d
      at k r = let e : i ≡ k = cc in is ∙ ap (λ n. get_or (x ∷ ds) n d) e

      by : (o : Option ℕ) (b : Bool) → later o b ≡ place i → latest_place f (map plain_def ds) ≡ o → same_name f x.name ≡ b
          → ((k : ℕ) (d : Def) → latest_place f (map plain_def ds) ≡ place k → d ≡ get_or ds k d → first_named f (latest_over (plain_def x ∷ known) (map plain_def ds)) ≡ Some (plain_def d))
          → (latest_place f (map plain_def ds) ≡ nowhere → first_named f (latest_over (plain_def x ∷ known) (map plain_def ds)) ≡ cond (same_name f x.name) (Some (plain_def x)) (first_named f known))
          → first_named f (latest_over (plain_def x ∷ known) (map plain_def ds)) ≡ Some (plain_def d)
      by (Some k) b r e q there absent = there k d e (at (suc k) r)
      by None true r e q there absent =
          absent e ∙ ap (λ c. cond c (Some (plain_def x)) (first_named f known)) q ∙ ap (λ (z : Def). Some (plain_def z)) (sym (at 0 r))
      by None false r e q there absent = cc

  -- the latest definition of the name stands at its place
  pub definition-there : (ds : List Def) (i : ℕ) (d : Def) → latest_place f (map plain_def ds) ≡ Some i → d ≡ get_or ds i d → definition_of f (map plain_def ds) ≡ Some (plain_def d)
  definition-there ds i d p is = place-over [] ds i d p is

  pub definition-absent : (ds : List PlainDef) → latest_place f ds ≡ None → definition_of f ds ≡ None
  definition-absent ds p = absent-over [] ds p

-- what is found once a definition was added, or was not
pub places_kept : {E : Type 0} (r : Result (Unit {0}) E) (old new : List Def) (d : Def) (before after : List ℕ → Option ℕ)
    → ((f : List ℕ) → before f ≡ latest_place f (map plain_def old))
    → OnOk r (new ≡ old ++ d ∷ []) → OnErr r (new ≡ old)
    → OnOk r ((f : List ℕ) → after f ≡ cond (same_name f d.name) (Some (length old)) (before f)) → OnErr r ((f : List ℕ) → after f ≡ before f)
    → (f : List ℕ) → after f ≡ latest_place f (map plain_def new)
places_kept (Ok u) old new d before after was grown same found kept f =
    let n : length old ≡ length (map plain_def old) = sym (length-map old plain_def) in
    found f ∙ (λ i. cond (same_name f d.name) (Some (n i)) (was f i)) ∙ sym (latest_place-push f (map plain_def old) (plain_def d))
    ∙ ap (latest_place f) (sym (ap (map plain_def) grown ∙ map-append plain_def old (d ∷ [])))
places_kept (Err e) old new d before after was grown same found kept f = kept f ∙ was f ∙ ap (λ ds. latest_place f (map plain_def ds)) (sym same)
