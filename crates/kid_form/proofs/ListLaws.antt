-- The laws of forms of lists of trees.
use Rattle.std.proofs.Common.{◌≡◌, true, List, [], ◌∷◌, Option, Some, None, refl, ap, ◌∙◌, subst}
use Rattle.std.specs.Prelude.{◌&&◌, option_map}
use Rattle.std.specs.List.{list_all}
use Rattle.kid_sexp.specs.Plain.{Plain, Plains, none, more}
use Rattle.kid_value.specs.SortOrder.{both}
use Rattle.kid_value.proofs.SortLemmas.{and_parts, and_both}
use Rattle.kid_codec.specs.Reading.{◌>>=◌}
use Rattle.kid_codec.specs.Shape.{single, couple, quadruple}
use Rattle.kid_codec.proofs.Found.{same_some, mapped, both_some, bind_some}
use Rattle.kid_codec.proofs.ShapeTold.{single_told, couple_told, quadruple_told}
use Rattle.kid_form.specs.Form.{Form, Told, Lawful}
use Rattle.kid_form.specs.FormLists.{one, two, four, next, each, read_one, read_two, read_four, read_each}

module _ {A : Type 0} {f : Form Plain A} (lawful : Lawful f) where
  one_by : (ts : Plains) (a : A) (o : Option Plain) → single ts ≡ o → read_one f o ≡ Some a → f.valid a ≡ true → Told (one f) ts a
  one_by ts a None is e h = cc
  one_by ts a (Some t) is e h =
      let j = lawful.told t a e h in
      record { tree = single_told ts t is ∙ ap (λ (u : Plain). more u none) j.tree; spelled = j.spelled }

  pub one-lawful : Lawful (one f)
  one-lawful = record { told = λ ts a e h. one_by ts a (single ts) refl e h; back = lawful.back }

  each_told : (ts : Plains) (xs : List A) → read_each f ts ≡ Some xs → list_all f.valid xs ≡ true → Told (each f) ts xs
  each_told none xs e h = subst (Told (each f) none) (same_some [] xs e) (record { tree = refl; spelled = refl })
  each_told (more t ts) xs e h =
      let m = bind_some (f.read t) (λ (a : A). option_map (λ (others : List A). a ∷ others) (read_each f ts)) xs e in
      let a : A = m.0 in
      let n = mapped (λ (others : List A). a ∷ others) (read_each f ts) xs m.2 in
      let others : List A = n.0 in
      let q = and_parts (f.valid a) (list_all f.valid others) (ap (list_all f.valid) n.2 ∙ h) in
      let j = lawful.told t a m.1 q.0 in
      let k = each_told ts others n.1 q.1 in
      let c = j.tree in
      let d = k.tree in
      subst (Told (each f) (more t ts)) n.2 (record { tree = λ i. more (c i) (d i); spelled = and_both (f.spelled a) (list_all f.spelled others) j.spelled k.spelled })

  each_back : (xs : List A) → list_all f.spelled xs ≡ true → read_each f ((each f).spell xs) ≡ Some xs
  each_back [] h = refl
  each_back (a ∷ others) h =
      let q = and_parts (f.spelled a) (list_all f.spelled others) h in
      let c = lawful.back a q.0 in
      let d = each_back others q.1 in
      λ i. c i >>= λ x. option_map (λ rest. x ∷ rest) (d i)

  pub each-lawful : Lawful (each f)
  each-lawful = record { told = each_told; back = each_back }

-- two data one after another
module _ {S T A B : Type 0} {f : Form S A} {g : Form T B} (first : Lawful f) (second : Lawful g) where
  pub record BothTold (s : S) (t : T) (p : A × B) : Type 0 where
    pub first_tree : s ≡ f.spell p.0
    pub second_tree : t ≡ g.spell p.1
    pub spelled : (f.spelled p.0 && g.spelled p.1) ≡ true

  pub both_told : (s : S) (t : T) (p : A × B) → both (λ a b. (a, b)) (f.read s) (g.read t) ≡ Some p → (f.valid p.0 && g.valid p.1) ≡ true → BothTold s t p
  both_told s t p e h =
      let made : A → B → A × B = λ a b. (a, b) in
      let m = both_some made (f.read s) (g.read t) p e in
      let is : made m.0 m.1 ≡ p = m.4 in
      let q = and_parts (f.valid m.0) (g.valid m.1) (ap (λ (r : A × B). f.valid r.0 && g.valid r.1) is ∙ h) in
      let j = first.told s m.0 m.2 q.0 in
      let k = second.told t m.1 m.3 q.1 in
      subst (BothTold s t) is (record { first_tree = j.tree; second_tree = k.tree; spelled = and_both (f.spelled m.0) (g.spelled m.1) j.spelled k.spelled })

  both_back : (p : A × B) → (f.spelled p.0 && g.spelled p.1) ≡ true → both (λ a b. (a, b)) (f.read (f.spell p.0)) (g.read (g.spell p.1)) ≡ Some p
  both_back p h =
      let q = and_parts (f.spelled p.0) (g.spelled p.1) h in
      let c = first.back p.0 q.0 in
      let d = second.back p.1 q.1 in
      λ i. both (λ a b. (a, b)) (c i) (d i)

module _ {A B : Type 0} {f : Form Plain A} {g : Form Plain B} (first : Lawful f) (second : Lawful g) where
  two_by : (ts : Plains) (p : A × B) (o : Option (Plain × Plain)) → couple ts ≡ o → read_two f g o ≡ Some p → (two f g).valid p ≡ true → Told (two f g) ts p
  two_by ts p None is e h = cc
  two_by ts p (Some q) is e h =
      let k = both_told first second q.0 q.1 p e h in
      let c = k.first_tree in
      let d = k.second_tree in
      record { tree = couple_told ts q is ∙ (λ i. more (c i) (more (d i) none)); spelled = k.spelled }

  pub two-lawful : Lawful (two f g)
  two-lawful = record { told = λ ts p e h. two_by ts p (couple ts) refl e h; back = both_back first second }

module _ {A B : Type 0} {f : Form Plain A} {g : Form Plains B} (first : Lawful f) (rest : Lawful g) where
  next_told : (ts : Plains) (p : A × B) → (next f g).read ts ≡ Some p → (next f g).valid p ≡ true → Told (next f g) ts p
  next_told none p e h = cc
  next_told (more t ts) p e h =
      let k = both_told first rest t ts p e h in
      let c = k.first_tree in
      let d = k.second_tree in
      record { tree = λ i. more (c i) (d i); spelled = k.spelled }

  pub next-lawful : Lawful (next f g)
  next-lawful = record { told = next_told; back = both_back first rest }

module _ {A B C D : Type 0} {f : Form Plain A} {g : Form Plain B} {h : Form Plain C} {k : Form Plain D} (first : Lawful f) (second : Lawful g) (third : Lawful h) (fourth : Lawful k) where
  four_by : (ts : Plains) (p : A × B × C × D) (o : Option (Plain × Plain × Plain × Plain)) → quadruple ts ≡ o → read_four f g h k o ≡ Some p → (four f g h k).valid p ≡ true → Told (four f g h k) ts p
  four_by ts p None is e valid = cc
  four_by ts p (Some q) is_there e valid =
      let l = bind_some (f.read q.0) (λ (a : A). g.read q.1 >>= λ (b : B). both (λ (c : C) (d : D). (a, b, c, d)) (h.read q.2) (k.read q.3)) p e in
      let a : A = l.0 in
      let m = bind_some (g.read q.1) (λ (b : B). both (λ (c : C) (d : D). (a, b, c, d)) (h.read q.2) (k.read q.3)) p l.2 in
      let b : B = m.0 in
      let made : C → D → A × B × C × D = λ c d. (a, b, c, d) in
      let n = both_some made (h.read q.2) (k.read q.3) p m.2 in
      let is : made n.0 n.1 ≡ p = n.4 in
      let u = and_parts (f.valid a && g.valid b && h.valid n.0) (k.valid n.1) (ap (four f g h k).valid is ∙ valid) in
      let v = and_parts (f.valid a && g.valid b) (h.valid n.0) u.0 in
      let w = and_parts (f.valid a) (g.valid b) v.0 in
      let r = first.told q.0 a l.1 w.0 in
      let s = second.told q.1 b m.1 w.1 in
      let t = third.told q.2 n.0 n.2 v.1 in
      let o = fourth.told q.3 n.1 n.3 u.1 in
      let r_is = r.tree in
      let s_is = s.tree in
      let t_is = t.tree in
      let o_is = o.tree in
      subst (Told (four f g h k) ts) is
      (record {
        tree = ◌∙◌ {c = more (f.spell a) (more (g.spell b) (more (h.spell n.0) (more (k.spell n.1) none)))} (quadruple_told ts q is_there) (λ i. more (r_is i) (more (s_is i) (more (t_is i) (more (o_is i) none))));
        spelled = and_both (f.spelled a && g.spelled b && h.spelled n.0) (k.spelled n.1)
            (and_both (f.spelled a && g.spelled b) (h.spelled n.0) (and_both (f.spelled a) (g.spelled b) r.spelled s.spelled) t.spelled) o.spelled;
      })

  four_back : (p : A × B × C × D) → (four f g h k).spelled p ≡ true → (four f g h k).read ((four f g h k).spell p) ≡ Some p
  four_back p spelled =
      let u = and_parts (f.spelled p.0 && g.spelled p.1 && h.spelled p.2) (k.spelled p.3) spelled in
      let v = and_parts (f.spelled p.0 && g.spelled p.1) (h.spelled p.2) u.0 in
      let w = and_parts (f.spelled p.0) (g.spelled p.1) v.0 in
      let r = first.back p.0 w.0 in
      let s = second.back p.1 w.1 in
      let t = third.back p.2 v.1 in
      let o = fourth.back p.3 u.1 in
      λ i. r i >>= λ a. s i >>= λ b. both (λ c d. (a, b, c, d)) (t i) (o i)

  pub four-lawful : Lawful (four f g h k)
  four-lawful = record { told = λ ts p e valid. four_by ts p (quadruple ts) refl e valid; back = four_back }
