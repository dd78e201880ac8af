-- The laws of forms for other data.
use Rattle.std.proofs.Common.{◌≡◌, ◌⊎◌, inl, inr, Bool, true, false, Option, Some, None, refl, sym, ap, ◌∙◌, subst}
use Rattle.std.specs.Prelude.{◌&&◌, option_map, option_and_then, if◌then◌else◌}
use Rattle.kid_value.proofs.SortLemmas.{and_parts, and_both}
use Rattle.kid_codec.proofs.Found.{same_some, if_some, mapped}
use Rattle.kid_form.specs.Form.{Form, Told, Lawful}
use Rattle.kid_form.specs.FormData.{renamed, narrowed, restricted, strict, split, if_passed, read_split}

module _ {T A B : Type 0} {f : Form T A} (into : A → B) (from : B → A) (lawful : Lawful f) (there : (a : A) → from (into a) ≡ a) (again : (b : B) → into (from b) ≡ b) where
  renamed_told : (t : T) (b : B) → (renamed into from f).read t ≡ Some b → f.valid (from b) ≡ true → Told (renamed into from f) t b
  renamed_told t b e h =
      let m = mapped into (f.read t) b e in
      let a : A = m.0 in
      let is : a ≡ from b = sym (there a) ∙ ap from m.2 in
      let j = lawful.told t a m.1 (ap f.valid is ∙ h) in
      record { tree = j.tree ∙ ap f.spell is; spelled = ap f.spelled (sym is) ∙ j.spelled }

  pub renamed-lawful : Lawful (renamed into from f)
  renamed-lawful = record {
    told = renamed_told;
    back = λ b h. ap (option_map into) (lawful.back (from b) h) ∙ ap (λ (x : B). Some x) (again b);
  }

by_some : {A B : Type 0} (get : A → Option B) (o : Option A) (b : B) → option_and_then get o ≡ Some b → (a : A) × (o ≡ Some a) × (get a ≡ Some b)
by_some get None b e = cc
by_some get (Some a) b e = (a, refl, e)

-- each datum that is got was put, and where the test is passed what was put is got
module _ {T A B : Type 0} {f : Form T A} (p : B → Bool) (get : A → Option B) (put : B → A) (lawful : Lawful f)
    (got : (a : A) (b : B) → get a ≡ Some b → (a ≡ put b) × (p b ≡ true)) (again : (b : B) → p b ≡ true → get (put b) ≡ Some b)
  where
    narrowed_told : (t : T) (b : B) → (narrowed p get put f).read t ≡ Some b → f.valid (put b) ≡ true → Told (narrowed p get put f) t b
    narrowed_told t b e h =
        let m = by_some get (f.read t) b e in
        let a : A = m.0 in
        let q = got a b m.2 in
        let j = lawful.told t a m.1 (ap f.valid q.0 ∙ h) in
        record { tree = j.tree ∙ ap f.spell q.0; spelled = and_both (f.spelled (put b)) (p b) (ap f.spelled (sym q.0) ∙ j.spelled) q.1 }

    narrowed_back : (b : B) → (f.spelled (put b) && p b) ≡ true → (narrowed p get put f).read (f.spell (put b)) ≡ Some b
    narrowed_back b h =
        let r = and_parts (f.spelled (put b)) (p b) h in
        ap (option_and_then get) (lawful.back (put b) r.0) ∙ again b r.1

    pub narrowed-lawful : Lawful (narrowed p get put f)
    narrowed-lawful = record { told = narrowed_told; back = narrowed_back }

pub restricted-lawful : {T A : Type 0} {f : Form T A} (p : A → Bool) → Lawful f → Lawful (restricted p f)
restricted-lawful {A = A} p lawful = narrowed-lawful p (if_passed p) (λ (a : A). a) lawful (got p) (λ a h. ap (λ (b : Bool). if b then Some a else None) h)
  where
    got : {A : Type 0} (p : A → Bool) (a b : A) → (if p a then Some a else None) ≡ Some b → (a ≡ b) × (p b ≡ true)
    got p a b e = let r = if_some (p a) (Some a) b e in let is = same_some a b r.1 in (is, ap p (sym is) ∙ r.0)

pub strict-lawful : {T A : Type 0} {f : Form T A} → Lawful f → Lawful (strict f)
strict-lawful {f = f} lawful = record { told = told f lawful; back = (restricted-lawful f.valid lawful).back }
  where
    told : {T A : Type 0} (f : Form T A) → Lawful f → (t : T) (a : A) → (strict f).read t ≡ Some a → true ≡ true → Told (strict f) t a
    told f lawful t a e h =
        let m = by_some (if_passed f.valid) (f.read t) a e in
        let r = if_some (f.valid m.0) (Some m.0) a m.2 in
        let is = same_some m.0 a r.1 in
        let j = lawful.told t a (m.1 ∙ r.1) (ap f.valid (sym is) ∙ r.0) in
        record { tree = j.tree; spelled = and_both (f.spelled a) (f.valid a) j.spelled (ap f.valid (sym is) ∙ r.0) }

module _ {T A B : Type 0} {f : Form T A} {g : Form T B} (test : T → Bool) (first : Lawful f) (second : Lawful g)
    (passes : (a : A) → f.spelled a ≡ true → test (f.spell a) ≡ true) (fails : (b : B) → g.spelled b ≡ true → test (g.spell b) ≡ false)
  where
    split_by : (t : T) (c : A ⊎ B) (b : Bool) → read_split f g b t ≡ Some c → (split test f g).valid c ≡ true → Told (split test f g) t c
    split_by t c true e h =
        let into : A → A ⊎ B = λ a. inl a in
        let m = mapped into (f.read t) c e in
        let j = first.told t m.0 m.1 (ap (split test f g).valid m.2 ∙ h) in
        subst (Told (split test f g) t) m.2 (record { tree = j.tree; spelled = j.spelled })
    split_by t c false e h =
        let into : B → A ⊎ B = λ b. inr b in
        let m = mapped into (g.read t) c e in
        let j = second.told t m.0 m.1 (ap (split test f g).valid m.2 ∙ h) in
        subst (Told (split test f g) t) m.2 (record { tree = j.tree; spelled = j.spelled })

    split_back : (c : A ⊎ B) → (split test f g).spelled c ≡ true → (split test f g).read ((split test f g).spell c) ≡ Some c
    split_back (inl a) h =
        let into : A → A ⊎ B = λ x. inl x in
        ap (λ (b : Bool). read_split f g b (f.spell a)) (passes a h) ∙ ap (option_map into) (first.back a h)
    split_back (inr b) h =
        let into : B → A ⊎ B = λ x. inr x in
        ap (λ (c : Bool). read_split f g c (g.spell b)) (fails b h) ∙ ap (option_map into) (second.back b h)

    pub split-lawful : Lawful (split test f g)
    split-lawful = record { told = λ t c e h. split_by t c (test t) e h; back = split_back }
