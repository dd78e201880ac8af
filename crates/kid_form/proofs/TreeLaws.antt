-- The laws of forms of one tree.
use Rattle.std.proofs.Common.{◌≡◌, ◌⊎◌, inl, inr, ℕ, Bool, true, List, [], ◌∷◌, Option, Some, None, refl, ap, ◌∙◌, subst}
use Rattle.std.specs.Prelude.{◌&&◌, option_map, if◌then◌else◌}
use Rattle.std.specs.List.{list_all}
use Rattle.kid_sexp.specs.Plain.{Plain, Plains, atom, list, none, more}
use Rattle.kid_value.specs.SortOrder.{both}
use Rattle.kid_value.proofs.SortLemmas.{and_parts, and_both}
use Rattle.kid_codec.specs.Shape.{form}
use Rattle.kid_codec.specs.SortSpelling.{headed as headed_tree}
use Rattle.kid_codec.proofs.Found.{same_some, mapped}
use Rattle.kid_codec.proofs.Numbers.{bytes_eq-itself}
use Rattle.kid_codec.proofs.ShapeTold.{form_told}
use Rattle.kid_form.specs.Form.{Form, Told, Lawful}
use Rattle.kid_form.specs.FormLists.{spell_each, read_each}
use Rattle.kid_form.specs.FormTrees.{word, as_atom, listed, headed, either, applied, read_word, read_parts, read_either}
use Rattle.kid_form.proofs.ListLaws.{both_told, each-lawful}

pub word-lawful : (p : List ℕ → Bool) → Lawful (word p)
word-lawful p = record { told = word_told p; back = λ w h. refl }
  where
    word_told : (p : List ℕ → Bool) (t : Plain) (w : List ℕ) → read_word t ≡ Some w → p w ≡ true → Told (word p) t w
    word_told p (atom v) w e h = record { tree = ap atom (same_some v w e); spelled = h }
    word_told p (list ts) w e h = cc

module _ {A : Type 0} {g : Form Plains A} (parts : Lawful g) where
  listed_told : (t : Plain) (a : A) → (listed g).read t ≡ Some a → g.valid a ≡ true → Told (listed g) t a
  listed_told (atom w) a e h = cc
  listed_told (list ts) a e h = let j = parts.told ts a e h in record { tree = ap list j.tree; spelled = j.spelled }

  pub listed-lawful : Lawful (listed g)
  listed-lawful = record { told = listed_told; back = parts.back }

form_back : (w : List ℕ) (ts : Plains) → form w (headed_tree w ts) ≡ Some ts
form_back w ts = ap (λ (b : Bool). if b then Some ts else None) (bytes_eq-itself w)

module _ {A : Type 0} {g : Form Plains A} (w : List ℕ) (parts : Lawful g) where
  headed_by : (t : Plain) (a : A) (o : Option Plains) → form w t ≡ o → read_parts g o ≡ Some a → g.valid a ≡ true → Told (headed w g) t a
  headed_by t a None is e h = cc
  headed_by t a (Some ts) is e h = let j = parts.told ts a e h in record { tree = form_told w t ts is ∙ ap (headed_tree w) j.tree; spelled = j.spelled }

  pub headed-lawful : Lawful (headed w g)
  headed-lawful = record {
    told = λ t a e h. headed_by t a (form w t) refl e h;
    back = λ a h. ap (read_parts g) (form_back w (g.spell a)) ∙ parts.back a h;
  }

  -- or else another form, whose trees do not begin with the word
  module _ {B : Type 0} {f : Form Plain B} (other : Lawful f) (apart : (b : B) → f.spelled b ≡ true → form w (f.spell b) ≡ None) where
    either_by : (t : Plain) (c : A ⊎ B) (o : Option Plains) → form w t ≡ o → read_either g f o t ≡ Some c → (either w g f).valid c ≡ true → Told (either w g f) t c
    either_by t c (Some ts) is e h =
        let into : A → A ⊎ B = λ a. inl a in
        let m = mapped into (g.read ts) c e in
        let a : A = m.0 in
        let j = parts.told ts a m.1 (ap (either w g f).valid m.2 ∙ h) in
        subst (Told (either w g f) t) m.2 (record { tree = form_told w t ts is ∙ ap (headed_tree w) j.tree; spelled = j.spelled })
    either_by t c None is e h =
        let into : B → A ⊎ B = λ b. inr b in
        let m = mapped into (f.read t) c e in
        let b : B = m.0 in
        let j = other.told t b m.1 (ap (either w g f).valid m.2 ∙ h) in
        subst (Told (either w g f) t) m.2 (record { tree = j.tree; spelled = j.spelled })

    either_back : (c : A ⊎ B) → (either w g f).spelled c ≡ true → (either w g f).read ((either w g f).spell c) ≡ Some c
    either_back (inl a) h =
        let into : A → A ⊎ B = λ x. inl x in
        ap (λ (o : Option Plains). read_either g f o (headed_tree w (g.spell a))) (form_back w (g.spell a))
        ∙ ap (option_map into) (parts.back a h)
    either_back (inr b) h =
        let into : B → A ⊎ B = λ x. inr x in
        ap (λ (o : Option Plains). read_either g f o (f.spell b)) (apart b h)
        ∙ ap (option_map into) (other.back b h)

    pub either-lawful : Lawful (either w g f)
    either-lawful = record { told = λ t c e h. either_by t c (form w t) refl e h; back = either_back }

module _ {A : Type 0} {f : Form (List ℕ) A} (lawful : Lawful f) where
  atom_told : (t : Plain) (a : A) → (as_atom f).read t ≡ Some a → f.valid a ≡ true → Told (as_atom f) t a
  atom_told (atom w) a e h = let j = lawful.told w a e h in record { tree = ap atom j.tree; spelled = j.spelled }
  atom_told (list ts) a e h = cc

  pub as_atom-lawful : Lawful (as_atom f)
  as_atom-lawful = record { told = atom_told; back = lawful.back }

module _ {A B : Type 0} {f : Form (List ℕ) A} {g : Form Plain B} (word_lawful : Lawful f) (lawful : Lawful g) where
  applied_tree : (w : List ℕ) (t : Plain) (ts : Plains) (a : A) (bs : List B) → w ≡ f.spell a → more t ts ≡ spell_each g bs → (f.spelled a && list_all g.spelled bs) ≡ true
      → Told (applied f g) (list (more (atom w) (more t ts))) (a, bs)
  applied_tree w t ts a [] i j h = cc
  applied_tree w t ts a (b ∷ bs) i j h = record { tree = λ z. list (more (atom (i z)) (j z)); spelled = h }

  applied_some : (w : List ℕ) (t : Plain) (ts : Plains) (p : A × List B) → both (λ a bs. (a, bs)) (f.read w) (read_each g (more t ts)) ≡ Some p → (applied f g).valid p ≡ true
      → Told (applied f g) (list (more (atom w) (more t ts))) p
  applied_some w t ts p e h =
      let k = both_told word_lawful (each-lawful lawful) w (more t ts) p e h in
      applied_tree w t ts p.0 p.1 k.first_tree k.second_tree k.spelled

  none_some : (o : Option A) (p : A × List B) → both (λ a bs. (a, bs)) o None ≡ Some p → ⊥
  none_some None p e = cc
  none_some (Some a) p e = cc

  applied_told : (t : Plain) (p : A × List B) → (applied f g).read t ≡ Some p → (applied f g).valid p ≡ true → Told (applied f g) t p
  applied_told (atom w) p e h =
      let into : A → A × List B = λ a. (a, []) in
      let m = mapped into (f.read w) p e in
      let a : A = m.0 in
      let j = word_lawful.told w a m.1 (and_parts (f.valid a) true (ap (applied f g).valid m.2 ∙ h)).0 in
      subst (Told (applied f g) (atom w)) m.2 (record { tree = ap atom j.tree; spelled = and_both (f.spelled a) true j.spelled refl })
  applied_told (list none) p e h = cc
  applied_told (list (more (list us) ts)) p e h = cc
  applied_told (list (more (atom w) none)) p e h = absurd (none_some (f.read w) p e)
  applied_told (list (more (atom w) (more t ts))) p e h = applied_some w t ts p e h

  applied_by : (a : A) (bs : List B) → f.spelled a ≡ true → list_all g.spelled bs ≡ true → (applied f g).read ((applied f g).spell (a, bs)) ≡ Some (a, bs)
  applied_by a [] p q = ap (option_map (λ (x : A). (x, []))) (word_lawful.back a p)
  applied_by a (b ∷ bs) p q =
      let c = word_lawful.back a p in
      let d = (each-lawful lawful).back (b ∷ bs) q in
      λ i. both (λ x xs. (x, xs)) (c i) (d i)

  pub applied-lawful : Lawful (applied f g)
  applied-lawful = record {
    told = applied_told;
    back = λ p h. let q = and_parts (f.spelled p.0) (list_all g.spelled p.1) h in applied_by p.0 p.1 q.0 q.1;
  }
