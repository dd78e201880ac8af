-- Forms: how data stand as trees, and are read from them.
use Rattle.std.specs.Prelude.{◌≡◌, Bool, true, Option, Some}

-- a form of texts, which are words, trees or lists of trees: what each spells, the spelling of each datum, the test of what was read that a reader leaves to others, and the data that have a spelling
pub record Form (T A : Type 0) : Type 0 where
  pub read : T → Option A
  pub spell : A → T
  pub valid : A → Bool
  pub spelled : A → Bool

-- the text is the datum's spelling, and the datum has one
pub record Told {T A : Type 0} (f : Form T A) (t : T) (a : A) : Type 0 where
  pub tree : t ≡ f.spell a
  pub spelled : f.spelled a ≡ true

-- what is read and valid was spelled so, and what has a spelling is read back
pub record Lawful {T A : Type 0} (f : Form T A) : Type 0 where
  pub told : (t : T) (a : A) → f.read t ≡ Some a → f.valid a ≡ true → Told f t a
  pub back : (a : A) → f.spelled a ≡ true → f.read (f.spell a) ≡ Some a
