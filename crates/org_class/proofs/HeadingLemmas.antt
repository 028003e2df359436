-- Heading lines byte by byte.
use Rattle.std.proofs.Common.{◌≡◌, inl, inr, ℕ, suc, ◌+◌, ◌<◌, Bool, true, false, ◌&&◌, ◌||◌, ◌==◌, not, Some, List, [], ◌∷◌, ◌++◌, length, get_or, refl, sym, ap, ◌∙◌, arith}
use Rattle.std.proofs.lemmas.Bool.{cases_Bool, eqb-true, lt-ltb}
use Rattle.std.proofs.Math.Numerals.{one-add}
use Rattle.std.specs.List.{prefix_len}
use Rattle.memchr.specs.Find.{IsFirstByte, Nowhere, Passes, is_byte}
use Rattle.org_lines.specs.Cuts.{lines}
use Rattle.org_lines.proofs.LineLemmas.{only_line}
use Rattle.org_class.specs.Classes.{classes, section_classes}
use Rattle.org_class.specs.Heading.{begins_heading}
use Rattle.org_class.proofs.HeadingWords.{is_star}
use Rattle.org_class.specs.Sections.{ends_line}
use Rattle.org_class.specs.declared.class.Class.TheVariants.{Heading}

-- stars, none or more, and a space stand at the front
abbrev pub after_star : List ℕ → Bool
after_star [] = false
after_star (b ∷ bs) = (b == 32) || ((b == 42) && after_star bs)

-- one star or more, and a space
abbrev pub headed : List ℕ → Bool
headed [] = false
headed (b ∷ bs) = (b == 42) && after_star bs

or_false : (b c : Bool) → c ≡ false → (b || c) ≡ b
or_false true c e = refl
or_false false c e = e

after_star_is : (l : List ℕ) → after_star l ≡ (get_or l (prefix_len is_star l) 0 == 32)
after_star_is [] = refl
after_star_is (b ∷ l) = elim (cases_Bool (b == 42)) [
  | inl e ↦ rw (eqb-true b 42 e, one-add) (after_star_is l)
  | inr e ↦ rw e (or_false (b == 32) false refl)
]

pub headed_is : (l : List ℕ) → headed l ≡ begins_heading l
headed_is [] = refl
headed_is (b ∷ l) = elim (cases_Bool (b == 42)) [
  | inl e ↦ rw (eqb-true b 42 e, one-add, lt-ltb 0 (suc (prefix_len is_star l)) (omega arith)) (after_star_is l)
  | inr e ↦ rw e refl
]

-- what stands after a line feed doesn't matter to stars and a space
after_star_front : (a b : List ℕ) (x : ℕ) → ends_line (x ∷ a) ≡ true → after_star (x ∷ a ++ b) ≡ after_star (x ∷ a)
after_star_front [] b x h = rw (eqb-true x 10 h) refl
after_star_front (y ∷ a) b x h = rw (after_star_front a b y h) refl

headed_front : (a b : List ℕ) (x : ℕ) → ends_line (x ∷ a) ≡ true → headed (x ∷ a ++ b) ≡ headed (x ∷ a)
headed_front [] b x h = rw (eqb-true x 10 h) refl
headed_front (y ∷ a) b x h = rw (after_star_front a b y h) refl

-- nor does it to a heading line
pub heading_front : (a b : List ℕ) (x : ℕ) → ends_line (x ∷ a) ≡ true → begins_heading (x ∷ a ++ b) ≡ begins_heading (x ∷ a)
heading_front a b x h = sym (headed_is (x ∷ a ++ b)) ∙ headed_front a b x h ∙ headed_is (x ∷ a)

-- bytes whose first line feed is their last byte, and some without one, are one line
pub one_line : (t : List ℕ) (i : ℕ) → IsFirstByte (is_byte 10) t (Some i) → i + 1 ≡ length t → lines t ≡ t ∷ []
one_line t i h last = only_line t (omega (arith, last)) (λ k lt e. h.0.before k (omega arith) (omega (arith, last, lt)) (rw e refl))

pub one_unended : (t : List ℕ) → Nowhere (Passes (is_byte 10) t) 0 (length t) → 0 < length t → lines t ≡ t ∷ []
one_unended t h some = only_line t some (λ k lt e. h k (omega arith) (omega (arith, lt)) (rw e refl))

pub some_bytes : (t : List ℕ) (none : Bool) → none ≡ (length t == 0) → not none ≡ true → 0 < length t
some_bytes [] none is more = absurd (let both : false ≡ true = rw is at more in cc)
some_bytes (b ∷ t) none is more = omega arith

-- a heading line alone
pub alone : (t : List ℕ) → begins_heading t ≡ true → lines t ≡ t ∷ [] → section_classes t ≡ Heading ∷ []
alone t h one = ap classes one ∙ rw h refl
