-- The line under a heading, as it is written step by step.
use Rattle.std.proofs.Common.{◌≡◌, ◌∙◌, ℕ, Bool, true, false, List, refl, ap}
use Rattle.std.specs.Prelude.{Some, None, if◌then◌else◌, ◌&&◌}
use Rattle.std.specs.Str.{IsUtf8, is_utf8}
use Rattle.std.proofs.lemmas.Str.{IsUtf8-from_is_utf8, is_utf8-from_IsUtf8}
use Rattle.org_amend.specs.Planning.{date_text, dated_draft, dated_line, is_left, is_said, left_line, text_if, undated_line}
use Rattle.org_amend.specs.declared.typed.TypedDate.{TypedDate}
use Rattle.org_stamp.specs.declared.pair.PlanningKeyword.{PlanningKeyword}

pub dated_is : (word : PlanningKeyword) (date : TypedDate) (line end stamp new text : List ℕ) (said : Bool) → stamp ≡ date_text word date line → new ≡ dated_draft word (date_text word date line) line end →
    text ≡ new → said ≡ is_said word stamp line end new → text_if said text ≡ dated_line word date line end
unfolding dated_line
dated_is word date line end stamp new text said stamp_is new_is text_is said_is =
    ap (text_if said) text_is
    ∙ (ap (λ (b : Bool). text_if b new) said_is
    ∙ (ap (λ (s : List ℕ). text_if (is_said word s line end new) new) stamp_is
    ∙ ap (λ (n : List ℕ). text_if (is_said word (date_text word date line) line end n) n) new_is))

pub undated_is : (word : PlanningKeyword) (line next left text : List ℕ) (stays : Bool) → left ≡ left_line word line next → text ≡ left → stays ≡ is_left word line next left →
    text_if stays text ≡ undated_line word line next
unfolding undated_line
undated_is word line next left text stays left_is text_is stays_is =
    ap (text_if stays) text_is
    ∙ (ap (λ (b : Bool). text_if b left) stays_is ∙ ap (λ (l : List ℕ). text_if (is_left word line next l) l) left_is)

pub text_taken : (bytes : List ℕ) → IsUtf8 bytes → text_if true bytes ≡ Some bytes
text_taken bytes utf8 = rw (is_utf8-from_IsUtf8 bytes utf8) refl

pub text_refused : (bytes : List ℕ) → (IsUtf8 bytes → ⊥) → text_if true bytes ≡ None
text_refused bytes other = by (is_utf8 bytes) refl
  where
    by : (b : Bool) → is_utf8 bytes ≡ b → (if true && b then Some bytes else None) ≡ None
    by true e = absurd (other (IsUtf8-from_is_utf8 bytes e))
    by false e = refl
