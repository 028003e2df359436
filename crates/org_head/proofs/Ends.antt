-- What is left of a line after its first parts stands at the line's end, and no gap stands at its front.
use Rattle.std.proofs.Common.{◌≡◌, ℕ, ◌+◌, ◌-◌, ◌≤◌, Bool, true, false, List, [], ◌++◌, length, take, drop, refl, sym, ap, ◌∙◌, subst, arith, length-append, append_assoc, Some}
use Rattle.std.proofs.lemmas.List.{take-append-drop}
use Rattle.std.proofs.Math.Seq.{drop-append_seam}
use Rattle.std.specs.Prelude.{IfSome}
use Rattle.std.specs.List.{prefix_len}
use Rattle.org_base.specs.Words.{trim_start, first_word, is_gap}
use Rattle.org_base.specs.declared.span.Span.{Span}
use Rattle.org_head.specs.declared.head.Head.{Head}
use Rattle.org_settings.specs.Settings.{FileSettings}
use Rattle.org_class.specs.Heading.{stars}
use Rattle.org_head.specs.Cookie.{is_cookie}
use Rattle.org_base.proofs.SpanLemmas.{bytes_taken}
use Rattle.org_base.specs.Spans.{bytes_in}
use Rattle.org_head.specs.Head.{first_part, behind, behind_stars, behind_keyword, behind_cookie, head_of}
use Rattle.org_head.proofs.HeadWords.{behind_comment}
use Rattle.org_head.proofs.FirstWord.{IsTrimmed, trimmed-trim_start, first_word-taken}

-- the text stands at the end of the line
pub record IsEnd (line text : List ℕ) : Type 0 where
  pub before : List ℕ
  pub joined : line ≡ before ++ text

pub whole_is_end : (line : List ℕ) → IsEnd line line
whole_is_end line = record { before = []; joined = refl }

pub end-drop : (n : ℕ) (line text : List ℕ) → IsEnd line text → IsEnd line (drop n text)
end-drop n line text e = record {
  before = e.before ++ take n text;
  joined = e.joined ∙ ap (λ t. e.before ++ t) (sym (take-append-drop n text)) ∙ sym (append_assoc e.before (take n text) (drop n text));
}

pub end-trim_start : (line text : List ℕ) → IsEnd line text → IsEnd line (trim_start text)
end-trim_start line text e = end-drop (prefix_len is_gap text) line text e

pub end-behind : (b : Bool) (line text : List ℕ) → IsEnd line text → IsEnd line (behind b text)
end-behind true line text e = end-trim_start line (drop (length (first_word text)) text) (end-drop (length (first_word text)) line text e)
end-behind false line text e = e

pub end-stars : (line : List ℕ) → IsEnd line (behind_stars line)
end-stars line = end-trim_start line (drop (stars line) line) (end-drop (stars line) line line (whole_is_end line))

pub end-keyword : (settings : FileSettings) (line : List ℕ) → IsEnd line (behind_keyword settings line)
end-keyword settings line = end-behind _ line (behind_stars line) (end-stars line)

pub end-cookie : (settings : FileSettings) (line : List ℕ) → IsEnd line (behind_cookie settings line)
end-cookie settings line = end-behind _ line (behind_keyword settings line) (end-keyword settings line)

pub end-comment : (settings : FileSettings) (line : List ℕ) → IsEnd line (behind_comment settings line)
end-comment settings line = end-behind _ line (behind_cookie settings line) (end-cookie settings line)

pub end-length : (line text : List ℕ) → IsEnd line text → length text ≤ length line
end-length line text e =
    let sum : length line ≡ length e.before + length text = ap length e.joined ∙ length-append e.before text in
    omega (arith, sum)

-- where it begins, the line's rest is the text
pub end-cut : (line text : List ℕ) → IsEnd line text → drop (length line - length text) line ≡ text
end-cut line text e =
    let sum : length line ≡ length e.before + length text = ap length e.joined ∙ length-append e.before text in
    let place : length line - length text ≡ length e.before = omega (arith, sum) in
    ap (λ n. drop n line) place ∙ ap (drop (length e.before)) e.joined ∙ drop-append_seam e.before text

pub trimmed-behind : (b : Bool) (text : List ℕ) → IsTrimmed text → IsTrimmed (behind b text)
trimmed-behind true text h = trimmed-trim_start (drop (length (first_word text)) text)
trimmed-behind false text h = h

pub trimmed-stars : (line : List ℕ) → IsTrimmed (behind_stars line)
trimmed-stars line = trimmed-trim_start (drop (stars line) line)

pub trimmed-keyword : (settings : FileSettings) (line : List ℕ) → IsTrimmed (behind_keyword settings line)
trimmed-keyword settings line = trimmed-behind _ (behind_stars line) (trimmed-stars line)

pub trimmed-cookie : (settings : FileSettings) (line : List ℕ) → IsTrimmed (behind_cookie settings line)
trimmed-cookie settings line = trimmed-behind _ (behind_keyword settings line) (trimmed-keyword settings line)

pub trimmed-comment : (settings : FileSettings) (line : List ℕ) → IsTrimmed (behind_comment settings line)
trimmed-comment settings line = trimmed-behind _ (behind_cookie settings line) (trimmed-cookie settings line)

-- a first part is cut out of the line as the first word
pub first_cut : (line text : List ℕ) → IsEnd line text → IsTrimmed text → bytes_in line (record { at = length line - length text; len = length (first_word text) }) ≡ first_word text
first_cut line text e h = bytes_taken line (record { at = length line - length text; len = length (first_word text) }) ∙ ap (take (length (first_word text))) (end-cut line text e) ∙ first_word-taken text h

cookie_in_first : (b : Bool) (line text : List ℕ) → IsEnd line text → IsTrimmed text → b ≡ is_cookie (first_word text) → IfSome (first_part b (length line) text) (λ span. is_cookie (bytes_in line span) ≡ true)
cookie_in_first true line text e h b = ap is_cookie (first_cut line text e h) ∙ sym b
cookie_in_first false line text e h b = tt

-- the priority of a head is a cookie
pub cookie_is : (settings : FileSettings) (line : List ℕ) (head : Head) (cookie : Span) → head ≡ head_of settings line → head.priority ≡ Some cookie → is_cookie (bytes_in line cookie) ≡ true
cookie_is settings line head cookie e is =
    let text = behind_keyword settings line in
    let found = cookie_in_first (is_cookie (first_word text)) line text (end-keyword settings line) (trimmed-keyword settings line) refl in
    subst (λ o. IfSome o (λ span. is_cookie (bytes_in line span) ≡ true)) is (subst (λ h. IfSome h.priority (λ span. is_cookie (bytes_in line span) ≡ true)) (sym e) found)
