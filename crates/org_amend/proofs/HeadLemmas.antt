-- The heading line of a new heading, as it is read back.
use Rattle.std.proofs.Common.{◌≡◌, ◌∙◌, ℕ, ◌<◌, ◌≤◌, Bool, true, ◌==◌, not, List, ◌++◌, length, length-append, sym, ap, arith}
use Rattle.std.specs.Prelude.{Some, None, Ok, Err, if◌then◌else◌, nat_le}
use Rattle.std.proofs.lemmas.Bool.{and_parts}
use Rattle.std.proofs.lemmas.Bool.Decides.{nat_tests}
use Rattle.org_amend.specs.Heads.{HeadWords, as_head_line, head_line, head_text, if_none_lost, is_line_of, lost_of, read_back}
use Rattle.org_amend.specs.declared.head.Unreadable.{Unreadable}
use Rattle.org_amend.specs.declared.head.Unreadable.TheVariants.{Title}
use Rattle.org_settings.specs.Settings.{FileSettings}
use Rattle.org_text.specs.Replace.{max_bytes}

below : (n : ℕ) → nat_le n max_bytes ≡ true → n ≤ 67108864
below n h = grind (arith, nat_tests)

pub fits : (words : HeadWords) (text end : List ℕ) → length end ≤ 2 → is_line_of words text ≡ true → length (text ++ end) < 2147483648
unfolding is_line_of
fits words text end short h =
    let rest = (and_parts (not (length words.title == 0)) _ h).1 in
    let few = below (length text) (and_parts (nat_le (length text) max_bytes) _ rest).0 in
    omega (arith, few, short, length-append text end)

by_test : (settings : FileSettings) (words : HeadWords) (end text : List ℕ) (test : Bool) → text ≡ head_text words → is_line_of words text ≡ test →
    head_line settings words end ≡ (if test then read_back settings words (text ++ end) else Err Title)
unfolding head_line
by_test settings words end text test is e = ap (as_head_line settings words end) (sym is) ∙ ap (λ (b : Bool). if b then read_back settings words (text ++ end) else Err Title) e

pub lost : (settings : FileSettings) (words : HeadWords) (end text line : List ℕ) (why : Unreadable) → text ≡ head_text words → is_line_of words text ≡ true → line ≡ text ++ end → lost_of settings line words ≡ Some why →
    Err why ≡ head_line settings words end
lost settings words end text line why is e line_is found =
    sym (by_test settings words end text true is e ∙ (ap (read_back settings words) (sym line_is) ∙ ap (if_none_lost line) found))

pub read : (settings : FileSettings) (words : HeadWords) (end text line : List ℕ) → text ≡ head_text words → is_line_of words text ≡ true → line ≡ text ++ end → lost_of settings line words ≡ None →
    Ok line ≡ head_line settings words end
read settings words end text line is e line_is found =
    sym (by_test settings words end text true is e ∙ (ap (read_back settings words) (sym line_is) ∙ ap (if_none_lost line) found))
