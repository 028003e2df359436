use Rattle.std.proofs.Common.{◌≡◌, ◌∙◌, ◌++◌, [], sym, ap}
use Rattle.std.specs.Str.Iter.{chars_rest}
use Rattle.std.proofs.lemmas.Str.{IsUtf8-past_char}
use Rattle.std.proofs.lemmas.List.{nil_from_length, append-nil}
use Rattle.std.specs.String.{string_bytes}
use Rattle.org_day.proofs.ShownLemmas.{shown_end, shown_told}
use Rattle.org_day.proofs.shown.push_shown.Goals as goal

pub loop-c-preserved : goal.loop-c-preserved
loop-c-preserved c =
    let inv = c.loop-c.invariant in
    let parts = c.in-Some.ensures.steps.0 in
    record {
      utf8 = IsUtf8-past_char _ _ c.in-Some.c inv.utf8 parts;
      told = shown_told _ _ c.in-Some.c c.shown_char.result _ _ _ inv.utf8 parts c.shown_char.ensures.value c.in_ok-push.ensures.bytes inv.told;
    }

pub returns : goal.returns
returns c =
    let inv = c.loop-c.invariant in
    let none : chars_rest c.loop-c.c-iterator ≡ [] = nil_from_length _ c.in-None.ensures.steps.0.0 in
    record { value = sym (append-nil _) ∙ ap (λ t. string_bytes c.loop-c.out ++ t) (sym (shown_end _ none)) ∙ inv.told }
