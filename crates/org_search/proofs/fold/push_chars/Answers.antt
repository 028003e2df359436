use Rattle.std.proofs.Common.{◌≡◌, ◌∙◌, ◌++◌, [], sym, ap}
use Rattle.std.specs.Str.Iter.{chars_rest}
use Rattle.std.proofs.lemmas.Str.{IsUtf8-past_char}
use Rattle.std.proofs.lemmas.List.{nil_from_length, append-nil}
use Rattle.std.specs.String.{string_bytes}
use Rattle.org_search.proofs.FoldLemmas.{fold_told, fold_end}
use Rattle.org_search.proofs.fold.push_chars.Goals as goal

pub loop-c-preserved : goal.loop-c-preserved
loop-c-preserved c =
    let inv = c.loop-c.invariant in
    let parts = c.in-Some.ensures.steps.0 in
    record {
      utf8 = IsUtf8-past_char _ _ c.in-Some.c inv.utf8 parts;
      told = fold_told _ _ c.in-Some.c _ _ _ inv.utf8 parts c.in_ok-push_char.ensures.value inv.told;
    }

pub returns : goal.returns
returns c =
    let inv = c.loop-c.invariant in
    let none : chars_rest c.loop-c.c-iterator ≡ [] = nil_from_length _ c.in-None.ensures.steps.0.0 in
    record { value = sym (append-nil _) ∙ ap (λ t. string_bytes c.loop-c.out ++ t) (sym (fold_end _ none)) ∙ inv.told }
